-- Demand 3: what writes and pulls leave is the union of what was given and held, "stated from what is given or held, never by running writes or pulls". Assumes nothing.
use mathlib.Core.Path.{◌≡◌}
use Rattle.std.specs.Prelude.{Ok, Err}
use mathlib.Core.Bool.{false}
use mathlib.Core.List.{List, ◌++◌}
use mathlib.Core.Logic.{◌↔◌}
use Rattle.std.specs.Prelude.{None, Some}
use Prim.Native.Nat.{ℕ}
use lib.ListN.{length}
use Rattle.rules.specs.declared.Change.{Change}
use Rattle.rules.specs.declared.Outcome.TheVariants.{Changed, Unchanged}
use Rattle.rules.specs.declared.Refusal.{Refusal}
use Rattle.rules.specs.declared.Seq.{Seq}
use Rattle.rules.specs.Choice.{first_that}
use Rattle.rules.specs.Edit.{Edit, as_write, edit_refusals, edit}
use Rattle.rules.specs.Pull.{offers, pull}
use Rattle.rules.specs.Read.{leaves, winner, documents_after, front, read_changes}
use Rattle.rules.specs.Replica.{Id, Document, Replica, fresh, document_of, tree_of, IsReplica}
use Rattle.rules.specs.Union.{In, given, held, both, IsUnion, SameButSeq, IsWrite, WellFormed, Compatible, Fits, Within, write_all, AllAccepted, SeqSuffices, all_from}
use Rattle.rules.specs.Write.{Write, adds, write_refusals, write}
use Rattle.union.specs.Said.{IsEdit, Knows, Left, change_about, SameAnswers, AlikeAt, Descending, there, Agreed, total, leaf_count, answers, CountsEach}
use Rattle.union.proofs.Cases as cases
use Rattle.union.proofs.Orders as orders
use Rattle.union.proofs.Frame as frame
use Rattle.union.proofs.Keeps as keep
use Rattle.union.proofs.Edits as edits
use Rattle.union.proofs.WriteLeft as one
use Rattle.union.proofs.Pulls as pulls
use Rattle.union.proofs.TwoWay as ways
use Rattle.union.proofs.Accepted as sound
use Rattle.union.proofs.Apart as apart
use Rattle.union.proofs.Held as own
use Rattle.union.proofs.Winners as leafs

-- ---- "Replicas are only what this tool's calls make .. that each call leaves one is proved."

pub fresh_is_replica : IsReplica fresh
fresh_is_replica = keep.fresh_is_replica

pub write_keeps : (r : Replica) (w : Write) → IsReplica r → IsWrite w → IsReplica (write r w).1
write_keeps = keep.write_keeps

pub edit_keeps : (r : Replica) (e : Edit) → IsReplica r → IsEdit e → IsReplica (edit r e).1
edit_keeps = edits.edit_keeps

pub pull_keeps : (s : Seq) (source target : Replica) → IsReplica source → IsReplica target → IsReplica (pull s source target).1
pull_keeps = pulls.pull_keeps

-- ---- what one call leaves

-- "what a write leaves is an exact union": said without running it, and it leaves one replica
pub write_left : (r : Replica) (w : Write) → IsReplica r → first_that (write_refusals r w) ≡ None → Left r w (write r w).1
write_left = one.write_left

pub left_one : (r : Replica) (w : Write) (a b : Replica) → IsReplica a → IsReplica b → Left r w a → Left r w b → a ≡ b
left_one = one.left_one

-- "Where nothing was added": the test that decides it says that all revisions and parents given are known
pub adds_nothing : (r : Replica) (w : Write) → IsReplica r → first_that (write_refusals r w) ≡ None → (adds r w ≡ false) ↔ Knows r w
adds_nothing = one.adds_nothing

-- "A refusal .. alters neither replica nor buffer", and "unchanged" says that nothing was altered
pub write_refused : (r : Replica) (w : Write) (n : Refusal) → (write r w).0 ≡ Err n → (write r w).1 ≡ r
write_refused = cases.write_refused

pub write_unchanged : (r : Replica) (w : Write) → (write r w).0 ≡ Ok Unchanged → (write r w).1 ≡ r
write_unchanged = cases.write_unchanged

pub edit_refused : (r : Replica) (e : Edit) (n : Refusal) → (edit r e).0 ≡ Err n → (edit r e).1 ≡ r
edit_refused = cases.edit_refused

-- "An accepted edit leaves what the path write of the new revision and its parent, if any, would
-- leave": and that write is accepted and changes
pub edit_is_write : (r : Replica) (e : Edit) → IsReplica r → IsEdit e → first_that (edit_refusals r e) ≡ None
    → write r (as_write r e) ≡ (Ok Changed, (edit r e).1)
edit_is_write = edits.edit_is_write

-- ---- the frame law

-- "A write to one document changes no answer about another document's revisions, parents, leaves,
-- contents, winner or own sequence": nor does an edit, or a pull that offers other documents
pub write_answers : (r : Replica) (w : Write) (j : Id) → (j ≡ w.id → ⊥) → SameAnswers j (write r w).1 r
write_answers r w j n = apart.same_answers j (write r w).1 r (frame.write_other r w j n)

pub edit_answers : (r : Replica) (e : Edit) (j : Id) → (j ≡ e.id → ⊥) → SameAnswers j (edit r e).1 r
edit_answers r e j n = apart.same_answers j (edit r e).1 r (frame.edit_other r e j n)

pub pull_answers : (s : Seq) (source target : Replica) (j : Id)
    → ((d : Id × Document) → In d (documents_after s source.documents) → j ≡ d.0 → ⊥)
    → SameAnswers j (pull s source target).1 target
pull_answers s source target j n = apart.same_answers j (pull s source target).1 target (pulls.pull_other s source target j n)

-- what changes says is what is said of the document whose id it writes
pub changes_about : (r : Replica) → IsReplica r → (s : Seq) (out left : List ℕ) (c : Change) → read_changes r s out ≡ (Ok (Some c), left)
    → (i : Id) × (left ≡ front i out) × (change_about r i ≡ Some c)
changes_about = apart.changes_about

-- "Only the update sequence and the shared room connect them.": replicas alike in a document, in update
-- sequence and in both counts answer a write to it alike, and are left alike in these
pub write_alike : (w : Write) (r s : Replica) → AlikeAt w.id r s → ((write r w).0 ≡ (write s w).0) × AlikeAt w.id (write r w).1 (write s w).1
write_alike = apart.write_alike

pub edit_alike : (e : Edit) (r s : Replica) → AlikeAt e.id r s → IsReplica r → IsReplica s → IsEdit e
    → ((edit r e).0 ≡ (edit s e).0) × AlikeAt e.id (edit r e).1 (edit s e).1
edit_alike = apart.edit_alike

-- all that is held of another document stays
pub write_frame : (r : Replica) (w : Write) (j : Id) → (j ≡ w.id → ⊥) → document_of (write r w).1 j ≡ document_of r j
write_frame = frame.write_other

pub edit_frame : (r : Replica) (e : Edit) (j : Id) → (j ≡ e.id → ⊥) → document_of (edit r e).1 j ≡ document_of r j
edit_frame = frame.edit_other

-- ---- the order of leaves

-- "Leaves: highest number first, then highest hash"
pub leaves_descend : (r : Replica) → IsReplica r → (i : Id) → Descending (leaves (tree_of r i))
leaves_descend r k i = leafs.leaves_descend (tree_of r i) (own.ascending_own r k i)

-- ---- writes in any order

-- "its revisions and parents are all of those, its leaves are the revisions with no child in it,
-- each with the content it was given": well-formed writes that agree and fit are all accepted, from
-- fresh and in the order given, and leave exactly the union. No sequence is asked for.
pub union_of_writes : (ws : List Write) → ((w : Write) → In w ws → WellFormed w) → Compatible (given ws) → Fits (given ws)
    → AllAccepted ws fresh × IsUnion (write_all ws fresh) (given ws)
union_of_writes = orders.union_of_writes

-- "In any order, with any repeats": the trees are the same, list for list, and so are the winners
pub any_order : (ws vs : List Write) → ((w : Write) → In w ws ↔ In w vs)
    → ((w : Write) → In w ws → WellFormed w) → Compatible (given ws) → Fits (given ws)
    → SameButSeq (write_all ws fresh) (write_all vs fresh)
    × ((i : Id) → winner (tree_of (write_all ws fresh) i) ≡ winner (tree_of (write_all vs fresh) i))
any_order = orders.any_order

-- ---- pulls both ways

-- replicas that "hold only things those writes give", of writes that agree and fit, where "neither
-- runs out of sequence": "pulling all of one into the other" and back leaves both with the union of
-- what they held
pub two_way : (ws : List Write) → Compatible (given ws) → Fits (given ws) → (a b : Replica) → IsReplica a → IsReplica b
    → Within (held a) (given ws) → Within (held b) (given ws)
    → SeqSuffices (offers all_from a) b → SeqSuffices (offers all_from (there a b)) a → Agreed a b
two_way ws = ways.two_way (given ws)

-- where writes made both from fresh, no sequence is asked for
pub two_way_made : (us vs : List Write) → ((w : Write) → In w (us ++ vs) → WellFormed w) → Compatible (given (us ++ vs)) → Fits (given (us ++ vs))
    → Agreed (write_all us fresh) (write_all vs fresh)
two_way_made = ways.two_way_made

-- ---- pulls that refused nothing

-- what a clerk relies on, whatever the replicas hold: where the pull refused no offer, its target holds the
-- union of what both held
pub pull_unites : (a b : Replica) → IsReplica a → IsReplica b → (pull all_from a b).0.refused ≡ 0 → IsUnion (there a b) (both (held a) (held b))
pull_unites = sound.pull_unites

-- where neither the pull there nor the pull back refused an offer, both hold that union, and so the same
-- but for sequences
pub none_refused : (a b : Replica) → IsReplica a → IsReplica b
    → (pull all_from a b).0.refused ≡ 0 → (pull all_from (there a b) a).0.refused ≡ 0 → Agreed a b
none_refused = sound.none_refused_agreed

-- ---- one pull

-- "The answer has three counts .. They add up to the leaves of the source documents after that
-- sequence."
pub counts_add_up : (s : Seq) (source target : Replica) → total (pull s source target).0 ≡ leaf_count (documents_after s source.documents)
counts_add_up = pulls.counts_leaves

-- "each count is that of the offers one by one": it is how many of them, each made on what those before
-- it left, were answered so
pub counts_each : (s : Seq) (source target : Replica) → CountsEach (pull s source target).0 (answers target (offers s source))
counts_each = pulls.counts_each

-- together they count every offer
pub counts_offers : (s : Seq) (source target : Replica) → total (pull s source target).0 ≡ length (offers s source)
counts_offers = pulls.counts_total

-- documents of the target that are not among the offered stay as they were
pub pull_frame : (s : Seq) (source target : Replica) (j : Id)
    → ((d : Id × Document) → In d (documents_after s source.documents) → j ≡ d.0 → ⊥)
    → document_of (pull s source target).1 j ≡ document_of target j
pull_frame = pulls.pull_other
