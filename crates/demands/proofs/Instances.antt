-- The theorems on calls that there are: each hypothesis met, on writes written out. Assumes nothing.
use mathlib.Core.Path.{◌≡◌, refl, sym, ap, ap₂, ◌∙◌, subst}
use mathlib.Core.Bool.{Bool, false, ◌||◌}
use mathlib.Core.List.{List, [], ◌∷◌, ◌++◌}
use mathlib.Core.Logic.{inl, inr}
use Rattle.std.specs.Prelude.{None}
use Prim.Native.Nat.{ℕ, ◌*◌}
use native.Mathlib.Omega.{arith}
use borrow.Author.Tests.{leb-false, ltb-false}
use lib.Dec.{leb, ltb}
use lib.ListN.{length, replicate, take, get_or, length-replicate}
use Rattle.rules.specs.declared.Content.{Content}
use Rattle.rules.specs.declared.Content.TheVariants.{Live, Deleted}
use Rattle.rules.specs.declared.Counts.{Counts}
use Rattle.rules.specs.Bytes.{Bytes, be, value, value_from, part, join, pieces}
use Rattle.rules.specs.Answer.{Numbered, accepted, edited_number}
use Rattle.rules.specs.Choice.{any, first_that, how_many}
use Rattle.rules.specs.Edit.{Edit, is_leaf, deleted_winner, parent_of, parent_rule, new_number, as_write, already_known, last_number, edit_refusals, edit}
use Rattle.rules.specs.Examples.{lot, hash, on, Step, Seen, then, anew, fresh_saved, table, steps_of, seen_of}
use Rattle.rules.specs.Map.{find, alter}
use Rattle.rules.specs.Order.{order_n, order_bytes, order_rev, same_rev}
use Rattle.rules.specs.Pull.{offers, pull}
use Rattle.rules.specs.Read.{leaves, order_leaf, highest, winner, insert_by_seq, documents_after, front, short_buffer, change_of, read_changes}
use Rattle.rules.specs.Replica.{Id, Replica, IsContent, fresh, document_of, tree_of, revisions_held}
use Rattle.rules.specs.Room.{number_most, revisions_most, labels}
use Rattle.rules.specs.Union.{In, given, IsUnion, SameButSeq, IsWrite, WellFormed, Compatible, Fits, write_all, AllAccepted, SeqSuffices, all_from}
use Rattle.rules.specs.Union as rules
use Rattle.rules.specs.Write.{Write, write, hashes, along, gives, add_all, added, is_new, is_new_parent, count_new, count_parents}
use Rattle.rules.specs.Write.{adds, bad_id, bad_path, low_number, other_parent, other_content, documents_full, revisions_full, sequence_spent, room_refusals, write_refusals}
use Rattle.rules.proofs.ByteLaws.{bytes_zeros}
use Rattle.rules.proofs.MapLaws.{none≢some}
use Rattle.tree.specs.Leaf.{leaf_size}
use Rattle.union.specs.Said.{IsEdit, there}
use Rattle.union.proofs.Instances as union
use Rattle.union.proofs.Instances.{one, apart, note, office, field, around, same_writes, repeats, repeats_ready, pair_ready, offices_ready, counts, come}
use Rattle.union.proofs.Ready.{Ready, clash, clashes, ids_of, incompatible, malformed, not_bytes, ready, revisions_of, tagged, unready}
use Rattle.union.proofs.TwoWay.{sound_within}
use Rattle.rules.proofs.ChoiceLaws.{neither}
use Rattle.union.proofs.Lists.{in_left, in_right}
use Rattle.writes.proofs.FormLaws.{good_form}
use Rattle.images.proofs.Theorems.{image_most, replica_iff}
use Rattle.store.specs.Storage.{store_size, stored, replica_of, IsStored}
use Rattle.store.proofs.StoredLaws.{size_laid}
use Rattle.store.proofs.FitLaws.{stored_laid}
use Rattle.pulls.specs.BothWays as ways
use Rattle.pulls.proofs.Instances.{kept, lost, passed}
use Rattle.refile.specs.Boundary.{refused_from, result_number, numbers, change_bytes, changes_as}
use Rattle.refile.specs.Decode.{refusal_in, value_in}
use Rattle.demands.specs.Calls as C
use Rattle.demands.specs.Calls.{IsAccepted, Called, LoadCall, EditCall}
use Rattle.demands.specs.Runs.{WriteCalls, NoneRefused, Made, Pulls, BothWays}
use Rattle.demands.specs.Alike.{change_size, ComesTo, AnswerAlike}
use Rattle.demands.specs.Played.{Reads, Fresh, Writes, Plays}
use Rattle.demands.proofs.CallLaws.{fresh_does, write_does}
use Rattle.demands.proofs.PullLaws.{pulls_does}
use Rattle.demands.proofs.Demand2.{saved_image, saves_always, saved_loads}
use Rattle.demands.proofs.Demand3.{left_is, union_of_writes, any_order, two_way, two_way_made, none_refused}
use Rattle.demands.proofs.Frames.{write_frame, edit_frame}
use Rattle.demands.proofs.Examples.{fourteen}
use Rattle.demands.proofs.Exist.{Small, fresh_exists, load_exists, save_exists, write_exists, edit_exists, pull_exists, winner_exists, leaves_exists, changes_exists, sequence_exists}

-- ---- writes that C can give

record Fit (w : Write) : Type 0 where
  write : IsWrite w
  id : Small w.id
  path : Small w.path

well_formed_fit : (w : Write) → WellFormed w → Fit w
well_formed_fit w h =
    let g = good_form w h.form in
    let s = g.size in
    let m = g.most in
    let i = g.id_at_most in
    record { write = h.write; id = omega arith; path = omega arith }

-- ---- runs of the calls

fresh_made : Fresh (replicate store_size 0) (stored fresh)
fresh_made = record { result = 0; fresh = fresh_exists (replicate store_size 0) (length-replicate {A = ℕ} store_size 0); accepted = refl }

fresh_again : (s : List ℕ) → IsStored s → Fresh s (stored fresh)
fresh_again s i = record { result = 0; fresh = fresh_exists s (size_laid s (stored_laid s i)); accepted = refl }

fresh_stored : IsStored (stored fresh)
fresh_stored = (fresh_does fresh_made.fresh fresh_made.accepted).is

writes_exist : (ws : List Write) → ((w : Write) → In w ws → Fit w) → (s : List ℕ) → IsStored s → (left : List ℕ) × WriteCalls ws s left × IsStored left
writes_exist [] f s i = (s, refl, i)
writes_exist (w ∷ ws) f s i =
    let g = f w (inl refl) in
    let k = write_exists s w i g.write g.id g.path in
    let rest = writes_exist ws (λ v m. f v (inr m)) _ (write_does k i).1.is in
    (rest.0, (_, _, k, rest.1), rest.2)

pub made_exists : (ws : List Write) → ((w : Write) → In w ws → WellFormed w) → (left : List ℕ) × Made ws left × IsStored left
made_exists ws h =
    let x = writes_exist ws (λ w m. well_formed_fit w (h w m)) (stored fresh) fresh_stored in
    (x.0, record { buffer = replicate store_size 0; made = stored fresh; result = fresh_made.result; fresh = fresh_made.fresh; accepted = fresh_made.accepted; writes = x.1 }, x.2)

pulls_exist : (s t : List ℕ) → IsStored s → IsStored t → (c : Counts) × (left : List ℕ) × Pulls s all_from t c left
pulls_exist s t i j = (
  _,
  _,
  record { answer = replicate 12 0; answered = _; result = 0; pull = pull_exists t s all_from (replicate 12 0) j i (omega arith) (omega arith) (omega arith); accepted = refl; counts = refl },
)

-- a run: writes us and vs made a and b, and a was pulled into b and back
pub record Run (us vs : List Write) : Type 0 where
  pub a : List ℕ
  pub b : List ℕ
  pub a' : List ℕ
  pub b' : List ℕ
  pub c : Counts
  pub d : Counts
  pub into_a : Made us a
  pub into_b : Made vs b
  pub ways : BothWays a b a' b' c d

pub run_exists : (us vs : List Write) → ((w : Write) → In w us → WellFormed w) → ((w : Write) → In w vs → WellFormed w) → Run us vs
run_exists us vs h k =
    let x = made_exists us h in
    let y = made_exists vs k in
    let forth = pulls_exist x.0 y.0 x.2 y.2 in
    let back = pulls_exist forth.1 x.0 (pulls_does forth.2).is_stored x.2 in
    record {
      a = x.0;
      b = y.0;
      a' = back.1;
      b' = forth.1;
      c = forth.0;
      d = back.0;
      into_a = x.1;
      into_b = y.1;
      ways = record { forth = forth.2; back = back.2 };
    }

-- ---- demand 2: any replica, saved into a buffer of a replica's size and loaded where it was saved from

loaded_back : (s : List ℕ) → IsStored s → {out : List ℕ} {n : ℕ} {saved : List ℕ} → Called C.save (s, out) n saved → IsAccepted n
    → (r : ℕ) × (left : List ℕ) × LoadCall s (take (value_in n) saved) r left × IsAccepted r × (left ≡ s)
loaded_back s i {out} {n} {saved} k a =
    let b = saved_image k a in
    let m = image_most (replica_of s) i.replica in
    let v = subst Bytes (sym b) ((replica_iff (replica_of s)).0 i.replica).0 in
    let h = subst Small (sym b) (omega arith) in
    let e = size_laid s (stored_laid s i) in
    let x = load_exists s (take (value_in n) saved) e v h in
    let d = saved_loads k a x e in
    (_, _, x, d.0, d.1)

pub round_trip : (s : List ℕ) → IsStored s → (n : ℕ) × (saved : List ℕ) × (r : ℕ) × (left : List ℕ)
    × Called C.save (s, replicate store_size 0) n saved × LoadCall s (take (value_in n) saved) r left × IsAccepted r × (left ≡ s)
round_trip s i =
    let l : length (replicate {A = ℕ} store_size 0) ≡ store_size = length-replicate {A = ℕ} store_size 0 in
    let k = save_exists s (replicate store_size 0) i (omega arith) in
    let x = loaded_back s i k (saves_always k i (omega arith)) in
    (_, _, x.0, x.1, k, x.2, x.3, x.4)

-- ---- demand 3: 33 repeats of one write of 16 revisions, of which none is refused

pub repeats_made : (left : List ℕ) × Made repeats left × IsStored left
repeats_made = made_exists repeats repeats_ready.well_formed

pub repeats_hold : (left : List ℕ) (m : Made repeats left) → NoneRefused repeats m.made left m.writes × IsUnion (replica_of left) (given repeats)
repeats_hold left m = union_of_writes m repeats_ready.well_formed repeats_ready.compatible repeats_ready.fits

-- two documents, in another order and some of it twice

pub around_made : (left : List ℕ) × Made around left × IsStored left
around_made = made_exists around (λ w m. offices_ready.well_formed w ((same_writes w).1 m))

pub offices_any_order : (a b : List ℕ) → Made (office ++ field) a → Made around b
    → SameButSeq (replica_of a) (replica_of b) × ((i : Id) → winner (tree_of (replica_of a) i) ≡ winner (tree_of (replica_of b) i))
offices_any_order a b m n = any_order m n same_writes offices_ready.well_formed offices_ready.compatible offices_ready.fits

-- ---- "One side holds 3-[70,61], the other 3-[70] and 2-[61] apart"

pub pair_run : Run one apart
pair_run = run_exists one apart (λ w m. pair_ready.well_formed w (in_left w one apart m)) (λ w m. pair_ready.well_formed w (in_right w one apart m))

-- the counts of each way, from what the writes made
module _ {us vs : List Write} (x : Run us vs) where
  counts_there : x.c ≡ (pull all_from (write_all us fresh) (write_all vs fresh)).0
  counts_there = (pulls_does x.ways.forth).counts ∙ ap₂ (λ (r t : Replica). (pull all_from r t).0) (left_is x.into_a) (left_is x.into_b)

  counts_back : x.d ≡ (pull all_from (there (write_all us fresh) (write_all vs fresh)) (write_all us fresh)).0
  counts_back =
      (pulls_does x.ways.back).counts
      ∙ ap₂ (λ (r t : Replica). (pull all_from r t).0)
      ((pulls_does x.ways.forth).means ∙ ap₂ there (left_is x.into_a) (left_is x.into_b)) (left_is x.into_a)

abbrev pub Agrees : (us vs : List Write) → Run us vs → Type 1
Agrees us vs x = ways.BothHold x.a x.b x.a' x.b' x.c x.d

-- they agree, by one offer that changes and one back that does not
pub pair_agrees : (x : Run one apart) → Agrees one apart x × (x.c ≡ counts 1 0 0) × (x.d ≡ counts 0 1 0)
pair_agrees x = (
  two_way_made x.ways x.into_a x.into_b pair_ready.well_formed pair_ready.compatible pair_ready.fits,
  counts_there x ∙ come.pair_there,
  counts_back x ∙ come.pair_back,
)

-- a clerk knows it from the third numbers alone
pub pair_clerk : (x : Run one apart) → Agrees one apart x
pair_clerk x =
    none_refused x.ways (ap (λ (n : Counts). n.refused) (pair_agrees x).1) (ap (λ (n : Counts). n.refused) (pair_agrees x).2)

-- a note, alone and beside "lot"
abbrev pub noted : List Write
noted = on note 1 (0x10 ∷ []) (Live 1) ∷ []

abbrev pub beside : List Write
beside = one ++ noted

-- what is computed of these writes: nothing keeps them from being accepted
record Clear : Type 0 where
  kept_fine : unready kept ≡ false
  lost_fine : unready lost ≡ false
  noted_fine : unready noted ≡ false
  beside_fine : unready beside ≡ false

clear : Clear
unfolding unready malformed not_bytes incompatible clashes clash ids_of tagged revisions_of bad_id bad_path low_number
    first_that any hashes pieces join gives along order_bytes order_rev order_n same_rev
clear = record { kept_fine = refl; lost_fine = refl; noted_fine = refl; beside_fine = refl }

-- also of writes that are not compatible: nothing is refused, so both hold the union
kept_ready : Ready kept
kept_ready = ready kept clear.kept_fine

lost_ready : Ready lost
lost_ready = ready lost clear.lost_fine

pub lost_run : Run kept lost
lost_run = run_exists kept lost kept_ready.well_formed lost_ready.well_formed

pub lost_clerk : (x : Run kept lost) → Agrees kept lost x
lost_clerk x =
    none_refused x.ways (ap (λ (n : Counts). n.refused) (counts_there x ∙ passed.forth)) (ap (λ (n : Counts). n.refused) (counts_back x ∙ passed.back))

-- and from what they held: both hold only what the three writes give, and no offer is answered 8
suffices : (ws : List Write) (r : Replica) → AllAccepted ws r → SeqSuffices ws r
suffices [] r h = tt
suffices (w ∷ ws) r h = (λ e. subst rules.IsAccepted e h.0, suffices ws (write r w).1 h.1)

pub pair_two_way : (x : Run one apart) → Agrees one apart x
pair_two_way x =
    let g = union.pair_agrees in
    two_way x.ways (one ++ apart) pair_ready.compatible pair_ready.fits
    (rw (left_is x.into_a) (sound_within (one ++ apart) ok good fits one (λ w m. in_left w one apart m)))
    (rw (left_is x.into_b) (sound_within (one ++ apart) ok good fits apart (λ w m. in_right w one apart m)))
    (rw (left_is x.into_a, left_is x.into_b) (suffices (offers all_from (write_all one fresh)) (write_all apart fresh) g.accepted_there))
    (rw ((pulls_does x.ways.forth).means, left_is x.into_a, left_is x.into_b)
    (suffices (offers all_from (there (write_all one fresh) (write_all apart fresh))) (write_all one fresh) g.accepted_back))
  where
    ok : (w : Write) → In w (one ++ apart) → WellFormed w
    ok = pair_ready.well_formed

    good : Compatible (given (one ++ apart))
    good = pair_ready.compatible

    fits : Fits (given (one ++ apart))
    fits = pair_ready.fits

-- ---- the frame: a note written beside "lot"

noted_ready : Ready noted
noted_ready = ready noted clear.noted_fine

pub noted_made : (left : List ℕ) × Made noted left × IsStored left
noted_made = made_exists noted noted_ready.well_formed

other : lot ≡ note → ⊥
other e = let z : ◌≡◌ {A = ℕ} 0x6c 0x61 = ap (λ (l : List ℕ). get_or l 0 0) e in omega arith

-- refile_winner is asked for "lot" before and after, and answers alike
pub noted_frame : (x y : ℕ) (m n : List ℕ) (out : List ℕ) → Called C.winner (noted_made.1.made, lot, out) x m → Called C.winner (noted_made.1.writes.1, lot, out) y n → (x ≡ y) × (m ≡ n)
noted_frame x y m n out k l =
    let u = union_of_writes noted_made.1 noted_ready.well_formed noted_ready.compatible noted_ready.fits in
    (write_frame noted_made.1.writes.2 u.0.0 lot other).winner out x y m n k l

-- and refile_changes comes to "lot" before and after

beside_ready : Ready beside
beside_ready = ready beside clear.beside_fine

pub beside_made : (left : List ℕ) × Made beside left × IsStored left
beside_made = made_exists beside beside_ready.well_formed

-- the bytes before the note is written, and after it
abbrev pub before : List ℕ
before = beside_made.1.writes.1

abbrev pub after : List ℕ
after = beside_made.1.writes.3.1

before_stored : IsStored before
before_stored = (write_does beside_made.1.writes.2 (fresh_does beside_made.1.fresh beside_made.1.accepted).is).1.is

after_stored : IsStored after
after_stored = (write_does beside_made.1.writes.3.2 before_stored).1.is

-- what the writes from the buffer that was made fresh come to
from_made : (ws : List Write) (left : List ℕ) → WriteCalls ws beside_made.1.made left → replica_of left ≡ write_all ws fresh
from_made ws left k =
    let m = beside_made.1 in
    left_is (record { buffer = m.buffer; made = m.made; result = m.result; fresh = m.fresh; accepted = m.accepted; writes = k })

before_is : replica_of before ≡ write_all one fresh
before_is = let w = beside_made.1.writes in from_made one before (w.0, before, w.2, refl)

after_is : replica_of after ≡ write_all beside fresh
after_is = let w = beside_made.1.writes in from_made beside after (w.0, before, w.2, (w.3.0, after, w.3.2, refl))

pub beside_frame : AnswerAlike lot before after
beside_frame =
    let u = union_of_writes beside_made.1 beside_ready.well_formed beside_ready.compatible beside_ready.fits in
    write_frame beside_made.1.writes.3.2 u.0.1.0 lot other

-- what is lent for the id and for the answer
abbrev pub lent_out : List ℕ
lent_out = replicate 16 0xee

-- of "lot": an id of three bytes, sequence 1, one leaf, which is no deletion
abbrev lot_said : List ℕ
lot_said = 0 ∷ 0 ∷ 0 ∷ 3 ∷ 0 ∷ 0 ∷ 0 ∷ 1 ∷ 0 ∷ 0 ∷ 0 ∷ 1 ∷ 0 ∷ 0 ∷ 0 ∷ 0 ∷ []

abbrev Says : Replica → Type 0
Says r = changes_as lent_out lent_out (read_changes r all_from lent_out) ≡ (accepted 1, (front lot lent_out, lot_said))

record Told : Type 0 where
  first : Says (write_all one fresh)
  second : Says (write_all beside fresh)

told : Told
unfolding read_changes change_of documents_after insert_by_seq short_buffer front change_bytes numbers be leaves order_leaf
    highest winner write_all write write_refusals room_refusals bad_id bad_path low_number other_parent other_content
    documents_full revisions_full sequence_spent count_new count_parents is_new is_new_parent adds how_many added add_all gives
    along hashes pieces join first_that any find alter order_bytes order_rev order_n same_rev document_of tree_of
    revisions_held
told = record { first = refl; second = refl }

abbrev pub Comes : List ℕ → Type 0
Comes s = (x : ℕ) × (m : List ℕ) × (a : List ℕ) × Called C.changes (s, all_from, lent_out, lent_out) x (m, a) × ComesTo lot lent_out x m a

comes : (s : List ℕ) (r : Replica) → IsStored s → replica_of s ≡ r → Says r → Comes s
unfolding value value_from part
comes s r i e c =
    let d = ap (λ (q : Replica). changes_as lent_out lent_out (read_changes q all_from lent_out)) e ∙ c in (
      _,
      _,
      _,
      changes_exists s all_from lent_out lent_out i (omega arith) (omega arith) (omega arith),
      record {
        accepted = ap (λ (o : Numbered × (List ℕ × List ℕ)). refusal_in (result_number o.0)) d;
        more = ap (λ (o : Numbered × (List ℕ × List ℕ)). value_in (result_number o.0)) d;
        id = ap (λ (o : Numbered × (List ℕ × List ℕ)). o.1.0) d;
        size = ap (λ (o : Numbered × (List ℕ × List ℕ)). value (part 0 4 o.1.1)) d;
      },
    )

pub beside_comes : Comes before × Comes after
beside_comes = (comes before (write_all one fresh) before_stored before_is told.first, comes after (write_all beside fresh) after_stored after_is told.second)

-- of which it says the same
pub beside_changes : take change_size beside_comes.0.2 ≡ take change_size beside_comes.1.2
beside_changes =
    let x = beside_comes.0 in
    let y = beside_comes.1 in
    beside_frame.changes all_from all_from lent_out lent_out lent_out lent_out x.0 y.0 x.1 y.1 x.2 y.2 x.3 y.3 x.4 y.4

-- an edit that makes the note, and refile_leaves asked for "lot"

abbrev pub new : Edit
new = record { id = note; hash = hash 0x10; content = Live 1; parent = None }

new_is : IsEdit new
new_is = record { id = (omega arith, (omega arith, tt)); hash = (omega arith, bytes_zeros 15); size = refl; content = omega arith }

new_accepted : IsAccepted (result_number (edited_number (edit fresh new).0))
unfolding edit edit_refusals parent_rule last_number already_known room_refusals documents_full revisions_full sequence_spent
    adds count_new count_parents is_new is_new_parent how_many gives along hashes pieces as_write new_number parent_of
    deleted_winner is_leaf winner leaves highest document_of tree_of find any first_that bad_id revisions_held order_bytes
    order_rev order_n
new_accepted = refl

pub new_left : List ℕ
new_left = stored (edit (replica_of (stored fresh)) new).1

new_made : EditCall (stored fresh) new (result_number (edited_number (edit (replica_of (stored fresh)) new).0)) new_left
unfolding new_left
new_made = edit_exists (stored fresh) new fresh_stored new_is (omega arith) (λ v e. absurd (none≢some e)) (λ v e. absurd (none≢some e))

pub new_frame : (x y : ℕ) (m n : List ℕ) (out : List ℕ) → Called C.leaves (stored fresh, lot, out) x m → Called C.leaves (new_left, lot, out) y n → (x ≡ y) × (m ≡ n)
new_frame x y m n out k l =
    let e : replica_of (stored fresh) ≡ fresh = (fresh_does fresh_made.fresh fresh_made.accepted).means in
    (edit_frame new_made (rw e new_accepted) lot other).leaves out x y m n k l

-- ---- the fourteen cases

abbrev pub no_label : Content → Bool
no_label (Live n) = leb labels n
no_label Deleted = false

abbrev pub unfit : Write → Bool
unfit w =
    any (leb 256) w.id
    || (ltb number_most w.number.0
    || (any (leb 256) w.path || (no_label w.content || (leb refused_from (length w.id) || leb refused_from (length w.path)))))

bytes_if : (s : List ℕ) → any (leb 256) s ≡ false → Bytes s
unfolding any
bytes_if [] e = tt
bytes_if (b ∷ bs) e = let t = neither (leb 256 b) (any (leb 256) bs) e in (leb-false 256 b t.0, bytes_if bs t.1)

label_if : (c : Content) → no_label c ≡ false → IsContent c
label_if (Live n) e = leb-false labels n e
label_if Deleted e = tt

fit_if : (w : Write) → unfit w ≡ false → Fit w
fit_if w e =
    let a = neither (any (leb 256) w.id) _ e in
    let b = neither (ltb number_most w.number.0) _ a.1 in
    let c = neither (any (leb 256) w.path) _ b.1 in
    let d = neither (no_label w.content) _ c.1 in
    let f = neither (leb refused_from (length w.id)) _ d.1 in
    record {
      write = record { id = bytes_if w.id a.0; number = ltb-false number_most w.number.0 b.0; path = bytes_if w.path c.0; content = label_if w.content d.0 };
      id = leb-false refused_from (length w.id) f.0;
      path = leb-false refused_from (length w.path) f.1;
    }

-- a step whose write C can't give
unfoldable pub unfit_step : Step → Bool
unfit_step (then w) = unfit w
unfit_step (anew w) = unfit w
unfit_step fresh_saved = false

reads_exist : (s : List ℕ) → IsStored s → Reads s
reads_exist s i =
    let out : List ℕ = replicate (revisions_most * leaf_size) 0 in
    let l : length out ≡ revisions_most * leaf_size = length-replicate {A = ℕ} (revisions_most * leaf_size) 0 in
    record {
      out = out;
      room = omega arith;
      sequence = _;
      asks_sequence = sequence_exists s i;
      count = _;
      leaves = _;
      asks_leaves = leaves_exists s lot out i (omega arith) (omega arith);
      size = _;
      winner = _;
      asks_winner = winner_exists s lot out i (omega arith) (omega arith);
    }

write_plays : (s : List ℕ) (w : Write) → IsStored s → Fit w → (o : Seen) × (m : List ℕ) × Writes s w m o × IsStored m
write_plays s w i g =
    let k = write_exists s w i g.write g.id g.path in
    let h = (write_does k i).1.is in
    (_, _, record { result = _; write = k; reads = reads_exist _ h; sees = refl }, h)

pub plays_exist : (steps : List Step) → any unfit_step steps ≡ false → (s : List ℕ) → IsStored s → (seen : List Seen) × Plays steps s seen
unfolding any unfit_step
plays_exist [] e s i = ([], refl)
plays_exist (then w ∷ steps) e s i =
    let t = neither (unfit w) (any unfit_step steps) e in
    let k = write_plays s w i (fit_if w t.0) in
    let rest = plays_exist steps t.1 k.1 k.3 in
    (k.0 ∷ rest.0, (k.0, rest.0, k.1, k.2, rest.1, refl))
plays_exist (anew w ∷ steps) e s i =
    let t = neither (unfit w) (any unfit_step steps) e in
    let k = write_plays (stored fresh) w fresh_stored (fit_if w t.0) in
    let rest = plays_exist steps t.1 k.1 k.3 in
    (k.0 ∷ rest.0, (k.0, rest.0, stored fresh, k.1, fresh_again s i, k.2, rest.1, refl))
plays_exist (fresh_saved ∷ steps) e s i =
    let out : List ℕ = replicate 16 0xee in
    let k = save_exists (stored fresh) out fresh_stored (omega arith) in
    let rest = plays_exist steps e (stored fresh) fresh_stored in
    (_ ∷ rest.0, (_, rest.0, stored fresh, fresh_again s i, record { result = _; left = _; save = k; sees = refl }, rest.1, refl))

table_fits : any unfit_step (steps_of table) ≡ false
unfolding any unfit_step steps_of table join
table_fits = refl

-- the table is played, and shows its outcomes
pub table_plays : (seen : List Seen) × Plays (steps_of table) (stored fresh) seen
table_plays = plays_exist (steps_of table) table_fits (stored fresh) fresh_stored

pub table_shows : table_plays.0 ≡ seen_of table
table_shows = fourteen (replicate store_size 0) (stored fresh) table_plays.0 fresh_made table_plays.1
