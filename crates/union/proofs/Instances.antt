-- Demand 3 on writes written out: every hypothesis met, and what is left computed. Assumes nothing.
use mathlib.Core.Path.{◌≡◌, refl, sym, subst}
use Rattle.std.specs.declared.cmp.Ordering.TheVariants.{Less, Equal, Greater}
use Rattle.std.specs.declared.cmp.Ordering.{Ordering}
use mathlib.Core.Bool.{false, true≢false}
use mathlib.Core.List.{List, [], ◌∷◌, ◌++◌}
use mathlib.Core.Logic.{inl, inr, ◌↔◌}
use Rattle.std.specs.Prelude.{Option, None, Some}
use Prim.Native.Nat.{ℕ, zero, suc, ◌+◌, ◌≤◌, ◌<◌}
use native.Mathlib.Omega.{arith}
use lib.ListN.{length, replicate}
use Rattle.rules.specs.declared.Content.TheVariants.{Live, Deleted}
use Rattle.rules.specs.declared.Counts.{Counts}
use Rattle.rules.specs.Bytes.{join, pieces}
use Rattle.rules.specs.Choice.{any, how_many, first_that, maybe}
use Rattle.rules.specs.Examples.{lot, on, short, shorts}
use Rattle.rules.specs.Map.{by_order, find, alter}
use Rattle.rules.specs.Order.{order_n, order_bytes, order_rev, same_rev}
use Rattle.rules.specs.Pull.{offer, offers_of, offers_in, offers, count, take_in, pull}
use Rattle.rules.specs.Read.{leaves, order_leaf, highest, winner, ancestry, path_of, insert_by_seq, documents_after}
use Rattle.rules.specs.Replica.{Id, Tree, Document, Replica, fresh, tree_in, document_of, tree_of, revisions_held, largest_seq, IsDocument, IsReplica}
use Rattle.rules.specs.Room.{documents_most, revisions_most, seq_most}
use Rattle.rules.specs.Union.{In, given, held, IsUnion, trees, SameButSeq, Within, write_all, AllAccepted, all_from}
use Rattle.rules.specs.Write.{Write, hashes, along, gives, add_all, added, is_none, is_new, is_new_parent, count_new, count_parents, adds}
use Rattle.rules.specs.Write.{bad_id, bad_path, low_number, other_parent, other_content, documents_full, revisions_full, sequence_spent, room_refusals, write_refusals, write}
use Rattle.union.specs.Said.{there, back, Agreed, answers}
use Rattle.rules.proofs.OrderLaws.{bytes_order}
use Rattle.rules.proofs.MapLaws.{none≢some, some_inj}
use Rattle.union.proofs.Lists.{in_cases, in_left, in_right}
use Rattle.union.proofs.Count.{find_in}
use Rattle.union.proofs.Offers.{length-held}
use Rattle.union.proofs.Ready.{Ready, clash, clashes, ids_of, incompatible, is_spent, malformed, not_bytes, ready, ready_part, revisions_of, suffices_if, tagged, unready}
use Rattle.union.proofs.Demand3.{any_order, two_way, two_way_made, union_of_writes}
use Rattle.union.proofs.TwoWay.{sound, sound_within}
use Rattle.union.proofs.Unions.{same_within}

-- "One side holds 3-[70,61], the other 3-[70] and 2-[61] apart"
abbrev pub one : List Write
one = on lot 3 (0x70 ∷ 0x61 ∷ []) (Live 1) ∷ []

abbrev pub apart : List Write
apart = on lot 3 (0x70 ∷ []) (Live 1) ∷ on lot 2 (0x61 ∷ []) (Live 2) ∷ []

-- ---- two documents: a leaf that both hold, a deletion, a revision that has a child on one side
-- only, and histories that arrive crossed

abbrev pub note : Id
note = 0x61 ∷ 0x62 ∷ []

abbrev pub office : List Write
office =
    on lot 2 (0x4c ∷ 0x20 ∷ []) (Live 9)
    ∷ on lot 3 (0x05 ∷ 0x91 ∷ 0x20 ∷ []) Deleted
    ∷ on note 3 (0x44 ∷ 0x33 ∷ []) (Live 5)
    ∷ []

abbrev pub field : List Write
field =
    on note 3 (0x44 ∷ []) (Live 5)
    ∷ on note 2 (0x33 ∷ 0x10 ∷ []) (Live 4)
    ∷ on lot 2 (0x91 ∷ 0x20 ∷ []) (Live 8)
    ∷ on lot 2 (0x4c ∷ 0x20 ∷ []) (Live 9)
    ∷ []

-- ---- one write of 16 revisions

abbrev pub long : Write
long = on lot 16 (1 ∷ 2 ∷ 3 ∷ 4 ∷ 5 ∷ 6 ∷ 7 ∷ 8 ∷ 9 ∷ 10 ∷ 11 ∷ 12 ∷ 13 ∷ 14 ∷ 15 ∷ 16 ∷ []) (Live 1)

-- ---- what is computed of them: nothing keeps them from being accepted in any order

record Clear : Type 0 where
  pair : unready (one ++ apart) ≡ false
  offices : unready (office ++ field) ≡ false
  long_alone : unready (long ∷ []) ≡ false

clear : Clear
unfolding unready malformed not_bytes incompatible clashes clash ids_of tagged revisions_of bad_id bad_path low_number
    first_that any hashes pieces join gives along order_bytes order_rev order_n same_rev
clear = record { pair = refl; offices = refl; long_alone = refl }

pub pair_ready : Ready (one ++ apart)
pair_ready = ready (one ++ apart) clear.pair

pub offices_ready : Ready (office ++ field)
offices_ready = ready (office ++ field) clear.offices

long_ready : Ready (long ∷ [])
long_ready = ready (long ∷ []) clear.long_alone

united : (ws : List Write) → Ready ws → AllAccepted ws fresh × IsUnion (write_all ws fresh) (given ws)
united ws k = union_of_writes ws k.well_formed k.compatible k.fits

agree : (us vs : List Write) → Ready (us ++ vs) → Agreed (write_all us fresh) (write_all vs fresh)
agree us vs k = two_way_made us vs k.well_formed k.compatible k.fits

pub pair_union : AllAccepted (one ++ apart) fresh × IsUnion (write_all (one ++ apart) fresh) (given (one ++ apart))
pair_union = united (one ++ apart) pair_ready

-- "they never agree" where known leaves are skipped; here they do
pub pair_agrees : Agreed (write_all one fresh) (write_all apart fresh)
pair_agrees = agree one apart pair_ready

pub offices_union : AllAccepted (office ++ field) fresh × IsUnion (write_all (office ++ field) fresh) (given (office ++ field))
offices_union = united (office ++ field) offices_ready

pub offices_agree : Agreed (write_all office fresh) (write_all field fresh)
offices_agree = agree office field offices_ready

-- ---- any order: both lists in the other order, and the second once more

abbrev pub around : List Write
around = field ++ (office ++ field)

pub same_writes : (w : Write) → In w (office ++ field) ↔ In w around
same_writes w = (λ m. in_right w field (office ++ field) m, λ m. elim (in_cases w field (office ++ field) m) [ inl k ↦ in_right w office field k | inr k ↦ k ])

pub offices_any_order : SameButSeq (write_all (office ++ field) fresh) (write_all around fresh)
    × ((i : Id) → winner (tree_of (write_all (office ++ field) fresh) i) ≡ winner (tree_of (write_all around fresh) i))
offices_any_order =
    any_order (office ++ field) around same_writes offices_ready.well_formed offices_ready.compatible offices_ready.fits

-- ---- that long write, once more often than there is room for documents: the union fits, the sum does not

abbrev pub repeats : List Write
repeats = replicate (documents_most + 1) long

repeated : (n : ℕ) (w v : Write) → In v (replicate n w) → In v (w ∷ [])
repeated zero w v m = absurd m
repeated (suc n) w v (inl q) = inl q
repeated (suc n) w v (inr m) = repeated n w v m

pub repeats_ready : Ready repeats
repeats_ready = ready_part repeats (long ∷ []) (repeated (documents_most + 1) long) long_ready

-- counted with repeats they would need more documents and more revisions than there is room for
pub repeats_sum : (documents_most < length (ids_of repeats)) × (revisions_most < length (revisions_of repeats))
unfolding ids_of tagged revisions_of gives along hashes pieces join
repeats_sum = (omega arith, omega arith)

pub repeats_same : SameButSeq (write_all (long ∷ []) fresh) (write_all repeats fresh)
repeats_same =
    (any_order (long ∷ []) repeats (λ w. (λ m. elim m [ inl q ↦ inl q | inr z ↦ absurd z ], repeated (documents_most + 1) long w))
    long_ready.well_formed long_ready.compatible long_ready.fits).0

pub repeats_union : AllAccepted repeats fresh × IsUnion (write_all repeats fresh) (given repeats)
repeats_union = united repeats repeats_ready

-- ---- a loaded high sequence: one side has no sequence left, the other one

-- a replica that holds the document "lot" alone, whose last change was n
abbrev pub alone : ℕ → Tree → Replica
alone n t = record { seq = record { 0 = n }; documents = (lot, record { seq = record { 0 = n }; tree = t }) ∷ [] }

abbrev pub spent : Replica
spent = alone 4294967295 (tree_of (write_all one fresh) lot)

abbrev pub nearly : Replica
nearly = alone 4294967294 (tree_of (write_all apart fresh) lot)

find_alone : (i j : Id) (d e : Document) → find order_bytes j ((i, d) ∷ []) ≡ Some e → (j ≡ i) × (e ≡ d)
unfolding find
find_alone i j d e = go (order_bytes j i) refl
  where
    go : (o : Ordering) → order_bytes j i ≡ o → by_order o None (Some d) None ≡ Some e → (j ≡ i) × (e ≡ d)
    go Less p q = absurd (none≢some q)
    go Equal p q = (bytes_order.same j i p, sym (some_inj q))
    go Greater p q = absurd (none≢some q)

-- it is one where its tree is a document's of a replica
alone_is : (r : Replica) → IsReplica r → (d : Document) → document_of r lot ≡ Some d → (n : ℕ) → 1 ≤ n → n ≤ seq_most → IsReplica (alone n d.tree)
unfolding document_of revisions_held largest_seq
alone_is r k d e n low high = record {
  ascending = (tt, tt);
  documents = λ i x f. (let t = find_alone lot i now x f in
      subst (λ (j : Id). IsDocument (alone n d.tree) j x) (sym t.0) (subst (λ (z : Document). IsDocument (alone n d.tree) lot z) (sym t.1) is));
  documents_at_most = omega arith;
  revisions_at_most = (let h = length-held r.documents (lot, d) (find_in bytes_order r.documents lot d e) in let m = k.revisions_at_most in omega arith);
  seq_largest = omega arith;
  seq_at_most = high;
}
  where
    now : Document
    now = record { seq = record { 0 = n }; tree = d.tree }

    is : IsDocument (alone n d.tree) lot now
    is = record {
      id = (k.documents lot d e).id;
      tree = (k.documents lot d e).tree;
      seq_least = low;
      seq_own = λ j x f q. (find_alone lot j now x f).0;
    }

alone_of : (r : Replica) → IsReplica r → is_none (document_of r lot) ≡ false → (n : ℕ) → 1 ≤ n → n ≤ seq_most → IsReplica (alone n (tree_of r lot))
unfolding tree_of
alone_of r k e n low high = go (document_of r lot) refl e
  where
    go : (o : Option Document) → document_of r lot ≡ o → is_none o ≡ false → IsReplica (alone n (tree_in o))
    go None q e = absurd (true≢false e)
    go (Some d) q e = alone_is r k d q n low high

-- what is computed of them
record High : Type 0 where
  pub one_there : is_none (document_of (write_all one fresh) lot) ≡ false
  pub apart_there : is_none (document_of (write_all apart fresh) lot) ≡ false
  pub one_same : SameButSeq spent (write_all one fresh)
  pub apart_same : SameButSeq nearly (write_all apart fresh)
  pub forth : any is_spent (answers nearly (offers all_from spent)) ≡ false
  pub back : any is_spent (answers spent (offers all_from (there spent nearly))) ≡ false

high : High
unfolding is_spent answers trees pull take_in count offers offers_in offers_of offer documents_after insert_by_seq path_of
    ancestry leaves write_all write write_refusals room_refusals bad_id bad_path low_number other_parent other_content
    documents_full revisions_full sequence_spent count_new count_parents is_new is_new_parent adds how_many added add_all gives
    along hashes pieces join first_that any find alter order_bytes order_rev order_n same_rev document_of tree_of
    revisions_held
high = record { one_there = refl; apart_there = refl; one_same = refl; apart_same = refl; forth = refl; back = refl }

module _ (ws : List Write) (among : (w : Write) → In w ws → In w (one ++ apart)) where
  made_is : IsReplica (write_all ws fresh)
  made_is = sound (one ++ apart) pair_ready.well_formed pair_ready.compatible pair_ready.fits ws among

  made_within : Within (held (write_all ws fresh)) (given (one ++ apart))
  made_within = sound_within (one ++ apart) pair_ready.well_formed pair_ready.compatible pair_ready.fits ws among

in_one : (w : Write) → In w one → In w (one ++ apart)
in_one w m = in_left w one apart m

in_apart : (w : Write) → In w apart → In w (one ++ apart)
in_apart w m = in_right w one apart m

pub spent_is : IsReplica spent
spent_is = alone_of (write_all one fresh) (made_is one in_one) high.one_there 4294967295 (omega arith) (omega arith)

pub nearly_is : IsReplica nearly
nearly_is = alone_of (write_all apart fresh) (made_is apart in_apart) high.apart_there 4294967294 (omega arith) (omega arith)

-- "neither runs out of sequence": the one offer there takes the last sequence, and the one back adds nothing
pub high_agrees : Agreed spent nearly
high_agrees =
    two_way (one ++ apart) pair_ready.compatible pair_ready.fits spent nearly spent_is nearly_is
    (same_within spent (write_all one fresh) (given (one ++ apart)) high.one_same (made_within one in_one))
    (same_within nearly (write_all apart fresh) (given (one ++ apart)) high.apart_same (made_within apart in_apart))
    (suffices_if (offers all_from spent) nearly high.forth)
    (suffices_if (offers all_from (there spent nearly)) spent high.back)

-- ---- what the pulls come to

abbrev pub counts : ℕ → ℕ → ℕ → Counts
counts a b c = record { changed = a; unchanged = b; refused = c }

-- a document's leaves and its winner, each as number and first byte
abbrev pub seen : Replica → Id → List (ℕ × ℕ) × Option (ℕ × ℕ)
seen r i = (shorts (leaves (tree_of r i)), maybe None (λ a. Some (short a)) (winner (tree_of r i)))

-- one offer there, which changes, and one back, which adds nothing; the deleted leaf loses to the live
-- one, and of the note one leaf is left; at the last sequence the pulls count as from fresh
pub record Come : Type 0 where
  pub pair_there : (pull all_from (write_all one fresh) (write_all apart fresh)).0 ≡ counts 1 0 0
  pub pair_back : (pull all_from (there (write_all one fresh) (write_all apart fresh)) (write_all one fresh)).0 ≡ counts 0 1 0
  pub pair : seen (back (write_all one fresh) (write_all apart fresh)) lot ≡ ((3, 0x70) ∷ [], Some (3, 0x70))
  pub offices_there : (pull all_from (write_all office fresh) (write_all field fresh)).0 ≡ counts 2 1 0
  pub offices_lot : seen (back (write_all office fresh) (write_all field fresh)) lot ≡ ((3, 0x05) ∷ (2, 0x4c) ∷ [], Some (2, 0x4c))
  pub high_there : (pull all_from spent nearly).0 ≡ counts 1 0 0
  pub high_back : (pull all_from (there spent nearly) spent).0 ≡ counts 0 1 0
  pub high_seq : ((there spent nearly).seq.0 ≡ 4294967295) × ((back spent nearly).seq.0 ≡ 4294967295)
  pub offices_note : seen (back (write_all office fresh) (write_all field fresh)) note ≡ ((3, 0x44) ∷ [], Some (3, 0x44))

pub come : Come
unfolding pull take_in count offers offers_in offers_of offer documents_after insert_by_seq path_of ancestry leaves write_all
    write write_refusals room_refusals bad_id bad_path low_number other_parent other_content documents_full revisions_full
    sequence_spent count_new count_parents is_new is_new_parent adds how_many added add_all gives along hashes pieces join
    first_that any find alter order_bytes order_rev order_n same_rev document_of tree_of revisions_held shorts order_leaf
    highest winner
come = record {
  pair_there = refl;
  pair_back = refl;
  pair = refl;
  offices_there = refl;
  offices_lot = refl;
  high_there = refl;
  high_back = refl;
  high_seq = (refl, refl);
  offices_note = refl;
}
