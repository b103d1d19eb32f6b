-- Demand 3 and pulls that refuse nothing, on writes written out, of the compiled calls: every hypothesis on the writes is met, so that only calls are asked for. Assumes nothing.
use mathlib.Core.Path.{◌≡◌, refl, sym, ap, ap₂, ◌∙◌}
use mathlib.Core.Bool.{true≢false}
use mathlib.Core.List.{List, [], ◌∷◌, ◌++◌}
use mathlib.Core.Logic.{inl, inr}
use Rattle.std.specs.Prelude.{None, Some}
use Prim.Native.Nat.{ℕ}
use Rattle.rules.specs.declared.Content.{Content}
use Rattle.rules.specs.declared.Content.TheVariants.{Live}
use Rattle.rules.specs.declared.Counts.{Counts}
use Rattle.rules.specs.Bytes.{join, pieces}
use Rattle.rules.specs.Choice.{any, first_that, how_many}
use Rattle.rules.specs.Examples.{lot, hash, on}
use Rattle.rules.specs.Map.{find, alter}
use Rattle.rules.specs.Order.{order_n, order_bytes, order_rev, same_rev}
use Rattle.rules.specs.Pull.{offer, offers_of, offers_in, offers, count, take_in, pull}
use Rattle.rules.specs.Read.{leaves, ancestry, path_of, insert_by_seq, documents_after}
use Rattle.rules.specs.Replica.{revision, Node, Replica, fresh, document_of, tree_of, revisions_held}
use Rattle.rules.specs.Union.{Compatible, given, IsUnion, SameButSeq, write_all, all_from}
use Rattle.rules.specs.Write.{Write, hashes, along, gives, add_all, added, is_new, is_new_parent, count_new, count_parents, adds}
use Rattle.rules.specs.Write.{bad_id, bad_path, low_number, other_parent, other_content, documents_full, revisions_full, sequence_spent, room_refusals, write_refusals, write}
use Rattle.union.specs.Said.{there}
use Rattle.union.proofs.Instances.{one, apart, pair_ready, office, field, offices_ready, around, same_writes, repeats, repeats_ready, spent, nearly, spent_is, nearly_is, high_agrees, counts, come}
use Rattle.store.specs.Storage.{replica_of, stored}
use Rattle.store.proofs.FitLaws.{replica_fits}
use Rattle.store.proofs.StoredLaws.{stored_back}
use Rattle.writes.specs.Calls.{WriteCalls, NoneRefused}
use Rattle.pulls.specs.BothWays.{BothWays, BothMade, BothHold}
use Rattle.pulls.proofs.Demand3.{agreed, any_order, from_fresh, left_is, none_refused, two_way_made, union_of_writes}

-- writes us and vs made both, and they were pulled both ways
pub record Run (us vs : List Write) : Type 0 where
  pub s : List ℕ
  pub a : List ℕ
  pub b : List ℕ
  pub a' : List ℕ
  pub b' : List ℕ
  pub c : Counts
  pub d : Counts
  pub made : BothMade us vs s a b
  pub ways : BothWays a b a' b' c d

abbrev pub Agrees : (us vs : List Write) → Run us vs → Type 1
Agrees us vs x = BothHold x.a x.b x.a' x.b' x.c x.d

-- the counts of the way there, from what the writes made
counts_there : (us vs : List Write) (x : Run us vs) → x.c ≡ (pull all_from (write_all us fresh) (write_all vs fresh)).0
counts_there us vs x =
    x.ways.forth.counts
    ∙ ap₂ (λ (r t : Replica). (pull all_from r t).0)
    (left_is us x.s x.a x.made.is_fresh x.made.into_a) (left_is vs x.s x.b x.made.is_fresh x.made.into_b)

-- "One side holds 3-[70,61], the other 3-[70] and 2-[61] apart": they agree, by one offer that changes
pub pair_agrees : (x : Run one apart) → Agrees one apart x × (x.c ≡ counts 1 0 0)
pair_agrees x = (
  two_way_made one apart pair_ready.well_formed pair_ready.compatible pair_ready.fits
      x.s x.a x.b x.a' x.b' x.c x.d x.made x.ways,
  counts_there one apart x ∙ come.pair_there,
)

-- two documents: a leaf that both hold, a deletion, and histories that arrive crossed
pub offices_agree : (x : Run office field) → Agrees office field x × (x.c ≡ counts 2 1 0)
offices_agree x = (
  two_way_made office field offices_ready.well_formed offices_ready.compatible offices_ready.fits
      x.s x.a x.b x.a' x.b' x.c x.d x.made x.ways,
  counts_there office field x ∙ come.offices_there,
)

-- both lists in the other order, and the second once more: the same but for sequences
pub offices_any_order : (s a b : List ℕ) → s ≡ stored fresh → WriteCalls (office ++ field) s a → WriteCalls around s b → SameButSeq (replica_of a) (replica_of b)
offices_any_order s a b e calls others =
    (any_order (office ++ field) around same_writes offices_ready.well_formed offices_ready.compatible offices_ready.fits s a b e calls others).0

-- 33 repeats of a write of 16 revisions: none is refused, since the union fits where the sum does not
pub repeats_united : (s left : List ℕ) → s ≡ stored fresh → (calls : WriteCalls repeats s left) → NoneRefused repeats s left calls × IsUnion (replica_of left) (given repeats)
repeats_united s left e calls = union_of_writes repeats s left e calls repeats_ready.well_formed repeats_ready.compatible repeats_ready.fits

-- loaded replicas, of which one has no sequence left and the other one: they agree, by the one offer that
-- takes it
pub high_agree : (a b a' b' : List ℕ) (c d : Counts) → a ≡ stored spent → b ≡ stored nearly → BothWays a b a' b' c d
    → BothHold a b a' b' c d × (c ≡ counts 1 0 0)
high_agree a b a' b' c d e f ways = (
  agreed a b a' b' c d ways (rw (is_spent_lem, is_nearly) high_agrees),
  ways.forth.counts ∙ (ap₂ (λ (r t : Replica). (pull all_from r t).0) is_spent_lem is_nearly ∙ come.high_there),
)
  where
    is_spent_lem : replica_of a ≡ spent
    is_spent_lem = ap replica_of e ∙ stored_back spent (replica_fits spent spent_is)

    is_nearly : replica_of b ≡ nearly
    is_nearly = ap replica_of f ∙ stored_back nearly (replica_fits nearly nearly_is)

-- ---- where the writes are not compatible: they give 1-[20] two contents, of which one side lost its own to
-- a child. Nothing is refused, so both hold the union

abbrev pub kept : List Write
kept = on lot 1 (0x20 ∷ []) (Live 7) ∷ []

abbrev pub lost : List Write
lost = on lot 1 (0x20 ∷ []) (Live 9) ∷ on lot 2 (0x91 ∷ 0x20 ∷ []) (Live 8) ∷ []

pub not_compatible : Compatible (given (kept ++ lost)) → ⊥
unfolding gives along hashes pieces join
not_compatible k =
    let v = revision 1 (hash 0x20) in
    let one : Write = on lot 1 (0x20 ∷ []) (Live 7) in
    let two : Write = on lot 1 (0x20 ∷ []) (Live 9) in
    let node : Content → Node = λ c. record { parent = None; content = Some c } in
    let e = k.contents lot v (Live 7) (Live 9)
    (node (Live 7), (one, inl refl, refl, inl refl), refl) (node (Live 9), (two, inr (inl refl), refl, inl refl), refl) in
    true≢false (sym e)

pub record Passed : Type 0 where
  pub forth : (pull all_from (write_all kept fresh) (write_all lost fresh)).0 ≡ counts 0 1 0
  pub back : (pull all_from (there (write_all kept fresh) (write_all lost fresh)) (write_all kept fresh)).0 ≡ counts 1 0 0

pub passed : Passed
unfolding pull take_in count offers offers_in offers_of offer documents_after insert_by_seq path_of ancestry leaves write_all
    write write_refusals room_refusals bad_id bad_path low_number other_parent other_content documents_full revisions_full
    sequence_spent count_new count_parents is_new is_new_parent adds how_many added add_all gives along hashes pieces join
    first_that any find alter order_bytes order_rev order_n same_rev document_of tree_of revisions_held
passed = record { forth = refl; back = refl }

pub lost_agrees : (x : Run kept lost) → Agrees kept lost x
lost_agrees x =
    none_refused x.a x.b x.a' x.b' x.c x.d x.ways
    (from_fresh kept x.s x.a x.made.is_fresh x.made.into_a).is_stored
    (from_fresh lost x.s x.b x.made.is_fresh x.made.into_b).is_stored
    (ap (λ (z : Counts). z.refused) (counts_there kept lost x ∙ passed.forth)) (ap (λ (z : Counts). z.refused) (counts_back ∙ passed.back))
  where
    is_a : replica_of x.a ≡ write_all kept fresh
    is_a = left_is kept x.s x.a x.made.is_fresh x.made.into_a

    is_b : replica_of x.b ≡ write_all lost fresh
    is_b = left_is lost x.s x.b x.made.is_fresh x.made.into_b

    counts_back : x.d ≡ (pull all_from (there (write_all kept fresh) (write_all lost fresh)) (write_all kept fresh)).0
    counts_back =
        x.ways.back.counts
        ∙ ap₂ (λ (r t : Replica). (pull all_from r t).0) (x.ways.forth.means ∙ ap₂ (λ (r t : Replica). there r t) is_a is_b) is_a
