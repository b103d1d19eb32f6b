-- A pull: its counts, what it leaves alone, and that it leaves what both replicas held. Assumes nothing.
use mathlib.Core.Path.{◌≡◌, refl, sym, ap, ap₂, ◌∙◌, subst}
use Rattle.rules.specs.declared.Refusal.{Refusal}
use Rattle.rules.specs.declared.Outcome.{Outcome}
use Rattle.std.specs.Prelude.{Result, Ok, Err}
use mathlib.Core.Bool.{Bool, true, false}
use mathlib.Core.List.{List, [], ◌∷◌, ◌++◌, map}
use mathlib.Core.Logic.{inl, inr}
use Rattle.std.specs.Prelude.{Option, None, Some}
use Prim.Native.Nat.{ℕ, suc, ◌+◌, ◌≤◌}
use native.Mathlib.Omega.{arith}
use lib.Dec.{leb, ltb}
use lib.ListN.{length, length-append}
use Rattle.rules.specs.declared.Content.{Content}
use Rattle.rules.specs.declared.Counts.{Counts}
use Rattle.rules.specs.declared.Outcome.TheVariants.{Changed, Unchanged}
use Rattle.rules.specs.declared.Seq.{Seq}
use Rattle.rules.specs.Choice.{pick, maybe, how_many}
use Rattle.rules.specs.Pull.{offer, offers_of, offers_in, offers, count, no_counts, take_in, pull}
use Rattle.rules.specs.Read.{leaves, insert_by_seq, documents_after}
use Rattle.rules.specs.Replica.{Id, Tree, Document, Replica, document_of, revisions_held, IsReplica}
use Rattle.rules.specs.Union.{In, Things, held, both, IsUnion, Within, Compatible, Fits, write_all, AllAccepted, SeqSuffices, all_from}
use Rattle.rules.specs.Write.{Write, write}
use Rattle.union.specs.Said.{total, leaf_count, answers, is_changed, is_unchanged, is_refused, CountsEach}
use Rattle.union.proofs.Lists.{map_in}
use Rattle.union.proofs.Trees.{Entry}
use Rattle.union.proofs.Sets.{Both, Plus, both_from, both_to, both_within, closed_both, compatible_within, fits_within, things, within_all, within_sub}
use Rattle.union.proofs.Frame.{take_in_other}
use Rattle.union.proofs.Replicas.{Holds, holds_iff}
use Rattle.union.proofs.Fold.{absorb}
use Rattle.union.proofs.Unions.{alike, union, union_alike}
use Rattle.union.proofs.Held.{Own, closed_own, holds_own}
use Rattle.union.proofs.Keeps.{writes_keep}
use Rattle.union.proofs.Offers.{offers_out, offers_own, offers_range, offers_well, own_offers}

-- ---- the counts

pub count_one : (o : Result Outcome Refusal) (c : Counts) → total (count o c) ≡ suc (total c)
unfolding count
count_one (Ok Changed) c = omega arith
count_one (Ok Unchanged) c = omega arith
count_one (Err n) c = omega arith

pub take_in_total : (ws : List Write) (c : Counts) (r : Replica) → total (take_in ws (c, r)).0 ≡ length ws + total c
unfolding take_in
take_in_total [] c r = omega arith
take_in_total (w ∷ ws) c r =
    let o = write r w in let a = take_in_total ws (count o.0 c) o.1 in let b = count_one o.0 c in omega arith

pub counts_total : (s : Seq) (source target : Replica) → total (pull s source target).0 ≡ length (offers s source)
unfolding pull
counts_total s source target = let h = take_in_total (offers s source) no_counts target in omega arith

-- a count that rises by one at each answer of its kind, and only there, is what it was and how many there are
take-in_each : (f : Counts → ℕ) (is : Result Outcome Refusal → Bool) → ((o : Result Outcome Refusal) (c : Counts) → f (count o c) ≡ pick (is o) 1 0 + f c)
    → (ws : List Write) (c : Counts) (r : Replica) → f (take_in ws (c, r)).0 ≡ how_many is (answers r ws) + f c
unfolding take_in answers how_many
take-in_each f is one [] c r = omega arith
take-in_each f is one (w ∷ ws) c r =
    let o = write r w in let a = take-in_each f is one ws (count o.0 c) o.1 in let b = one o.0 c in omega arith

changed_one : (o : Result Outcome Refusal) (c : Counts) → (count o c).changed ≡ pick (is_changed o) 1 0 + c.changed
unfolding count
changed_one (Ok Changed) c = omega arith
changed_one (Ok Unchanged) c = omega arith
changed_one (Err n) c = omega arith

unchanged_one : (o : Result Outcome Refusal) (c : Counts) → (count o c).unchanged ≡ pick (is_unchanged o) 1 0 + c.unchanged
unfolding count
unchanged_one (Ok Changed) c = omega arith
unchanged_one (Ok Unchanged) c = omega arith
unchanged_one (Err n) c = omega arith

refused_one : (o : Result Outcome Refusal) (c : Counts) → (count o c).refused ≡ pick (is_refused o) 1 0 + c.refused
unfolding count
refused_one (Ok Changed) c = omega arith
refused_one (Ok Unchanged) c = omega arith
refused_one (Err n) c = omega arith

pub counts_each : (s : Seq) (source target : Replica) → CountsEach (pull s source target).0 (answers target (offers s source))
unfolding pull
counts_each s source target =
    let a = take-in_each (λ c. c.changed) is_changed changed_one (offers s source) no_counts target in
    let b = take-in_each (λ c. c.unchanged) is_unchanged unchanged_one (offers s source) no_counts target in
    let c = take-in_each (λ c. c.refused) is_refused refused_one (offers s source) no_counts target in
    record { changed = omega arith; unchanged = omega arith; refused = omega arith }

length-map : {A B : Type 0} (f : A → B) (xs : List A) → length (map f xs) ≡ length xs
length-map f [] = refl
length-map f (x ∷ xs) = ap suc (length-map f xs)

offers_count : (ds : List (Id × Document)) → length (offers_in ds) ≡ leaf_count ds
unfolding offers_in offers_of leaf_count
offers_count [] = refl
offers_count (d ∷ ds) =
    length-append (map (offer d.0 d.1.tree) (leaves d.1.tree)) (offers_in ds)
    ∙ ap₂ ◌+◌ (length-map (offer d.0 d.1.tree) (leaves d.1.tree)) (offers_count ds)

pub counts_leaves : (s : Seq) (source target : Replica) → total (pull s source target).0 ≡ leaf_count (documents_after s source.documents)
unfolding offers
counts_leaves s source target = counts_total s source target ∙ offers_count (documents_after s source.documents)

leaves_most : (t : Tree) → length (leaves t) ≤ length t
unfolding leaves
leaves_most [] = omega arith
leaves_most (x ∷ t) = go x.1.content (leaves_most t)
  where
    go : (o : Option Content) → length (leaves t) ≤ length t → length (leaves t ++ maybe [] (λ c. record { rev = x.0; content = c } ∷ []) o) ≤ suc (length t)
    go None h = simp length-append (omega arith)
    go (Some c) h = simp length-append (omega arith)

insert_count : (d : Id × Document) (ds : List (Id × Document)) → leaf_count (insert_by_seq d ds) ≡ leaf_count (d ∷ ds)
unfolding insert_by_seq leaf_count
insert_count d [] = refl
insert_count d (e ∷ ds) = go (leb d.1.seq.0 e.1.seq.0) (insert_count d ds)
  where
    go : (b : Bool) → leaf_count (insert_by_seq d ds) ≡ leaf_count (d ∷ ds) → leaf_count (pick b (d ∷ e ∷ ds) (e ∷ insert_by_seq d ds)) ≡ leaf_count (d ∷ e ∷ ds)
    go true h = refl
    go false h = omega arith

after_count : (s : Seq) (ds : List (Id × Document)) → leaf_count (documents_after s ds) ≤ revisions_held ds
unfolding documents_after leaf_count revisions_held
after_count s [] = omega arith
after_count s (d ∷ ds) = go (ltb s.0 d.1.seq.0) (after_count s ds)
  where
    go : (b : Bool) → leaf_count (documents_after s ds) ≤ revisions_held ds
        → leaf_count (pick b (insert_by_seq d (documents_after s ds)) (documents_after s ds)) ≤ length d.1.tree + revisions_held ds
    go true h = let a = insert_count d (documents_after s ds) in let b = leaves_most d.1.tree in omega arith
    go false h = omega arith

-- no more offers than revisions
pub offers_most : (s : Seq) (r : Replica) → length (offers s r) ≤ revisions_held r.documents
unfolding offers
offers_most s r = let a = offers_count (documents_after s r.documents) in let b = after_count s r.documents in omega arith

-- ---- what it leaves alone

pub pull_other : (s : Seq) (source target : Replica) (j : Id) → ((d : Id × Document) → In d (documents_after s source.documents) → j ≡ d.0 → ⊥)
    → document_of (pull s source target).1 j ≡ document_of target j
unfolding pull offers offers_of offer
pull_other s source target j n =
    take_in_other (offers_in (documents_after s source.documents)) (no_counts, target) j
    (λ w m e. let u = offers_out (documents_after s source.documents) w m in
    let l = map_in (offer u.0.0 u.0.1.tree) w (leaves u.0.1.tree) u.2 in
    n u.0 u.1 (e ∙ ap (λ (z : Write). z.id) l.2))

-- ---- the replica left

take_in_writes : (ws : List Write) (c : Counts) (r : Replica) → (take_in ws (c, r)).1 ≡ write_all ws r
unfolding take_in write_all
take_in_writes [] c r = refl
take_in_writes (w ∷ ws) c r = take_in_writes ws (count (write r w).0 c) (write r w).1

pub pull_writes : (s : Seq) (source target : Replica) → (pull s source target).1 ≡ write_all (offers s source) target
unfolding pull
pull_writes s source target = take_in_writes (offers s source) no_counts target

pub pull_keeps : (s : Seq) (source target : Replica) → IsReplica source → IsReplica target → IsReplica (pull s source target).1
pull_keeps s source target a b =
    subst IsReplica (sym (pull_writes s source target)) (writes_keep (offers s source) (offers_range source a s) target b)

-- ---- all of one into another

module _ (g : Things) (c : Compatible g) (f : Fits g) (a b : Replica) (ka : IsReplica a) (kb : IsReplica b)
    (wa : Within (held a) g) (wb : Within (held b) g) (room : SeqSuffices (offers all_from a) b) where
  to_both : (i : Id) (x : Entry) → Plus (Own b) (offers all_from a) i x → Both (Own a) (Own b) i x
  to_both i x (inl m) = inl (offers_own a ka all_from i x m)
  to_both i x (inr m) = inr m

  from_both : (i : Id) (x : Entry) → Both (Own a) (Own b) i x → Plus (Own b) (offers all_from a) i x
  from_both i x (inl m) = inl (own_offers a ka i x m)
  from_both i x (inr m) = inr m

  plus_within : Within (things (Plus (Own b) (offers all_from a))) g
  plus_within =
      within_all (things (Plus (Own b) (offers all_from a))) (things (Both (Own a) (Own b))) g
      (within_sub (Plus (Own b) (offers all_from a)) (Both (Own a) (Own b)) to_both)
      (within_all (things (Both (Own a) (Own b))) (both (held a) (held b)) g (both_to (Own a) (Own b)) (both_within (held a) (held b) g wa wb))

  all_in : AllAccepted (offers all_from a) b × Holds (write_all (offers all_from a) b) (Plus (Own b) (offers all_from a))
  all_in =
      absorb (offers all_from a) b (Own b) (holds_own b kb) (closed_own b kb) (offers_well a ka all_from)
      (compatible_within (things (Plus (Own b) (offers all_from a))) g plus_within c)
      (fits_within (things (Plus (Own b) (offers all_from a))) g plus_within f) room

  pub pull_accepted : AllAccepted (offers all_from a) b
  pull_accepted = all_in.0

  holds_both : Holds (pull all_from a b).1 (Both (Own a) (Own b))
  holds_both =
      subst (λ (r : Replica). Holds r (Both (Own a) (Own b))) (sym (pull_writes all_from a b))
      (holds_iff (write_all (offers all_from a) b) (Plus (Own b) (offers all_from a)) (Both (Own a) (Own b)) to_both from_both all_in.1)

  pub pull_union : IsUnion (pull all_from a b).1 (both (held a) (held b))
  pull_union =
      union_alike (pull all_from a b).1 (things (Both (Own a) (Own b))) (both (held a) (held b))
      (alike (things (Both (Own a) (Own b))) (both (held a) (held b)) (both_to (Own a) (Own b)) (both_from (Own a) (Own b)))
      (union (pull all_from a b).1 (Both (Own a) (Own b)) holds_both (λ i. closed_both (Own a i) (Own b i) (closed_own a ka i) (closed_own b kb i)))
