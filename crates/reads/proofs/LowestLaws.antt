-- The first of the documents after a sequence is the one with the lowest own sequence above it. Assumes nothing.
use mathlib.Core.Path.{◌≡◌, refl, sym, ap, ◌∙◌, subst}
use Rattle.rules.specs.declared.Change.{Change}
use Rattle.rules.specs.declared.Refusal.{Refusal}
use Rattle.std.specs.Prelude.{Result, Ok, Err}
use mathlib.Core.Bool.{Bool, true, false}
use mathlib.Core.List.{List, [], ◌∷◌}
use mathlib.Core.Logic.{inl, inr}
use Rattle.std.specs.Prelude.{Option, None, Some}
use Prim.Native.Nat.{ℕ, ◌≤◌, ◌<◌}
use native.Mathlib.Omega.{arith}
use borrow.Author.Tests.{ltb-true, ltb-false, leb-true, leb-false}
use lib.Dec.{leb, ltb}
use Rattle.rules.specs.declared.Seq.{Seq}
use Rattle.rules.specs.Choice.{pick, maybe, first_that}
use Rattle.rules.specs.Map.{Map}
use Rattle.rules.specs.Read.{insert_by_seq, documents_after, short_buffer, lend, change_of, first_of, read_changes}
use Rattle.rules.specs.Replica.{Id, Document, Replica, document_of, IsReplica}
use Rattle.rules.specs.Union.{In}
use Rattle.rules.proofs.OrderLaws.{bytes_order}
use Rattle.rules.proofs.MapLaws.{none≢some, some_inj}
use Rattle.union.proofs.Cases.{each_id}
use Rattle.union.proofs.Count.{find_in, in_find}
use Rattle.reads.specs.Next.{Lowest, NoneAbove}
use Rattle.reads.proofs.NextLaws.{first_insert, seq_path}

abbrev own : Id × Document → ℕ
own d = d.1.seq.0

-- of the documents ds
pub record LowestIn (s : Seq) (ds : Map Id Document) (x : Id × Document) : Type 0 where
  pub held : In x ds
  pub above : s.0 < own x
  pub least : (y : Id × Document) → In y ds → s.0 < own y → own x ≤ own y

-- where a document is above s, there is a first
insert_some : (d : Id × Document) (l : List (Id × Document)) → first_of (insert_by_seq d l) ≡ None → ⊥
unfolding insert_by_seq
insert_some d [] e = none≢some (sym e)
insert_some d (x ∷ l) e = go (leb (own d) (own x)) e
  where
    go : (b : Bool) → first_of (pick b (d ∷ x ∷ l) (x ∷ insert_by_seq d l)) ≡ None → ⊥
    go true e = none≢some (sym e)
    go false e = none≢some (sym e)

same_own : (y d : Id × Document) → y ≡ d → own y ≡ own d
same_own y d q = ap (λ (x : Id × Document). own x) q

pub none_above : (s : Seq) (ds : Map Id Document) → first_of (documents_after s ds) ≡ None → (y : Id × Document) → In y ds → own y ≤ s.0
unfolding documents_after
none_above s [] e y m = absurd m
none_above s (d ∷ ds) e y m = go (ltb s.0 (own d)) refl e m (λ q k. none_above s ds q y k)
  where
    go : (b : Bool) → ltb s.0 (own d) ≡ b → first_of (pick b (insert_by_seq d (documents_after s ds)) (documents_after s ds)) ≡ None → In y (d ∷ ds)
        → (first_of (documents_after s ds) ≡ None → In y ds → own y ≤ s.0) → own y ≤ s.0
    go true q e m ih = absurd (insert_some d (documents_after s ds) e)
    go false q e (inl k) ih = let z = same_own y d k in let l : own d ≤ s.0 = ltb-false _ _ q in omega arith
    go false q e (inr k) ih = ih e k

module _ (s : Seq) (d : Id × Document) (ds : Map Id Document) where
  skipped : (x : Id × Document) → own d ≤ s.0 → LowestIn s ds x → LowestIn s (d ∷ ds) x
  skipped x l h = record { held = inr h.held; above = h.above; least = least }
    where
      least : (y : Id × Document) → In y (d ∷ ds) → s.0 < own y → own x ≤ own y
      least y (inl k) a = let z = same_own y d k in absurd (omega arith)
      least y (inr k) a = h.least y k a

  alone : s.0 < own d → ((y : Id × Document) → In y ds → own y ≤ s.0) → LowestIn s (d ∷ ds) d
  alone a f = record { held = inl refl; above = a; least = least }
    where
      least : (y : Id × Document) → In y (d ∷ ds) → s.0 < own y → own d ≤ own y
      least y (inl k) b = let z = same_own y d k in omega arith
      least y (inr k) b = let z = f y k in absurd (omega arith)

  lower : (z : Id × Document) → s.0 < own d → own d ≤ own z → LowestIn s ds z → LowestIn s (d ∷ ds) d
  lower z a l h = record { held = inl refl; above = a; least = least }
    where
      least : (y : Id × Document) → In y (d ∷ ds) → s.0 < own y → own d ≤ own y
      least y (inl k) b = let e = same_own y d k in omega arith
      least y (inr k) b = let e = h.least y k b in omega arith

  higher : (z : Id × Document) → own z < own d → LowestIn s ds z → LowestIn s (d ∷ ds) z
  higher z l h = record { held = inr h.held; above = h.above; least = least }
    where
      least : (y : Id × Document) → In y (d ∷ ds) → s.0 < own y → own z ≤ own y
      least y (inl k) b = let e = same_own y d k in omega arith
      least y (inr k) b = h.least y k b

  -- one document more among those after s
  among : (x : Id × Document) (l : List (Id × Document)) → documents_after s ds ≡ l → s.0 < own d → first_of (insert_by_seq d l) ≡ Some x
      → ((z : Id × Document) → first_of (documents_after s ds) ≡ Some z → LowestIn s ds z) → LowestIn s (d ∷ ds) x
  unfolding insert_by_seq
  among x [] e a f ih = subst (λ (w : Id × Document). LowestIn s (d ∷ ds) w) (some_inj f) (alone a (none_above s ds (ap first_of e)))
  among x (z ∷ l) e a f ih = go (leb (own d) (own z)) refl (sym (first_insert d (z ∷ l) z refl) ∙ f)
    where
      h : LowestIn s ds z
      h = ih z (ap first_of e)

      go : (b : Bool) → leb (own d) (own z) ≡ b → pick b (Some d) (Some z) ≡ Some x → LowestIn s (d ∷ ds) x
      go true q g = subst (λ (w : Id × Document). LowestIn s (d ∷ ds) w) (some_inj g) (lower z a (leb-true _ _ q) h)
      go false q g = subst (λ (w : Id × Document). LowestIn s (d ∷ ds) w) (some_inj g) (higher z (leb-false _ _ q) h)

pub first_lowest : (s : Seq) (ds : Map Id Document) (x : Id × Document) → first_of (documents_after s ds) ≡ Some x → LowestIn s ds x
unfolding documents_after
first_lowest s [] x e = absurd (none≢some e)
first_lowest s (d ∷ ds) x e = go (ltb s.0 (own d)) refl e (λ z q. first_lowest s ds z q)
  where
    go : (b : Bool) → ltb s.0 (own d) ≡ b → first_of (pick b (insert_by_seq d (documents_after s ds)) (documents_after s ds)) ≡ Some x
        → ((z : Id × Document) → first_of (documents_after s ds) ≡ Some z → LowestIn s ds z) → LowestIn s (d ∷ ds) x
    go true q e ih = among s d ds x (documents_after s ds) refl (ltb-true _ _ q) e ih
    go false q e ih = skipped s d ds x (ltb-false _ _ q) (ih x e)

-- ---- of a replica

module _ (r : Replica) (k : IsReplica r) (s : Seq) where
  -- "the document with the lowest own sequence above s": the first of the documents after s is that one
  pub first_is_lowest : (i : Id) (d : Document) → first_of (documents_after s r.documents) ≡ Some (i, d) → Lowest s r i d
  unfolding document_of
  first_is_lowest i d e =
      let l = first_lowest s r.documents (i, d) e in
      let h = in_find bytes_order r.documents k.ascending (i, d) l.held in
      record {
        held = h;
        above = l.above;
        lowest = λ j x f a n. (let b = l.least (j, x) (find_in bytes_order r.documents j x f) a in
            less d.seq x.seq b (λ q. n ((k.documents i d h).seq_own j x f q)));
      }
    where
      less : (p q : Seq) → p.0 ≤ q.0 → (q ≡ p → ⊥) → p.0 < q.0
      less p q l n = go (ltb p.0 q.0) refl
        where
          go : (b : Bool) → ltb p.0 q.0 ≡ b → p.0 < q.0
          go true e = ltb-true p.0 q.0 e
          go false e = absurd (n (seq_path q p (let h = ltb-false p.0 q.0 e in omega arith)))

  -- and there is no other
  pub lowest_is_first : (i : Id) (d : Document) → Lowest s r i d → first_of (documents_after s r.documents) ≡ Some (i, d)
  unfolding document_of
  lowest_is_first i d h = go (first_of (documents_after s r.documents)) refl
    where
      same : (j : Id) (x : Document) → document_of r j ≡ Some x → s.0 < x.seq.0 → x.seq.0 ≤ d.seq.0 → ◌≡◌ {A = Id × Document} (j, x) (i, d)
      same =
          each_id i (λ j. (x : Document) → document_of r j ≡ Some x → s.0 < x.seq.0 → x.seq.0 ≤ d.seq.0 → ◌≡◌ {A = Id × Document} (j, x) (i, d))
          (λ x f a b. ap (λ (z : Document). (i, z)) (some_inj (sym f ∙ h.held)))
          (λ j n x f a b. absurd (let c = h.lowest j x f a n in omega arith))

      go : (o : Option (Id × Document)) → first_of (documents_after s r.documents) ≡ o → o ≡ Some (i, d)
      go None e =
          absurd (let a = none_above s r.documents e (i, d) (find_in bytes_order r.documents i d h.held) in let b = h.above in omega arith)
      go (Some x) e =
          let l = first_lowest s r.documents x e in
          ap Some (same x.0 x.1 (in_find bytes_order r.documents k.ascending x l.held) l.above
          (l.least (i, d) (find_in bytes_order r.documents i d h.held) h.above))

  -- where there is no first, no document has one above s
  pub no_first_none_above : first_of (documents_after s r.documents) ≡ None → NoneAbove s r
  unfolding document_of
  no_first_none_above e i d h = none_above s r.documents e (i, d) (find_in bytes_order r.documents i d h)

  -- "its id written out, and answered its id length, that sequence, its leaf count and whether its winner is a
  -- deletion"
  pub changes_lowest : (out : List ℕ) (i : Id) (d : Document) → Lowest s r i d
      → read_changes r s out ≡ lend Err out (Ok (Some (change_of (i, d)))) i (first_that (short_buffer i out ∷ []))
  unfolding read_changes
  changes_lowest out i d h = rw (lowest_is_first i d h) refl

  -- "or no more, nothing written"
  pub changes_no_more : (out : List ℕ) → NoneAbove s r → read_changes r s out ≡ (Ok None, out)
  unfolding read_changes document_of
  changes_no_more out n = go (first_of (documents_after s r.documents)) refl
    where
      said : Option (Id × Document) → Result (Option Change) Refusal × List ℕ
      said o =
          maybe (Ok None, out)
          (λ d. lend Err out (Ok (Some (change_of d))) d.0 (first_that (short_buffer d.0 out ∷ []))) o

      go : (o : Option (Id × Document)) → first_of (documents_after s r.documents) ≡ o → said o ≡ (Ok None, out)
      go None e = refl
      go (Some x) e =
          let l = first_lowest s r.documents x e in
          absurd (let a = n x.0 x.1 (in_find bytes_order r.documents k.ascending x l.held) in let b = l.above in omega arith)
