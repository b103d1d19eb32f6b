-- The documents after a sequence, one by one: the first, and then those after its own. Assumes nothing.
use mathlib.Core.Path.{◌≡◌, refl, sym, ap, ◌∙◌, subst}
use mathlib.Core.Bool.{Bool, true, false}
use mathlib.Core.List.{List, [], ◌∷◌}
use mathlib.Core.Logic.{inl, inr, ◌↔◌}
use Rattle.std.specs.Prelude.{Some}
use Prim.Native.Nat.{ℕ, ◌≤◌, ◌<◌}
use native.Mathlib.Omega.{arith}
use lib.Dec.{leb, ltb}
use borrow.Author.Tests.{leb-true, leb-false, lt-ltb, le-ltb, lt-leb, le-leb}
use Rattle.rules.specs.declared.Seq.{Seq}
use Rattle.rules.specs.Choice.{pick}
use Rattle.rules.specs.Map.{Map, Ascending}
use Rattle.rules.specs.Order.{order_bytes}
use Rattle.rules.specs.Read.{insert_by_seq, documents_after, first_of}
use Rattle.rules.specs.Replica.{Id, Document, Replica, document_of, IsReplica}
use Rattle.rules.specs.Union.{In}
use Rattle.rules.proofs.MapLaws.{none≢some, some_inj}
use Rattle.rules.proofs.OrderLaws.{bytes_order, no_less_self}
use Rattle.union.proofs.Count.{below_all, find_in, in_find}
use Rattle.union.proofs.Offers.{after_in, after_out}
use Rattle.pulls.specs.Pulls.{Rising}

abbrev own : Id × Document → ℕ
own d = d.1.seq.0

-- ---- those above a sequence among documents in order

above : ℕ → List (Id × Document) → List (Id × Document)
above q [] = []
above q (d ∷ ds) = pick (ltb q (own d)) (d ∷ above q ds) (above q ds)

above_skip : (q : ℕ) (d : Id × Document) (ds : List (Id × Document)) → own d ≤ q → above q (d ∷ ds) ≡ above q ds
unfolding above
above_skip q d ds h = rw (le-ltb q (own d) h)

above_keep : (q : ℕ) (d : Id × Document) (ds : List (Id × Document)) → q < own d → above q (d ∷ ds) ≡ d ∷ above q ds
unfolding above
above_keep q d ds h = rw (lt-ltb q (own d) h)

insert_here : (d e : Id × Document) (es : List (Id × Document)) → own d ≤ own e → insert_by_seq d (e ∷ es) ≡ d ∷ e ∷ es
unfolding insert_by_seq
insert_here d e es h = rw (le-leb (own d) (own e) h)

insert_later : (d e : Id × Document) (es : List (Id × Document)) → own e < own d → insert_by_seq d (e ∷ es) ≡ e ∷ insert_by_seq d es
unfolding insert_by_seq
insert_later d e es h = rw (lt-leb (own d) (own e) h)

insert_first : (d : Id × Document) → insert_by_seq d [] ≡ d ∷ []
unfolding insert_by_seq
insert_first d = refl

above_nil : (q : ℕ) → above q [] ≡ []
unfolding above
above_nil q = refl

data Split (a b : ℕ) : Type 0 where
  most : a ≤ b → Split a b
  more : b < a → Split a b

split : (a b : ℕ) → Split a b
split a b = go (leb a b) refl
  where
    go : (t : Bool) → leb a b ≡ t → Split a b
    go true e = most (leb-true a b e)
    go false e = more (let h = leb-false a b e in omega arith)

-- a document that is not above q goes with no trace
insert_low : (q : ℕ) (d : Id × Document) (es : List (Id × Document)) → own d ≤ q → above q (insert_by_seq d es) ≡ above q es
insert_low q d [] h = rw (insert_first d) (above_skip q d [] h)
insert_low q d (e ∷ es) h = go (split (own d) (own e)) (insert_low q d es h)
  where
    go : Split (own d) (own e) → above q (insert_by_seq d es) ≡ above q es → above q (insert_by_seq d (e ∷ es)) ≡ above q (e ∷ es)
    go (most l) ih = rw (insert_here d e es l) (above_skip q d (e ∷ es) h)
    go (more l) ih =
        rw (insert_later d e es l) (above_skip q e (insert_by_seq d es) (omega arith) ∙ (ih ∙ sym (above_skip q e es (omega arith))))

insert_high : (q : ℕ) (d : Id × Document) (es : List (Id × Document)) → q < own d → above q (insert_by_seq d es) ≡ insert_by_seq d (above q es)
insert_high q d [] h = rw (insert_first d, above_nil q, insert_first d) (above_keep q d [] h ∙ rw (above_nil q))
insert_high q d (e ∷ es) h = go (split (own d) (own e)) (split (own e) q) (insert_high q d es h)
  where
    go : Split (own d) (own e) → Split (own e) q → above q (insert_by_seq d es) ≡ insert_by_seq d (above q es)
        → above q (insert_by_seq d (e ∷ es)) ≡ insert_by_seq d (above q (e ∷ es))
    go (most l) (most m) ih = absurd (omega arith)
    go (most l) (more m) ih =
        rw (insert_here d e es l, above_keep q d (e ∷ es) h, above_keep q e es m) (sym (insert_here d e (above q es) l))
    go (more l) (most m) ih = rw (insert_later d e es l, above_skip q e (insert_by_seq d es) m, above_skip q e es m) ih
    go (more l) (more m) ih =
        rw (insert_later d e es l, above_keep q e (insert_by_seq d es) m, above_keep q e es m, ih) (sym (insert_later d e (above q es) l))

after_keep : (s : Seq) (d : Id × Document) (ds : Map Id Document) → s.0 < own d → documents_after s (d ∷ ds) ≡ insert_by_seq d (documents_after s ds)
unfolding documents_after
after_keep s d ds h = rw (lt-ltb s.0 (own d) h)

after_skip : (s : Seq) (d : Id × Document) (ds : Map Id Document) → own d ≤ s.0 → documents_after s (d ∷ ds) ≡ documents_after s ds
unfolding documents_after
after_skip s d ds h = rw (le-ltb s.0 (own d) h)

-- those after q are those after s that are above q
after_above : (s q : Seq) (ds : Map Id Document) → s.0 ≤ q.0 → above q.0 (documents_after s ds) ≡ documents_after q ds
unfolding documents_after above
after_above s q [] h = refl
after_above s q (d ∷ ds) h = go (split (own d) s.0) (split (own d) q.0) (after_above s q ds h)
  where
    go : Split (own d) s.0 → Split (own d) q.0 → above q.0 (documents_after s ds) ≡ documents_after q ds
        → above q.0 (documents_after s (d ∷ ds)) ≡ documents_after q (d ∷ ds)
    go (most a) (most b) ih = rw (after_skip s d ds a, after_skip q d ds b) ih
    go (most a) (more b) ih = absurd (omega arith)
    go (more a) (most b) ih = rw (after_keep s d ds a, after_skip q d ds b) (insert_low q.0 d (documents_after s ds) b ∙ ih)
    go (more a) (more b) ih = rw (after_keep s d ds a, after_keep q d ds b, sym ih) (insert_high q.0 d (documents_after s ds) b)

-- ---- their sequences rise

-- no two have the same
abbrev Apart : List (Id × Document) → Type 0
Apart [] = Unit {0}
Apart (d ∷ ds) = ((y : Id × Document) → In y ds → own y ≡ own d → ⊥) × Apart ds

insert_out : (d : Id × Document) (es : List (Id × Document)) (y : Id × Document) → In y (insert_by_seq d es) → In y (d ∷ es)
insert_out d [] y m = subst (λ (l : List (Id × Document)). In y l) (insert_first d) m
insert_out d (e ∷ es) y m = go (split (own d) (own e)) (λ n. insert_out d es y n)
  where
    go : Split (own d) (own e) → (In y (insert_by_seq d es) → In y (d ∷ es)) → In y (d ∷ e ∷ es)
    go (most l) ih = subst (λ (l : List (Id × Document)). In y l) (insert_here d e es l) m
    go (more l) ih = at (subst (λ (l : List (Id × Document)). In y l) (insert_later d e es l) m)
      where
        at : In y (e ∷ insert_by_seq d es) → In y (d ∷ e ∷ es)
        at (inl q) = inr (inl q)
        at (inr n) = elim (ih n) [ inl q ↦ inl q | inr k ↦ inr (inr k) ]

rising_insert : (d : Id × Document) (es : List (Id × Document)) → Rising es → ((y : Id × Document) → In y es → own y ≡ own d → ⊥) → Rising (insert_by_seq d es)
rising_insert d [] r a = rw (insert_first d) ((λ y m. absurd m), tt)
rising_insert d (e ∷ es) r a = go (split (own d) (own e)) (rising_insert d es r.1 (λ y m. a y (inr m)))
  where
    over : own d ≤ own e → (y : Id × Document) → In y (e ∷ es) → own d < own y
    over l y (inl q) =
        let z : own y ≡ own e = ap own q in
        let n : own e ≡ own d → ⊥ = a e (inl refl) in
        omega arith
    over l y (inr m) =
        let z = r.0 y m in
        omega arith

    go : Split (own d) (own e) → Rising (insert_by_seq d es) → Rising (insert_by_seq d (e ∷ es))
    go (most l) ih = rw (insert_here d e es l) (over l, r)
    go (more l) ih = rw (insert_later d e es l) ((λ y m. at y (insert_out d es y m)), ih)
      where
        at : (y : Id × Document) → In y (d ∷ es) → own e < own y
        at y (inl q) = let z : own y ≡ own d = ap own q in omega arith
        at y (inr m) = r.0 y m

rising_after : (s : Seq) (ds : Map Id Document) → Apart ds → Rising (documents_after s ds)
unfolding documents_after
rising_after s [] a = tt
rising_after s (d ∷ ds) a = go (split (own d) s.0) (rising_after s ds a.1)
  where
    go : Split (own d) s.0 → Rising (documents_after s ds) → Rising (documents_after s (d ∷ ds))
    go (most l) ih = rw (after_skip s d ds l) ih
    go (more l) ih = rw (after_keep s d ds l) (rising_insert d (documents_after s ds) ih (λ y m. a.0 y (after_out s ds y m)))

-- their own sequence is above s
after_over : (s : Seq) (ds : Map Id Document) (y : Id × Document) → In y (documents_after s ds) → s.0 < own y
unfolding documents_after
after_over s [] y m = absurd m
after_over s (d ∷ ds) y m = go (split (own d) s.0) (λ n. after_over s ds y n)
  where
    at : s.0 < own d → (In y (documents_after s ds) → s.0 < own y) → In y (d ∷ documents_after s ds) → s.0 < own y
    at l ih (inl q) = let z : own y ≡ own d = ap own q in omega arith
    at l ih (inr n) = ih n

    go : Split (own d) s.0 → (In y (documents_after s ds) → s.0 < own y) → s.0 < own y
    go (most l) ih = ih (subst (λ (l : List (Id × Document)). In y l) (after_skip s d ds l) m)
    go (more l) ih = at l ih (insert_out d (documents_after s ds) y (subst (λ (l : List (Id × Document)). In y l) (after_keep s d ds l) m))

-- no two documents have one sequence
apart : (r : Replica) → IsReplica r → Apart r.documents
unfolding document_of
apart r k = go r.documents k.ascending (λ d m. m)
  where
    here : (d y : Id × Document) → In d r.documents → In y r.documents → own y ≡ own d → y.0 ≡ d.0
    here d y m n e =
        let f = in_find bytes_order r.documents k.ascending d m in
        let g = in_find bytes_order r.documents k.ascending y n in
        (k.documents d.0 d.1 f).seq_own y.0 y.1 g (λ i. record { 0 = e i })

    go : (ds : Map Id Document) → Ascending order_bytes ds → ((d : Id × Document) → In d ds → In d r.documents) → Apart ds
    go [] a sub = tt
    go (d ∷ ds) a sub = (
      (λ y m e. no_less_self bytes_order d.0
          (rw (here d y (sub d (inl refl)) (sub y (inr m)) e) at (below_all bytes_order d.0 ds a.0 a.1 y m))),
      go ds a.1 (λ y m. sub y (inr m)),
    )

-- "the source documents after that sequence": those whose own is above it
pub documents_after_lem : (r : Replica) → IsReplica r → (s : Seq) (i : Id) (d : Document)
    → In (i, d) (documents_after s r.documents) ↔ ((document_of r i ≡ Some d) × (s.0 < d.seq.0))
unfolding document_of
documents_after_lem r k s i d = (
  λ m. (in_find bytes_order r.documents k.ascending (i, d) (after_out s r.documents (i, d) m), after_over s r.documents (i, d) m),
  λ h. after_in s r.documents (i, d) h.1 (find_in bytes_order r.documents i d h.0),
)

-- "Documents come in order of their sequence"
pub documents_rise : (r : Replica) → IsReplica r → (s : Seq) → Rising (documents_after s r.documents)
documents_rise r k s = rising_after s r.documents (apart r k)

-- ---- one after the other

above_all : (q : ℕ) (xs : List (Id × Document)) → ((y : Id × Document) → In y xs → q < own y) → above q xs ≡ xs
above_all q [] h = above_nil q
above_all q (x ∷ xs) h = above_keep q x xs (h x (inl refl)) ∙ ap (λ (l : List (Id × Document)). x ∷ l) (above_all q xs (λ y m. h y (inr m)))

-- "Documents come in order of their sequence": the one with the lowest above s, then those after it
pub after_next : (r : Replica) → IsReplica r → (s : Seq) (d : Id × Document) → first_of (documents_after s r.documents) ≡ Some d
    → documents_after s r.documents ≡ d ∷ documents_after d.1.seq r.documents
after_next r k s d e = go (documents_after s r.documents) refl
  where
    ds : Map Id Document
    ds = r.documents

    go : (xs : List (Id × Document)) → documents_after s ds ≡ xs → documents_after s ds ≡ d ∷ documents_after d.1.seq ds
    go [] q = absurd (none≢some (sym (ap first_of q) ∙ e))
    go (x ∷ xs) q =
        let same : x ≡ d = some_inj (sym (ap first_of q) ∙ e) in
        let up : Rising (x ∷ xs) = subst Rising q (rising_after s ds (apart r k)) in
        let low : s.0 < own x = after_over s ds x (subst (λ (l : List (Id × Document)). In x l) (sym q) (inl refl)) in
        let rest : documents_after x.1.seq ds ≡ xs
        = sym (after_above s x.1.seq ds (omega arith))
        ∙ (ap (above (own x)) q ∙ (above_skip (own x) x xs (omega arith) ∙ above_all (own x) xs up.0)) in
        q ∙ rw (sym same, rest)
