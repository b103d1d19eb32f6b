-- The own sequences: they meet the rule on them exactly if each is above 0 and no two documents have the same. Assumes nothing.
use mathlib.Core.Path.{◌≡◌, refl, sym, ap, ◌∙◌, subst}
use Rattle.std.specs.declared.cmp.Ordering.TheVariants.{Less}
use mathlib.Core.Bool.{Bool, false, ◌||◌}
use mathlib.Core.List.{List, [], ◌∷◌, map}
use mathlib.Core.Logic.{◌≢◌}
use Rattle.std.specs.Prelude.{Some}
use Prim.Native.Nat.{ℕ, ◌≤◌}
use native.Mathlib.Omega.{arith}
use lib.Dec.{eqb}
use borrow.Author.Tests.{eqb-false, ne_eqb}
use Rattle.rules.specs.declared.Seq.{Seq}
use Rattle.rules.specs.Choice.{any}
use Rattle.rules.specs.Faults.{bad_seqs}
use Rattle.rules.specs.Layout.{Entry}
use Rattle.rules.specs.Map.{Map, find, Ascending}
use Rattle.rules.specs.Order.{order_bytes}
use Rattle.rules.specs.Replica.{Id, Document}
use Rattle.rules.proofs.MapLaws.{none≢some}
use Rattle.rules.proofs.OrderLaws.{bytes_order, no_less_self}
use Rattle.images.proofs.Tests.{or_none, or_left, or_right, AllFalse}
use Rattle.images.proofs.Lists.{Each, each_onto, each_from}
use Rattle.images.proofs.Members.{Place, place, each_find, find_each, find_head, find_later, find_tail}

abbrev pub seq_of : Id × Document → ℕ
seq_of d = d.1.seq.0

-- no two are equal
abbrev pub Distinct : List ℕ → Type 0
Distinct [] = Unit {0}
Distinct (n ∷ ns) = Each (λ m. n ≢ m) ns × Distinct ns

seq_tests : List ℕ → List ℕ → List Bool
seq_tests before [] = []
seq_tests before (n ∷ ns) = (eqb n 0 || any (eqb n) before) ∷ seq_tests (n ∷ before) ns

seqs_tests : (before : List ℕ) (es : List Entry) → bad_seqs before es ≡ seq_tests before (map (λ (e : Entry). e.seq) es)
unfolding bad_seqs seq_tests
seqs_tests before [] = refl
seqs_tests before (e ∷ es) = ap {B = List Bool} (λ l. (eqb e.seq 0 || any (eqb e.seq) before) ∷ l) (seqs_tests (e.seq ∷ before) es)

-- not among those before
abbrev Apart : List ℕ → ℕ → Type 0
Apart before n = any (eqb n) before ≡ false

tests_forth : (before ns : List ℕ) → Each (λ n. 1 ≤ n) ns → Each (Apart before) ns → Distinct ns → AllFalse (seq_tests before ns)
unfolding seq_tests any
tests_forth before [] a b c = tt
tests_forth before (n ∷ ns) a b c = (
  or_none (eqb n 0) (any (eqb n) before) (let h = a.0 in ne_eqb n 0 (λ e. omega arith)) b.0,
  tests_forth (n ∷ before) ns a.1 (apart ns c.0 b.1) c.1,
)
  where
    apart : (ms : List ℕ) → Each (λ m. n ≢ m) ms → Each (Apart before) ms → Each (Apart (n ∷ before)) ms
    apart [] p q = tt
    apart (m ∷ ms) p q = (or_none (eqb m n) (any (eqb m) before) (ne_eqb m n (λ e. p.0 (sym e))) q.0, apart ms p.1 q.1)

record SeqsHold (before ns : List ℕ) : Type 0 where
  least : Each (λ n. 1 ≤ n) ns
  apart : Each (Apart before) ns
  distinct : Distinct ns

tests_back : (before ns : List ℕ) → AllFalse (seq_tests before ns) → SeqsHold before ns
unfolding seq_tests any
tests_back before [] h = record { least = tt; apart = tt; distinct = tt }
tests_back before (n ∷ ns) h = go (tests_back (n ∷ before) ns h.1)
  where
    old : (ms : List ℕ) → Each (Apart (n ∷ before)) ms → Each (Apart before) ms
    old [] p = tt
    old (m ∷ ms) p = (or_right (eqb m n) (any (eqb m) before) p.0, old ms p.1)

    new : (ms : List ℕ) → Each (Apart (n ∷ before)) ms → Each (λ m. n ≢ m) ms
    new [] p = tt
    new (m ∷ ms) p = ((λ e. eqb-false m n (or_left (eqb m n) (any (eqb m) before) p.0) (sym e)), new ms p.1)

    go : SeqsHold (n ∷ before) ns → SeqsHold before (n ∷ ns)
    go r = record {
      least = ((let z : n ≢ 0 = eqb-false n 0 (or_left (eqb n 0) (any (eqb n) before) h.0) in omega arith), r.least);
      apart = (or_right (eqb n 0) (any (eqb n) before) h.0, old ns r.apart);
      distinct = (new ns r.apart, r.distinct);
    }

-- "own sequence 0 or repeated": no entry, exactly if all are above 0 and no two are equal
pub seqs_forth : (es : List Entry) → Each (λ n. 1 ≤ n) (map (λ (e : Entry). e.seq) es) → Distinct (map (λ (e : Entry). e.seq) es) → AllFalse (bad_seqs [] es)
unfolding any
seqs_forth es a b =
    let ns : List ℕ = map (λ (e : Entry). e.seq) es in
    subst AllFalse (sym (seqs_tests [] es)) (tests_forth [] ns a (go ns) b)
  where
    go : (ms : List ℕ) → Each (Apart []) ms
    go [] = tt
    go (m ∷ ms) = (refl, go ms)

pub seqs_back : (es : List Entry) → AllFalse (bad_seqs [] es)
    → Each (λ n. 1 ≤ n) (map (λ (e : Entry). e.seq) es) × Distinct (map (λ (e : Entry). e.seq) es)
seqs_back es h = let r = tests_back [] (map (λ (e : Entry). e.seq) es) (subst AllFalse (seqs_tests [] es) h) in (r.least, r.distinct)

-- no other document has this sequence, by `find`
abbrev pub OwnSeqs : Map Id Document → Type 0
OwnSeqs ds = (i j : Id) (d e : Document) → find order_bytes i ds ≡ Some d → find order_bytes j ds ≡ Some e → e.seq ≡ d.seq → j ≡ i

pub own_forth : (ds : Map Id Document) → Ascending order_bytes ds → OwnSeqs ds → Distinct (map seq_of ds)
own_forth [] s own = tt
own_forth (x ∷ xs) s own = (
  each_onto (λ m. seq_of x ≢ m) seq_of xs (find_each bytes_order (λ y. seq_of x ≢ seq_of y) xs s.1 other),
  own_forth xs s.1 (λ i j d e p q. own i j d e (find_tail bytes_order i d x xs s p) (find_tail bytes_order j e x xs s q)),
)
  where
    other : (k : Id) (a : Document) → find order_bytes k xs ≡ Some a → seq_of x ≡ a.seq.0 → ⊥
    other k a e q =
        let same : a.seq ≡ x.1.seq = λ i. record { 0 = sym q i } in
        let z : k ≡ x.0 = own x.0 k x.1 a (find_head bytes_order x xs) (find_tail bytes_order k a x xs s e) same in
        no_less_self bytes_order k (subst (λ (j : Id). order_bytes j k ≡ Less) (sym z) (find_later bytes_order k a x xs s e))

pub own_back : (ds : Map Id Document) → Distinct (map seq_of ds) → OwnSeqs ds
unfolding find
own_back [] u i j d e p q m = absurd (none≢some p)
own_back (x ∷ xs) u i j d e p q m =
    go (place bytes_order i d x xs p) (place bytes_order j e x xs q) (λ a b. own_back xs u.1 i j d e a b m)
  where
    other : (k : Id) (a : Document) → find order_bytes k xs ≡ Some a → seq_of x ≢ a.seq.0
    other = each_find bytes_order (λ y. seq_of x ≢ seq_of y) xs (each_from (λ n. seq_of x ≢ n) seq_of xs u.0)

    go : Place bytes_order i d x xs → Place bytes_order j e x xs → (find order_bytes i xs ≡ Some d → find order_bytes j xs ≡ Some e → j ≡ i) → j ≡ i
    go (Place.here a b) (Place.here a' b') f = a' ∙ sym a
    go (Place.here a b) (Place.there t) f = absurd (other j e t (ap (λ (y : Document). y.seq.0) b ∙ ap (λ (y : Seq). y.0) (sym m)))
    go (Place.there t) (Place.here a b) f = absurd (other i d t (ap (λ (y : Document). y.seq.0) b ∙ ap (λ (y : Seq). y.0) m))
    go (Place.there t) (Place.there t') f = f t t'
