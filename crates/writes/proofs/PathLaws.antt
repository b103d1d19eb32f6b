-- What a path gives, hash by hash: the k-th of what a write gives, and that its numbers fall. Assumes nothing.
use mathlib.Core.Path.{◌≡◌, refl, sym, ap, ap₂, ◌∙◌, subst}
use mathlib.Core.Bool.{Bool, true, false}
use mathlib.Core.List.{List, [], ◌∷◌}
use Rattle.std.specs.Prelude.{Option, None, Some}
use Prim.Native.Nat.{ℕ, zero, suc, pred, ◌+◌, ◌-◌, ◌/◌, ◌≤◌, ◌<◌}
use native.Mathlib.Numerals.{sub-one}
use native.Mathlib.Omega.{arith}
use lib.Dec.{ltb}
use lib.ListN.{length, drop, drop_of_length-le}
use lib.Seq.{drop-cons}
use borrow.Author.Tests.{ltb-true, ltb-false, ne_eqb}
use Rattle.rules.specs.declared.Content.{Content}
use Rattle.rules.specs.declared.Revision.{Revision}
use Rattle.rules.specs.Choice.{pick}
use Rattle.rules.specs.Replica.{Hash, revision, Node}
use Rattle.rules.specs.Room.{hash_size}
use Rattle.rules.specs.Write.{Write, hashes, newest_of, along, gives}
use Rattle.rules.proofs.ByteLaws.{length-pieces, get_d_pieces}
use Rattle.writes.specs.Path.{count_of, hash_at, rev_at, parent_at, content_at, given_at, gives_of}

-- ---- along a path

length-along : (n : ℕ) (hs : List Hash) (c : Option Content) → length (along n hs c) ≡ length hs
unfolding along
length-along n [] c = refl
length-along n (h ∷ hs) c = ap suc (length-along (pred n) hs None)

-- the content given k hashes after the newest
abbrev pub later : ℕ → Option Content → Option Content
later zero c = c
later (suc k) c = None

later_none : (k : ℕ) → later k None ≡ None
later_none zero = refl
later_none (suc k) = refl

pred_sub : (n k : ℕ) → pred n - k ≡ n - suc k
pred_sub n k = let e = sub-one n in omega arith

pub drop-along : (k n : ℕ) (hs : List Hash) (c : Option Content) → drop k (along n hs c) ≡ along (n - k) (drop k hs) (later k c)
unfolding along
drop-along zero n hs c = let z : n ≡ n - 0 = omega arith in ap (λ (m : ℕ). along m hs c) z
drop-along (suc k) n [] c = refl
drop-along (suc k) n (h ∷ hs) c =
    drop-along k (pred n) hs None ∙ ap₂ (λ (m : ℕ) (o : Option Content). along m (drop k hs) o) (pred_sub n k) (later_none k)

-- ---- the k-th of what a write gives

pub length-gives : (w : Write) → length (gives w) ≡ count_of w.path
unfolding gives hashes count_of
length-gives w =
    length-along w.number.0 (hashes w) (Some w.content) ∙ length-pieces (length w.path / hash_size) hash_size w.path

next_hash : (w : Write) (k : ℕ) → k < count_of w.path → drop k (hashes w) ≡ hash_at w.path k ∷ drop (suc k) (hashes w)
unfolding hashes hash_at count_of
next_hash w k h =
    let m : ℕ = length w.path / hash_size in
    let l : k < length (hashes w) = subst (λ (x : ℕ). k < x) (sym (length-pieces m hash_size w.path)) h in
    drop-cons (hashes w) k [] l ∙ ap (λ (x : Hash). x ∷ drop (suc k) (hashes w)) (get_d_pieces m hash_size k w.path h)

no_hash : (w : Write) (k : ℕ) → count_of w.path ≤ k → drop k (hashes w) ≡ []
unfolding hashes count_of
no_hash w k h =
    let m : ℕ = length w.path / hash_size in
    let l : length (hashes w) ≤ k = subst (λ (x : ℕ). x ≤ k) (sym (length-pieces m hash_size w.path)) h in
    drop_of_length-le (hashes w) l

later_at : (k : ℕ) (c : Content) → later k (Some c) ≡ content_at c k
later_at zero c = refl
later_at (suc k) c = ap (λ (t : Bool). pick t (Some c) None) (sym (ne_eqb (suc k) 0 (λ e. omega arith)))

parent_next : (w : Write) (k : ℕ) → newest_of (pred (w.number.0 - k)) (drop (suc k) (hashes w)) ≡ parent_at w.number.0 w.path k
unfolding parent_at rev_at
parent_next w k = go (ltb (k + 1) (count_of w.path)) refl
  where
    n : ℕ
    n = w.number.0

    parent : Option Revision
    parent = Some (rev_at n w.path (k + 1))

    go : (t : Bool) → ltb (k + 1) (count_of w.path) ≡ t → newest_of (pred (n - k)) (drop (suc k) (hashes w)) ≡ parent_at n w.path k
    go true e =
        let l = ltb-true (k + 1) (count_of w.path) e in
        let a : pred (n - k) ≡ n - (k + 1) = let s = sub-one (n - k) in omega arith in
        let b : suc k ≡ k + 1 = omega arith in
        ap (newest_of (pred (n - k))) (next_hash w (suc k) (omega arith))
        ∙ (ap₂ (λ (x y : ℕ). Some (revision x (hash_at w.path y))) a b ∙ sym (ap (λ (t : Bool). pick t parent None) e))
    go false e =
        let l = ltb-false (k + 1) (count_of w.path) e in
        ap (newest_of (pred (n - k))) (no_hash w (suc k) (omega arith)) ∙ sym (ap (λ (t : Bool). pick t parent None) e)

-- what is left from the k-th on
pub gives_next : (w : Write) (k : ℕ) → k < count_of w.path → drop k (gives w) ≡ given_at w.number.0 w.path w.content k ∷ drop (suc k) (gives w)
unfolding gives given_at along rev_at
gives_next w k h =
    let n : ℕ = w.number.0 in
    let p : pred (n - k) ≡ n - suc k = let s = sub-one (n - k) in omega arith in
    drop-along k n (hashes w) (Some w.content)
    ∙ (ap (λ (hs : List Hash). along (n - k) hs (later k (Some w.content))) (next_hash w k h)
    ∙ (ap₂
    (λ (o : Option Revision) (c : Option Content).
    (revision (n - k) (hash_at w.path k), record { parent = o; content = c }) ∷ along (pred (n - k)) (drop (suc k) (hashes w)) None)
    (parent_next w k) (later_at k w.content)
    ∙ ap (λ (l : List (Revision × Node)). given_at n w.path w.content k ∷ l)
    (ap (λ (m : ℕ). along m (drop (suc k) (hashes w)) None) p ∙ sym (drop-along (suc k) n (hashes w) (Some w.content)))))

-- the id doesn't matter
pub gives_of_lem : (w : Write) → gives w ≡ gives_of w.number w.path w.content
unfolding gives_of gives hashes
gives_of_lem w = refl
