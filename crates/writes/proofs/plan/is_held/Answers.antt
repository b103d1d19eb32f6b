-- `plan::is_held` meets its contract: number, hash, and the parent where one is given. Assumes nothing.
use mathlib.Core.Path.{◌≡◌, refl, sym, ◌∙◌}
use mathlib.Core.Bool.{true}
use Prim.Native.Nat.{◌+◌, ◌-◌, ◌*◌, ◌<◌}
use native.Mathlib.Omega.{arith}
use Rattle.rules.specs.Layout.{hash_in}
use Rattle.rules.specs.Room.{hash_size}
use Rattle.writes.specs.Path.{count_of}
use Rattle.writes.proofs.SettledLaws.{fields, same_hash, other_number, other_hash, none_given, none_held, by_parent}
use Rattle.writes.proofs.plan.is_held.Goals.{After-same_hashes, Else-next-path}
use Rattle.writes.proofs.plan.is_held.Goals as goal

pub returns-then-n-number : goal.returns-then-n-number
returns-then-n-number c =
    let a = c.args in
    sym (other_number a.p a.b.now a.number.0 a.path.now a.k (λ e. c.if-n-number.true (c.number-n.ensures.is ∙ e)))

pub same_hashes-requires : goal.same_hashes-requires
unfolding count_of
same_hashes-requires c = let h = c.requires.1.within in (omega arith, omega arith)

-- ---- the number is the same, then the hash too, and then there is a parent

same : (c : After-same_hashes) → let a = c.args in (fields a.p a.b.now).rev.number.0 ≡ a.number.0 - a.k
same c = let g = c.number-n.ensures.is in let z = c.if-n-number.false in omega arith

hash : (c : Else-next-path) → let a = c.args in same_hash a.p a.b.now a.number.0 a.path.now a.k hash_in a.k ≡ true
hash c = sym c.same_hashes.ensures ∙ c.if-not-same_hashes.false

more : (c : Else-next-path) → let a = c.args in a.k + 1 < count_of a.path.now
unfolding count_of
more c = let w = c.if-next-path.false in let l = c.requires.1.within in omega arith

pub returns-then-not-same_hashes : goal.returns-then-not-same_hashes
returns-then-not-same_hashes c =
    let a = c.args in
    sym (other_hash a.p a.b.now a.number.0 a.path.now a.k (same (goal.at.returns-then-not-same_hashes c).After-same_hashes) (sym c.same_hashes.ensures ∙ c.if-not-same_hashes.true))

pub returns-then-next-path : goal.returns-then-next-path
unfolding count_of
returns-then-next-path c =
    let a = c.args in
    let w = c.if-next-path.true in
    sym (none_given a.p a.b.now a.number.0 a.path.now a.k (same (goal.at.returns-then-next-path c).After-same_hashes) (sym c.same_hashes.ensures ∙ c.if-not-same_hashes.false) (omega arith))

pub returns-then-known-eq0 : goal.returns-then-known-eq0
returns-then-known-eq0 c =
    let a = c.args in
    let h = goal.at.returns-then-known-eq0 c in
    let e = h.Else-next-path in
    sym (none_held a.p a.b.now a.number.0 a.path.now a.k (same h.After-same_hashes) (hash e) (more e) (sym c.known.ensures.is ∙ c.if-known-eq0.true))

pub overflow_add-at : goal.overflow_add-at
unfolding count_of
overflow_add-at c = let h = more (goal.at.overflow_add-at c).Else-next-path in omega arith

pub same_hashes-requires-2 : goal.same_hashes-requires-2
unfolding count_of
same_hashes-requires-2 c = let h = more (goal.at.same_hashes-requires-2 c).Else-next-path in (omega arith, omega arith)

pub returns : goal.returns
returns c =
    let a = c.args in
    let h = goal.at.returns c in
    let e = h.Else-next-path in
    let p = by_parent a.p a.b.now a.number.0 a.path.now a.k (same h.After-same_hashes) (hash e) (more e) (λ z. c.if-known-eq0.false (c.known.ensures.is ∙ z)) in
    let j : a.k * hash_size + hash_size ≡ (a.k + 1) * hash_size = omega arith in
    c.same_hashes-2.ensures ∙ sym (p ∙ rw j refl)
