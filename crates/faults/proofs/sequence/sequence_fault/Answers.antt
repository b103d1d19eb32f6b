-- `sequence::sequence_fault` meets its contract. Assumes nothing.
use mathlib.Core.Path.{◌≡◌, sym, ap, ◌∙◌}
use Rattle.std.specs.Prelude.{None, Some}
use Prim.Native.Nat.{ℕ, ◌+◌, max}
use native.Mathlib.Omega.{arith}
use lib.Dec.{eqb}
use Rattle.rules.specs.Choice.{pick}
use Rattle.rules.specs.Layout.{head_of}
use Rattle.faults.proofs.FirstLaws.{sequence_from, sequence_all, sequence_bad, sequence_next, sequence_end}
use Rattle.std.proofs.Common.{rules, tests}
use Rattle.faults.proofs.sequence.sequence_fault.Goals as goal

pub loop-i-init : goal.loop-i-init
loop-i-init c =
    let s = c.args.s.now in
    sequence_all s ∙ ap (λ (n : ℕ). sequence_from s n (head_of s).seq 0 0) (sym c.documents-d.ensures.is)

pub returns-then-own_bad : goal.returns-then-own_bad
returns-then-own_bad c =
    let s = c.args.s.now in
    let bad = rw c.own-q.ensures.is at (sym c.own_bad.ensures ∙ c.if-own_bad.true) in
    sym (c.loop-i.invariant ∙ sequence_bad s c.documents-d.result (head_of s).seq c.loop-i.i c.loop-i.most (omega arith) bad)

pub loop-i-preserved : goal.loop-i-preserved
loop-i-preserved c =
    let d = c.documents-d.result in
    let s = c.args.s.now in
    let good = rw c.own-q.ensures.is at (sym c.own_bad.ensures ∙ c.if-own_bad.false) in
    let next = sequence_next s d (head_of s).seq c.loop-i.i c.loop-i.most (omega arith) good in
    let most = ap (λ (k : ℕ). max c.loop-i.most k) (sym c.own-q.ensures.is) ∙ search rules in
    c.loop-i.invariant ∙ (next ∙ ap (λ (k : ℕ). sequence_from s d (head_of s).seq (c.loop-i.i + 1) k) most)

pub returns : goal.returns
returns c =
    let d = c.documents-d.result in
    let s = c.args.s.now in
    let told : c.then_some.result ≡ pick (eqb (head_of s).seq c.loop-i.most) None (Some d) = search (rules, tests) in
    told ∙ sym (c.loop-i.invariant ∙ sequence_end s d (head_of s).seq c.loop-i.i c.loop-i.most (omega arith))
