-- `contents::contents_fault` meets its contract. Assumes nothing.
use mathlib.Core.Path.{◌≡◌, sym, ap, ◌∙◌}
use Rattle.std.proofs.Common.{rules, tests}
use Rattle.std.specs.Prelude.{None, Some}
use Prim.Native.Nat.{ℕ, ◌+◌}
use native.Mathlib.Numerals.{add-one}
use native.Mathlib.Omega.{arith}
use lib.Dec.{eqb}
use Rattle.rules.specs.Choice.{pick}
use Rattle.rules.specs.Layout.{head_of}
use Rattle.images.proofs.Entries.{entry_rules}
use Rattle.faults.specs.Places.{row_place, entry_at, id_before}
use Rattle.faults.proofs.FirstLaws.{contents_from, contents_all, contents_bad, contents_next, contents_end}
use Rattle.faults.proofs.contents.contents_fault.Goals as goal

pub loop-i-init : goal.loop-i-init
loop-i-init c =
    let s = c.args.s.now in
    (omega arith, tt, contents_all s ∙ ap (λ (n : ℕ). contents_from s n (head_of s).revisions 0 0) (sym c.documents-d.ensures.is))

pub entry_bad-requires : goal.entry_bad-requires
entry_bad-requires c =
    let h = c.requires.size in
    let e = c.documents-d.ensures.is in
    record { within = omega arith; before = c.loop-i.invariant.1 }

pub returns-then-entry_bad : goal.returns-then-entry_bad
returns-then-entry_bad c =
    let s = c.args.s.now in
    sym (c.loop-i.invariant.2 ∙ contents_bad s c.documents-d.result (head_of s).revisions c.loop-i.i c.loop-i.sum (omega arith) (sym c.entry_bad.ensures ∙ c.if-entry_bad.true))

pub loop-i-preserved : goal.loop-i-preserved
loop-i-preserved c =
    let d = c.documents-d.result in
    let s = c.args.s.now in
    let i = c.loop-i.i in
    let good = sym c.entry_bad.ensures ∙ c.if-entry_bad.false in
    let next = contents_next s d (head_of s).revisions i c.loop-i.sum (omega arith) good in (
      omega (arith, c.rows-sum.ensures.small),
      rw (add-one i) (entry_rules (row_place d c.loop-i.sum) (id_before i s) (entry_at i s) good).most,
      c.loop-i.invariant.2 ∙ (next ∙ ap (λ (k : ℕ). contents_from s d (head_of s).revisions (i + 1) (c.loop-i.sum + k)) (sym c.rows-sum.ensures.is)),
    )

pub returns : goal.returns
returns c =
    let d = c.documents-d.result in
    let s = c.args.s.now in
    let told : c.then_some.result ≡ pick (eqb c.loop-i.sum (head_of s).revisions) None (Some d) = search (rules, tests) in
    told ∙ sym (c.loop-i.invariant.2 ∙ contents_end s d (head_of s).revisions c.loop-i.i c.loop-i.sum (omega arith))
