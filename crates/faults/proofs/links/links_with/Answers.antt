-- `links::links_with` meets its contract. Assumes nothing.
use mathlib.Core.Path.{◌≡◌, sym, ap, ◌∙◌, subst}
use mathlib.Core.List.{List}
use Prim.Native.Nat.{ℕ}
use native.Mathlib.Omega.{arith}
use lib.ListN.{length, take, drop, length-append, length-take, length-replicate}
use lib.Seq.{take_at}
use Rattle.rules.specs.Room.{revisions_most}
use Rattle.faults.specs.Links.{Marked}
use Rattle.faults.proofs.LinkLaws.{rows_ordered, marks_none, take-blank}
use Rattle.faults.proofs.links.links_with.Goals as goal

pub slice_bounds-mark_parents-end : goal.slice_bounds-mark_parents-end
slice_bounds-mark_parents-end c =
    let blank : length c.args.marks.now ≡ revisions_most = ap length c.requires.blank ∙ length-replicate {A = ℕ} revisions_most 0 in
    let z = blank in let m = c.requires.rows.most in omega arith

pub slice_bounds-mark_parents-end-2 : goal.slice_bounds-mark_parents-end-2
slice_bounds-mark_parents-end-2 c =
    let blank : length c.args.marks.now ≡ revisions_most = ap length c.requires.blank ∙ length-replicate {A = ℕ} revisions_most 0 in
    let z = blank in let m = c.requires.rows.most in simp length-take (omega arith)

pub mark_parents-missing-requires : goal.mark_parents-missing-requires
mark_parents-missing-requires c =
    let a = c.args in
    let o = rows_ordered a.body a.k a.s.now c.requires.rows in
    record {
      ordered = o;
      marks = marks_none a.body.base a.body.rows a.s.now (take a.body.rows a.marks.now) (take-blank a.body.rows revisions_most a.marks.now c.requires.blank o.most);
    }

pub slice_bounds-kinds_in-end : goal.slice_bounds-kinds_in-end
slice_bounds-kinds_in-end c =
    let size : length c.mark_parents-missing.new.marks ≡ c.args.body.rows = c.mark_parents-missing.ensures.marks.size in
    let a = c.args in
    let e = size in
    let z = length-append c.mark_parents-missing.new.marks (drop a.body.rows a.marks.now) in
    omega arith

pub slice_bounds-kinds_in-end-2 : goal.slice_bounds-kinds_in-end-2
slice_bounds-kinds_in-end-2 c =
    let size : length c.mark_parents-missing.new.marks ≡ c.args.body.rows = c.mark_parents-missing.ensures.marks.size in
    let a = c.args in
    sym (ap length (take_at c.mark_parents-missing.new.marks (drop a.body.rows a.marks.now) a.body.rows size) ∙ size)

pub kinds_in-requires : goal.kinds_in-requires
kinds_in-requires c =
    let size : length c.mark_parents-missing.new.marks ≡ c.args.body.rows = c.mark_parents-missing.ensures.marks.size in
    let a = c.args in
    let t = take_at c.mark_parents-missing.new.marks (drop a.body.rows a.marks.now) a.body.rows size in
    record {
      ordered = rows_ordered a.body a.k a.s.now c.requires.rows;
      most = c.requires.rows.most;
      marked = subst (λ (l : List ℕ). Marked a.body.base a.body.rows a.body.rows a.s.now l c.mark_parents-missing.result) (sym t) c.mark_parents-missing.ensures;
    }

pub returns : goal.returns
returns c = c.kinds_in.ensures
