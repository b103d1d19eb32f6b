-- `read::find_document` meets its contract. What is left to search gives the same answer. Assumes nothing.
use mathlib.Core.Path.{◌≡◌, refl, sym, ap, ◌∙◌}
use Rattle.std.specs.Prelude.{Err}
use Rattle.store.proofs.PlaceLaws.{search_less, search_equal, search_next, search_end}
use native.Mathlib.Omega.{arith}
use Rattle.store.proofs.read.find_document.Goals as goal

pub documents_held-n-requires : goal.documents_held-n-requires
documents_held-n-requires c = c.requires

pub loop-d-init : goal.loop-d-init
loop-d-init c = refl

pub id_of-requires : goal.id_of-requires
id_of-requires c = record { laid = c.requires; within = omega (arith, c.documents_held-n.ensures) }

pub returns-in-Less : goal.returns-in-Less
returns-in-Less c =
    sym (c.loop-d.invariant ∙ search_less _ _ c.loop-d.d (omega (arith, c.documents_held-n.ensures)) c.id_of.ensures
    c.order_bytes.ensures c.in-Less.is)

pub returns-in-Equal : goal.returns-in-Equal
returns-in-Equal c =
    sym (c.loop-d.invariant ∙ search_equal _ _ c.loop-d.d (omega (arith, c.documents_held-n.ensures)) c.id_of.ensures
    c.order_bytes.ensures c.in-Equal.is)

pub loop-d-preserved : goal.loop-d-preserved
loop-d-preserved c =
    c.loop-d.invariant ∙ search_next _ _ c.loop-d.d (omega (arith, c.documents_held-n.ensures)) c.id_of.ensures
    c.order_bytes.ensures c.in-Greater.is

pub returns : goal.returns
returns c =
    let i = c.loop-d.d in
    let e : i ≡ c.documents_held-n.result = omega arith in
    sym (c.loop-d.invariant ∙ (search_end _ _ i (omega (arith, c.documents_held-n.ensures)) ∙ ap Err e))
