-- `table::find` meets its contract. Assumes nothing.
use mathlib.Core.Path.{◌∙◌, sym}
use native.Mathlib.Omega.{arith}
use Rattle.tree.proofs.SearchLaws.{at_last, before_last, past_last, place_none, search_front}
use Rattle.tree.proofs.table.find.Goals as goal

pub returns-then-rows-eq0 : goal.returns-then-rows-eq0
returns-then-rows-eq0 c =
    let a = c.args in
    sym (place_none a.body.base a.body.rows a.rev a.s.now c.if-rows-eq0.true)

pub search-requires : goal.search-requires
search-requires c =
    let a = c.args in
    search_front a.body a.rev a.s.now c.requires (omega arith)

pub returns-in-Less : goal.returns-in-Less
returns-in-Less c =
    let a = c.args in
    let o = sym c.compare_at.ensures ∙ c.in-Less.is in
    c.search.ensures ∙ before_last a.body a.rev a.s.now c.requires (omega arith) o

pub returns-in-Equal : goal.returns-in-Equal
returns-in-Equal c =
    let a = c.args in
    let o = sym c.compare_at.ensures ∙ c.in-Equal.is in
    sym (at_last a.body a.rev a.s.now c.requires (omega arith) o)

pub returns-in-Greater : goal.returns-in-Greater
returns-in-Greater c =
    let a = c.args in
    let o = sym c.compare_at.ensures ∙ c.in-Greater.is in
    sym (past_last a.body a.rev a.s.now c.requires (omega arith) o)
