-- `row::put_row` meets its contract. Assumes nothing.
use mathlib.Core.Path.{◌∙◌}
use native.Mathlib.Omega.{arith}
use Rattle.tree.proofs.RowLaws.{content_fits, known_stored, parent_fits, parent_stored, row_written}
use Rattle.tree.specs.Rows.{FitsRow, meaning}
use Rattle.tree.proofs.row.put_row.Goals as goal

pub returns : goal.returns
unfolding meaning
returns c =
    let a = c.args in
    let row = a.row in
    let fits : FitsRow (meaning row) = record {
      number = c.put4.ensures.small;
      hash = c.put_hash.ensures.size;
      parent = parent_fits row.rev row.parent (rw c.unwrap_or.ensures at c.put_hash-2.ensures.size);
      content = content_fits row.content (rw c.label_of.ensures at c.put8.ensures.small);
    } in
    let written = row_written a.s.now a.at (meaning row) fits (omega (arith, c.requires)) in
    record {
      is = c.put8.ensures.is ∙ rw (c.put_hash-2.ensures.is, c.put_marks.ensures, c.put_hash.ensures.is, c.put4.ensures.is)
          (rw (c.kind_byte.ensures, c.flag_of.ensures ∙ known_stored row.rev row.parent, c.unwrap_or.ensures ∙ parent_stored row.rev row.parent, c.label_of.ensures) written);
      fits = fits;
    }
