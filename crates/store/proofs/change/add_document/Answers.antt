-- `change::add_document` meets its contract. Assumes nothing.
use mathlib.Core.Path.{refl, ap, ◌∙◌}
use Rattle.octets.specs.Splice.{splice}
use Rattle.store.proofs.EntryLaws.{standing}
use Rattle.store.proofs.RoundLaws.{length-blank}
use Rattle.store.proofs.ChangeLaws.{document_holds}
use native.Mathlib.Omega.{arith}
use Rattle.store.proofs.change.add_document.Goals as goal

pub documents_held-n-requires : goal.documents_held-n-requires
documents_held-n-requires c = c.requires.laid

pub entry_place-p-requires : goal.entry_place-p-requires
entry_place-p-requires c = let q = standing _ c.requires.laid in omega (arith, c.requires.place)

pub overflow_sub-n : goal.overflow_sub-n
overflow_sub-n c = omega (arith, c.requires.place, c.documents_held-n.ensures)

pub overflow_mul-n : goal.overflow_mul-n
overflow_mul-n c =
    let q = standing _ c.requires.laid in
    omega (arith, c.requires.place, c.documents_held-n.ensures)

pub move_up-requires : goal.move_up-requires
move_up-requires c =
    let q = standing _ c.requires.laid in
    omega (arith, c.requires.place, c.requires.room, c.documents_held-n.ensures, c.entry_place-p.ensures)

pub blank_entry-t-requires : goal.blank_entry-t-requires
blank_entry-t-requires c = c.requires.id

pub copy_in-requires : goal.copy_in-requires
copy_in-requires c =
    let q = standing _ c.requires.laid in
    let n = length-blank _ _ c.requires.id c.blank_entry-t.ensures in
    omega (arith, c.requires.place, c.requires.room, c.entry_place-p.ensures, c.b-1.given, n)

pub overflow_add-n : goal.overflow_add-n
overflow_add-n c =
    let q = standing _ c.requires.laid in
    omega (arith, c.documents_held-n.ensures)

pub put_documents-requires : goal.put_documents-requires
put_documents-requires c =
    let q = standing _ c.requires.laid in
    omega (arith, c.b-1.given, c.b-2-1.given)

pub returns : goal.returns
returns c =
    let blank = ap (splice _ _) c.blank_entry-t.ensures in
    document_holds _ _ _ _ _ _ _ _ _ c.requires c.documents_held-n.ensures c.entry_place-p.ensures refl c.move_up.ensures
    (c.copy_in.ensures ∙ blank) c.put_documents.ensures
