-- `save` meets its contract. Assumes nothing.
use mathlib.Core.Path.{refl, ap, ◌∙◌, ◌≡◌}
use native.Mathlib.Omega.{arith}
use lib.ListN.{length}
use Rattle.rules.specs.Image.{image, total_length}
use Rattle.octets.specs.Splice.{splice}
use Rattle.store.proofs.FitLaws.{stored_laid}
use Rattle.store.specs.Storage.{replica_of}
use Rattle.codec.proofs.SaveLaws.{image_from_lem, can_write, saved_length, save_short, save_written}
use Rattle.codec.proofs.save.Goals as goal

pub documents_held-d-requires : goal.documents_held-d-requires
documents_held-d-requires c = stored_laid _ c.requires

pub revisions_held-r-requires : goal.revisions_held-r-requires
revisions_held-r-requires c = stored_laid _ c.requires

pub returns-then-out-total : goal.returns-then-out-total
returns-then-out-total c =
    let size : total_length c.documents_held-d.result c.revisions_held-r.result
    ≡ length (image (replica_of c.args.b.now)) = saved_length _ _ _ _ c.requires c.documents_held-d.ensures c.revisions_held-r.ensures refl in
    save_short _ _ _ size (omega (arith, c.if-out-total.true))

pub write_image-requires : goal.write_image-requires
write_image-requires c = can_write _ _ _ _ c.requires c.documents_held-d.ensures c.revisions_held-r.ensures (omega (arith, c.if-out-total.false))

pub returns : goal.returns
returns c =
    let size : total_length c.documents_held-d.result c.revisions_held-r.result
    ≡ length (image (replica_of c.args.b.now)) = saved_length _ _ _ _ c.requires c.documents_held-d.ensures c.revisions_held-r.ensures refl in
    let image = image_from_lem _ _ _ c.requires c.documents_held-d.ensures c.revisions_held-r.ensures in
    save_written _ _ _ size _ (omega (arith, c.if-out-total.false)) (c.write_image.ensures ∙ ap (splice _ 0) image)
