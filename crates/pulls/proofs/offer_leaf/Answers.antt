-- `offer_leaf` meets its contract: the path stands at the front of the scratch place, and the write is the offer. Assumes nothing.
use native.Mathlib.Omega.{arith}
use lib.ListN.{length-take}
use Rattle.pulls.proofs.OfferLaws.{was_put, offer_made}
use Rattle.pulls.proofs.offer_leaf.Goals as goal

pub put_path-end-requires : goal.put_path-end-requires
put_path-end-requires c =
    let f = c.requires.few in
    let h = c.requires.room in
    record { rows = c.requires.rows; room = omega arith }

pub slice_bounds-offer-end-2 : goal.slice_bounds-offer-end-2
slice_bounds-offer-end-2 c =
    let put = was_put c.requires.few c.requires.room c.put_path-end.ensures in
    simp length-take (omega (arith, put.within, put.room, c.requires.room))

pub offer-requires : goal.offer-requires
offer-requires c = c.requires.target

pub returns : goal.returns
returns c = offer_made {i = c.args.id.now} (was_put c.requires.few c.requires.room c.put_path-end.ensures) c.offer.ensures
