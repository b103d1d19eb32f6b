-- `take_in` meets its contract. Assumes nothing.
use mathlib.Core.Path.{refl}
use native.Mathlib.Omega.{arith}
use lib.ListN.{length-take, length-drop}
use Rattle.rules.specs.Bytes.{Bytes}
use Rattle.rules.specs.Layout.{head_of}
use Rattle.rules.specs.Image.{replica_in}
use Rattle.rules.specs.Replica.{revisions_held}
use Rattle.codec.proofs.TakeLaws.{bytes_all, stands, taken, Stands}
use Rattle.codec.proofs.take_in.Goals as goal

pub documents-d-requires : goal.documents-d-requires
documents-d-requires c =
    let image_bytes : Bytes c.args.image.now = bytes_all c.args.image.now (λ i. omega (arith, c.shared_slice_known-1.given i)) in
    let s = c.args.image.now in
    let t = stands s image_bytes c.requires.fine (head_of s).documents refl in
    omega arith

pub slice_bounds-lay_out-count : goal.slice_bounds-lay_out-count
slice_bounds-lay_out-count c =
    let image_bytes : Bytes c.args.image.now = bytes_all c.args.image.now (λ i. omega (arith, c.shared_slice_known-1.given i)) in
    let stand : let s = c.args.image.now in
    Stands s c.documents-d.result (revisions_held (replica_in s).documents) = stands c.args.image.now image_bytes c.requires.fine c.documents-d.result c.documents-d.ensures.is in
    let t = stand in omega arith

pub slice_bounds-lay_out-start : goal.slice_bounds-lay_out-start
slice_bounds-lay_out-start c =
    let image_bytes : Bytes c.args.image.now = bytes_all c.args.image.now (λ i. omega (arith, c.shared_slice_known-1.given i)) in
    let stand : let s = c.args.image.now in
    Stands s c.documents-d.result (revisions_held (replica_in s).documents) = stands c.args.image.now image_bytes c.requires.fine c.documents-d.result c.documents-d.ensures.is in
    let t = stand in omega arith

pub lay_out-requires : goal.lay_out-requires
lay_out-requires c =
    let image_bytes : Bytes c.args.image.now = bytes_all c.args.image.now (λ i. omega (arith, c.shared_slice_known-1.given i)) in
    let stand : let s = c.args.image.now in
    Stands s c.documents-d.result (revisions_held (replica_in s).documents) = stands c.args.image.now image_bytes c.requires.fine c.documents-d.result c.documents-d.ensures.is in
    let t = stand in
    record { size = c.requires.size; most = t.documents; there = omega arith; fit = simp (length-take, length-drop) (omega arith) }

pub returns : goal.returns
returns c =
    let image_bytes : Bytes c.args.image.now = bytes_all c.args.image.now (λ i. omega (arith, c.shared_slice_known-1.given i)) in
    taken c.args.image.now image_bytes c.requires.fine c.documents-d.result c.documents-d.ensures.is _ c.lay_out.ensures
