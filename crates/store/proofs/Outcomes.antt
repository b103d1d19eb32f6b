-- Each public function has one outcome. Assumes nothing.
use mathlib.Core.Path.{◌≡◌, refl}
use mathlib.Core.List.{List}
use Prim.Native.Nat.{ℕ}
use Rattle.rules.specs.Outcome.{OneOutcome, OneOutcomeBy, nothing}
use Rattle.rules.proofs.OutcomeLaws.{fixed}
use Rattle.tree.specs.declared.table.Body.{Body}
use Rattle.store.specs.Documents.{IsBody}
use Rattle.store.proofs.read.bad_id.Kinds as bad-id
use Rattle.store.proofs.read.bad_id.Reads as bad-id'
use Rattle.store.proofs.read.documents_held.Kinds as documents-held
use Rattle.store.proofs.read.documents_held.Reads as documents-held'
use Rattle.store.proofs.read.revisions_held.Kinds as revisions-held
use Rattle.store.proofs.read.revisions_held.Reads as revisions-held'
use Rattle.store.proofs.read.update_sequence.Kinds as update-sequence
use Rattle.store.proofs.read.update_sequence.Reads as update-sequence'
use Rattle.store.proofs.read.own_sequence.Kinds as own-sequence
use Rattle.store.proofs.read.own_sequence.Reads as own-sequence'
use Rattle.store.proofs.read.row_count.Kinds as row_count
use Rattle.store.proofs.read.row_count.Reads as row-count'
use Rattle.store.proofs.read.id_of.Kinds as id-of
use Rattle.store.proofs.read.id_of.Reads as id-of'
use Rattle.store.proofs.read.find_document.Kinds as find-document
use Rattle.store.proofs.read.find_document.Reads as find-document'
use Rattle.store.proofs.read.body_of.Kinds as body_of
use Rattle.store.proofs.read.body_of.Reads as body-of'
use Rattle.store.proofs.read.body_at.Kinds as body_at
use Rattle.store.proofs.read.body_at.Reads as body-at'
use Rattle.store.proofs.read.body_of_id.Kinds as body-of-id
use Rattle.store.proofs.read.body_of_id.Reads as body-of-id'
use Rattle.store.proofs.change.make_fresh.Kinds as make-fresh
use Rattle.store.proofs.change.make_fresh.Reads as make-fresh'
use Rattle.store.proofs.change.set_sequences.Kinds as set-sequences
use Rattle.store.proofs.change.set_sequences.Reads as set-sequences'
use Rattle.store.proofs.change.add_document.Kinds as add-document
use Rattle.store.proofs.change.add_document.Reads as add-document'
use Rattle.store.proofs.change.learn_row.Kinds as learn-row
use Rattle.store.proofs.change.learn_row.Reads as learn-row'

one_body : {s : List ℕ} {d : ℕ} {x y : Body} → IsBody s d x → IsBody s d y → x ≡ y
one_body p q =
    let b = fixed p.base q.base in
    let n = fixed p.rows q.rows in
    λ i. record { base = b i; rows = n i }

pub bad_id_outcome : OneOutcome _ bad-id.ps bad-id.r bad-id'.Asked bad-id'.Learnt nothing
bad_id_outcome κs a x y s t h p q = (fixed p q, refl)

pub documents_held_outcome : OneOutcome _ documents-held.ps documents-held.r documents-held'.Asked documents-held'.Learnt nothing
documents_held_outcome κs a x y s t h p q = (fixed p q, refl)

pub revisions_held_outcome : OneOutcome _ revisions-held.ps revisions-held.r revisions-held'.Asked revisions-held'.Learnt nothing
revisions_held_outcome κs a x y s t h p q = (fixed p q, refl)

pub update_sequence_outcome : OneOutcome _ update-sequence.ps update-sequence.r update-sequence'.Asked update-sequence'.Learnt nothing
update_sequence_outcome κs a x y s t h p q = (fixed p q, refl)

pub own_sequence_outcome : OneOutcome _ own-sequence.ps own-sequence.r own-sequence'.Asked own-sequence'.Learnt nothing
own_sequence_outcome κs a x y s t h p q = (fixed p q, refl)

pub row_count_outcome : OneOutcome _ row_count.ps row_count.r row-count'.Asked row-count'.Learnt nothing
row_count_outcome κs a x y s t h p q = (fixed p q, refl)

pub id_of_outcome : OneOutcomeBy _ id-of.ps id-of.r id-of'.Asked id-of'.Learnt (λ κs x. x.now) nothing
id_of_outcome κs a x y s t h p q = (fixed p q, refl)

pub find_document_outcome : OneOutcome _ find-document.ps find-document.r find-document'.Asked find-document'.Learnt nothing
find_document_outcome κs a x y s t h p q = (fixed p q, refl)

pub body_of_outcome : OneOutcome _ body_of.ps body_of.r body-of'.Asked body-of'.Learnt nothing
body_of_outcome κs a x y s t h p q = (one_body p q, refl)

pub body_at_outcome : OneOutcome _ body_at.ps body_at.r body-at'.Asked body-at'.Learnt nothing
body_at_outcome κs a x y s t h p q = (fixed p q, refl)

pub body_of_id_outcome : OneOutcome _ body-of-id.ps body-of-id.r body-of-id'.Asked body-of-id'.Learnt nothing
body_of_id_outcome κs a x y s t h p q = (fixed p.is q.is, refl)

pub make_fresh_outcome : OneOutcome _ make-fresh.ps make-fresh.r make-fresh'.Asked make-fresh'.Learnt (λ κs s. s.0.now)
make_fresh_outcome κs a x y s t h p q = (refl, fixed p.bytes q.bytes)

pub set_sequences_outcome : OneOutcome _ set-sequences.ps set-sequences.r set-sequences'.Asked set-sequences'.Learnt (λ κs s. s.0.now)
set_sequences_outcome κs a x y s t h p q = (refl, fixed p.bytes q.bytes)

pub add_document_outcome : OneOutcome _ add-document.ps add-document.r add-document'.Asked add-document'.Learnt (λ κs s. s.0.now)
add_document_outcome κs a x y s t h p q = (refl, fixed p.bytes q.bytes)

pub learn_row_outcome : OneOutcome _ learn-row.ps learn-row.r learn-row'.Asked learn-row'.Learnt (λ κs s. s.0.now)
learn_row_outcome κs a x y s t h p q =
    let e = fixed p.holds.bytes q.holds.bytes in (one_body (rw e at p.body) q.body, e)
