-- Each public function has one outcome. Assumes nothing.
use Rattle.std.proofs.Common.{refl, ap}
use Rattle.rules.specs.declared.RevNumber.{RevNumber}
use Rattle.rules.specs.declared.Seq.{Seq}
use Rattle.rules.specs.Outcome.{OneOutcome, OneOutcomeBy, nothing}
use Rattle.rules.proofs.OutcomeLaws.{fixed}
use Rattle.layout.proofs.head.edition.Kinds as edition
use Rattle.layout.proofs.head.edition.Reads as edition'
use Rattle.layout.proofs.head.documents.Kinds as documents
use Rattle.layout.proofs.head.documents.Reads as documents'
use Rattle.layout.proofs.head.revisions.Kinds as revisions
use Rattle.layout.proofs.head.revisions.Reads as revisions'
use Rattle.layout.proofs.head.head_zero.Kinds as head-zero
use Rattle.layout.proofs.head.head_zero.Reads as head-zero'
use Rattle.layout.proofs.head.sequence.Kinds as sequence
use Rattle.layout.proofs.head.sequence.Reads as sequence'
use Rattle.layout.proofs.head.total.Kinds as total
use Rattle.layout.proofs.head.total.Reads as total'
use Rattle.layout.proofs.head.put_edition.Kinds as put-edition
use Rattle.layout.proofs.head.put_edition.Reads as put-edition'
use Rattle.layout.proofs.head.put_documents.Kinds as put_documents
use Rattle.layout.proofs.head.put_documents.Reads as put-documents'
use Rattle.layout.proofs.head.put_revisions.Kinds as put_revisions
use Rattle.layout.proofs.head.put_revisions.Reads as put-revisions'
use Rattle.layout.proofs.head.put_sequence.Kinds as put-sequence
use Rattle.layout.proofs.head.put_sequence.Reads as put-sequence'
use Rattle.layout.proofs.head.put_total.Kinds as put-total
use Rattle.layout.proofs.head.put_total.Reads as put-total'
use Rattle.layout.proofs.entry.entry_place.Kinds as entry_IsPlace
use Rattle.layout.proofs.entry.entry_place.Reads as entry-place'
use Rattle.layout.proofs.entry.id.Kinds as id
use Rattle.layout.proofs.entry.id.Reads as id'
use Rattle.layout.proofs.entry.id_size.Kinds as id-size
use Rattle.layout.proofs.entry.id_size.Reads as id-size'
use Rattle.layout.proofs.entry.rows.Kinds as rows
use Rattle.layout.proofs.entry.rows.Reads as rows'
use Rattle.layout.proofs.entry.own.Kinds as own
use Rattle.layout.proofs.entry.own.Reads as own'
use Rattle.layout.proofs.entry.place.Kinds as place
use Rattle.layout.proofs.entry.place.Reads as place'
use Rattle.layout.proofs.entry.put_rows.Kinds as put-rows
use Rattle.layout.proofs.entry.put_rows.Reads as put-rows'
use Rattle.layout.proofs.entry.put_own.Kinds as put-own
use Rattle.layout.proofs.entry.put_own.Reads as put-own'
use Rattle.layout.proofs.entry.put_place.Kinds as put-place
use Rattle.layout.proofs.entry.put_place.Reads as put-place'
use Rattle.layout.proofs.row.number.Kinds as number
use Rattle.layout.proofs.row.number.Reads as number'
use Rattle.layout.proofs.row.hash.Kinds as hash
use Rattle.layout.proofs.row.hash.Reads as hash'
use Rattle.layout.proofs.row.kind.Kinds as kind
use Rattle.layout.proofs.row.kind.Reads as kind'
use Rattle.layout.proofs.row.known.Kinds as known
use Rattle.layout.proofs.row.known.Reads as known'
use Rattle.layout.proofs.row.row_zero.Kinds as row_zero
use Rattle.layout.proofs.row.row_zero.Reads as row-zero'
use Rattle.layout.proofs.row.parent.Kinds as parent
use Rattle.layout.proofs.row.parent.Reads as parent'
use Rattle.layout.proofs.row.label.Kinds as label
use Rattle.layout.proofs.row.label.Reads as label'

pub edition_outcome : OneOutcome _ edition.ps edition.r edition'.Asked edition'.Learnt nothing
edition_outcome κs a x y s t h p q = (fixed p.is q.is, refl)

pub documents_outcome : OneOutcome _ documents.ps documents.r documents'.Asked documents'.Learnt nothing
documents_outcome κs a x y s t h p q = (fixed p.is q.is, refl)

pub revisions_outcome : OneOutcome _ revisions.ps revisions.r revisions'.Asked revisions'.Learnt nothing
revisions_outcome κs a x y s t h p q = (fixed p.is q.is, refl)

pub head_zero_outcome : OneOutcome _ head-zero.ps head-zero.r head-zero'.Asked head-zero'.Learnt nothing
head_zero_outcome κs a x y s t h p q = (fixed p.is q.is, refl)

pub sequence_outcome : OneOutcome _ sequence.ps sequence.r sequence'.Asked sequence'.Learnt nothing
sequence_outcome κs a x y s t h p q = (ap {B = Seq} (λ n. record { 0 = n }) (fixed p.is q.is), refl)

pub total_outcome : OneOutcome _ total.ps total.r total'.Asked total'.Learnt nothing
total_outcome κs a x y s t h p q = (fixed p.is q.is, refl)

pub put_edition_outcome : OneOutcome _ put-edition.ps put-edition.r put-edition'.Asked put-edition'.Learnt (λ κs s. s.0.now)
put_edition_outcome κs a x y s t h p q = (refl, fixed p q)

pub put_documents_outcome : OneOutcome _ put_documents.ps put_documents.r put-documents'.Asked put-documents'.Learnt (λ κs s. s.0.now)
put_documents_outcome κs a x y s t h p q = (refl, fixed p q)

pub put_revisions_outcome : OneOutcome _ put_revisions.ps put_revisions.r put-revisions'.Asked put-revisions'.Learnt (λ κs s. s.0.now)
put_revisions_outcome κs a x y s t h p q = (refl, fixed p q)

pub put_sequence_outcome : OneOutcome _ put-sequence.ps put-sequence.r put-sequence'.Asked put-sequence'.Learnt (λ κs s. s.0.now)
put_sequence_outcome κs a x y s t h p q = (refl, fixed p.is q.is)

pub put_total_outcome : OneOutcome _ put-total.ps put-total.r put-total'.Asked put-total'.Learnt (λ κs s. s.0.now)
put_total_outcome κs a x y s t h p q = (refl, fixed p.is q.is)

pub entry_place_outcome : OneOutcome _ entry_IsPlace.ps entry_IsPlace.r entry-place'.Asked entry-place'.Learnt nothing
entry_place_outcome κs a x y s t h p q = (fixed p q, refl)

pub id_outcome : OneOutcomeBy _ id.ps id.r id'.Asked id'.Learnt (λ κs x. x.now) nothing
id_outcome κs a x y s t h p q = (fixed p q, refl)

pub id_size_outcome : OneOutcome _ id-size.ps id-size.r id-size'.Asked id-size'.Learnt nothing
id_size_outcome κs a x y s t h p q = (fixed p.is q.is, refl)

pub rows_outcome : OneOutcome _ rows.ps rows.r rows'.Asked rows'.Learnt nothing
rows_outcome κs a x y s t h p q = (fixed p.is q.is, refl)

pub own_outcome : OneOutcome _ own.ps own.r own'.Asked own'.Learnt nothing
own_outcome κs a x y s t h p q = (ap {B = Seq} (λ n. record { 0 = n }) (fixed p.is q.is), refl)

pub place_outcome : OneOutcome _ place.ps place.r place'.Asked place'.Learnt nothing
place_outcome κs a x y s t h p q = (fixed p.is q.is, refl)

pub put_rows_outcome : OneOutcome _ put-rows.ps put-rows.r put-rows'.Asked put-rows'.Learnt (λ κs s. s.0.now)
put_rows_outcome κs a x y s t h p q = (refl, fixed p q)

pub put_own_outcome : OneOutcome _ put-own.ps put-own.r put-own'.Asked put-own'.Learnt (λ κs s. s.0.now)
put_own_outcome κs a x y s t h p q = (refl, fixed p.is q.is)

pub put_place_outcome : OneOutcome _ put-place.ps put-place.r put-place'.Asked put-place'.Learnt (λ κs s. s.0.now)
put_place_outcome κs a x y s t h p q = (refl, fixed p.is q.is)

pub number_outcome : OneOutcome _ number.ps number.r number'.Asked number'.Learnt nothing
number_outcome κs a x y s t h p q = (ap {B = RevNumber} (λ n. record { 0 = n }) (fixed p.is q.is), refl)

pub hash_outcome : OneOutcome _ hash.ps hash.r hash'.Asked hash'.Learnt nothing
hash_outcome κs a x y s t h p q = (fixed p.is q.is, refl)

pub kind_outcome : OneOutcome _ kind.ps kind.r kind'.Asked kind'.Learnt nothing
kind_outcome κs a x y s t h p q = (fixed p.is q.is, refl)

pub known_outcome : OneOutcome _ known.ps known.r known'.Asked known'.Learnt nothing
known_outcome κs a x y s t h p q = (fixed p.is q.is, refl)

pub row_zero_outcome : OneOutcome _ row_zero.ps row_zero.r row-zero'.Asked row-zero'.Learnt nothing
row_zero_outcome κs a x y s t h p q = (fixed p.is q.is, refl)

pub parent_outcome : OneOutcome _ parent.ps parent.r parent'.Asked parent'.Learnt nothing
parent_outcome κs a x y s t h p q = (fixed p.is q.is, refl)

pub label_outcome : OneOutcome _ label.ps label.r label'.Asked label'.Learnt nothing
label_outcome κs a x y s t h p q = (fixed p.is q.is, refl)
