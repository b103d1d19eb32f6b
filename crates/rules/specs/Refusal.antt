-- "Refusal numbers": each case of a refusal and of an image's fault, with its number.
use Rattle.std.specs.Prelude.{ℕ}
use Rattle.rules.specs.declared.Refusal.{Refusal}
use Rattle.rules.specs.declared.Refusal.TheVariants.{BadId, BadPath, LowNumber, OtherParent, OtherContent, DocumentsFull, RevisionsFull, SequenceSpent}
use Rattle.rules.specs.declared.Refusal.TheVariants.{NotAParent, AlreadyKnown, LastNumber, NoDocument, NoRevision, ShortBuffer, BadAsked}
use Rattle.rules.specs.declared.Refusal.TheVariants.{NotJson, BadMember, OtherRevisions, UnwritableId}
use Rattle.rules.specs.declared.Fault.{Fault}
use Rattle.rules.specs.declared.Fault.TheVariants.{TooShort, BadEdition, BadHead, BadContents, BadSequence, BadRow, BadParent}

abbrev pub refusal_number : Refusal → ℕ
refusal_number BadId = 1
refusal_number BadPath = 2
refusal_number LowNumber = 3
refusal_number OtherParent = 4
refusal_number OtherContent = 5
refusal_number DocumentsFull = 6
refusal_number RevisionsFull = 7
refusal_number SequenceSpent = 8
refusal_number NotAParent = 9
refusal_number AlreadyKnown = 10
refusal_number LastNumber = 11
refusal_number NoDocument = 12
refusal_number NoRevision = 13
refusal_number ShortBuffer = 14
refusal_number BadAsked = 15
refusal_number NotJson = 40
refusal_number BadMember = 41
refusal_number OtherRevisions = 42
refusal_number UnwritableId = 43

abbrev pub fault_number : Fault → ℕ
fault_number TooShort = 20
fault_number BadEdition = 21
fault_number BadHead = 22
fault_number BadContents = 23
fault_number BadSequence = 24
fault_number BadRow = 25
fault_number BadParent = 26
