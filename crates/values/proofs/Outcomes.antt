-- Each public function has one outcome. Assumes nothing.
use mathlib.Core.Path.{refl}
use Rattle.rules.specs.Outcome.{OneOutcome, nothing}
use Rattle.json_text.specs.Tight.{value}
use Rattle.json_text.proofs.PlaceLaws.{placed_one_answer}
use Rattle.values.proofs.PlaceLaws.{opens_one, follows_one, finds_one}
use Rattle.values.proofs.value_at.Kinds as value-at
use Rattle.values.proofs.value_at.Reads as value-at'
use Rattle.values.proofs.open_at.Kinds as open_at
use Rattle.values.proofs.open_at.Reads as open-at'
use Rattle.values.proofs.after_item.Kinds as after-item
use Rattle.values.proofs.after_item.Reads as after-item'
use Rattle.values.proofs.member_at.Kinds as member-at
use Rattle.values.proofs.member_at.Reads as member-at'

pub value_at_outcome : OneOutcome _ value-at.ps value-at.r value-at'.Asked value-at'.Learnt nothing
value_at_outcome κs a x y s t h p q = (placed_one_answer (value a.1.1.0) a.0.now a.1.0 x y p q, refl)

pub open_at_outcome : OneOutcome _ open_at.ps open_at.r open-at'.Asked open-at'.Learnt nothing
open_at_outcome κs a x y s t h p q = (opens_one a.0.now a.1.0 a.1.1.0 x y p q, refl)

pub after_item_outcome : OneOutcome _ after-item.ps after-item.r after-item'.Asked after-item'.Learnt nothing
after_item_outcome κs a x y s t h p q = (follows_one a.0.now a.1.0 a.1.1.0 h.1.1 x y p q, refl)

pub member_at_outcome : OneOutcome _ member-at.ps member-at.r member-at'.Asked member-at'.Learnt nothing
member_at_outcome κs a x y s t h p q = (finds_one a.1.1.0 a.0.now a.1.0 x y p q, refl)
