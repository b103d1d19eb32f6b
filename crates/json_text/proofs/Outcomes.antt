-- Each public function has one outcome. Assumes nothing.
use mathlib.Core.Path.{refl}
use Rattle.rules.specs.Outcome.{OneOutcome, nothing}
use Rattle.rules.proofs.OutcomeLaws.{fixed}
use Rattle.json_text.specs.Grammar.{string, scalar}
use Rattle.json_text.proofs.PlaceLaws.{ws_place, exact_one_answer, placed_one_answer, whether_one_answer}
use Rattle.json_text.proofs.peek.Kinds as peek
use Rattle.json_text.proofs.peek.Reads as peek'
use Rattle.json_text.proofs.skip_ws.Kinds as skip-ws
use Rattle.json_text.proofs.skip_ws.Reads as skip-ws'
use Rattle.json_text.proofs.skip_string.Kinds as skip-string
use Rattle.json_text.proofs.skip_string.Reads as skip-string'
use Rattle.json_text.proofs.can_end.Kinds as can-end
use Rattle.json_text.proofs.can_end.Reads as can-end'
use Rattle.json_text.proofs.skip_scalar.Kinds as skip-scalar
use Rattle.json_text.proofs.skip_scalar.Reads as skip-scalar'

pub peek_outcome : OneOutcome _ peek.ps peek.r peek'.Asked peek'.Learnt nothing
peek_outcome κs a x y s t h p q = (fixed p q, refl)

pub skip_ws_outcome : OneOutcome _ skip-ws.ps skip-ws.r skip-ws'.Asked skip-ws'.Learnt nothing
skip_ws_outcome κs a x y s t h p q = (ws_place a.0.now a.1.0 x y p q, refl)

pub skip_string_outcome : OneOutcome _ skip-string.ps skip-string.r skip-string'.Asked skip-string'.Learnt nothing
skip_string_outcome κs a x y s t h p q = (exact_one_answer string a.0.now a.1.0 x y p q, refl)

pub can_end_outcome : OneOutcome _ can-end.ps can-end.r can-end'.Asked can-end'.Learnt nothing
can_end_outcome κs a x y s t h p q = (whether_one_answer _ x y p q, refl)

pub skip_scalar_outcome : OneOutcome _ skip-scalar.ps skip-scalar.r skip-scalar'.Asked skip-scalar'.Learnt nothing
skip_scalar_outcome κs a x y s t h p q = (placed_one_answer scalar a.0.now a.1.0 x y p q, refl)
