-- A refusal or none, as a value of the code.
use Rattle.std.specs.Prelude.{Option, None, Some}
use Rattle.std.specs.Prelude.{Result, Ok, Err}
use Rattle.rules.specs.declared.Refusal.{Refusal}

abbrev pub verdict_of : Option Refusal → Result (Unit {0}) Refusal
verdict_of None = Ok tt
verdict_of (Some n) = Err n
