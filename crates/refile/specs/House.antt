-- What a check for house refusals answers: this boundary's first one that holds, or none.
use Rattle.std.specs.Prelude.{◌≡◌, Bool, List, ℕ}
use Rattle.std.specs.Prelude.{Option, None, Some, Result, Ok, Err}
use Rattle.rules.specs.Choice.{first_that}
use Rattle.refile.specs.declared.number.HouseRefusal.{HouseRefusal}
use Rattle.refile.specs.declared.number.HouseRefusal.TheVariants.{BadReplica, BadKind, BadLabel, BadFlag, BadHash, BadNoParent, BadStart}

abbrev pub house_number : HouseRefusal → ℕ
house_number BadReplica = 100
house_number BadKind = 101
house_number BadLabel = 102
house_number BadFlag = 103
house_number BadHash = 104
house_number BadNoParent = 105
house_number BadStart = 106

abbrev pub first_house : Result (Unit {0}) HouseRefusal → Option ℕ
first_house (Ok u) = None
first_house (Err x) = Some (house_number x)

pub record House (house : List (Bool × ℕ)) (r : Result (Unit {0}) HouseRefusal) : Type 0 where
  pub first : first_that house ≡ first_house r
