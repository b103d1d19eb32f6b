-- Lines in and out, as one table of data beside the fourteen.
use Rattle.std.specs.Prelude.{List, [], ◌∷◌, ◌++◌, ◌≡◌, ℕ}
use Rattle.rules.specs.declared.Refusal.{Refusal}
use Rattle.rules.specs.declared.Outcome.{Outcome}
use Rattle.std.specs.Prelude.{Result}
use Prim.Native.String.{String}
use Rattle.rules.specs.Answer.{Numbered, refused, written_number}
use Rattle.rules.specs.Examples.{lot, changed, unchanged}
use Rattle.rules.specs.Replica.{Replica, tree_of}
use Rattle.rules.specs.Report.{text}
use Rattle.lines.specs.Put.{lines_text}
use Rattle.lines.specs.Take.{TakesIn}

-- a text in pieces; a byte above 7e hex is written as the character of that number
unfoldable pub texts : List String → List ℕ
texts [] = []
texts (p ∷ ps) = text p ++ texts ps

pub data Step : Type 0 where
  -- a line taken into what the steps before left, and its answer
  takes : List String → Numbered → Step
  -- what the document "lot" gives, put out
  puts : List String → Step

-- the steps one after the other, each as the table says; a line has no other outcome (`TakesLaws.takes_one`)
abbrev pub Goes : Replica → List Step → Type 0
Goes r [] = Unit {0}
Goes r (takes l n ∷ steps) = (o : Result Outcome Refusal × Replica) × TakesIn r (texts l) o × (written_number o.0 ≡ n) × Goes o.1 steps
Goes r (puts t ∷ steps) = (lines_text lot (tree_of r lot) ≡ texts t) × Goes r steps

-- the hashes of 01's cases: "its first byte, the rest zeros"
abbrev pub h20 : String
h20 = "20000000000000000000000000000000"

abbrev pub h91 : String
h91 = "91000000000000000000000000000000"

abbrev pub h4c : String
h4c = "4c000000000000000000000000000000"

abbrev pub h05 : String
h05 = "05000000000000000000000000000000"

unfoldable pub table : List Step
table =
    takes ("{\"_id\":\"lot\",\"_rev\":\"1-" ∷ h20 ∷ "\",\"label\":7}" ∷ []) changed
    ∷ takes (" {\"_id\" : \"lot\",\t\"_rev\":\"1-" ∷ h20 ∷ "\", \"color\":\"gr\\u00fcn\", \"_\":[1,{\"label\":8},null] ,\"label\":7}\r\n" ∷ []) unchanged
    ∷ takes ("{\"_id\":\"lot\",\"_rev\":\"2-" ∷ h91 ∷ "\",\"_revisions\":{\"start\":2,\"ids\":[\"" ∷ h91 ∷ "\",\"" ∷ h20 ∷ "\"],\"of\":2},\"label\":8}" ∷ []) changed
    ∷ puts ("{\"_id\":\"lot\",\"_rev\":\"2-" ∷ h91 ∷ "\",\"_revisions\":{\"start\":2,\"ids\":[\"" ∷ h91 ∷ "\",\"" ∷ h20 ∷ "\"]},\"label\":8}\n" ∷ [])
    ∷ takes ("{\"_id\":\"lot\",\"_rev\":\"2-" ∷ h4c ∷ "\",\"_revisions\":{\"ids\":[\"" ∷ h4c ∷ "\",\"" ∷ h20 ∷ "\"],\"start\":2},\"label\":9}" ∷ []) changed
    ∷ takes ("{\"_deleted\":true,\"_revisions\":{\"start\":3,\"ids\":[\"" ∷ h05 ∷ "\",\"" ∷ h91 ∷ "\",\"" ∷ h20 ∷ "\"]},\"_rev\":\"3-" ∷ h05 ∷ "\",\"_id\":\"lot\"}" ∷ []) changed
    ∷ puts
    ("{\"_id\":\"lot\",\"_rev\":\"3-" ∷ h05 ∷ "\",\"_revisions\":{\"start\":3,\"ids\":[\"" ∷ h05 ∷ "\",\"" ∷ h91 ∷ "\",\"" ∷ h20 ∷ "\"]},\"_deleted\":true}\n"
    ∷ "{\"_id\":\"lot\",\"_rev\":\"2-" ∷ h4c ∷ "\",\"_revisions\":{\"start\":2,\"ids\":[\"" ∷ h4c ∷ "\",\"" ∷ h20 ∷ "\"]},\"label\":9}\n" ∷ [])
    ∷ takes ("{\"_id\":\"most\",\"_rev\":\"4294967295-" ∷ h20 ∷ "\",\"label\":18446744073709551615}" ∷ []) changed
    -- 41: a number that exceeds its field, that isn't bare digits, that leads with a spare zero
    ∷ takes ("{\"_id\":\"lot\",\"_rev\":\"1-" ∷ h20 ∷ "\",\"label\":18446744073709551616}" ∷ []) (refused 41)
    ∷ takes ("{\"_id\":\"lot\",\"_rev\":\"1-" ∷ h20 ∷ "\",\"label\":-0}" ∷ []) (refused 41)
    ∷ takes ("{\"_id\":\"lot\",\"_rev\":\"01-" ∷ h20 ∷ "\",\"label\":7}" ∷ []) (refused 41)
    -- a hash in upper case; a member absent, repeated; both `label` and `_deleted`
    ∷ takes ("{\"_id\":\"lot\",\"_rev\":\"1-AA000000000000000000000000000000\",\"label\":7}" ∷ []) (refused 41)
    ∷ takes ("{\"_id\":\"lot\",\"label\":7}" ∷ []) (refused 41)
    ∷ takes ("{\"_id\":\"lot\",\"_rev\":\"1-" ∷ h20 ∷ "\",\"label\":7,\"_id\":\"lot\"}" ∷ []) (refused 41)
    ∷ takes ("{\"_id\":\"lot\",\"_rev\":\"1-" ∷ h20 ∷ "\",\"label\":7,\"_deleted\":true}" ∷ []) (refused 41)
    -- 42: another number, no ids; and before 43
    ∷ takes ("{\"_id\":\"lot\",\"_rev\":\"1-" ∷ h20 ∷ "\",\"_revisions\":{\"start\":2,\"ids\":[\"" ∷ h20 ∷ "\"]},\"label\":7}" ∷ []) (refused 42)
    ∷ takes ("{\"_id\":\"l\\u006ft\",\"_rev\":\"1-" ∷ h20 ∷ "\",\"_revisions\":{\"start\":1,\"ids\":[]},\"label\":7}" ∷ []) (refused 42)
    -- 43: an id with an escape; then 1, an empty one, and 3, the number 0
    ∷ takes ("{\"_id\":\"l\\u006ft\",\"_rev\":\"1-" ∷ h20 ∷ "\",\"label\":7}" ∷ []) (refused 43)
    ∷ takes ("{\"_id\":\"\",\"_rev\":\"0-" ∷ h20 ∷ "\",\"label\":7}" ∷ []) (refused 1)
    ∷ takes ("{\"_id\":\"lot\",\"_rev\":\"0-" ∷ h20 ∷ "\",\"label\":7}" ∷ []) (refused 3)
    -- 40: nothing, a byte order mark, another value than an object
    ∷ takes [] (refused 40)
    ∷ takes ("ï»¿{}" ∷ []) (refused 40)
    ∷ takes ("[]" ∷ []) (refused 40)
    ∷ takes ("7" ∷ []) (refused 40)
    -- a number that JSON does not have, two objects; and 17 deep, where 16 deep is a line without our members
    ∷ takes ("{\"label\":07}" ∷ []) (refused 40)
    ∷ takes ("{}{}" ∷ []) (refused 40)
    ∷ takes ("{\"a\":[[[[[[[[[[[[[[[[]]]]]]]]]]]]]]]]}" ∷ []) (refused 40)
    ∷ takes ("{\"a\":[[[[[[[[[[[[[[[]]]]]]]]]]]]]]]}" ∷ []) (refused 41)
    ∷ []
