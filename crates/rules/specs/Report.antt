-- "The check program": what it prints for the bytes that it read.
use Rattle.std.specs.Prelude.{List, [], ◌∷◌, ◌++◌, map, ℕ, zero, suc, ◌+◌, ◌/◌, ◌%◌, eqb, ltb, length, take}
use Rattle.rules.specs.declared.Refusal.{Refusal}
use Rattle.std.specs.Prelude.{Result}
use Prim.Native.Char.{code}
use Prim.Native.String.{String}
use Rattle.rules.specs.declared.Fault.{Fault}
use Rattle.rules.specs.declared.Revision.{Revision}
use Rattle.rules.specs.declared.Seq.{Seq}
use Rattle.rules.specs.Bytes.{join}
use Rattle.rules.specs.Choice.{pick, maybe, first_that}
use Rattle.rules.specs.Faults.{faults}
use Rattle.rules.specs.Image.{replica_in, total_length}
use Rattle.rules.specs.Room.{documents_most, revisions_most}
use Rattle.rules.specs.Read.{leaves, winner, conflicts, reads}
use Rattle.rules.specs.Refusal.{fault_number}
use Rattle.rules.specs.Replica.{Id, Document, Replica, revision, revisions_held}

-- ---- numbers and bytes as text

-- the last n decimal digits
unfoldable pub digits : ℕ → ℕ → List ℕ
digits zero v = []
digits (suc n) v = digits n (v / 10) ++ ((48 + v % 10) ∷ [])

-- without leading zeros, but for the last digit
unfoldable pub trim : List ℕ → List ℕ
trim [] = []
trim (c ∷ []) = c ∷ []
trim (c ∷ e ∷ cs) = pick (eqb c 48) (trim (e ∷ cs)) (c ∷ e ∷ cs)

-- "Numbers are decimal": none has over twenty digits
unfoldable pub decimal : ℕ → List ℕ
decimal v = trim (digits 20 v)

-- "hex is lower case"
unfoldable pub hex_digit : ℕ → ℕ
hex_digit n = pick (ltb n 10) (48 + n) (87 + n)

unfoldable pub hex : List ℕ → List ℕ
hex [] = []
hex (b ∷ bs) = hex_digit (b / 16) ∷ hex_digit (b % 16) ∷ hex bs

-- a text's bytes
unfoldable pub text : String → List ℕ
text String.[] = []
text (String.◌∷◌ c s) = code c ∷ text s

-- ---- the words of the lines

abbrev pub seq_word : String
seq_word = "seq "

abbrev pub documents_word : String
documents_word = " documents "

abbrev pub revisions_word : String
revisions_word = " revisions "

abbrev pub own_word : String
own_word = " seq "

abbrev pub winner_word : String
winner_word = " winner "

abbrev pub dash : String
dash = "-"

abbrev pub leaves_word : String
leaves_word = " leaves "

abbrev pub conflicts_word : String
conflicts_word = " conflicts "

abbrev pub refused_word : String
refused_word = "refused "

abbrev pub at_word : String
at_word = " at "

abbrev pub newline : String
newline = "\n"

-- ---- the lines

-- what a document's line says
pub record Line : Type 0 where
  pub id : Id
  pub seq : Seq
  pub winner : Revision
  pub leaves : ℕ
  pub conflicts : ℕ

-- (every document of a replica has a leaf, so the winner's stand-in is never printed)
unfoldable pub line_of : Id × Document → Line
line_of d = record {
  id = d.0;
  seq = d.1.seq;
  winner = maybe (revision 0 []) (λ w. w.rev) (winner d.1.tree);
  leaves = length (leaves d.1.tree);
  conflicts = length (conflicts d.1.tree);
}

-- "winner as number and hash"
unfoldable pub rev_text : Revision → List ℕ
rev_text v = decimal v.number.0 ++ (text dash ++ hex v.hash)

-- "id in hex, own sequence, winner as number and hash, leaf count, conflict count"
unfoldable pub line_text : Line → List ℕ
line_text l =
    hex l.id
    ++ (text own_word
    ++ (decimal l.seq.0
    ++ (text winner_word
    ++ (rev_text l.winner
    ++ (text leaves_word
    ++ (decimal l.leaves ++ (text conflicts_word ++ (decimal l.conflicts ++ text newline))))))))

-- "a head line (update sequence, documents, revisions)"
unfoldable pub head_text : Replica → List ℕ
head_text r =
    text seq_word
    ++ (decimal r.seq.0
    ++ (text documents_word
    ++ (decimal (length r.documents)
    ++ (text revisions_word ++ (decimal (revisions_held r.documents) ++ text newline)))))

-- "and one line per document in image order"
unfoldable pub replica_text : Replica → List ℕ
replica_text r = head_text r ++ join (map (λ d. line_text (line_of d)) r.documents)

-- "A refused image prints `refused N at P`."
unfoldable pub refused_text : Fault × ℕ → List ℕ
refused_text f =
    text refused_word ++ (decimal (fault_number f.0) ++ (text at_word ++ (decimal f.1 ++ text newline)))

unfoldable pub report : List ℕ → List ℕ
report s = maybe (replica_text (replica_in s)) refused_text (first_that (faults s))

-- the report written to a lent buffer
unfoldable pub read_report : List ℕ → List ℕ → Result ℕ Refusal × List ℕ
read_report s out = let bytes = report s in reads [] (length bytes) bytes out

-- "Input past 26,001 bytes is not read.": one more than the largest image
abbrev pub input_most : ℕ
input_most = suc (total_length documents_most revisions_most)

-- what the program prints for its input
unfoldable pub printed : List ℕ → List ℕ
printed input = report (take input_most input)
