-- "put a document's leaves out so, a line each, highest first, without spaces, in the order just named".
use Rattle.std.specs.Prelude.{Bool, List, [], ◌∷◌, ◌++◌, map, ℕ, length}
use Rattle.std.specs.Prelude.{Result, Ok, Err}
use Rattle.rules.specs.declared.Content.{Content}
use Rattle.rules.specs.declared.Content.TheVariants.{Live, Deleted}
use Rattle.rules.specs.declared.Refusal.{Refusal}
use Rattle.rules.specs.declared.Refusal.TheVariants.{UnwritableId}
use Rattle.rules.specs.Bytes.{join}
use Rattle.rules.specs.Choice.{maybe, first_that}
use Rattle.rules.specs.Read.{LeafOf, leaves, path_of, document_refusals, reads}
use Rattle.rules.specs.Replica.{Id, Hash, Tree, Replica, tree_of}
use Rattle.rules.specs.Report.{decimal, hex, text, rev_text, newline}
use Rattle.lines.specs.Said.{quoted}
use Rattle.lines.specs.Take.{unwritable}

-- ---- the line of a leaf

-- a member: its name, a colon, its value
unfoldable pub member_text : List ℕ → List ℕ → List ℕ
member_text name value = quoted name ++ (text ":" ++ value)

-- more after a comma
unfoldable pub and_more : List (List ℕ) → List ℕ
and_more [] = []
and_more (t ∷ ts) = text "," ++ (t ++ and_more ts)

-- with commas between them
unfoldable pub listed : List (List ℕ) → List ℕ
listed [] = []
listed (t ∷ ts) = t ++ and_more ts

unfoldable pub ids_text : List Hash → List ℕ
ids_text hs = text "[" ++ (listed (map (λ h. quoted (hex h)) hs) ++ text "]")

unfoldable pub revisions_text : ℕ → List Hash → List ℕ
revisions_text n hs =
    text "{" ++ (listed (member_text (text "start") (decimal n) ∷ member_text (text "ids") (ids_text hs) ∷ []) ++ text "}")

abbrev pub content_text : Content → List ℕ
content_text (Live n) = member_text (text "label") (decimal n)
content_text Deleted = member_text (text "_deleted") (text "true")

-- the line of a leaf of the document i, with its whole known path
unfoldable pub leaf_line : Id → Tree → LeafOf → List ℕ
leaf_line i t a =
    text "{"
    ++ (listed
    (member_text (text "_id") (quoted i)
    ∷ member_text (text "_rev") (quoted (rev_text a.rev))
    ∷ member_text (text "_revisions") (revisions_text a.rev.number.0 (path_of t a.rev))
    ∷ content_text a.content
    ∷ [])
    ++ (text "}" ++ text newline))

-- "a line each, highest first"
unfoldable pub lines_text : Id → Tree → List ℕ
lines_text i t = join (map (leaf_line i t) (leaves t))

-- ---- the calls

-- "Putting out checks 1, 12, 43, 14."
unfoldable pub put_refusals : Replica → Id → List (Bool × Refusal)
put_refusals r i = document_refusals r i ++ ((unwritable i, UnwritableId) ∷ [])

unfoldable pub put_out : Replica → Id → List ℕ → Result ℕ Refusal × List ℕ
put_out r i out = let bytes = lines_text i (tree_of r i) in reads (put_refusals r i) (length bytes) bytes out

-- how many bytes that would be: 14 is never met, since nothing is lent
unfoldable pub put_out_size : Replica → Id → Result ℕ Refusal
put_out_size r i =
    maybe (Ok (length (lines_text i (tree_of r i)))) Err (first_that (put_refusals r i))
