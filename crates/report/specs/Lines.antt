-- Parts of a report's lines, how long each is at most, and what a caller shows to have one written.
use Rattle.std.specs.Prelude.{List, [], ◌++◌, map, ℕ, ◌+◌, ◌-◌, ◌*◌, ◌≤◌, ◌<◌, length}
use Prim.Native.String.{String}
use Rattle.rules.specs.declared.Revision.{Revision}
use Rattle.rules.specs.Bytes.{join}
use Rattle.rules.specs.Choice.{maybe}
use Rattle.rules.specs.Map.{Map}
use Rattle.rules.specs.Read.{leaves, winner}
use Rattle.rules.specs.Replica.{Id, revision, Tree, Document}
use Rattle.rules.specs.Report.{decimal, text, documents_word, revisions_word, seq_word, own_word, winner_word, leaves_word, conflicts_word, refused_word, at_word, newline, line_of, rev_text, line_text}
use Rattle.rules.specs.Room.{documents_most, revisions_most, id_most}
use Rattle.text.specs.Text.{decimal_most, size, hex_size, rev_most}
use Rattle.tree.specs.declared.table.Body.{Body}
use Rattle.store.specs.Storage.{Laid, IsStored}
use Rattle.store.specs.Documents.{documents_of}
use Rattle.reads.specs.Reads.{CanRead}

-- the most bytes of a word with a number after it
abbrev pub field_most : String → ℕ
field_most s = size s + decimal_most

-- the most bytes of each line and of its parts
abbrev pub head_most : ℕ
head_most = field_most seq_word + field_most documents_word + field_most revisions_word + size newline

abbrev pub counts_most : ℕ
counts_most = field_most leaves_word + field_most conflicts_word + size newline

-- the two counts with the winner before them
abbrev pub standing_most : ℕ
standing_most = size winner_word + rev_most + counts_most

abbrev pub line_most : ℕ
line_most = hex_size id_most + field_most own_word + standing_most

abbrev pub refused_most : ℕ
refused_most = field_most refused_word + field_most at_word + size newline

-- and of a whole report
abbrev pub report_most : ℕ
report_most = head_most + line_most * documents_most

pub record CanPutHead (b s : List ℕ) : Type 0 where
  pub laid : Laid b
  pub room : head_most ≤ length s

-- "leaf count, conflict count": every leaf but the winner is a conflict
unfoldable pub counts_text : ℕ → List ℕ
counts_text n = text leaves_word ++ (decimal n ++ (text conflicts_word ++ (decimal (n - 1) ++ text newline)))

pub record CanPutCounts (s : List ℕ) (at n : ℕ) : Type 0 where
  pub least : 1 ≤ n
  pub most : n ≤ revisions_most
  pub room : at + counts_most ≤ length s

-- as a line gives it
unfoldable pub winner_rev : Tree → Revision
winner_rev t = maybe (revision 0 []) (λ w. w.rev) (winner t)

-- "winner as number and hash, leaf count, conflict count"
unfoldable pub standing_text : Tree → List ℕ
standing_text t = text winner_word ++ (rev_text (winner_rev t) ++ counts_text (length (leaves t)))

pub record CanPutStanding (body : Body) (b s : List ℕ) (at : ℕ) : Type 0 where
  pub rows : CanRead body b
  pub most : body.rows ≤ revisions_most
  pub room : at + standing_most ≤ length s

pub record CanPutLine (b : List ℕ) (d : ℕ) (s : List ℕ) (at : ℕ) : Type 0 where
  pub stored : IsStored b
  pub within : d < length (documents_of b)
  pub room : at + line_most ≤ length s

-- "one line per document in image order"
unfoldable pub lines_text : Map Id Document → List ℕ
lines_text ds = join (map (λ d. line_text (line_of d)) ds)

pub record CanPutLines (b s : List ℕ) (at : ℕ) : Type 0 where
  pub stored : IsStored b
  pub room : at + line_most * length (documents_of b) ≤ length s

pub record CanPutReplica (b s : List ℕ) : Type 0 where
  pub stored : IsStored b
  pub room : report_most ≤ length s
