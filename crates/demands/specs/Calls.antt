-- Calls of the exported functions: the arguments, the result and what is left of each buffer that was lent
-- to be changed, with the function's own promise of them.
use Rattle.std.specs.Prelude.{◌≡◌, List, [], ℕ, ◌<◌}
use Rattle.std.specs.Prelude.{Option}
use Rattle.std.specs.Int.{w64}
use borrow.Fn.Kinds.{ParamKind, In, Out, r_num}
use Rattle.rules.specs.declared.Revision.{Revision}
use Rattle.rules.specs.declared.Seq.{Seq}
use Rattle.rules.specs.Bytes.{Bytes}
use Rattle.rules.specs.Choice.{maybe}
use Rattle.rules.specs.Edit.{Edit}
use Rattle.rules.specs.Outcome.{Call}
use Rattle.rules.specs.Read.{content_kind, content_label}
use Rattle.rules.specs.Replica.{Id}
use Rattle.rules.specs.Union.{IsWrite}
use Rattle.rules.specs.Write.{Write}
use Rattle.union.specs.Said.{IsEdit}
use Rattle.store.specs.Storage.{IsStored}
use Rattle.lines.specs.Take.{Members}
use Rattle.refile.specs.Boundary.{refused_from, CCall, Lent, fresh_call, load_call, save_call, write_call, take_in_call, edit_call, pull_call}
use Rattle.refile.specs.Boundary.{winner_call, leaves_call, path_call, missing_call, put_out_call, put_out_size_call, changes_call, sequence_call, counts_call, report_call}
use Rattle.refile.specs.Decode.{refusal_in, Told}
use Rattle.refile.proofs.change.refile_fresh.Kinds as freshK
use Rattle.refile.proofs.change.refile_fresh.Reads as freshR
use Rattle.refile.proofs.change.refile_load.Kinds as loadK
use Rattle.refile.proofs.change.refile_load.Reads as loadR
use Rattle.refile.proofs.change.refile_save.Kinds as saveK
use Rattle.refile.proofs.change.refile_save.Reads as saveR
use Rattle.refile.proofs.change.refile_write.Kinds as writeK
use Rattle.refile.proofs.change.refile_write.Reads as writeR
use Rattle.refile.proofs.change.refile_take_in.Kinds as takeInK
use Rattle.refile.proofs.change.refile_take_in.Reads as takeInR
use Rattle.refile.proofs.change.refile_edit.Kinds as editK
use Rattle.refile.proofs.change.refile_edit.Reads as editR
use Rattle.refile.proofs.change.refile_pull.Kinds as pullK
use Rattle.refile.proofs.change.refile_pull.Reads as pullR
use Rattle.refile.proofs.read.refile_winner.Kinds as winnerK
use Rattle.refile.proofs.read.refile_winner.Reads as winnerR
use Rattle.refile.proofs.read.refile_leaves.Kinds as leavesK
use Rattle.refile.proofs.read.refile_leaves.Reads as leavesR
use Rattle.refile.proofs.read.refile_path.Kinds as pathK
use Rattle.refile.proofs.read.refile_path.Reads as pathR
use Rattle.refile.proofs.read.refile_missing.Kinds as missingK
use Rattle.refile.proofs.read.refile_missing.Reads as missingR
use Rattle.refile.proofs.read.refile_put_out.Kinds as putOutK
use Rattle.refile.proofs.read.refile_put_out.Reads as putOutR
use Rattle.refile.proofs.read.refile_put_out_size.Kinds as putOutSizeK
use Rattle.refile.proofs.read.refile_put_out_size.Reads as putOutSizeR
use Rattle.refile.proofs.read.refile_changes.Kinds as changesK
use Rattle.refile.proofs.read.refile_changes.Reads as changesR
use Rattle.refile.proofs.read.refile_update_sequence.Kinds as sequenceK
use Rattle.refile.proofs.read.refile_update_sequence.Reads as sequenceR
use Rattle.refile.proofs.read.refile_counts.Kinds as countsK
use Rattle.refile.proofs.read.refile_counts.Reads as countsR
use Rattle.refile.proofs.read.refile_report.Kinds as reportK
use Rattle.refile.proofs.read.refile_report.Reads as reportR

-- An exported function, which answers a number of 64 bits, and its calls: `given` has the arguments of one in the
-- order of include/refile.h, each slice as its bytes, `left` what it leaves of what was lent to it to be changed,
-- and `means` is its definition in refile's specs/Boundary.antt, of what it is given.
pub record Exported : Type 3 where
  pub n : ℕ
  pub ps : List (ParamKind n)
  pub asked : In n ps
  pub learnt : Out n ps (r_num w64)
  pub Given : Type 0
  pub Left : Type 0
  pub given : Call n ps (r_num w64) asked learnt → Given
  pub left : Call n ps (r_num w64) asked learnt → Left
  pub means : Given → CCall Left

abbrev exported :
    {n : ℕ} (ps : List (ParamKind n)) (asked : In n ps) (learnt : Out n ps (r_num w64)) (Given Left : Type 0) →
    (Call n ps (r_num w64) asked learnt → Given) →
    (Call n ps (r_num w64) asked learnt → Left) →
    (Given → CCall Left) →
    Exported
exported {n} ps asked learnt Given Left given left means =
    record { n = n; ps = ps; asked = asked; learnt = learnt; Given = Given; Left = Left; given = given; left = left; means = means }

abbrev pub CallOf : Exported → Type 0
CallOf f = Call f.n f.ps (r_num w64) f.asked f.learnt

-- a call of it that was given `given`, had the result r and left `buffers`
pub record Called (f : Exported) (given : f.Given) (r : ℕ) (buffers : f.Left) : Type 0 where
  pub call : CallOf f
  pub gives : f.given call ≡ given
  pub answers : call.result ≡ r
  pub left : f.left call ≡ buffers

-- the result of every call of it tells what the call that it means did
pub record Tells (f : Exported) : Type 0 where
  pub told : {given : f.Given} {r : ℕ} {buffers : f.Left} → Called f given r buffers → Told (f.means given) r buffers

-- a buffer that was lent as a replica, after a call with the result r: where it was accepted there is one, and
-- what could be lent before can be lent again
pub record Kept (before : List ℕ) (r : ℕ) (after : List ℕ) : Type 0 where
  pub stands : r < refused_from → IsStored after
  pub lends : Lent before → Lent after

-- a result that is no refusal: refile_refusal of it is 0
abbrev pub IsAccepted : ℕ → Type 0
IsAccepted r = refusal_in r ≡ 0

-- ---- those that make, load, save and change a replica

abbrev pub fresh : Exported
fresh = exported freshK.ps freshR.Asked freshR.Learnt (List ℕ) (List ℕ)
    (λ c. c.args.0.now) (λ c. c.exit.0.now)
    (λ g. fresh_call g)

abbrev pub load : Exported
load = exported loadK.ps loadR.Asked loadR.Learnt (List ℕ × List ℕ) (List ℕ)
    (λ c. (c.args.0.now, c.args.1.0.now)) (λ c. c.exit.0.now)
    (λ g. load_call g.0 g.1)

abbrev pub save : Exported
save = exported saveK.ps saveR.Asked saveR.Learnt (List ℕ × List ℕ) (List ℕ)
    (λ c. (c.args.0.now, c.args.1.0.now)) (λ c. c.exit.1.0.now)
    (λ g. save_call g.0 g.1)

abbrev pub write : Exported
write = exported writeK.ps writeR.Asked writeR.Learnt (List ℕ × Id × ℕ × List ℕ × ℕ × ℕ) (List ℕ)
    (λ c. (c.args.0.now, c.args.1.0.now, c.args.1.1.0, c.args.1.1.1.0.now, c.args.1.1.1.1.0, c.args.1.1.1.1.1.0)) (λ c. c.exit.0.now)
    (λ g. write_call g.0 g.1 g.2 g.3 g.4 g.5)

-- what the text of the line holds is told by the promise
abbrev pub take_in : Exported
take_in = exported takeInK.ps takeInR.Asked takeInR.Learnt (List ℕ × List ℕ × Option Members) (List ℕ)
    (λ c. (c.args.0.now, c.args.1.0.now, c.promise.members)) (λ c. c.exit.0.now)
    (λ g. take_in_call g.0 g.2)

abbrev pub edit : Exported
edit = exported editK.ps editR.Asked editR.Learnt (List ℕ × Id × List ℕ × ℕ × ℕ × ℕ × ℕ × List ℕ) (List ℕ)
    (λ c. let a = c.args.1.1.1 in (c.args.0.now, c.args.1.0.now, c.args.1.1.0.now, a.0, a.1.0, a.1.1.0, a.1.1.1.0, a.1.1.1.1.0.now))
    (λ c. c.exit.0.now)
    (λ g. edit_call g.0 g.1 g.2 g.3 g.4 g.5 g.6 g.7)

abbrev pub pull : Exported
pull = exported pullK.ps pullR.Asked pullR.Learnt (List ℕ × List ℕ × Seq × List ℕ) (List ℕ × List ℕ)
    (λ c. (c.args.0.now, c.args.1.0.now, record { 0 = c.args.1.1.0 }, c.args.1.1.1.0.now)) (λ c. (c.exit.0.now, c.exit.1.1.1.0.now))
    (λ g. pull_call g.0 g.1 g.2.0 g.3)

-- ---- those that read one

abbrev pub winner : Exported
winner = exported winnerK.ps winnerR.Asked winnerR.Learnt (List ℕ × Id × List ℕ) (List ℕ)
    (λ c. (c.args.0.now, c.args.1.0.now, c.args.1.1.0.now)) (λ c. c.exit.1.1.0.now)
    (λ g. winner_call g.0 g.1 g.2)

abbrev pub leaves : Exported
leaves = exported leavesK.ps leavesR.Asked leavesR.Learnt (List ℕ × Id × List ℕ) (List ℕ)
    (λ c. (c.args.0.now, c.args.1.0.now, c.args.1.1.0.now)) (λ c. c.exit.1.1.0.now)
    (λ g. leaves_call g.0 g.1 g.2)

abbrev pub path : Exported
path = exported pathK.ps pathR.Asked pathR.Learnt (List ℕ × Id × ℕ × List ℕ × List ℕ) (List ℕ)
    (λ c. (c.args.0.now, c.args.1.0.now, c.args.1.1.0, c.args.1.1.1.0.now, c.args.1.1.1.1.0.now)) (λ c. c.exit.1.1.1.1.0.now)
    (λ g. path_call g.0 g.1 g.2 g.3 g.4)

abbrev pub missing : Exported
missing = exported missingK.ps missingR.Asked missingR.Learnt (List ℕ × Id × List ℕ × List ℕ) (List ℕ)
    (λ c. (c.args.0.now, c.args.1.0.now, c.args.1.1.0.now, c.args.1.1.1.0.now)) (λ c. c.exit.1.1.1.0.now)
    (λ g. missing_call g.0 g.1 g.2 g.3)

abbrev pub put_out : Exported
put_out = exported putOutK.ps putOutR.Asked putOutR.Learnt (List ℕ × Id × List ℕ) (List ℕ)
    (λ c. (c.args.0.now, c.args.1.0.now, c.args.1.1.0.now)) (λ c. c.exit.1.1.0.now)
    (λ g. put_out_call g.0 g.1 g.2)

abbrev pub put_out_size : Exported
put_out_size = exported putOutSizeK.ps putOutSizeR.Asked putOutSizeR.Learnt (List ℕ × Id) (Unit {0})
    (λ c. (c.args.0.now, c.args.1.0.now)) (λ c. tt)
    (λ g. put_out_size_call g.0 g.1)

abbrev pub changes : Exported
changes = exported changesK.ps changesR.Asked changesR.Learnt (List ℕ × Seq × List ℕ × List ℕ) (List ℕ × List ℕ)
    (λ c. (c.args.0.now, record { 0 = c.args.1.0 }, c.args.1.1.0.now, c.args.1.1.1.0.now)) (λ c. (c.exit.1.1.0.now, c.exit.1.1.1.0.now))
    (λ g. changes_call g.0 g.1.0 g.2 g.3)

abbrev pub sequence : Exported
sequence = exported sequenceK.ps sequenceR.Asked sequenceR.Learnt (List ℕ) (Unit {0})
    (λ c. c.args.0.now) (λ c. tt)
    (λ g. sequence_call g)

abbrev pub counts : Exported
counts = exported countsK.ps countsR.Asked countsR.Learnt (List ℕ × List ℕ) (List ℕ)
    (λ c. (c.args.0.now, c.args.1.0.now)) (λ c. c.exit.1.0.now)
    (λ g. counts_call g.0 g.1)

-- ---- those that are lent any bytes

abbrev pub report : Exported
report = exported reportK.ps reportR.Asked reportR.Learnt (List ℕ × List ℕ) (List ℕ)
    (λ c. (c.args.0.now, c.args.1.0.now)) (λ c. c.exit.1.0.now)
    (λ g. report_call g.0 g.1)

-- ---- calls of which more is said than their arguments

-- refile_load of bytes, as those of C are
pub record LoadCall (s image : List ℕ) (r : ℕ) (left : List ℕ) : Type 0 where
  pub call : Called load (s, image) r left
  pub given : Bytes image

-- what is given for the write w: its content is a kind and a label
abbrev pub for_write : List ℕ → Write → write.Given
for_write s w = (s, w.id, w.number.0, w.path, content_kind w.content, content_label w.content)

pub record WriteCall (s : List ℕ) (w : Write) (r : ℕ) (left : List ℕ) : Type 0 where
  pub call : Called write (for_write s w) r left
  pub given : IsWrite w

-- a parent is a flag, a number and a hash, which say nothing where none is named
abbrev pub parent_named : Option Revision → ℕ
parent_named p = maybe 0 (λ v. 1) p

abbrev pub parent_number : Option Revision → ℕ
parent_number p = maybe 0 (λ v. v.number.0) p

abbrev pub parent_hash : Option Revision → List ℕ
parent_hash p = maybe [] (λ v. v.hash) p

-- what is given for the edit e
abbrev pub for_edit : List ℕ → Edit → edit.Given
for_edit s e = (
  s,
  e.id,
  e.hash,
  content_kind e.content,
  content_label e.content,
  parent_named e.parent,
  parent_number e.parent,
  parent_hash e.parent,
)

-- its new hash has sixteen bytes, as that of every accepted edit: 104 refuses any other
pub record EditCall (s : List ℕ) (e : Edit) (r : ℕ) (left : List ℕ) : Type 0 where
  pub call : Called edit (for_edit s e) r left
  pub given : IsEdit e
