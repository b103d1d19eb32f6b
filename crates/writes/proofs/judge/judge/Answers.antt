-- `judge::judge` meets its contract: the tests that have failed stand before the one that holds. Assumes nothing.
use mathlib.Core.Path.{◌≡◌, sym, ap, ◌∙◌}
use mathlib.Core.Bool.{false}
use Rattle.store.specs.Storage.{replica_of}
use Rattle.writes.specs.Judge.{is_absent}
use Rattle.writes.specs.Verdict.{verdict_of}
use Rattle.writes.proofs.JudgeLaws.{full, over, judge_4, judge_5, judge_6, judge_7, judge_8, judge_clear}
use Rattle.writes.proofs.judge.judge.Goals as goal

pub returns-then-p : goal.returns-then-p
returns-then-p c = ap verdict_of (sym (judge_4 _ _ c.args.p c.if-p.true))

pub returns-then-p-2 : goal.returns-then-p-2
returns-then-p-2 c = ap verdict_of (sym (judge_5 _ _ c.args.p c.if-p.false c.if-p-2.true))

pub returns-then-documents_full : goal.returns-then-documents_full
returns-then-documents_full c =
    let past : let p = c.args.p in (p.crossed ≡ false) × (p.other ≡ false) = (c.if-p.false, c.if-p-2.false) in
    let q = past in
    ap verdict_of (sym (judge_6 _ _ c.args.p q.0 q.1 (sym c.documents_full.ensures ∙ c.if-documents_full.true)))

pub returns-then-revisions_full : goal.returns-then-revisions_full
returns-then-revisions_full c =
    let past : let p = c.args.p in (p.crossed ≡ false) × (p.other ≡ false) = (c.if-p.false, c.if-p-2.false) in
    let room : let a = c.args in full (replica_of a.b.now) (is_absent a.found) a.p ≡ false = sym c.documents_full.ensures ∙ c.if-documents_full.false in
    let q = past in
    ap verdict_of (sym (judge_7 _ _ c.args.p q.0 q.1 room (sym c.revisions_full.ensures ∙ c.if-revisions_full.true)))

pub returns-then-sequence_spent : goal.returns-then-sequence_spent
returns-then-sequence_spent c =
    let past : let p = c.args.p in (p.crossed ≡ false) × (p.other ≡ false) = (c.if-p.false, c.if-p-2.false) in
    let room : let a = c.args in full (replica_of a.b.now) (is_absent a.found) a.p ≡ false = sym c.documents_full.ensures ∙ c.if-documents_full.false in
    let rows : let a = c.args in over (replica_of a.b.now) (is_absent a.found) a.p ≡ false = sym c.revisions_full.ensures ∙ c.if-revisions_full.false in
    let q = past in
    let s = sym c.sequence_spent.ensures ∙ c.if-sequence_spent.true in
    ap verdict_of (sym (judge_8 _ _ c.args.p q.0 q.1 room rows s))

pub returns : goal.returns
returns c =
    let past : let p = c.args.p in (p.crossed ≡ false) × (p.other ≡ false) = (c.if-p.false, c.if-p-2.false) in
    let room : let a = c.args in full (replica_of a.b.now) (is_absent a.found) a.p ≡ false = sym c.documents_full.ensures ∙ c.if-documents_full.false in
    let rows : let a = c.args in over (replica_of a.b.now) (is_absent a.found) a.p ≡ false = sym c.revisions_full.ensures ∙ c.if-revisions_full.false in
    let q = past in
    let s = sym c.sequence_spent.ensures ∙ c.if-sequence_spent.false in
    ap verdict_of (sym (judge_clear _ _ c.args.p q.0 q.1 room rows s))
