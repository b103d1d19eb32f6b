-- A write of a good form, from its plan and verdict: what it answers and what is held after it. Assumes nothing.
use mathlib.Core.Path.{◌≡◌, refl, sym, ap, ap₂, ◌∙◌, subst}
use Rattle.rules.specs.declared.Outcome.{Outcome}
use Rattle.std.specs.Prelude.{Result, Ok, Err}
use mathlib.Core.Bool.{Bool, true, false}
use mathlib.Core.List.{List, [], ◌∷◌}
use Rattle.std.specs.Prelude.{Option, None, Some}
use Prim.Native.Nat.{ℕ, suc, min, ◌/◌, ◌≤◌, ◌<◌}
use native.Mathlib.Omega.{arith}
use lib.Dec.{leb}
use lib.ListN.{length, get_or, take}
use lib.Seq.{take_all}
use borrow.Author.Tests.{eq-eqb, ne_eqb, leb-true, leb-false}
use Rattle.rules.specs.declared.Outcome.TheVariants.{Changed, Unchanged}
use Rattle.rules.specs.declared.Refusal.{Refusal}
use Rattle.rules.specs.declared.Revision.{Revision}
use Rattle.rules.specs.declared.Seq.{Seq}
use Rattle.rules.specs.Bytes.{Bytes}
use Rattle.rules.specs.Choice.{first_that, how_many}
use Rattle.rules.specs.Map.{Map, Ascending}
use Rattle.rules.specs.Order.{order_rev}
use Rattle.rules.specs.Replica.{Id, Node, Tree, Document, Replica, document_of, tree_of, revisions_held, IsTree, IsReplica}
use Rattle.rules.specs.Replica as rules
use Rattle.rules.specs.Room.{hashes_most, hash_size, seq_most}
use Rattle.rules.specs.Union.{IsWrite}
use Rattle.rules.specs.Write.{Write, gives, add_all, next, added, is_none, is_new, count_new, form_refusals, write}
use Rattle.tree.specs.Table.{tree_in, insert_at}
use Rattle.tree.specs.declared.table.Body.{Body}
use Rattle.store.specs.Storage.{replica_of, Laid, IsStored}
use Rattle.store.specs.Documents.{no_document, documents_of, document_at, place_of_id, body_at, HasDocument, Looked, IsBody, Shows}
use Rattle.store.specs.Change.{blank, with_document, with_seq, with_tree, Holds, CanAddDocument}
use Rattle.store.proofs.FitLaws.{stored_laid}
use Rattle.store.proofs.PlaceLaws.{IsAt, IsGap, id_found, id_gap}
use Rattle.store.proofs.TableLaws.{length_insert}
use Rattle.store.proofs.BodyLaws.{is_body, looked, place_body}
use Rattle.union.proofs.Demand3.{write_keeps}
use Rattle.writes.specs.declared.plan.Plan.{Plan}
use Rattle.writes.specs.Apply.{CanApply}
use Rattle.writes.specs.Judge.{is_absent, judged, Does, CanWrite, Wrote}
use Rattle.writes.specs.Path.{count_of, GoodForm, gives_of, add_last}
use Rattle.writes.specs.Plan.{plan_of, CanPlan}
use Rattle.writes.specs.Verdict.{verdict_of}
use Rattle.writes.proofs.AddLaws.{Falls, add_oldest_first}
use Rattle.writes.proofs.FormLaws.{positive, good_form}
use Rattle.writes.proofs.JudgeLaws.{write_formless, write_refused, write_same, write_changed, Clear, clear_says}
use Rattle.writes.proofs.LearnLaws.{falls_gives}
use Rattle.writes.proofs.PassLaws.{one_most}
use Rattle.writes.proofs.PathLaws.{length-gives, gives_of_lem}
use Rattle.writes.proofs.PlanLaws.{plan_crossed, plan_revisions, plan_rest}
use Rattle.writes.proofs.ReachLaws.{Parted, add_within, tree_parted, none_parted}
use Rattle.writes.proofs.StateLaws.{at_insert, held_blank, added_held, added_new, held_tree_of, none_tree_of}

-- ---- verdicts

pub clear_none : (o : Option Refusal) → verdict_of o ≡ Ok tt → o ≡ None
clear_none None e = refl
clear_none (Some n) e = let z : ◌≡◌ {A = ℕ} 0 1 = cc in absurd (omega arith)

pub refused_some : (o : Option Refusal) (n : Refusal) → verdict_of o ≡ Err n → o ≡ Some n
refused_some None n e = let z : ◌≡◌ {A = ℕ} 0 1 = cc in absurd (omega arith)
refused_some (Some m) n e = let q : m ≡ n = cc in ap {B = Option Refusal} Some q

-- ---- what is held

-- what a buffer holds it holds
holds_itself : (s : List ℕ) → Laid s → Holds (replica_of s) s
holds_itself s l = record { bytes = l.same; laid = l; means = refl }

holds_same : (r r' : Replica) (s : List ℕ) → r ≡ r' → Holds r s → Holds r' s
holds_same r r' s e h = subst (λ (x : Replica). Holds x s) e h

does : (s : List ℕ) (w : Write) (r : Result Outcome Refusal) (x : Replica) (s' : List ℕ) → write (replica_of s) w ≡ (r, x) → Holds x s' → Does s w r s'
does s w r x s' e h = record {
  answer = ap (λ (o : Result Outcome Refusal × Replica). o.0) (sym e);
  holds = holds_same x (write (replica_of s) w).1 s' (ap (λ (o : Result Outcome Refusal × Replica). o.1) (sym e)) h;
}

-- a form that is refused
does_formless : (s : List ℕ) (w : Write) (n : Refusal) → Laid s → first_that (form_refusals w) ≡ Some n → Does s w (Err n) s
does_formless s w n l e = does s w (Err n) (replica_of s) s (write_formless (replica_of s) w n e) (holds_itself s l)

-- a write of a good form, with its plan and the verdict on it
pub record Judged (s : List ℕ) (w : Write) (absent : Bool) (p : Plan) (v : Result (Unit {0}) Refusal) : Type 0 where
  pub laid : Laid s
  pub form : first_that (form_refusals w) ≡ None
  pub absence : is_none (document_of (replica_of s) w.id) ≡ absent
  pub plan : p ≡ plan_of (tree_of (replica_of s) w.id) (gives w)
  pub verdict : v ≡ verdict_of (first_that (judged (replica_of s) absent p))

module _ {s : List ℕ} {w : Write} {absent : Bool} {p : Plan} {v : Result (Unit {0}) Refusal} (j : Judged s w absent p v) where
  abbrev r : Replica
  r = replica_of s

  abbrev whole_plan : Plan
  whole_plan = plan_of (tree_of r w.id) (gives w)

  tests : first_that (judged r absent p) ≡ first_that (judged r (is_none (document_of r w.id)) whole_plan)
  tests = ap₂ (λ (a : Bool) (x : Plan). first_that (judged r a x)) (sym j.absence) j.plan

  reach_is : p.reach ≡ whole_plan.reach
  reach_is = ap (λ (x : Plan). x.reach) j.plan

  pub does_refused : (n : Refusal) → v ≡ Err n → Does s w (Err n) s
  does_refused n e =
      does s w (Err n) r s
      (write_refused r w j.form n (sym tests ∙ refused_some (first_that (judged r absent p)) n (sym j.verdict ∙ e)))
      (holds_itself s j.laid)

  clear_tests : v ≡ Ok tt → first_that (judged r absent p) ≡ None
  clear_tests e = clear_none (first_that (judged r absent p)) (sym j.verdict ∙ e)

  pub clear_facts : v ≡ Ok tt → Clear r absent p
  clear_facts e = clear_says r absent p (clear_tests e)

  pub does_same : v ≡ Ok tt → p.reach ≡ 0 → Does s w (Ok Unchanged) s
  does_same e z =
      does s w (Ok Unchanged) r s
      (write_same r w j.form (sym tests ∙ clear_tests e) (eq-eqb whole_plan.reach 0 (sym reach_is ∙ z)))
      (holds_itself s j.laid)

  pub does_changed : v ≡ Ok tt → (p.reach ≡ 0 → ⊥) → (s' : List ℕ) → Holds (added r w) s' → Does s w (Ok Changed) s'
  does_changed e z s' h =
      does s w (Ok Changed) (added r w) s'
      (write_changed r w j.form (sym tests ∙ clear_tests e) (ne_eqb whole_plan.reach 0 (λ q. z (reach_is ∙ q)))) h

-- ---- the tree that is written to

-- what a write needs of it
record Sound (t : Tree) : Type 0 where
  pub ascending : Ascending order_rev t
  pub parted : Parted t

sound_tree : (t : Tree) → IsTree t → Sound t
sound_tree t i = record { ascending = i.ascending; parted = tree_parted t i }

sound_none : Sound []
sound_none = record { ascending = tt; parted = none_parted }

-- the m newest of a path, oldest first, leave what the whole path does
module _ (t : Tree) (w : Write) (sound : Sound t) (good : GoodForm w) (m : ℕ) where
  whole : add_all (gives w) t ≡ add_last (gives w) t
  whole =
      add_oldest_first (gives w) t sound.ascending
      (subst Falls (sym (gives_of_lem w)) (falls_gives w.number w.path w.content good.deep))

  newest_whole : m ≡ min (plan_of t (gives w)).reach (count_of w.path) → ((plan_of t (gives w)).reach ≡ 0 → ⊥) → (plan_of t (gives w)).crossed ≡ false
      → add_last (take m (gives_of w.number w.path w.content)) t ≡ add_all (gives w) t
  newest_whole e z o = ap (λ (gs : List (Revision × Node)). add_last (take m gs) t) (sym (gives_of_lem w)) ∙ (go (leb reach (count_of w.path)) refl ∙ sym whole)
    where
      reach : ℕ
      reach = (plan_of t (gives w)).reach

      go : (b : Bool) → leb reach (count_of w.path) ≡ b → add_last (take m (gives w)) t ≡ add_last (gives w) t
      go true q =
          let l = leb-true reach (count_of w.path) q in
          let x : m ≡ reach = omega arith in
          ap (λ (k : ℕ). add_last (take k (gives w)) t) x
          ∙ add_within t w reach sound.parted (sym (plan_crossed t (gives w)) ∙ o) (positive reach z) (plan_rest t (gives w))
      go false q =
          let l = leb-false reach (count_of w.path) q in
          let n = length-gives w in
          ap (λ (gs : List (Revision × Node)). add_last gs t) (take_all m (gives w) (omega arith))

few_revisions : (t : Tree) (w : Write) (p : Plan) → GoodForm w → p ≡ plan_of t (gives w) → p.revisions ≤ hashes_most
unfolding count_new how_many
few_revisions t w p g e =
    let a = ap (λ (x : Plan). x.revisions) e in
    let b = plan_revisions t (gives w) in
    let c = count_most t (gives w) in
    let d = length-gives w in
    let m = g.most in
    omega arith
  where
    count_most : (t : Tree) (gs : List (Revision × Node)) → count_new t gs ≤ length gs
    count_most t [] = omega arith
    count_most t (g ∷ gs) = let h = count_most t gs in let o = one_most (is_new t g) in omega arith

seq_left : (r : Replica) (absent : Bool) (p : Plan) → IsReplica r → Clear r absent p → (p.reach ≡ 0 → ⊥) → r.seq.0 < seq_most
seq_left r absent p i k z = below r.seq.0 seq_most i.seq_at_most (k.seq z)
  where
    below : (a b : ℕ) → a ≤ b → (a ≡ b → ⊥) → a < b
    below a b h n = omega arith

-- ---- the document that was looked for

module _ {s : List ℕ} (i : Id) (is : IsStored s) where
  pub place_looked : {f : Result ℕ ℕ} → place_of_id 0 i (documents_of s) ≡ f → Looked s f
  place_looked e = looked i (stored_laid s is) e

  pub place_shows : {f : Result ℕ ℕ} {b : Body} → place_of_id 0 i (documents_of s) ≡ f → b ≡ body_at (documents_of s) f → Shows s b (tree_of (replica_of s) i)
  place_shows e h = (place_body i (stored_laid s is) e h).shows

  absence : {f : Result ℕ ℕ} → place_of_id 0 i (documents_of s) ≡ f → is_none (document_of (replica_of s) i) ≡ is_absent f
  unfolding document_of
  absence {f} = go f
    where
      go : (g : Result ℕ ℕ) → place_of_id 0 i (documents_of s) ≡ g → is_none (document_of (replica_of s) i) ≡ is_absent g
      go (Ok d) e = ap is_none (id_found d i (documents_of s) e).found
      go (Err d) e = ap is_none (id_gap d i (documents_of s) e).found

-- ---- its plan and the verdict on it

module _ {s : List ℕ} {f : Result ℕ ℕ} {w : Write} (can : CanWrite s f w) where
  abbrev t : Tree
  t = tree_of (replica_of s) w.id

  good : GoodForm w
  good = good_form w can.form

  laid : Laid s
  laid = stored_laid s can.stored

  sound : Sound t
  unfolding tree_of
  sound = go (document_of (replica_of s) w.id) refl
    where
      go : (o : Option Document) → document_of (replica_of s) w.id ≡ o → Sound (rules.tree_in o)
      go None e = sound_none
      go (Some d) e = sound_tree d.tree (can.stored.replica.documents w.id d e).tree

  module _ {b : Body} (body : b ≡ body_at (documents_of s) f) where
    pub can_plan : CanPlan s b w.number.0 w.path
    can_plan =
        let h = place_shows w.id can.stored can.place body in
        record {
          search = record { within = h.within; ascending = subst (Ascending order_rev) (sym h.tree) sound.ascending };
          most = good.most;
          deep = good.deep;
        }

    module _ {p : Plan} (plan : p ≡ plan_of (tree_in b s) (gives_of w.number w.path w.content)) where
      plan_is : p ≡ plan_of t (gives w)
      plan_is = plan ∙ ap₂ plan_of (place_shows w.id can.stored can.place body).tree (sym (gives_of_lem w))

      pub can_judge : Laid s × (p.revisions ≤ hashes_most)
      can_judge = (laid, few_revisions t w p good plan_is)

      pub is_judged : {v : Result (Unit {0}) Refusal} → v ≡ verdict_of (first_that (judged (replica_of s) (is_absent f) p)) → Judged s w (is_absent f) p v
      is_judged e = record { laid = laid; form = can.form; absence = absence w.id can.stored can.place; plan = plan_is; verdict = e }

-- ---- what is applied

-- a write that no rule refuses and that adds something, with the m newest that are enough
pub record Ready (s : List ℕ) (f : Result ℕ ℕ) (w : Write) (b : Body) (p : Plan) (m : ℕ) : Type 0 where
  pub can : CanWrite s f w
  pub body : b ≡ body_at (documents_of s) f
  pub plan : p ≡ plan_of (tree_in b s) (gives_of w.number w.path w.content)
  pub clear : Clear (replica_of s) (is_absent f) p
  pub adds : p.reach ≡ 0 → ⊥
  pub least : m ≡ min p.reach (length w.path / hash_size)

module _ {s : List ℕ} {f : Result ℕ ℕ} {w : Write} {b : Body} {p : Plan} {m : ℕ} (ready : Ready s f w b p m) where
  abbrev tree : Tree
  tree = tree_of (replica_of s) w.id

  form : GoodForm w
  form = good ready.can

  bytes_laid : Laid s
  bytes_laid = laid ready.can

  held_sound : Sound tree
  held_sound = sound ready.can

  planned_so : p ≡ plan_of tree (gives w)
  planned_so = plan_is ready.can ready.body ready.plan

  abbrev newest : Tree → Tree
  newest = add_last (take m (gives_of w.number w.path w.content))

  -- what is applied is enough
  enough : newest tree ≡ add_all (gives w) tree
  unfolding count_of
  enough =
      newest_whole tree w held_sound form m (ready.least ∙ ap (λ (x : Plan). min x.reach (length w.path / hash_size)) planned_so)
      (λ z. ready.adds (ap (λ (x : Plan). x.reach) planned_so ∙ z)) (sym (ap (λ (x : Plan). x.crossed) planned_so) ∙ ready.clear.crossed)

  -- it can be applied to a document d that has this tree, where as many revisions are held and the sequence is this one
  can_apply : (s₁ : List ℕ) (d : ℕ) (b₁ : Body) → IsBody s₁ d b₁ → (document_at (documents_of s₁) d).1.tree ≡ tree
      → revisions_held (documents_of s₁) ≡ revisions_held (documents_of s) → (replica_of s₁).seq ≡ (replica_of s).seq
      → CanApply s₁ d b₁ w.number w.path w.content m
  unfolding count_of
  can_apply s₁ d b₁ body₁ e held seq =
      let u = ap (λ (x : Plan). x.revisions) planned_so ∙ plan_revisions tree (gives w) in
      let v : count_new (document_at (documents_of s₁) d).1.tree (gives_of w.number w.path w.content) ≡ count_new tree (gives w) = ap₂ count_new e (sym (gives_of_lem w)) in
      let k = ready.clear.revisions in
      let q = seq_left (replica_of s) (is_absent f) p ready.can.stored.replica ready.clear ready.adds in
      let z = ap (λ (x : Seq). x.0) seq in
      record {
        body = body₁;
        ascending = subst (Ascending order_rev) (sym e) held_sound.ascending;
        room = omega arith;
        newest = omega arith;
        most = form.most;
        deep = form.deep;
        seq = omega arith;
      }

  module _ {d : ℕ} (here : f ≡ Ok d) where
    place : place_of_id 0 w.id (documents_of s) ≡ Ok d
    place = ready.can.place ∙ here

    at : IsAt d w.id (documents_of s)
    at = id_found d w.id (documents_of s) place

    tree_is : tree ≡ (document_at (documents_of s) d).1.tree
    tree_is = held_tree_of (replica_of s) w d newest at

    pub held_can_apply : CanApply s d b w.number w.path w.content m
    held_can_apply =
        can_apply s d b
        (is_body s d b (record { laid = bytes_laid; within = at.within }) (ready.body ∙ ap (body_at (documents_of s)) here)) (sym tree_is) refl refl

    pub held_added : {s' : List ℕ} → Holds (with_seq d (next (replica_of s).seq) (with_tree d newest (replica_of s))) s' → Holds (added (replica_of s) w) s'
    held_added {s'} h =
        holds_same _ (added (replica_of s) w) s'
        (added_held (replica_of s) w d newest at (ap newest (sym tree_is) ∙ enough)) h

  module _ {d : ℕ} (here : f ≡ Err d) where
    gap : IsGap d w.id (documents_of s)
    gap = id_gap d w.id (documents_of s) (ready.can.place ∙ here)

    no_tree : tree ≡ []
    no_tree = none_tree_of (replica_of s) w d newest gap

    pub new_can_add : CanAddDocument s d w.id
    new_can_add = record { laid = bytes_laid; place = gap.within; room = ready.clear.documents (ap is_absent here); id = form.id_at_most }

    module _ {s₁ : List ℕ} (opened : Holds (with_document d w.id (replica_of s)) s₁) where
      docs_are : documents_of s₁ ≡ insert_at d (blank w.id) (documents_of s)
      unfolding with_document
      docs_are = ap (λ (x : Replica). x.documents) opened.means

      seq_is : (replica_of s₁).seq ≡ (replica_of s).seq
      unfolding with_document
      seq_is = ap (λ (x : Replica). x.seq) opened.means

      pub new_has : HasDocument s₁ d
      new_has =
          let e = ap length docs_are ∙ length_insert d (blank w.id) (documents_of s) gap.within in
          let i = gap.within in
          record { laid = opened.laid; within = omega arith }

      empty : (document_at (documents_of s₁) d).1.tree ≡ []
      unfolding document_at
      empty =
          ap (λ (x : Id × Document). x.1.tree)
          (ap (λ (ds : Map Id Document). get_or ds d no_document) docs_are ∙ at_insert d (blank w.id) (documents_of s) no_document gap.within)

      pub new_can_apply : {b₁ : Body} → IsBody s₁ d b₁ → CanApply s₁ d b₁ w.number w.path w.content m
      new_can_apply {b₁} body₁ =
          can_apply s₁ d b₁ body₁ (empty ∙ sym no_tree) (ap revisions_held docs_are ∙ held_blank d w.id (documents_of s) gap.within) seq_is

      pub new_added : {s₂ : List ℕ} → Holds (with_seq d (next (replica_of s₁).seq) (with_tree d newest (replica_of s₁))) s₂ → Holds (added (replica_of s) w) s₂
      new_added {s₂} h =
          holds_same _ (added (replica_of s) w) s₂
          (ap₂ (λ (q : Seq) (x : Replica). with_seq d (next q) (with_tree d newest x)) seq_is opened.means
          ∙ added_new (replica_of s) w d newest gap (ap newest (sym no_tree) ∙ enough)) h

-- ---- the promise

pub bytes_all : (s : List ℕ) → ((i : ℕ) → get_or s i 0 < 256) → Bytes s
bytes_all [] h = tt
bytes_all (x ∷ s) h = (h 0, bytes_all s (λ i. h (suc i)))

-- what is left is a replica
pub wrote : {s s' : List ℕ} {w : Write} {r : Result Outcome Refusal} → IsStored s → IsWrite w → Does s w r s' → Wrote s w r s'
wrote {s} {s'} {w} i q d =
    record {
      answer = d.answer;
      left = d.holds.bytes;
      means = d.holds.means;
      is = record {
        same = d.holds.laid.same;
        replica = subst IsReplica (sym d.holds.means) (write_keeps (replica_of s) w i.replica q);
      };
    }

-- a form that is refused leaves what was there
pub wrote_formless : {s : List ℕ} {w : Write} {n : Refusal} → IsStored s → first_that (form_refusals w) ≡ Some n → Wrote s w (Err n) s
wrote_formless {s} {w} {n} i e =
    let d = does_formless s w n (stored_laid s i) e in
    record { answer = d.answer; left = d.holds.bytes; means = d.holds.means; is = i }
