-- "Unknown members are passed over whatever they hold", spaces make no difference, and 40 is answered exactly where the bytes are no such text. Assumes nothing.
use mathlib.Core.Path.{◌≡◌, refl, sym, ap, ◌∙◌}
use Rattle.rules.specs.declared.Outcome.{Outcome}
use Rattle.std.specs.Prelude.{Result, Ok, Err}
use mathlib.Core.Bool.{Bool, true, false}
use mathlib.Core.List.{List, [], ◌∷◌, ◌++◌}
use mathlib.Core.Logic.{inl, inr, ◌↔◌}
use Rattle.std.specs.Prelude.{Option, None, Some}
use Prim.Native.Nat.{ℕ, ◌<◌}
use Prim.Native.String.{String}
use native.Mathlib.Omega.{arith}
use Rattle.rules.specs.declared.Refusal.{Refusal}
use Rattle.rules.specs.declared.Refusal.TheVariants.{NotJson, BadMember, OtherRevisions, UnwritableId}
use Rattle.rules.specs.Choice.{pick, maybe, first_that}
use Rattle.rules.specs.Refusal.{refusal_number}
use Rattle.rules.specs.Replica.{Replica}
use Rattle.rules.specs.Union.{In}
use Rattle.rules.specs.Write.{Write, room_refusals, write_refusals, settle, write}
use Rattle.rules.proofs.ChoiceLaws.{or_left, or_right, first_holds}
use Rattle.union.proofs.Cases.{refused_by}
use Rattle.json_text.specs.Rfc.{line}
use Rattle.json_text.specs.Members.{Form, object, Json, line_of}
use Rattle.values.proofs.ReadingLaws.{reads_rfc}
use Rattle.lines.specs.Said.{is_name, named}
use Rattle.lines.specs.Take.{Members, Holds, read_revisions, Line, read_line, other_revisions, unwritable, as_write, line_refusals, take_in, TakesIn}
use Rattle.lines.specs.Unknown.{is_ours, ours}
use Rattle.lines.proofs.TakesLaws.{holds_one}

-- ---- the five names

-- the members of each of the five names are the same
pub record SameNamed (ms ns : Members) : Type 0 where
  pub id : named "_id" ms ≡ named "_id" ns
  pub rev : named "_rev" ms ≡ named "_rev" ns
  pub revisions : named "_revisions" ms ≡ named "_revisions" ns
  pub deleted : named "_deleted" ms ≡ named "_deleted" ns
  pub label : named "label" ms ≡ named "label" ns

-- a line says what the members of these names say
pub same_said : (ms ns : Members) → SameNamed ms ns → read_line ms ≡ read_line ns
unfolding read_line
same_said ms ns e = rw (e.id, e.rev, e.revisions, e.deleted, e.label) refl

pub same_taken : (r : Replica) (ms ns : Members) → SameNamed ms ns → take_in r (Some ms) ≡ take_in r (Some ns)
unfolding take_in line_refusals
same_taken r ms ns e = rw (same_said ms ns e) refl

-- and `_revisions` says what its members `start` and `ids` say
pub same_revisions : {A : Type 0} (ms ns : List (List ℕ × Form (Form A))) → named "start" ms ≡ named "start" ns → named "ids" ms ≡ named "ids" ns
    → read_revisions (object ms) ≡ read_revisions (object ns)
unfolding read_revisions
same_revisions ms ns e f = rw (e, f) refl

-- ---- unknown members

-- a name that is not ours is none of the five
record IsUnknown (t : List ℕ) : Type 0 where
  id : is_name "_id" t ≡ false
  rev : is_name "_rev" t ≡ false
  revisions : is_name "_revisions" t ≡ false
  deleted : is_name "_deleted" t ≡ false
  label : is_name "label" t ≡ false

unknown : (t : List ℕ) → is_ours t ≡ false → IsUnknown t
unfolding is_ours
unknown t e =
    let a = or_right (is_name "_id" t) _ e in
    let b = or_right (is_name "_rev" t) _ a in
    let c = or_right (is_name "_revisions" t) _ b in
    record { id = or_left _ _ e; rev = or_left _ _ a; revisions = or_left _ _ b; deleted = or_left _ _ c; label = or_right (is_name "_deleted" t) _ c }

-- the unknown members don't count for a name of ours
named_ours : {A : Type 0} (n : String) → ((t : List ℕ) → is_ours t ≡ false → is_name n t ≡ false) → (ms : List (List ℕ × A)) → named n (ours ms) ≡ named n ms
unfolding named ours
named_ours n f [] = refl
named_ours n f (m ∷ ms) = go (is_ours m.0) refl (named_ours n f ms)
  where
    go : (b : Bool) → is_ours m.0 ≡ b → named n (ours ms) ≡ named n ms → named n (pick b (m ∷ ours ms) (ours ms)) ≡ named n (m ∷ ms)
    go true e ih = ap (λ (l : List _). pick (is_name n m.0) (m.1 ∷ l) l) ih
    go false e ih = rw (f m.0 e) ih

pub same_ours : (ms ns : Members) → ours ms ≡ ours ns → SameNamed ms ns
same_ours ms ns e = record {
  id = by "_id" (λ t u. (unknown t u).id);
  rev = by "_rev" (λ t u. (unknown t u).rev);
  revisions = by "_revisions" (λ t u. (unknown t u).revisions);
  deleted = by "_deleted" (λ t u. (unknown t u).deleted);
  label = by "label" (λ t u. (unknown t u).label);
}
  where
    by : (n : String) → ((t : List ℕ) → is_ours t ≡ false → is_name n t ≡ false) → named n ms ≡ named n ns
    by n f = sym (named_ours n f ms) ∙ (ap (named n) e ∙ named_ours n f ns)

-- an unknown member among others
pub ours_without : {A : Type 0} (before after : List (List ℕ × A)) (m : List ℕ × A) → is_ours m.0 ≡ false → ours (before ++ (m ∷ after)) ≡ ours (before ++ after)
unfolding ours
ours_without [] after m e = rw e refl
ours_without (x ∷ before) after m e = ap (λ (l : List _). pick (is_ours x.0) (x ∷ l) l) (ours_without before after m e)

-- ---- lines that are the same write

-- texts of which the members with our names are the same have one outcome: unknown members put in, taken
-- out or changed, and spaces, make no difference
pub unknown_passed : (r : Replica) (s t : List ℕ) (ms ns : Members) → line_of ms s → line_of ns t → ours ms ≡ ours ns
    → (o p : Result Outcome Refusal × Replica) → TakesIn r s o → TakesIn r t p → o ≡ p
unknown_passed r s t ms ns h k e o p x y =
    x.is
    ∙ (ap (take_in r) (holds_one s x.members (Some ms) x.holds h)
    ∙ (same_taken r ms ns (same_ours ms ns e) ∙ (ap (take_in r) (holds_one t (Some ns) y.members k y.holds) ∙ sym y.is)))

-- with other spaces
pub spaces_passed : (r : Replica) (s t : List ℕ) (ms : Members) → line_of ms s → line_of ms t → (o p : Result Outcome Refusal × Replica) → TakesIn r s o → TakesIn r t p → o ≡ p
spaces_passed r s t ms h k = unknown_passed r s t ms ms h k refl

-- with an unknown member put in (or, read backwards, taken out)
pub unknown_put_in : (r : Replica) (s t : List ℕ) (before after : Members) (m : List ℕ × Json 15) → is_ours m.0 ≡ false
    → line_of (before ++ after) s → line_of (before ++ (m ∷ after)) t → (o p : Result Outcome Refusal × Replica) → TakesIn r s o → TakesIn r t p → o ≡ p
unknown_put_in r s t before after m e h k = unknown_passed r s t (before ++ after) (before ++ (m ∷ after)) h k (sym (ours_without before after m e))

-- with an unknown member changed
pub unknown_changed : (r : Replica) (s t : List ℕ) (before after : Members) (m n : List ℕ × Json 15) → is_ours m.0 ≡ false → is_ours n.0 ≡ false
    → line_of (before ++ (m ∷ after)) s → line_of (before ++ (n ∷ after)) t → (o p : Result Outcome Refusal × Replica) → TakesIn r s o → TakesIn r t p → o ≡ p
unknown_changed r s t before after m n e f h k =
    unknown_passed r s t (before ++ (m ∷ after)) (before ++ (n ∷ after)) h k (ours_without before after m e ∙ sym (ours_without before after n f))

-- ---- 40

-- a write is refused by none of 40 to 43
small : (b : Bool) (n : Refusal) → ◌≡◌ {A = Bool × Refusal} (true, NotJson) (b, n) → refusal_number n < 40 → ⊥
small b n e h = let q : 40 ≡ refusal_number n = ap (λ (z : Bool × Refusal). refusal_number z.1) e in omega arith

write_json : (r : Replica) (w : Write) → (write r w).0 ≡ Err NotJson → ⊥
unfolding write_refusals room_refusals
write_json r w e = go (first_holds (write_refusals r w) NotJson (refused_by r w NotJson e))
  where
    go : In (true, NotJson) (write_refusals r w) → ⊥
    go (inl q) = small _ _ q (omega arith)
    go (inr (inl q)) = small _ _ q (omega arith)
    go (inr (inr (inl q))) = small _ _ q (omega arith)
    go (inr (inr (inr (inl q)))) = small _ _ q (omega arith)
    go (inr (inr (inr (inr (inl q))))) = small _ _ q (omega arith)
    go (inr (inr (inr (inr (inr (inl q)))))) = small _ _ q (omega arith)
    go (inr (inr (inr (inr (inr (inr (inl q))))))) = small _ _ q (omega arith)
    go (inr (inr (inr (inr (inr (inr (inr (inl q)))))))) = small _ _ q (omega arith)
    go (inr (inr (inr (inr (inr (inr (inr (inr z)))))))) = z

not_40 : (n : Refusal) → (40 < refusal_number n) → ◌≡◌ {A = Result Outcome Refusal} (Err n) (Err NotJson) → ⊥
not_40 n h e = let q : refusal_number n ≡ 40 = ap number e in omega arith
  where
    number : Result Outcome Refusal → ℕ
    number (Ok o) = 0
    number (Err n) = refusal_number n

some_json : (r : Replica) (ms : Members) → (take_in r (Some ms)).0 ≡ Err NotJson → ⊥
unfolding take_in line_refusals first_that
some_json r ms e = go (read_line ms) e
  where
    go : (l : Option Line)
        → (settle Err r (maybe (Err BadMember, r) (λ x. write r (as_write x)) l) (first_that (line_refusals (Some ms) l))).0 ≡ Err NotJson → ⊥
    go None e = not_40 BadMember (omega arith) e
    go (Some x) e = by (maybe false (other_revisions x.rev) x.revisions) (unwritable x.id) e
      where
        by : (p q : Bool)
            → (settle Err r (write r (as_write x)) (pick p (Some OtherRevisions) (pick q (Some UnwritableId) None))).0 ≡ Err NotJson → ⊥
        by true q e = not_40 OtherRevisions (omega arith) e
        by false true e = not_40 UnwritableId (omega arith) e
        by false false e = write_json r (as_write x) e

-- "40 not one UTF-8 JSON object (RFC 8259) or too deep": answered exactly where the bytes are no such text
pub forty_exactly : (r : Replica) (s : List ℕ) (o : Result Outcome Refusal × Replica) → TakesIn r s o → (o.0 ≡ Err NotJson) ↔ (line s [] → ⊥)
unfolding take_in line_refusals first_that
forty_exactly r s o t = go t.members t.holds t.is
  where
    go : (m : Option Members) → Holds s m → o ≡ take_in r m → (o.0 ≡ Err NotJson) ↔ (line s [] → ⊥)
    go None h e = (λ q. h, λ q. ap (λ (z : Result Outcome Refusal × Replica). z.0) e)
    go (Some ms) h e = (λ q. absurd (some_json r ms (ap (λ (z : Result Outcome Refusal × Replica). z.0) (sym e) ∙ q)), λ q. absurd (q (reads_rfc ms s h)))
