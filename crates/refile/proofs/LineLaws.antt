-- The calls that take a line in and put lines out. Assumes nothing.
use mathlib.Core.Path.{◌≡◌, refl, sym, ap, ◌∙◌}
use Rattle.rules.specs.declared.Outcome.{Outcome}
use Rattle.std.specs.Prelude.{Result, Ok, Err}
use mathlib.Core.List.{List, []}
use Rattle.std.specs.Prelude.{Option, None, Some}
use Prim.Native.Nat.{ℕ}
use lib.ListN.{length}
use Rattle.rules.specs.declared.Refusal.{Refusal}
use Rattle.rules.specs.declared.Refusal.TheVariants.{BadMember}
use Rattle.rules.specs.Answer.{refused, written_number, answered_number}
use Rattle.rules.specs.Choice.{maybe, first_that}
use Rattle.rules.specs.Replica.{Id, Replica, tree_of}
use Rattle.rules.specs.Write.{settle, write}
use Rattle.lines.specs.Put.{lines_text, put_refusals, put_out, put_out_size}
use Rattle.lines.specs.Take.{Members, Line, read_line, as_write, line_refusals, take_in}
use Rattle.lines.proofs.TakesLaws.{holds_one}
use Rattle.store.specs.Storage.{stored, replica_of, IsStored}
use Rattle.takes.specs.Took.{Took}
use Rattle.reads.proofs.AnswerLaws.{first_some}
use Rattle.puts.proofs.SizeLaws.{lines_most}
use Rattle.refile.specs.declared.number.HouseRefusal.{HouseRefusal}
use Rattle.refile.specs.House.{house_number, House}
use Rattle.rules.proofs.MapLaws.{none≢some}
use Rattle.refile.specs.Boundary.{result_number, Calls, Lent, lent_house, TakesCall, take_in_call, put_out_call, put_out_size_call}
use Rattle.refile.proofs.CallLaws.{none_first, house_first, no_house, first_both, stops, lent_stands, unfit_keeps, accepts, keeps_one, lent_refuses, lent_does}
use Rattle.refile.proofs.FairLaws.{Fair, FairCall, lent_numbers, rules_fair, accepted_fair, write_as}
use Rattle.refile.proofs.ReadCallLaws.{Reads}

-- ---- taking in

module _ (s line : List ℕ) {q : Result (Unit {0}) HouseRefusal} {r : ℕ} (h : House (lent_house s) q) where
  pub take_refuses : {x : HouseRefusal} → q ≡ Err x → r ≡ result_number (refused (house_number x)) → TakesCall s line r s
  unfolding take_in_call
  take_refuses {x} e f = record {
    members = None;
    holds = λ z. absurd (none≢some (sym z ∙ house_first (lent_house s) h e));
    keeps = unfit_keeps x f (lent_refuses s [] h e f);
  }

  pub take_done : q ≡ Ok tt → {a : Result Outcome Refusal} {left : List ℕ} → Took s line a left → r ≡ result_number (written_number a) → TakesCall s line r left
  unfolding take_in_call
  take_done z t e = record {
    members = t.members;
    holds = λ f. t.holds;
    keeps = accepts (lent_does s [] (none_first _ h z) no_house refl (e ∙ ap (λ (x : Result Outcome Refusal). result_number (written_number x)) t.answer) t.left) t.is;
  }

-- a house refusal is the same whatever the line holds, and past them the line holds one thing
pub take_one : {s line : List ℕ} {x y : ℕ} {a b : List ℕ} → TakesCall s line x a → TakesCall s line y b → (x ≡ y) × (a ≡ b)
unfolding take_in_call
take_one {s} {line} {x} {y} {a} {b} p q = go (first_that (lent_house s)) refl
  where
    go : (f : Option ℕ) → first_that (lent_house s) ≡ f → (x ≡ y) × (a ≡ b)
    go None e =
        let m = holds_one line p.members q.members (p.holds e) (q.holds e) in
        keeps_one (rw m at p.keeps) q.keeps
    go (Some n) e =
        let u = stops (take_in_call s p.members) n (first_some (lent_house s) [] n e) in
        let v = stops (take_in_call s q.members) n (first_some (lent_house s) [] n e) in (
          p.keeps.calls.answers ∙ (ap (λ o. result_number o.0) (u ∙ sym v) ∙ sym q.keeps.calls.answers),
          p.keeps.calls.left ∙ (ap (λ o. o.1) (u ∙ sym v) ∙ sym q.keeps.calls.left),
        )

module _ (s : List ℕ) (ms : Option Members) where
  take_as : IsStored s → Fair s (written_number (take_in (replica_of s) ms).0, stored (take_in (replica_of s) ms).1)
  unfolding take_in
  take_as is = go (first_that (line_refusals ms (maybe None read_line ms))) (maybe None read_line ms)
    where
      left : Option Line → Option Refusal → Result Outcome Refusal × Replica
      left l x = settle Err (replica_of s) (maybe (Err BadMember, replica_of s) (λ w. write (replica_of s) (as_write w)) l) x

      go : (x : Option Refusal) (l : Option Line) → Fair s (written_number (left l x).0, stored (left l x).1)
      go (Some x) l = rules_fair s _ x (sym is.same)
      go None None = rules_fair s _ BadMember (sym is.same)
      go None (Some l) = write_as s (as_write l) is

  pub take_fair : Lent s → FairCall (take_in_call s ms)
  unfolding take_in_call
  take_fair l = record { house = lent_numbers s [] tt; does = λ e. take_as (lent_stands s (first_both (lent_house s) [] e).0 l) }

-- ---- putting out

pub put_out_reads : (s out : List ℕ) (i : Id) → Reads s out (put_out (replica_of s) i out) (put_out_call s i out)
unfolding put_out_call
put_out_reads s out i = record { is = refl }

module _ (s : List ℕ) (i : Id) {q : Result (Unit {0}) HouseRefusal} {r : ℕ} (h : House (lent_house s) q) where
  pub size_refuses : {x : HouseRefusal} → q ≡ Err x → r ≡ result_number (refused (house_number x)) → Calls (put_out_size_call s i) r tt
  unfolding put_out_size_call
  size_refuses e f = lent_refuses s [] h e f

  pub size_answers : q ≡ Ok tt → {a : Result ℕ Refusal} → a ≡ put_out_size (replica_of s) i → r ≡ result_number (answered_number a) → Calls (put_out_size_call s i) r tt
  unfolding put_out_size_call
  size_answers z d e = lent_does s [] (none_first _ h z) no_house refl (e ∙ ap (λ (x : Result ℕ Refusal). result_number (answered_number x)) d) refl

pub size_fair : (s : List ℕ) (i : Id) → Lent s → FairCall (put_out_size_call s i)
unfolding put_out_size_call put_out_size
size_fair s i l = record { house = lent_numbers s [] tt; does = λ e. go (lent_stands s (first_both (lent_house s) [] e).0 l) (first_that (put_refusals (replica_of s) i)) }
  where
    go : IsStored s → (x : Option Refusal) → Fair {L = Unit {0}} tt (answered_number (maybe (Ok (length (lines_text i (tree_of (replica_of s) i)))) Err x), tt)
    go is None = accepted_fair tt tt _ (lines_most (replica_of s) is.replica i)
    go is (Some x) = rules_fair tt tt x refl
