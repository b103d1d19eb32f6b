-- What a load answered, and the report that goes with it. Assumes nothing.
use mathlib.Core.Path.{◌≡◌, refl, sym, ap, ◌∙◌, subst}
use Rattle.std.specs.Prelude.{Result, Ok, Err}
use mathlib.Core.List.{List}
use Rattle.std.specs.Prelude.{Option, None, Some}
use Prim.Native.Nat.{ℕ}
use Rattle.rules.specs.declared.Fault.{Fault}
use Rattle.rules.specs.Choice.{first_that}
use Rattle.rules.specs.Faults.{faults}
use Rattle.rules.specs.Image.{replica_in}
use Rattle.rules.specs.Replica.{Replica}
use Rattle.rules.specs.Report.{replica_text, report}
use Rattle.images.proofs.Theorems.{loads}
use Rattle.store.specs.Storage.{replica_of, IsStored}
use Rattle.codec.specs.Codec.{load_bytes, Loads}
use Rattle.report.specs.Loaded.{loaded_text, Answers}
use Rattle.report.proofs.FaultLaws.{place_most, report_refused}

-- what was answered to an image and left in b gives the image's report
pub record Judged (image b : List ℕ) (l : Result (Unit {0}) (Fault × ℕ)) : Type 0 where
  pub answers : Answers l b
  pub text : loaded_text l b ≡ report image

judged_accepted : (image b : List ℕ) → first_that (faults image) ≡ None → IsStored b → replica_of b ≡ replica_in image → Judged image b (Ok tt)
unfolding report
judged_accepted image b e h m = record { answers = h; text = ap replica_text m ∙ sym (rw e refl) }

judged_refused : (image b : List ℕ) (f : Fault × ℕ) → first_that (faults image) ≡ Some f → Judged image b (Err f)
judged_refused image b f e = record { answers = place_most image f e; text = sym (report_refused image f e) }

-- it is what a load says
pub load_judges : {before image b : List ℕ} {l : Result (Unit {0}) (Fault × ℕ)} → Loads before image l b → Judged image b l
load_judges {before} {image} {b} {l} h = go (first_that (faults image)) refl
  where
    says : (o : Option (Fault × ℕ)) → first_that (faults image) ≡ o → l ≡ (load_bytes before image o).0
    says o e = h.does.answers ∙ ap (λ (x : Option (Fault × ℕ)). (load_bytes before image x).0) e

    go : (o : Option (Fault × ℕ)) → first_that (faults image) ≡ o → Judged image b l
    go None e =
        let q = says None e in
        let m : replica_of b ≡ replica_in image =
        ap (λ (x : Result (Unit {0}) (Fault × ℕ) × Replica). x.1) (sym h.means ∙ loads (replica_of before) image e) in
        subst (Judged image b) (sym q) (judged_accepted image b e (h.accepted q) m)
    go (Some f) e = subst (Judged image b) (sym (says (Some f) e)) (judged_refused image b f e)
