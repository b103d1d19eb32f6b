-- A report handed over to a lent buffer, and the listing of the rules as the promise gives it. Assumes nothing.
use mathlib.Core.Path.{◌≡◌, refl, sym, ap, ◌∙◌, subst}
use Rattle.rules.specs.declared.Refusal.{Refusal}
use Rattle.std.specs.Prelude.{Result, Ok}
use mathlib.Core.List.{List, []}
use Prim.Native.Nat.{ℕ, ◌≤◌}
use native.Mathlib.Omega.{arith}
use lib.ListN.{length, take}
use lib.Seq.{take_at}
use Rattle.rules.specs.Image.{image}
use Rattle.rules.specs.Outcome.{Does}
use Rattle.rules.specs.Read.{reads}
use Rattle.rules.specs.Report.{text, report, read_report}
use Rattle.rules.proofs.Readings.{lots}
use Rattle.rules.proofs.ReadingsReport.{listing}
use Rattle.octets.specs.Splice.{splice}
use Rattle.octets.proofs.SpliceLaws.{length-splice}
use Rattle.reads.proofs.AnswerLaws.{reads_answers}
use Rattle.text.specs.Text.{PutWithin}

front_taken : (out bytes : List ℕ) (n : ℕ) → length bytes ≡ n → take n (splice out 0 bytes) ≡ bytes
unfolding splice
front_taken out bytes n e = take_at bytes _ n e

module _ {bound : ℕ} {x t t' : List ℕ} {n : ℕ} (p : PutWithin bound x t 0 n t') where
  -- a text at the front of a buffer that holds it
  pub still_long : bound ≤ length t → length t' ≡ length t
  still_long h = ap length p.put.is ∙ length-splice t 0 x (omega (arith, p.most, p.put.ends))

  text_taken : take n t' ≡ x
  text_taken = ap (take n) p.put.is ∙ front_taken t x n (omega (arith, p.put.ends))

  -- handed over, it is the answer
  pub handed : (s out after : List ℕ) (r : Result ℕ Refusal) → x ≡ report s → Does (reads [] n (take n t') out) r after → Does (read_report s out) r after
  unfolding read_report
  handed s out after r e d =
      let l : n ≡ length (report s) = omega (arith, p.put.ends, ap length e) in
      subst (λ (b : List ℕ). Does (reads [] (length (report s)) b out) r after) (text_taken ∙ e)
      (subst (λ (k : ℕ). Does (reads [] k (take n t') out) r after) l d)

-- "The image saved after cases 1 to 5 below prints:" these two lines, whatever buffer of 106 bytes or more is lent
pub lot_listing : (out after : List ℕ) (r : Result ℕ Refusal) → 106 ≤ length out → Does (read_report (image lots) out) r after
    → (r ≡ Ok 106)
    × (take 106 after
    ≡ text "seq 4 documents 1 revisions 4\n6c6f74 seq 4 winner 2-4c000000000000000000000000000000 leaves 2 conflicts 1\n")
unfolding read_report
lot_listing out after r h d =
    let n : length (report (image lots)) ≡ 106 = ap length listing ∙ (unfold text in refl) in
    let k : length (report (image lots)) ≤ length out = omega arith in
    let f = reads_answers (length (report (image lots))) (report (image lots)) out _ (splice out 0 (report (image lots))) k refl refl in (
      d.answers ∙ (sym f.answers ∙ ap Ok n),
      ap (take 106) (d.left ∙ sym f.left) ∙ (front_taken out (report (image lots)) 106 n ∙ listing),
    )
