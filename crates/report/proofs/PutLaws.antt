-- The lines as they are put together. Assumes nothing.
use mathlib.Core.Path.{◌≡◌, sym}
use mathlib.Core.List.{◌++◌, append_assoc}
use Prim.Native.Nat.{ℕ, ◌+◌, ◌-◌}
use native.Mathlib.Omega.{arith}
use lib.ListN.{length}
use Rattle.rules.specs.declared.Fault.{Fault}
use Rattle.rules.specs.declared.Seq.{Seq}
use Rattle.rules.specs.Refusal.{fault_number}
use Rattle.rules.specs.Replica.{Replica, revisions_held}
use Rattle.rules.specs.Report.{decimal, text, head_text, refused_text, seq_word, documents_word, revisions_word, leaves_word, conflicts_word, refused_word, at_word, newline}
use Rattle.report.specs.Lines.{counts_text}

pub head_joined : (r : Replica) {q : Seq} {d n : ℕ} → q ≡ r.seq → d ≡ length r.documents → n ≡ revisions_held r.documents
    → (((text seq_word ++ decimal q.0) ++ (text documents_word ++ decimal d)) ++ (text revisions_word ++ decimal n)) ++ text newline ≡ head_text r
unfolding head_text
head_joined r e f g = rw (sym e, sym f, sym g) (simp append_assoc)

pub counts_joined : (n m : ℕ) → n ≡ m + 1
    → ((text leaves_word ++ decimal n) ++ (text conflicts_word ++ decimal m)) ++ text newline ≡ counts_text n
unfolding counts_text
counts_joined n m e = let k : n - 1 ≡ m = omega arith in rw k (simp append_assoc)

pub refused_joined : (f : Fault × ℕ) {n : ℕ} → n ≡ fault_number f.0
    → ((text refused_word ++ decimal n) ++ (text at_word ++ decimal f.1)) ++ text newline ≡ refused_text f
unfolding refused_text
refused_joined f e = rw (sym e) (simp append_assoc)
