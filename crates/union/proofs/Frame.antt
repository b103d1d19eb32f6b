-- A write, an edit and a list of writes change no other document. Assumes nothing.
use mathlib.Core.Path.{◌≡◌, refl, ◌∙◌}
use mathlib.Core.List.{List, [], ◌∷◌}
use mathlib.Core.Logic.{inl, inr}
use Rattle.rules.specs.declared.Counts.{Counts}
use Rattle.rules.specs.Edit.{Edit, as_write, edit}
use Rattle.rules.specs.Pull.{count, take_in}
use Rattle.rules.specs.Replica.{Id, Replica, document_of}
use Rattle.rules.specs.Union.{In}
use Rattle.rules.specs.Write.{Write, write}
use Rattle.union.proofs.Cases.{added_other, edit_by, write_by}

pub write_other : (r : Replica) (w : Write) (j : Id) → (j ≡ w.id → ⊥) → document_of (write r w).1 j ≡ document_of r j
write_other r w j n = write_by r w (λ s. document_of s j ≡ document_of r j) refl (λ e a. added_other r w j n)

pub edit_other : (r : Replica) (e : Edit) (j : Id) → (j ≡ e.id → ⊥) → document_of (edit r e).1 j ≡ document_of r j
unfolding as_write
edit_other r e j n = edit_by r e (λ s. document_of s j ≡ document_of r j) refl (λ f. added_other r (as_write r e) j n)

pub take_in_other : (ws : List Write) (s : Counts × Replica) (j : Id) → ((w : Write) → In w ws → j ≡ w.id → ⊥)
    → document_of (take_in ws s).1 j ≡ document_of s.1 j
unfolding take_in
take_in_other [] s j n = refl
take_in_other (w ∷ ws) s j n =
    take_in_other ws (count (write s.1 w).0 s.0, (write s.1 w).1) j (λ v m. n v (inr m))
    ∙ write_other s.1 w j (n w (inl refl))
