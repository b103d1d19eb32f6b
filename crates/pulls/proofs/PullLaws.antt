-- A pull, one document after the other. Assumes nothing.
use mathlib.Core.Path.{◌≡◌, refl, sym, ap, ◌∙◌, subst}
use Rattle.std.specs.Prelude.{Option, None, Some}
use mathlib.Core.List.{List, [], ◌∷◌, ◌++◌}
use Prim.Native.Nat.{ℕ, suc, ◌+◌, ◌<◌, ◌≤◌}
use native.Mathlib.Omega.{arith}
use lib.ListN.{length, length-append}
use Rattle.rules.specs.declared.Counts.{Counts}
use Rattle.rules.specs.declared.Seq.{Seq}
use Rattle.rules.specs.Answer.{Numbered}
use Rattle.rules.specs.Pull.{offer, offers_of, offers_in, offers, count, no_counts, take_in, pull}
use Rattle.rules.specs.Read.{leaves, documents_after}
use Rattle.rules.specs.Replica.{Id, Document, Replica}
use Rattle.rules.specs.Room.{revisions_most}
use Rattle.rules.specs.Write.{Write, write}
use Rattle.union.specs.Said.{total}
use Rattle.union.proofs.Pulls.{take_in_total, offers_most}
use Rattle.store.specs.Storage.{replica_of, stored, IsStored}
use Rattle.store.specs.Documents.{documents_of, document_at}
use Rattle.store.proofs.FitLaws.{stored_laid}
use Rattle.store.proofs.StoredLaws.{size_laid, length-map}
use Rattle.reads.specs.Next.{IsNext}
use Rattle.reads.proofs.NextLaws.{seq_path}
use Rattle.pulls.specs.Pulls.{CanPull, Pulled, path_room, Offered, CanOfferAll}
use Rattle.pulls.proofs.DocumentLaws.{after_next}

-- the offers of two lists one after the other
take_in_append : (us vs : List Write) (z : Counts × Replica) → take_in (us ++ vs) z ≡ take_in vs (take_in us z)
unfolding take_in
take_in_append [] vs z = refl
take_in_append (u ∷ us) vs z = take_in_append us vs (count (write z.1 u).0 z.0, (write z.1 u).1)

-- the documents after q are still to be offered
pub record Rest (s : List ℕ) (q₀ : Seq) (t₀ t p : List ℕ) (q : Seq) (c : Counts) : Type 0 where
  pub few : total c + length (offers_in (documents_after q (documents_of s))) ≤ revisions_most
  pub is : take_in (offers_in (documents_after q (documents_of s))) (c, replica_of t) ≡ pull q₀ (replica_of s) (replica_of t₀)
  pub is_stored : IsStored t
  pub room : length p ≡ path_room

module _ {s : List ℕ} {q₀ : Seq} {t₀ : List ℕ} (can : CanPull s t₀) where
  pub rest_all : {p : List ℕ} → length p ≡ path_room → Rest s q₀ t₀ t₀ p q₀ no_counts
  unfolding pull offers
  rest_all e = record {
    few = let a = offers_most q₀ (replica_of s) in let b = can.source.replica.revisions_at_most in omega arith;
    is = refl;
    is_stored = can.target;
    room = e;
  }

  module _ {t p : List ℕ} {q : Seq} {c : Counts} (rest : Rest s q₀ t₀ t p q c) where
    pub target_size : length t ≡ length t₀
    target_size = size_laid t (stored_laid t rest.is_stored) ∙ sym (size_laid t₀ (stored_laid t₀ can.target))

    -- no document is left
    pub rest_none : {n : Option (ℕ × Seq)} → IsNext q 0 (documents_of s) n → n ≡ None → Pulled q₀ s t₀ c t
    unfolding take_in offers_in
    rest_none next e =
        let is : (c, replica_of t) ≡ pull q₀ (replica_of s) (replica_of t₀)
        = subst (λ (l : List (Id × Document)). take_in (offers_in l) (c, replica_of t) ≡ pull q₀ (replica_of s) (replica_of t₀))
        (subst (IsNext q 0 (documents_of s)) e next) rest.is in
        record {
          counts = ap (λ (z : Counts × Replica). z.0) is;
          bytes = rest.is_stored.same ∙ ap (λ (z : Counts × Replica). stored z.1) is;
          means = ap (λ (z : Counts × Replica). z.1) is;
          is_stored = rest.is_stored;
        }

    module _ {n : Option (ℕ × Seq)} {d : ℕ} {q' : Seq} (found : IsNext q 0 (documents_of s) n) (e : n ≡ Some (d, q')) where
      abbrev x : Id × Document
      x = document_at (documents_of s) d

      next : IsNext q 0 (documents_of s) (Some (d, q'))
      next = subst (IsNext q 0 (documents_of s)) e found

      next_is : documents_after q (documents_of s) ≡ x ∷ documents_after q' (documents_of s)
      next_is =
          after_next (replica_of s) can.source.replica q x next.1
          ∙ ap (λ (z : Seq). x ∷ documents_after z (documents_of s)) (sym (seq_path q' x.1.seq (ap (λ (z : Numbered). z.value) next.2)))

      pub rest_falls : length (documents_after q' (documents_of s)) < length (documents_after q (documents_of s))
      rest_falls = let e : length (documents_after q (documents_of s)) ≡ suc (length (documents_after q' (documents_of s))) = ap length next_is in omega arith

      offers_are : offers_in (documents_after q (documents_of s)) ≡ offers_of x ++ offers_in (documents_after q' (documents_of s))
      unfolding offers_in
      offers_are = ap offers_in next_is

      offers_length : length (offers_in (documents_after q (documents_of s))) ≡ length (offers_of x) + length (offers_in (documents_after q' (documents_of s)))
      offers_length = ap length offers_are ∙ length-append (offers_of x) (offers_in (documents_after q' (documents_of s)))

      pub can_all : CanOfferAll s d c t p
      unfolding offers_of
      can_all =
          let n : length (offers_of x) ≡ length (leaves x.1.tree) = length-map (offer x.0 x.1.tree) (leaves x.1.tree) in
          record {
            source = can.source;
            within = next.0;
            room = let r = rest.room in omega arith;
            few = let a = offers_length in let b = rest.few in omega arith;
            target = rest.is_stored;
          }

      -- document d is offered
      pub rest_more : {c' : Counts} {t' p' : List ℕ} → Offered (offers_of x) c t p c' t' p' → Rest s q₀ t₀ t' p' q' c'
      rest_more {c'} made =
          let ws = offers_in (documents_after q' (documents_of s)) in
          let up : total c' ≡ length (offers_of x) + total c
          = sym (ap (λ (z : Counts × Replica). total z.0) made.is) ∙ take_in_total (offers_of x) c (replica_of t) in
          record {
            few = let a = offers_length in let b = rest.few in omega arith;
            is =
                ap (take_in ws) (sym made.is)
                ∙ (sym (take_in_append (offers_of x) ws (c, replica_of t))
                ∙ (ap (λ (l : List Write). take_in l (c, replica_of t)) (sym offers_are) ∙ rest.is));
            is_stored = made.is_stored;
            room = made.room ∙ rest.room;
          }
