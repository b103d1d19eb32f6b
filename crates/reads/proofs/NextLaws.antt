-- Changes: the first document after a sequence, found from the last document down, and the call's outcomes. Assumes nothing.
use mathlib.Core.Path.{◌≡◌, refl, sym, ap, ap₂, ◌∙◌}
use Rattle.rules.specs.declared.Change.{Change}
use Rattle.rules.specs.declared.Refusal.{Refusal}
use Rattle.std.specs.Prelude.{Option, None, Result, Ok, Err}
use mathlib.Core.Bool.{Bool, true, false, ◌&&◌}
use mathlib.Core.List.{List, [], ◌∷◌}
use mathlib.Core.Logic.{inl, inr}
use Rattle.std.specs.Prelude.{Some}
use Prim.Native.Nat.{ℕ, zero, suc, ◌+◌, ◌≤◌, ◌<◌}
use native.Mathlib.Numerals.{add-one}
use native.Mathlib.Omega.{arith}
use borrow.Author.Tests.{lt-ltb, lt-leb}
use lib.Dec.{leb, ltb}
use lib.ListN.{length, drop, drop_of_length-le}
use lib.Seq.{drop-cons}
use Rattle.rules.specs.declared.Refusal.TheVariants.{ShortBuffer}
use Rattle.rules.specs.declared.Seq.{Seq}
use Rattle.rules.specs.Answer.{Numbered, accepted, next_number}
use Rattle.rules.specs.Choice.{pick, maybe}
use Rattle.rules.specs.Map.{Map, Ascending}
use Rattle.rules.specs.Order.{order_bytes}
use Rattle.rules.specs.Outcome.{Does}
use Rattle.rules.specs.Read.{leaves, insert_by_seq, documents_after, change_of, first_of, read_changes}
use Rattle.rules.specs.Replica.{Id, Document}
use Rattle.rules.specs.Union.{In}
use Rattle.rules.proofs.MapLaws.{none≢some, some_inj}
use Rattle.rules.proofs.OrderLaws.{bytes_order, no_less_self}
use Rattle.union.proofs.Count.{below_all}
use Rattle.octets.specs.Splice.{splice}
use Rattle.store.specs.Storage.{replica_of, IsStored}
use Rattle.store.specs.Documents.{documents_of, no_document, document_at}
use Rattle.reads.specs.Next.{sooner, IsNext, deletion_wins, change_read}
use Rattle.reads.proofs.AnswerLaws.{lend_short, lend_answers}

-- ---- one document more

-- what was found stays where it is lower
pub sooner_above : (s : Seq) (d : ℕ) (q : Seq) (n : Option (ℕ × Seq)) (e : ℕ) (p : Seq) → s.0 < q.0 → n ≡ Some (e, p) → p.0 < q.0 → n ≡ sooner s d q n
sooner_above s d q n e p h f l = rw (f, lt-ltb _ _ h, lt-leb _ _ l)

-- the first of a sorted list with one more in it
pub first_insert : (x : Id × Document) (l : List (Id × Document)) (y : Id × Document) → first_of l ≡ Some y
    → first_of (insert_by_seq x l) ≡ pick (leb x.1.seq.0 y.1.seq.0) (Some x) (Some y)
unfolding insert_by_seq
first_insert x [] y e = absurd (none≢some e)
first_insert x (z ∷ l) y e = rw (sym (some_inj e)) (go (leb x.1.seq.0 z.1.seq.0))
  where
    go : (c : Bool) → first_of (pick c (x ∷ z ∷ l) (z ∷ insert_by_seq x l)) ≡ pick c (Some x) (Some z)
    go true = refl
    go false = refl

module _ (s : Seq) (ds : Map Id Document) (j : ℕ) (within : j < length ds) where
  abbrev x : Id × Document
  x = document_at ds j

  abbrev behind : List (Id × Document)
  behind = documents_after s (drop (j + 1) ds)

  after_cons : documents_after s (drop j ds) ≡ pick (ltb s.0 x.1.seq.0) (insert_by_seq x behind) behind
  unfolding documents_after document_at
  after_cons = rw (drop-cons ds j no_document within, add-one j)

  next_nobody : (b : Bool) → ltb s.0 x.1.seq.0 ≡ b → behind ≡ [] → IsNext s j ds (pick b (Some (j, x.1.seq)) None)
  unfolding insert_by_seq
  next_nobody true e h =
      let z : documents_after s (drop j ds) ≡ x ∷ [] = after_cons ∙ rw (e, h) in
      (within, ap first_of z, refl)
  next_nobody false e h = after_cons ∙ rw e h

  next_at : (b c : Bool) (d : ℕ) (p : Seq) → ltb s.0 x.1.seq.0 ≡ b → leb x.1.seq.0 p.0 ≡ c → IsNext s (j + 1) ds (Some (d, p))
      → IsNext s j ds (pick (b && c) (Some (j, x.1.seq)) (Some (d, p)))
  next_at true true d p e f h =
      let g : leb x.1.seq.0 (document_at ds d).1.seq.0 ≡ true = rw (sym (ap (λ (z : Numbered). z.value) h.2)) f in
      let z : documents_after s (drop j ds) ≡ insert_by_seq x behind = after_cons ∙ rw e in
      (within, ap first_of z ∙ (first_insert x behind (document_at ds d) h.1 ∙ rw g), refl)
  next_at true false d p e f h =
      let g : leb x.1.seq.0 (document_at ds d).1.seq.0 ≡ false = rw (sym (ap (λ (z : Numbered). z.value) h.2)) f in
      let z : documents_after s (drop j ds) ≡ insert_by_seq x behind = after_cons ∙ rw e in
      (h.0, ap first_of z ∙ (first_insert x behind (document_at ds d) h.1 ∙ rw g), h.2)
  next_at false c d p e f h =
      let z : documents_after s (drop j ds) ≡ behind = after_cons ∙ rw e in
      (h.0, ap first_of z ∙ h.1, h.2)

  step : (n : Option (ℕ × Seq)) → IsNext s (j + 1) ds n → IsNext s j ds (sooner s j x.1.seq n)
  step None h = next_nobody (ltb s.0 x.1.seq.0) refl h
  step (Some (d, p)) h = next_at (ltb s.0 x.1.seq.0) (leb x.1.seq.0 p.0) d p refl refl h

-- from the documents behind j to those from j on
pub next_more : (s : Seq) (ds : Map Id Document) {k : ℕ} (j : ℕ) {q : Seq} (n : Option (ℕ × Seq)) {m : Option (ℕ × Seq)} → k ≡ j + 1 → k ≤ length ds → q ≡ (document_at ds j).1.seq
    → m ≡ sooner s j q n → IsNext s k ds n → IsNext s j ds m
next_more s ds j n e l f g h = rw (g, f) (step s ds j (omega arith) n (rw e at h))

pub next_none : (s : Seq) (ds : Map Id Document) (k : ℕ) → k ≡ length ds → IsNext s k ds None
unfolding documents_after
next_none s ds k e = rw (drop_of_length-le ds {i = k} (omega arith))

-- its number: the own sequence of the first document after s, 0 where there is "no more"
pub next_says : (s : Seq) (ds : Map Id Document) (n : Option (ℕ × Seq)) → IsNext s 0 ds n → next_number n ≡ accepted (maybe 0 (λ x. x.1.seq.0) (first_of (documents_after s ds)))
next_says s ds None h = rw h refl
next_says s ds (Some (d, q)) h = rw h.1 h.2

-- ---- the call

module _ (s : List ℕ) (after : Seq) (out : List ℕ) where
  pub changes_none : {n : Option (ℕ × Seq)} → n ≡ None → IsNext after 0 (documents_of s) n → Does (read_changes (replica_of s) after out) (Ok None) out
  unfolding read_changes
  changes_none e h =
      let z : documents_after after (documents_of s) ≡ [] = rw e at h in
      rw z (record { answers = refl; left = refl })

  pub changes_next : {n : Option (ℕ × Seq)} {d : ℕ} {q : Seq} {r : Result (Option Change) Refusal} {left : List ℕ} → n ≡ Some (d, q) → IsNext after 0 (documents_of s) n → Does (change_read s d out) r left
      → Does (read_changes (replica_of s) after out) r left
  unfolding read_changes change_read
  changes_next {d = d} {q = q} e h w =
      let z : IsNext after 0 (documents_of s) (Some (d, q)) = rw e at h in
      rw z.1 w

pub next_within : (after : Seq) (ds : Map Id Document) {n : Option (ℕ × Seq)} {d : ℕ} {q : Seq} → n ≡ Some (d, q) → IsNext after 0 ds n → d < length ds
next_within after ds {d = d} {q = q} e h = let z : IsNext after 0 ds (Some (d, q)) = rw e at h in z.0

-- ---- one document

module _ (s : List ℕ) (d : ℕ) {id : List ℕ} (out : List ℕ) (same : id ≡ (document_at (documents_of s) d).0) where
  abbrev x' : Id × Document
  x' = document_at (documents_of s) d

  pub change_short : length out < length id → Does (change_read s d out) (Err ShortBuffer) out
  unfolding change_read
  change_short h = lend_short Err (Ok (Some (change_of x'))) x'.0 out (rw same at h)

  pub change_answers : {n : ℕ} {q : Seq} {k : ℕ} {gone : Bool} {after : List ℕ} → n ≡ length id → q ≡ x'.1.seq → k ≡ length (leaves x'.1.tree)
      → gone ≡ deletion_wins x'.1.tree → length id ≤ length out → after ≡ splice out 0 id
      → Does (change_read s d out) (Ok (Some (record { id_len = n; seq = q; leaves = k; deleted = gone }))) after
  unfolding change_read change_of deletion_wins
  change_answers {n} {q} {k} {gone} {after} en eq ek eg l w =
      let z : n ≡ length x'.0 = en ∙ ap length same in
      lend_answers Err (Ok (Some (change_of x'))) x'.0 out
      (Ok (Some (record { id_len = n; seq = q; leaves = k; deleted = gone }))) after (rw same at l)
      (λ i. Ok (Some (record { id_len = z i; seq = eq i; leaves = ek i; deleted = eg i }))) (rw same at w)

-- ---- there is one such document

pub in_at : (ds : Map Id Document) (d : ℕ) → d < length ds → In (document_at ds d) ds
unfolding document_at
in_at [] d h = absurd (omega arith)
in_at (x ∷ ds) zero h = inl refl
in_at (x ∷ ds) (suc d) h = inr (in_at ds d (omega arith))

-- its index is that of its id
at_once : (ds : Map Id Document) → Ascending order_bytes ds → (d e : ℕ) → d < length ds → e < length ds → (document_at ds d).0 ≡ (document_at ds e).0 → d ≡ e
unfolding document_at
at_once [] a d e h k q = absurd (omega arith)
at_once (x ∷ ds) a zero zero h k q = refl
at_once (x ∷ ds) a zero (suc e) h k q = absurd (no_less_self bytes_order x.0 (rw (sym q) at (below_all bytes_order x.0 ds a.0 a.1 (document_at ds e) (in_at ds e (omega arith)))))
at_once (x ∷ ds) a (suc d) zero h k q = absurd (no_less_self bytes_order x.0 (rw q at (below_all bytes_order x.0 ds a.0 a.1 (document_at ds d) (in_at ds d (omega arith)))))
at_once (x ∷ ds) a (suc d) (suc e) h k q = ap suc (at_once ds a.1 d e (omega arith) (omega arith) q)

pub seq_path : (p q : Seq) → p.0 ≡ q.0 → p ≡ q
seq_path p q e = λ i. record { 0 = e i }

pub one_next : (after : Seq) (s : List ℕ) → IsStored s → (m n : Option (ℕ × Seq)) → IsNext after 0 (documents_of s) m → IsNext after 0 (documents_of s) n → m ≡ n
one_next after s k None None p q = refl
one_next after s k None (Some (e, y)) p q = absurd (none≢some (sym (ap first_of p) ∙ q.1))
one_next after s k (Some (d, x)) None p q = absurd (none≢some (sym (ap first_of q) ∙ p.1))
one_next after s k (Some (d, x)) (Some (e, y)) p q =
    let f : document_at (documents_of s) d ≡ document_at (documents_of s) e = some_inj (sym p.1 ∙ q.1) in
    ap₂ (λ (d : ℕ) (q : Seq). Some (d, q))
    (at_once (documents_of s) k.replica.ascending d e p.0 q.0 (ap (λ (z : Id × Document). z.0) f))
    (seq_path x y (ap (λ (z : Numbered). z.value) (p.2 ∙ (ap (λ (z : Id × Document). accepted z.1.seq.0) f ∙ sym q.2))))
