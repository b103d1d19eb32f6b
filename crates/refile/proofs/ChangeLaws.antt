-- The calls that change a replica. Assumes nothing.
use mathlib.Core.Path.{◌≡◌, refl, ap, ◌∙◌}
use Rattle.rules.specs.declared.RevNumber.{RevNumber}
use Rattle.rules.specs.declared.Refusal.{Refusal}
use Rattle.rules.specs.declared.Outcome.{Outcome}
use Rattle.std.specs.Prelude.{Result, Ok, Err}
use mathlib.Core.Bool.{Bool, true, false}
use mathlib.Core.List.{List, [], ◌∷◌, ◌++◌}
use mathlib.Core.Logic.{◌⊎◌, inl, inr}
use Rattle.std.specs.Prelude.{Option, None, Some}
use Prim.Native.Nat.{ℕ, zero, suc, ◌≤◌, ◌<◌}
use lib.ListN.{length}
use lib.Seq.{take_all}
use native.Mathlib.Omega.{arith}
use borrow.Author.Tests.{eqb-true, eq-eqb, ne_eqb}
use lib.Dec.{eqb}
use Rattle.rules.specs.declared.Content.{Content}
use Rattle.rules.specs.declared.Counts.{Counts}
use Rattle.rules.specs.declared.Fault.{Fault}
use Rattle.rules.specs.declared.Revision.{Revision}
use Rattle.rules.specs.Answer.{refused, written_number, edited_number, loaded_number}
use Rattle.rules.specs.Bytes.{part}
use Rattle.rules.specs.Choice.{first_that}
use Rattle.rules.specs.Faults.{faults}
use Rattle.rules.specs.Pull.{pull}
use Rattle.rules.specs.Read.{front}
use Rattle.rules.specs.Refusal.{fault_number}
use Rattle.rules.specs.Replica.{Replica, revision, fresh}
use Rattle.rules.specs.Room.{hash_size}
use Rattle.octets.specs.Octets.{IsHash}
use Rattle.union.proofs.Demand3.{fresh_is_replica}
use Rattle.store.specs.Change.{Holds}
use Rattle.store.specs.Storage.{store_size, replica_of, IsStored}
use Rattle.writes.specs.Judge.{Wrote}
use Rattle.writes.specs.Path.{write_of}
use Rattle.edits.specs.Edit.{edit_of, EditDone}
use Rattle.report.proofs.FaultLaws.{place_most}
use Rattle.codec.specs.Codec.{load_bytes, Loads}
use Rattle.pulls.specs.Pulls.{Pulled}
use Rattle.refile.specs.declared.number.HouseRefusal.{HouseRefusal}
use Rattle.refile.specs.declared.number.HouseRefusal.TheVariants.{BadKind, BadLabel, BadFlag, BadHash, BadNoParent}
use Rattle.refile.specs.House.{house_number, House}
use Rattle.refile.specs.Boundary.{refused_from, result_of, result_number, SmallPlace, Keeps, lent_house, bad_kind, bad_label, bad_flag, bad_hash}
use Rattle.refile.specs.Boundary.{bad_no_parent, parent_house, edit_house, short_answer, content_from, parent_from, count_bytes, load_call, write_call, edit_call, pull_call}
use Rattle.refile.proofs.AnswerLaws.{short_answer_lem, room_answer}
use Rattle.refile.proofs.CallLaws.{sized, none_first, clear, not-false, past, stop, does, keeps, unfit_keeps, accepts, more_refuses, lent_does}
use Rattle.refile.proofs.NumberLaws.{fault_small}

-- ---- the house refusals of a content

module _ (k l : ℕ) where
  pub content_live : k ≡ 1 → House (bad_kind k ∷ bad_label k l ∷ []) (Ok tt)
  unfolding bad_kind bad_label first_that
  content_live e = record { first = rw e }

  pub content_kind_lem : (k ≡ 1 → ⊥) → (k ≡ 2 → ⊥) → House (bad_kind k ∷ bad_label k l ∷ []) (Err BadKind)
  unfolding bad_kind bad_label first_that
  content_kind_lem n m = record { first = rw (ne_eqb k 1 n, ne_eqb k 2 m) }

  pub content_label_lem : k ≡ 2 → (l ≡ 0 → ⊥) → House (bad_kind k ∷ bad_label k l ∷ []) (Err BadLabel)
  unfolding bad_kind bad_label first_that
  content_label_lem e n = record { first = rw (e, ne_eqb l 0 n) }

  pub content_deleted : k ≡ 2 → l ≡ 0 → House (bad_kind k ∷ bad_label k l ∷ []) (Ok tt)
  unfolding bad_kind bad_label first_that
  content_deleted e f = record { first = rw (e, f) }

-- ---- the house refusals of an edit

module _ (h : List ℕ) where
  pub hash_long : (length h ≡ hash_size → ⊥) → House (bad_hash h ∷ []) (Err BadHash)
  unfolding bad_hash first_that
  hash_long ne = record { first = rw (ne_eqb (length h) hash_size ne) }

  pub hash_fine : length h ≡ hash_size → House (bad_hash h ∷ []) (Ok tt)
  unfolding bad_hash first_that
  hash_fine e = record { first = rw (eq-eqb (length h) hash_size e) }

module _ (f n : ℕ) (h : List ℕ) where
  pub parent_named_lem : {q : Result (Unit {0}) HouseRefusal} → f ≡ 1 → House (bad_hash h ∷ []) q → House (parent_house f n h ∷ []) q
  unfolding parent_house
  parent_named_lem e p = rw (eq-eqb f 1 e) p

  pub parent_given : (f ≡ 1 → ⊥) → (n ≡ 0 → ⊥) ⊎ ((n ≡ 0) × (length h ≡ 0 → ⊥)) → House (parent_house f n h ∷ []) (Err BadNoParent)
  unfolding parent_house bad_no_parent first_that
  parent_given e (inl ne) = record { first = rw (ne_eqb f 1 e, ne_eqb n 0 ne) }
  parent_given e (inr p) = record { first = rw (ne_eqb f 1 e, eq-eqb n 0 p.0, ne_eqb (length h) 0 p.1) }

  pub parent_none : (f ≡ 1 → ⊥) → n ≡ 0 → length h ≡ 0 → House (parent_house f n h ∷ []) (Ok tt)
  unfolding parent_house bad_no_parent first_that
  parent_none e z l = record { first = rw (ne_eqb f 1 e, eq-eqb n 0 z, eq-eqb (length h) 0 l) }

flag_high : (f : ℕ) → 1 < f → (bad_flag f).0 ≡ true
unfolding bad_flag
flag_high f h = rw (ne_eqb f 0 (λ e. omega arith), ne_eqb f 1 (λ e. omega arith))

flag_low : (f : ℕ) → f ≤ 1 → (bad_flag f).0 ≡ false
unfolding bad_flag
flag_low zero h = refl
flag_low (suc zero) h = refl
flag_low (suc (suc f)) h = absurd (omega arith)

module _ (hash : List ℕ) (k l f n : ℕ) (parent : List ℕ) where
  abbrev rest : List (Bool × ℕ)
  rest = bad_flag f ∷ bad_hash hash ∷ parent_house f n parent ∷ []

  abbrev content : List (Bool × ℕ)
  content = bad_kind k ∷ bad_label k l ∷ []

  module _ {m : Result (Unit {0}) HouseRefusal} (c : House content m) where
    pub edit_content : {x : HouseRefusal} → m ≡ Err x → House (edit_house hash k l f n parent) (Err x)
    unfolding edit_house
    edit_content e = record { first = stop content rest c e }

    module _ (e : m ≡ Ok tt) where
      pub edit_flag : 1 < f → House (edit_house hash k l f n parent) (Err BadFlag)
      unfolding edit_house bad_flag first_that
      edit_flag g = record { first = past content rest c e ∙ rw (flag_high f g) }

      module _ (g : f ≤ 1) {y : Result (Unit {0}) HouseRefusal} (d : House (bad_hash hash ∷ []) y) where
        -- past the content and the flag
        at_hash : first_that (edit_house hash k l f n parent) ≡ first_that ((bad_hash hash ∷ []) ++ (parent_house f n parent ∷ []))
        unfolding edit_house bad_flag first_that
        at_hash = past content rest c e ∙ rw (flag_low f g)

        pub edit_hash : {x : HouseRefusal} → y ≡ Err x → House (edit_house hash k l f n parent) (Err x)
        edit_hash q = record { first = at_hash ∙ stop (bad_hash hash ∷ []) (parent_house f n parent ∷ []) d q }

        pub edit_parent : y ≡ Ok tt → {z : Result (Unit {0}) HouseRefusal} → House (parent_house f n parent ∷ []) z → House (edit_house hash k l f n parent) z
        edit_parent q p = record { first = at_hash ∙ (past (bad_hash hash ∷ []) (parent_house f n parent ∷ []) d q ∙ p.first) }

-- what is known past the house refusals
sized_hash : (h : List ℕ) → (bad_hash h).0 ≡ false → length h ≡ hash_size
unfolding bad_hash
sized_hash h e = eqb-true (length h) hash_size (not-false (eqb (length h) hash_size) e)

module _ (hash : List ℕ) (k l f n : ℕ) (parent : List ℕ) {m : Result (Unit {0}) HouseRefusal} (house : House (edit_house hash k l f n parent) m) (z : m ≡ Ok tt) where
  hashes_clear : ((bad_hash hash).0 ≡ false) × (first_that (parent_house f n parent ∷ []) ≡ None)
  unfolding edit_house
  hashes_clear =
      let a = clear (bad_kind k) _ (none_first _ house z) in
      let b = clear (bad_label k l) _ a.1 in
      let c = clear (bad_flag f) _ b.1 in
      clear (bad_hash hash) _ c.1

  pub edit_hash_size : length hash ≡ hash_size
  edit_hash_size = sized_hash hash hashes_clear.0

  pub parent_hash_size : f ≡ 1 → length parent ≡ hash_size
  unfolding parent_house
  parent_hash_size e = sized_hash parent (rw (eq-eqb f 1 e) at (clear (parent_house f n parent) [] hashes_clear.1).0)

-- ---- the ordinary edit

-- the parent that is given, where one is
pub parent_is : (f n : ℕ) (p h : List ℕ) → f ≡ 1 → length p ≡ hash_size → IsHash p 0 h → Some (revision n h) ≡ parent_from f (revision n p)
unfolding part
parent_is f n p h e s i =
    let same : h ≡ p = i.is ∙ take_all 16 p (omega arith) in
    rw (e, same)

pub parent_is_none : (f : ℕ) (v : Revision) → (f ≡ 1 → ⊥) → None ≡ parent_from f v
parent_is_none f v ne = rw (ne_eqb f 1 ne)

module _ (s i hash : List ℕ) (k l f n : ℕ) (parent : List ℕ) (fine : first_that (lent_house s) ≡ None) where
  pub edit_refused : {m : Result (Unit {0}) HouseRefusal} {x : HouseRefusal} {r : ℕ} → House (edit_house hash k l f n parent) m → m ≡ Err x → r ≡ result_number (refused (house_number x))
      → Keeps (edit_call s i hash k l f n parent) r s s
  unfolding edit_call
  edit_refused {x = x} h e q = unfit_keeps x q (more_refuses s _ fine h e q)

  pub edit_done : (m : Result (Unit {0}) HouseRefusal) (h : List ℕ) (c : Content) (named : Option Revision) (a : Result RevNumber Refusal) (left : List ℕ) (r : ℕ) → House (edit_house hash k l f n parent) m → m ≡ Ok tt
      → IsHash hash 0 h → c ≡ content_from k l → named ≡ parent_from f (revision n parent)
      → EditDone s (edit_of i h c named) a left → r ≡ result_number (edited_number a) → Keeps (edit_call s i hash k l f n parent) r left left
  unfolding edit_call part
  edit_done m h c named a left r house z j e p d q =
      let same : h ≡ hash = j.is ∙ take_all 16 hash (let x = edit_hash_size hash k l f n parent house z in omega arith) in
      let whole : edit_of i h c named ≡ record { id = i; hash = hash; content = content_from k l; parent = parent_from f (revision n parent) }
      = λ x. record { id = i; hash = same x; content = e x; parent = p x } in
      let w : EditDone s (record { id = i; hash = hash; content = content_from k l; parent = parent_from f (revision n parent) }) a left = rw whole at d in
      accepts (lent_does s _ fine (none_first _ house z) refl (q ∙ ap (λ (x : Result RevNumber Refusal). result_number (edited_number x)) w.answer) w.left) w.is

-- ---- the path write

module _ (s i : List ℕ) (n : ℕ) (p : List ℕ) (k l : ℕ) (fine : first_that (lent_house s) ≡ None) where
  pub write_refused : {m : Result (Unit {0}) HouseRefusal} {x : HouseRefusal} {r : ℕ} → House (bad_kind k ∷ bad_label k l ∷ []) m → m ≡ Err x → r ≡ result_number (refused (house_number x))
      → Keeps (write_call s i n p k l) r s s
  unfolding write_call
  write_refused {x = x} h e q = unfit_keeps x q (more_refuses s _ fine h e q)

  pub write_done : (m : Result (Unit {0}) HouseRefusal) (c : Content) (a : Result Outcome Refusal) (left : List ℕ) (r : ℕ) → House (bad_kind k ∷ bad_label k l ∷ []) m → m ≡ Ok tt → c ≡ content_from k l
      → Wrote s (write_of i (record { 0 = n }) p c) a left → r ≡ result_number (written_number a) → Keeps (write_call s i n p k l) r left left
  unfolding write_call
  write_done m c a left r house z e d q =
      let w : Wrote s (write_of i (record { 0 = n }) p (content_from k l)) a left = rw e at d in
      accepts (lent_does s _ fine (none_first _ house z) refl (q ∙ ap (λ (x : Result Outcome Refusal). result_number (written_number x)) w.answer) w.left) w.is

-- ---- fresh and load

pub fresh_stands : (s : List ℕ) → Holds fresh s → IsStored s
fresh_stands s h = record { same = h.laid.same; replica = rw h.means fresh_is_replica }

-- no fault lies far in
pub loaded_small : (before image : List ℕ) (answer : Result (Unit {0}) (Fault × ℕ)) (after : List ℕ) → Loads before image answer after → SmallPlace answer
loaded_small before image answer after l = rw l.does.answers (go (first_that (faults image)) refl)
  where
    go : (o : Option (Fault × ℕ)) → first_that (faults image) ≡ o → SmallPlace (load_bytes before image o).0
    go None e = tt
    go (Some f) e = let m = place_most image f e in omega arith

-- a result below 2^63 is not that of a fault
loaded_accepted : (a : Result (Unit {0}) (Fault × ℕ)) (r : ℕ) → r ≡ result_number (loaded_number a) → r < refused_from → a ≡ Ok tt
loaded_accepted (Ok u) r e h = refl
loaded_accepted (Err (f, p)) r e h = absurd (high (fault_number f) (fault_small f).0 e)
  where
    high : (n : ℕ) → 1 ≤ n → r ≡ result_of n p → ⊥
    high zero k q = omega arith
    high (suc n) k q = omega arith

pub loads_on : (s image : List ℕ) (answer : Result (Unit {0}) (Fault × ℕ)) (left : List ℕ) (r : ℕ) → length s ≡ store_size → Loads s image answer left → r ≡ result_number (loaded_number answer)
    → Keeps (load_call s image) r left left
unfolding load_call
loads_on s image answer left r size l e = record {
  calls = does (sized s size) refl (e ∙ ap (λ (a : Result (Unit {0}) (Fault × ℕ)). result_number (loaded_number a)) l.does.answers) l.does.left;
  stands = λ h. l.accepted (loaded_accepted answer r e h);
}

-- ---- pull

module _ (t s answer : List ℕ) (q : ℕ) (tfine : first_that (lent_house t) ≡ None) (sfine : first_that (lent_house s) ≡ None) where
  abbrev pulled : Counts × Replica
  pulled = pull (record { 0 = q }) (replica_of s) (replica_of t)

  pub pull_short : (r : ℕ) → length answer < 12 → r ≡ result_number (refused 14) → Keeps (pull_call t s q answer) r (t, answer) t
  unfolding pull_call count_bytes short_answer
  pull_short r h e = keeps 14 (λ z. omega arith) e (lent_does t _ tfine sfine (short_answer_lem _ _ _ answer h) e refl)

  pub pull_done : (c : Counts) (left answer' : List ℕ) → 12 ≤ length answer → Pulled (record { 0 = q }) s t c left → answer' ≡ front (count_bytes c) answer
      → Keeps (pull_call t s q answer) 0 (left, answer') left
  unfolding pull_call count_bytes
  pull_done c left answer' h p e =
      let b = p.bytes in
      let f : answer' ≡ front (count_bytes pulled.0) answer = e ∙ ap (λ (n : Counts). front (count_bytes n) answer) p.counts in
      accepts (lent_does t _ tfine sfine (room_answer _ _ _ answer h) refl (λ i. (b i, f i))) p.is_stored
