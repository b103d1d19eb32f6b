-- What refile_changes says of a document that it comes to. Assumes nothing.
use mathlib.Core.Path.{◌≡◌, refl, sym, ap, ◌∙◌, subst}
use Rattle.rules.specs.declared.Refusal.{Refusal}
use Rattle.std.specs.Prelude.{Result, Ok, Err}
use mathlib.Core.Bool.{Bool, true, false}
use mathlib.Core.List.{List, [], ◌∷◌, append_assoc}
use mathlib.Core.Logic.{inl, inr}
use Rattle.std.specs.Prelude.{Option, None, Some}
use Prim.Native.Nat.{ℕ, suc, ◌<◌, ◌≤◌}
use native.Mathlib.Omega.{arith}
use borrow.Author.Tests.{ltb-true, ltb-false, le-ltb}
use lib.Dec.{ltb}
use lib.ListN.{length, take, length-append}
use lib.Seq.{take_at}
use Rattle.rules.specs.declared.Change.{Change}
use Rattle.rules.specs.declared.Refusal.TheVariants.{ShortBuffer}
use Rattle.rules.specs.declared.Seq.{Seq}
use Rattle.rules.specs.Answer.{Numbered, accepted}
use Rattle.rules.specs.Bytes.{be, value, part}
use Rattle.rules.specs.Choice.{pick, maybe, first_that}
use Rattle.rules.specs.Map.{Map}
use Rattle.rules.specs.Read.{front, short_buffer, lend, change_of, read_changes}
use Rattle.rules.specs.Replica.{Id, Document, Replica, IsReplica, document_of}
use Rattle.rules.specs.Room.{seq_most}
use Rattle.rules.specs.Union.{In}
use Rattle.rules.proofs.OrderLaws.{bytes_order}
use Rattle.rules.proofs.ByteLaws.{length-be, value_be, part-front, part-past}
use Rattle.union.specs.Said.{change_about}
use Rattle.union.proofs.Demand3 as union
use Rattle.union.proofs.Count.{find_in}
use Rattle.store.specs.Storage.{All, FitsDocument, replica_of, IsStored}
use Rattle.store.proofs.FitLaws.{replica_fits}
use Rattle.reads.specs.Next.{Lowest}
use Rattle.reads.proofs.NextLaws.{seq_path}
use Rattle.reads.proofs.LowestLaws.{changes_lowest}
use Rattle.refile.specs.Boundary.{short_answer, numbers, flag_number, change_bytes, changes_as, changes_call}
use Rattle.refile.specs.Decode.{value_in, decode}
use Rattle.refile.proofs.AnswerLaws.{room_answer}
use Rattle.refile.proofs.FairLaws.{told_does}
use Rattle.refile.proofs.Keeps.{replica_past}
use Rattle.refile.proofs.NumberLaws.{no_refusal}
use Rattle.demands.specs.Calls as C
use Rattle.demands.specs.Calls.{IsAccepted, Called}
use Rattle.demands.specs.Alike.{change_size, ComesTo}
use Rattle.demands.proofs.Results.{changes_tells}

-- what was written and answered is what changes says of a document that is held
record About (r : Replica) (out answer left answered : List ℕ) : Type 0 where
  id : Id
  change : Change
  writes : left ≡ front id out
  answers : answered ≡ front (change_bytes change) answer
  about : change_about r id ≡ Some change

module _ {s : List ℕ} {q : Seq} {out answer : List ℕ} {r : ℕ} {left answered : List ℕ} (k : Called C.changes (s, q, out, answer) r (left, answered)) (i : IsStored s) where
  changes_does : (decode r ≡ (changes_as out answer (read_changes (replica_of s) q out)).0) × ((left, answered) ≡ (changes_as out answer (read_changes (replica_of s) q out)).1)
  unfolding changes_call first_that
  changes_does = told_does (changes_tells.told k) (replica_past s [] i refl)

  -- an accepted call that answers 1 says it of one
  changes_says : IsAccepted r → value_in r ≡ 1 → About (replica_of s) out answer left answered
  unfolding short_answer
  changes_says a v = go (read_changes (replica_of s) q out) refl changes_does.0 changes_does.1
    where
      said_of : (c : Change) (l : List ℕ) → read_changes (replica_of s) q out ≡ (Ok (Some c), l)
          → ◌≡◌ {A = List ℕ × List ℕ} (left, answered) (l, front (change_bytes c) answer) → About (replica_of s) out answer left answered
      said_of c l e p =
          let x = union.changes_about (replica_of s) i.replica q out l c e in
          record {
            id = x.0;
            change = c;
            writes = ap (λ (b : List ℕ × List ℕ). b.0) p ∙ x.1;
            answers = ap (λ (b : List ℕ × List ℕ). b.1) p;
            about = x.2;
          }

      by : (c : Change) (l : List ℕ) → read_changes (replica_of s) q out ≡ (Ok (Some c), l) → (b : Bool)
          → decode r ≡ (pick {A = Numbered × (List ℕ × List ℕ)} b (short_answer, (out, answer)) (accepted 1, (l, front (change_bytes c) answer))).0
          → (left, answered) ≡ (pick {A = Numbered × (List ℕ × List ℕ)} b (short_answer, (out, answer)) (accepted 1, (l, front (change_bytes c) answer))).1
          → About (replica_of s) out answer left answered
      by c l e true d p = absurd (no_refusal ShortBuffer (sym (ap (λ (m : Numbered). m.refusal) d) ∙ a))
      by c l e false d p = said_of c l e p

      go : (o : Result (Option Change) Refusal × List ℕ) → read_changes (replica_of s) q out ≡ o → decode r ≡ (changes_as out answer o).0 → (left, answered) ≡ (changes_as out answer o).1
          → About (replica_of s) out answer left answered
      go (Ok (Some c), l) e d p = by c l e (ltb (length answer) (length (change_bytes c))) d p
      go (Ok None, l) e d p = let z : value_in r ≡ 0 = ap (λ (m : Numbered). m.value) d in absurd (omega arith)
      go (Err n, l) e d p = absurd (no_refusal n (sym (ap (λ (m : Numbered). m.refusal) d) ∙ a))

-- what is said of a document begins with the length of its id
about_size : (r : Replica) → IsReplica r → (i : Id) (c : Change) → change_about r i ≡ Some c → (c.id_len ≡ length i) × (c.id_len < 4294967296)
unfolding change_of
about_size r k i c = go (document_of r i) refl
  where
    go : (o : Option Document) → document_of r i ≡ o → maybe None (λ d. Some (change_of (i, d))) o ≡ Some c → (c.id_len ≡ length i) × (c.id_len < 4294967296)
    go None e p = absurd (let z : ◌≡◌ {A = ℕ} 0 1 = cc in omega arith)
    go (Some d) e p =
        let same : change_of (i, d) ≡ c = cc in
        let z : length i ≡ c.id_len = ap (λ (x : Change). x.id_len) same in
        let m = (k.documents i d e).id.most in
        (sym z, omega arith)

length-change : (c : Change) → length (change_bytes c) ≡ change_size
unfolding change_bytes numbers
length-change c = simp (length-append, length-be) refl

-- and all of it stands at the front
whole : (c : Change) (answer answered : List ℕ) → answered ≡ front (change_bytes c) answer → take change_size answered ≡ change_bytes c
unfolding front
whole c answer answered e = ap (take change_size) e ∙ take_at (change_bytes c) _ change_size (length-change c)

-- the first number of an answer
first_number : (c : Change) (answer : List ℕ) → c.id_len < 4294967296 → value (part 0 4 (front (change_bytes c) answer)) ≡ c.id_len
unfolding front change_bytes numbers
first_number c answer h =
    ap (λ (x : List ℕ). value (part 0 4 x)) (append_assoc (be 4 c.id_len) _ _)
    ∙ (ap value (part-front (be 4 c.id_len) _ 4 (length-be 4 c.id_len)) ∙ value_be 4 c.id_len (omega arith))

-- two ids of one length at the front of the same bytes are the same
front_same : (i j out : List ℕ) → length i ≡ length j → front i out ≡ front j out → i ≡ j
unfolding front
front_same i j out l e = sym (take_at i _ (length j) l) ∙ (ap (take (length j)) e ∙ take_at j _ (length j) refl)

-- where it comes to j, it is j that it speaks of
module _ {j : Id} {s : List ℕ} {q : Seq} {out answer : List ℕ} {r : ℕ} {left answered : List ℕ}
    (k : Called C.changes (s, q, out, answer) r (left, answered)) (i : IsStored s) (n : ComesTo j out r left answered) where
  told : (c : Change) × (take change_size answered ≡ change_bytes c) × (change_about (replica_of s) j ≡ Some c) × (answered ≡ front (change_bytes c) answer)
  told =
      let x = changes_says k i n.accepted n.more in
      let z = about_size (replica_of s) i.replica x.id x.change x.about in
      let f : value (part 0 4 answered) ≡ x.change.id_len = ap (λ (b : List ℕ). value (part 0 4 b)) x.answers ∙ first_number x.change answer z.1 in
      let same : x.id ≡ j = front_same x.id j out (sym z.0 ∙ (sym f ∙ n.size)) (sym x.writes ∙ n.id) in
      (x.change, whole x.change answer answered x.answers, subst (λ (y : Id). change_about (replica_of s) y ≡ Some x.change) same x.about, x.answers)

pub changes_same : (j : Id) (s t : List ℕ) → IsStored s → IsStored t → change_about (replica_of t) j ≡ change_about (replica_of s) j
    → {p q : Seq} {out out' answer answer' : List ℕ} {x y : ℕ} {m n a b : List ℕ}
    → Called C.changes (s, p, out, answer) x (m, a) → Called C.changes (t, q, out', answer') y (n, b) → ComesTo j out x m a → ComesTo j out' y n b → take change_size a ≡ take change_size b
changes_same j s t hs ht e k l u v =
    let c = told k hs u in
    let d = told l ht v in
    let z : Some c.0 ≡ Some d.0 = sym c.2 ∙ (sym e ∙ d.2) in
    let same : c.0 ≡ d.0 = cc in
    c.1 ∙ (ap change_bytes same ∙ sym d.1)

-- ---- it still comes to a document that is held

-- the second number of an answer
second_number : (c : Change) (answer : List ℕ) → c.seq.0 < 4294967296 → value (part 4 4 (front (change_bytes c) answer)) ≡ c.seq.0
unfolding front change_bytes numbers
second_number c answer h =
    ap (λ (x : List ℕ). value (part 4 4 x)) (append_assoc (be 4 c.id_len) _ _)
    ∙ (ap value (part-past (be 4 c.id_len) _ 4 0 4 (length-be 4 c.id_len))
    ∙ (ap (λ (x : List ℕ). value (part 0 4 x)) (append_assoc (be 4 c.seq.0) _ _)
    ∙ (ap value (part-front (be 4 c.seq.0) _ 4 (length-be 4 c.seq.0)) ∙ value_be 4 c.seq.0 (omega arith))))

-- what is said of a document is said of one that is held
held_about : (r : Replica) (i : Id) (c : Change) → change_about r i ≡ Some c → (d : Document) × (document_of r i ≡ Some d) × (change_of (i, d) ≡ c)
held_about r i c = go (document_of r i) refl
  where
    go : (o : Option Document) → document_of r i ≡ o → maybe None (λ d. Some (change_of (i, d))) o ≡ Some c
        → (d : Document) × (document_of r i ≡ Some d) × (change_of (i, d) ≡ c)
    go None e p = absurd (let z : ◌≡◌ {A = ℕ} 0 1 = cc in omega arith)
    go (Some d) e p = (d, e, cc)

-- an own sequence has room in four bytes
own_most : (r : Replica) → IsReplica r → (i : Id) (d : Document) → document_of r i ≡ Some d → d.seq.0 ≤ seq_most
unfolding document_of
own_most r k i d e = go r.documents (replica_fits r k).documents (find_in bytes_order r.documents i d e)
  where
    go : (ds : Map Id Document) → All FitsDocument ds → In (i, d) ds → d.seq.0 ≤ seq_most
    go [] h m = absurd m
    go (x ∷ ds) h (inl q) = let z : d.seq.0 ≡ x.1.seq.0 = ap (λ (y : Id × Document). y.1.seq.0) q in let w = h.0.seq in omega arith
    go (x ∷ ds) h (inr m) = go ds h.1 m

-- after the sequence below its own, a document is the lowest: no other has that one
next_lowest : (r : Replica) → IsReplica r → (i : Id) (d : Document) (q : Seq) → document_of r i ≡ Some d → suc q.0 ≡ d.seq.0 → Lowest q r i d
next_lowest r k i d q h e = record { held = h; above = omega arith; lowest = λ j x f a n. less j x f a n (ltb d.seq.0 x.seq.0) refl }
  where
    less : (j : Id) (x : Document) → document_of r j ≡ Some x → q.0 < x.seq.0 → (j ≡ i → ⊥) → (b : Bool) → ltb d.seq.0 x.seq.0 ≡ b → d.seq.0 < x.seq.0
    less j x f a n true z = ltb-true d.seq.0 x.seq.0 z
    less j x f a n false z =
        absurd (n ((k.documents i d h).seq_own j x f (seq_path x.seq d.seq (let g = ltb-false d.seq.0 x.seq.0 z in omega arith))))

-- with room for its id and for what is said of it, it is said
comes_at : {j : Id} {t : List ℕ} {q : Seq} {out answer : List ℕ} {y : ℕ} {n b : List ℕ} → Called C.changes (t, q, out, answer) y (n, b) → IsStored t
    → (d : Document) → Lowest q (replica_of t) j d → length j ≤ length out → change_size ≤ length answer → ComesTo j out y n b
unfolding first_that short_buffer change_bytes
comes_at {j} {t} {q} {out} {answer} {y} {n} {b} l i d w f g =
    let c : Change = change_of (j, d) in
    let room : first_that (short_buffer j out ∷ []) ≡ None = rw (le-ltb (length out) (length j) f) refl in
    let read : read_changes (replica_of t) q out ≡ (Ok (Some c), front j out)
    = changes_lowest (replica_of t) i.replica q out j d w ∙ ap (lend Err out (Ok (Some c)) j) room in
    let whole : changes_as out answer (Ok (Some c), front j out) ≡ (accepted 1, (front j out, front (change_bytes c) answer))
    = room_answer {A = Numbered × (List ℕ × List ℕ)} (short_answer, (out, answer)) (accepted 1, (front j out, front (change_bytes c) answer))
    (c.id_len ∷ c.seq.0 ∷ c.leaves ∷ flag_number c.deleted ∷ []) answer (omega arith) in
    let is : changes_as out answer (read_changes (replica_of t) q out) ≡ (accepted 1, (front j out, front (change_bytes c) answer)) = ap (changes_as out answer) read ∙ whole in
    let e = changes_does l i in
    let r : decode y ≡ accepted 1 = e.0 ∙ ap (λ (o : Numbered × (List ℕ × List ℕ)). o.0) is in
    let m : ◌≡◌ {A = List ℕ × List ℕ} (n, b) (front j out, front (change_bytes c) answer) = e.1 ∙ ap (λ (o : Numbered × (List ℕ × List ℕ)). o.1) is in
    let z = about_size (replica_of t) i.replica j c (ap (maybe None (λ x. Some (change_of (j, x)))) w.held) in
    record {
      accepted = ap (λ (o : Numbered). o.refusal) r;
      more = ap (λ (o : Numbered). o.value) r;
      id = ap (λ (o : List ℕ × List ℕ). o.0) m;
      size = ap (λ (o : List ℕ × List ℕ). value (part 0 4 o.1)) m ∙ (first_number c answer z.1 ∙ z.0);
    }

pub changes_comes : (j : Id) (s t : List ℕ) → IsStored s → IsStored t → change_about (replica_of t) j ≡ change_about (replica_of s) j
    → {p q : Seq} {out out' answer answer' : List ℕ} {x y : ℕ} {m n a b : List ℕ}
    → Called C.changes (s, p, out, answer) x (m, a) → ComesTo j out x m a → Called C.changes (t, q, out', answer') y (n, b)
    → suc q.0 ≡ value (part 4 4 a) → length j ≤ length out' → change_size ≤ length answer' → ComesTo j out' y n b
unfolding change_of
changes_comes j s t hs ht e {p} {q} {out} {out'} {answer} k u l h f g =
    let c = told k hs u in
    let d = held_about (replica_of t) j c.0 (e ∙ c.2) in
    let own : d.0.seq ≡ c.0.seq = ap (λ (x : Change). x.seq) d.2 in
    let o : d.0.seq.0 ≡ c.0.seq.0 = ap (λ (x : Seq). x.0) own in
    let low = own_most (replica_of t) ht.replica j d.0 d.1 in
    let v : suc q.0 ≡ c.0.seq.0 = h ∙ (ap (λ (x : List ℕ). value (part 4 4 x)) c.3 ∙ second_number c.0 answer (omega arith)) in
    comes_at l ht d.0 (next_lowest (replica_of t) ht.replica j d.0 q d.1 (v ∙ sym o)) f g
