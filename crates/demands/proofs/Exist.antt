-- There are such calls: to any bytes that hold replicas, each of those that the theorems speak of. Assumes nothing.
use mathlib.Core.Path.{◌≡◌, refl}
use Rattle.std.specs.Prelude.{Result}
use mathlib.Core.List.{List, [], ◌∷◌}
use Rattle.std.specs.Prelude.{Option, None, Some}
use Prim.Native.Nat.{ℕ, zero, suc, ◌*◌, ◌^◌, ◌<◌, ◌≤◌}
use native.Mathlib.Omega.{arith}
use borrow.Author.Tests.{eq-eqb}
use lib.ListN.{length}
use denote.Bor.{Bor}
use denote.MutBor.{MutBor}
use denote.Triple.Clauses.{AtExit}
use contract.Lifetimes.{Lfts}
use borrow.Fn.Kinds.{Dens, GoodsP, r_num, ended_of}
use mir.Syntax.{w64}
use Rattle.rules.specs.declared.Content.{Content}
use Rattle.rules.specs.declared.Content.TheVariants.{Live, Deleted}
use Rattle.rules.specs.declared.Counts.{Counts}
use Rattle.rules.specs.declared.Fault.{Fault}
use Rattle.rules.specs.declared.Revision.{Revision}
use Rattle.rules.specs.declared.Seq.{Seq}
use Rattle.rules.specs.Answer.{Numbered, accepted, written_number, edited_number, answered_number, loaded_number}
use Rattle.rules.specs.Bytes.{Bytes}
use Rattle.rules.specs.Choice.{first_that}
use Rattle.rules.specs.Edit.{Edit, edit}
use Rattle.rules.specs.Faults.{faults}
use Rattle.rules.specs.Image.{replica_in, save}
use Rattle.rules.specs.Pull.{pull}
use Rattle.rules.specs.Read.{content_kind, content_label, front, read_winner, read_leaves, read_path, read_missing, read_changes}
use Rattle.rules.specs.Refusal.{fault_number}
use Rattle.rules.specs.Replica.{Id, Replica, IsContent, fresh}
use Rattle.rules.specs.Room.{hash_size}
use Rattle.rules.specs.Union.{IsWrite}
use Rattle.rules.specs.Write.{Write, write}
use Rattle.union.specs.Said.{IsEdit}
use Rattle.union.proofs.Demand3 as union
use Rattle.images.proofs.Theorems.{loaded_is_replica}
use Rattle.store.specs.Storage.{store_size, stored, replica_of, IsStored}
use Rattle.store.proofs.StoredLaws.{size_laid}
use Rattle.store.proofs.FitLaws.{stored_laid}
use Rattle.codec.specs.Codec.{load_bytes}
use Rattle.refile.specs.Boundary.{refused_from, result_number, result_of, CCall, Calls, Lent, lent_house, bad_hash, count_bytes, short_answer, fresh_call}
use Rattle.refile.specs.Boundary.{load_call, save_call, pull_call, changes_as, winner_call, leaves_call, path_call, missing_call, changes_call, sequence_call}
use Rattle.refile.proofs.AnswerLaws.{room_answer}
use Rattle.refile.proofs.CallLaws.{no_house, sized, does}
use Rattle.refile.proofs.Keeps.{replica_passes, replica_past}
use Rattle.refile.proofs.NumberLaws.{no_fault}
use Rattle.demands.specs.Calls as C
use Rattle.demands.specs.Calls.{Exported, CallOf, Called, LoadCall, WriteCall, parent_named, parent_number, parent_hash, EditCall}
use Rattle.demands.proofs.CallLaws.{holding, write_passes, write_is, edit_passes, edit_is}

-- what can be lent: bytes that fit into memory
abbrev pub Small : List ℕ → Type 0
Small s = length s < refused_from

-- a slice of these bytes: where it lies is no matter
abbrev slice : List ℕ → Bor (List ℕ)
slice s = record { ref_ptr = (0, 0); now = s }

-- one that is lent to be changed
abbrev lent_slice : List ℕ → MutBor (List ℕ)
lent_slice s = record { ref_ptr = (0, 0); ghost_name = 0; now = s }

room : (s : List ℕ) → Small s → (length s < 2 ^ 64) × (length s * 1 < 2 ^ 63)
room s h = (omega arith, omega arith)

stored_small : (s : List ℕ) → IsStored s → Small s
stored_small s i = let e = size_laid s (stored_laid s i) in omega arith

stored_room : (s : List ℕ) → IsStored s → (length s < 2 ^ 64) × (length s * 1 < 2 ^ 63)
stored_room s i = room s (stored_small s i)

lent : (s : List ℕ) → IsStored s → Lent s
lent s i = λ e f. i

-- lifetimes, which are no matter either
abbrev any_lifetimes : (n : ℕ) → Lfts n
any_lifetimes zero = tt
any_lifetimes (suc n) = ([], any_lifetimes n)

-- a call of the arguments a with the result x that leaves s, and what it is one of
module _ (f : Exported) (a : Dens (any_lifetimes f.n) f.ps) (x : ℕ) (s : AtExit (ended_of f.n f.ps (r_num w64)) (any_lifetimes f.n)) where
  called : (g : GoodsP (any_lifetimes f.n) f.ps a) (h : f.asked (any_lifetimes f.n) a) (p : f.learnt (any_lifetimes f.n) a x s)
      → let c : CallOf f = record { lifetimes = any_lifetimes f.n; args = a; result = x; exit = s; in_range = g; asks = h; promise = p } in
      Called f (f.given c) x (f.left c)
  called g h p = record {
    call = record { lifetimes = any_lifetimes f.n; args = a; result = x; exit = s; in_range = g; asks = h; promise = p };
    gives = refl;
    answers = refl;
    left = refl;
  }

-- the promise of a call that meets no house refusal
done : {L : Type 0} (c : CCall L) → first_that c.house ≡ None → Calls c (result_number c.does.0) c.does.1
done c e = does e refl refl refl

-- ---- fresh

pub fresh_exists : (s : List ℕ) → length s ≡ store_size → Called C.fresh s 0 (stored fresh)
unfolding fresh_call
fresh_exists s e =
    called C.fresh (lent_slice s, tt) 0 (lent_slice (stored fresh), tt) ((omega arith, omega arith), tt) tt
    (record { calls = done (fresh_call s) (sized s e); stands = λ h. (holding fresh (stored fresh) union.fresh_is_replica refl).is })

-- ---- write

kind_low : (c : Content) → content_kind c < 2 ^ 32
kind_low (Live n) = omega arith
kind_low Deleted = omega arith

label_low : (c : Content) → IsContent c → content_label c < 2 ^ 64
label_low (Live n) h = omega arith
label_low Deleted h = omega arith

pub write_exists : (s : List ℕ) (w : Write) → IsStored s → IsWrite w → Small w.id → Small w.path
    → WriteCall s w (result_number (written_number (write (replica_of s) w).0)) (stored (write (replica_of s) w).1)
write_exists s w i g a b = record {
  call = called C.write
      (lent_slice s, (slice w.id, (w.number.0, (slice w.path, (content_kind w.content, (content_label w.content, tt))))))
      _
      (lent_slice (stored (write (replica_of s) w).1), (slice w.id, (w.number.0, (slice w.path, (content_kind w.content, (content_label w.content, tt)))))) (
        stored_room s i,
        (room w.id a, ((refl, let n = g.number in omega arith), (room w.path b, ((refl, kind_low w.content), ((refl, label_low w.content g.content), tt))))),
      )
      (lent s i)
      (record {
        calls = does (write_passes s w i) (write_is s w) refl refl;
        stands = λ h. (holding (write (replica_of s) w).1 _ (union.write_keeps (replica_of s) w i.replica g) refl).is;
      });
  given = g;
}

-- ---- edit: of a parent, where one is named, in the ranges of its types

number_low : (p : Option Revision) → ((v : Revision) → p ≡ Some v → v.number.0 < 4294967296) → parent_number p < 2 ^ 32
number_low None f = omega arith
number_low (Some v) f = let h = f v refl in omega arith

named_low : (p : Option Revision) → parent_named p < 2 ^ 32
named_low None = omega arith
named_low (Some v) = omega arith

hash_small : (p : Option Revision) → ((v : Revision) → p ≡ Some v → length v.hash ≡ hash_size) → Small (parent_hash p)
hash_small None f = omega arith
hash_small (Some v) f = let h = f v refl in omega arith

pub edit_exists : (s : List ℕ) (e : Edit) → IsStored s → IsEdit e → Small e.id → ((v : Revision) → e.parent ≡ Some v → length v.hash ≡ hash_size)
    → ((v : Revision) → e.parent ≡ Some v → v.number.0 < 4294967296)
    → EditCall s e (result_number (edited_number (edit (replica_of s) e).0)) (stored (edit (replica_of s) e).1)
edit_exists s e i g a y l = let p = e.parent in record {
  call = called C.edit
      (lent_slice s, (slice e.id, (slice e.hash, (content_kind e.content, (content_label e.content, (parent_named p, (parent_number p, (slice (parent_hash p), tt))))))))
      _ (
        lent_slice (stored (edit (replica_of s) e).1),
        (slice e.id, (slice e.hash, (content_kind e.content, (content_label e.content, (parent_named p, (parent_number p, (slice (parent_hash p), tt))))))),
      ) (
        stored_room s i,
        (
          room e.id a,
          (
            room e.hash (let z = g.size in omega arith),
            (
              (refl, kind_low e.content),
              (
                (refl, label_low e.content g.content),
                ((refl, named_low e.parent), ((refl, number_low e.parent l), (room (parent_hash p) (hash_small e.parent y), tt))),
              ),
            ),
          ),
        ),
      )
      (lent s i)
      (record {
        calls = does (edit_passes s e i g.size y) (edit_is s e) refl refl;
        stands = λ h. (holding (edit (replica_of s) e).1 _ (union.edit_keeps (replica_of s) e i.replica g) refl).is;
      });
  given = g;
}

-- ---- save

pub save_exists : (s out : List ℕ) → IsStored s → Small out → Called C.save (s, out) (result_number (answered_number (save (replica_of s) out).0)) (save (replica_of s) out).1
unfolding save_call
save_exists s out i h =
    called C.save (slice s, (lent_slice out, tt)) _ (slice s, (lent_slice (save (replica_of s) out).1, tt)) (stored_room s i, (room out h, tt)) (lent s i)
    (done (save_call s out) (replica_past s [] i no_house))

-- ---- load

-- a result below 2^63 is no refusal
low_accepted : (n v : ℕ) → result_of n v < refused_from → n ≡ 0
low_accepted zero v h = refl
low_accepted (suc n) v h = absurd (omega arith)

module _ (s image : List ℕ) (e : length s ≡ store_size) (g : Bytes image) (h : Small image) where
  abbrev loading : Result (Unit {0}) (Fault × ℕ) × List ℕ
  loading = load_bytes s image (first_that (faults image))

  load_stands : result_number (loaded_number loading.0) < refused_from → IsStored loading.1
  load_stands = go (first_that (faults image)) refl
    where
      go : (o : Option (Fault × ℕ)) → first_that (faults image) ≡ o → result_number (loaded_number (load_bytes s image o).0) < refused_from → IsStored (load_bytes s image o).1
      go None q k = (holding (replica_in image) _ (loaded_is_replica image g q).0 refl).is
      go (Some f) q k = absurd (no_fault f.0 (low_accepted (fault_number f.0) f.1 k))

  pub load_exists : LoadCall s image (result_number (loaded_number loading.0)) loading.1
  unfolding load_call
  load_exists = record {
    call = called C.load (lent_slice s, (slice image, tt)) _ (lent_slice loading.1, (slice image, tt)) (room s (omega arith), (room image h, tt)) tt
        (record { calls = done (load_call s image) (sized s e); stands = load_stands });
    given = g;
  }

-- ---- pull

module _ (t s : List ℕ) (q : Seq) (answer : List ℕ) (i : IsStored t) (j : IsStored s) (h : Small answer) (r : 12 ≤ length answer) (l : q.0 < 2 ^ 32) where
  abbrev pulling : Counts × Replica
  pulling = pull q (replica_of s) (replica_of t)

  pub pull_exists : Called C.pull (t, s, q, answer) 0 (stored pulling.1, front (count_bytes pulling.0) answer)
  unfolding pull_call count_bytes
  pull_exists =
      called C.pull (lent_slice t, (slice s, (q.0, (lent_slice answer, tt)))) 0
      (lent_slice (stored pulling.1), (slice s, (q.0, (lent_slice (front (count_bytes pulling.0) answer), tt))))
      (stored_room t i, (stored_room s j, ((refl, l), (room answer h, tt)))) (lent t i, lent s j)
      (record {
        calls = does (replica_past t (lent_house s) i (replica_passes s j))
            (room_answer {A = Numbered × (List ℕ × List ℕ)} (short_answer, (t, answer)) (accepted 0, (stored pulling.1, front (count_bytes pulling.0) answer))
            (pulling.0.changed ∷ pulling.0.unchanged ∷ pulling.0.refused ∷ []) answer (omega arith)) refl refl;
        stands = λ k. (holding pulling.1 _ (union.pull_keeps q (replica_of s) (replica_of t) j.replica i.replica) refl).is;
      })

-- ---- reads

module _ (s : List ℕ) (j : Id) (out : List ℕ) (i : IsStored s) (a : Small j) (h : Small out) where
  pub winner_exists : Called C.winner (s, j, out) (result_number (answered_number (read_winner (replica_of s) j out).0)) (read_winner (replica_of s) j out).1
  unfolding winner_call
  winner_exists =
      called C.winner (slice s, (slice j, (lent_slice out, tt))) _ (slice s, (slice j, (lent_slice (read_winner (replica_of s) j out).1, tt)))
      (stored_room s i, (room j a, (room out h, tt))) (lent s i) (done (winner_call s j out) (replica_past s [] i no_house))

  pub leaves_exists : Called C.leaves (s, j, out) (result_number (answered_number (read_leaves (replica_of s) j out).0)) (read_leaves (replica_of s) j out).1
  unfolding leaves_call
  leaves_exists =
      called C.leaves (slice s, (slice j, (lent_slice out, tt))) _ (slice s, (slice j, (lent_slice (read_leaves (replica_of s) j out).1, tt)))
      (stored_room s i, (room j a, (room out h, tt))) (lent s i) (done (leaves_call s j out) (replica_past s [] i no_house))

  pub missing_exists : (asked : List ℕ) → Small asked
      → Called C.missing (s, j, asked, out) (result_number (answered_number (read_missing (replica_of s) j asked out).0)) (read_missing (replica_of s) j asked out).1
  unfolding missing_call
  missing_exists asked g =
      called C.missing (slice s, (slice j, (slice asked, (lent_slice out, tt)))) _ (slice s, (slice j, (slice asked, (lent_slice (read_missing (replica_of s) j asked out).1, tt))))
      (stored_room s i, (room j a, (room asked g, (room out h, tt)))) (lent s i) (done (missing_call s j asked out) (replica_past s [] i no_house))

  pub path_exists : (v : Revision) → length v.hash ≡ hash_size → v.number.0 < 4294967296
      → Called C.path (s, j, v.number.0, v.hash, out) (result_number (answered_number (read_path (replica_of s) j v out).0)) (read_path (replica_of s) j v out).1
  unfolding path_call first_that bad_hash
  path_exists v z l =
      called C.path (slice s, (slice j, (v.number.0, (slice v.hash, (lent_slice out, tt))))) _
      (slice s, (slice j, (v.number.0, (slice v.hash, (lent_slice (read_path (replica_of s) j v out).1, tt)))))
      (stored_room s i, (room j a, ((refl, omega arith), (room v.hash (omega arith), (room out h, tt))))) (lent s i)
      (done (path_call s j v.number.0 v.hash out) (replica_past s (bad_hash v.hash ∷ []) i (rw (eq-eqb (length v.hash) hash_size z))))

pub sequence_exists : (s : List ℕ) → IsStored s → Called C.sequence s (replica_of s).seq.0 tt
unfolding sequence_call
sequence_exists s i =
    called C.sequence (slice s, tt) _ (slice s, tt) (stored_room s i, tt) (lent s i) (done (sequence_call s) (replica_past s [] i no_house))

module _ (s : List ℕ) (q : Seq) (out answer : List ℕ) (i : IsStored s) (h : Small out) (g : Small answer) (l : q.0 < 2 ^ 32) where
  abbrev changing : Numbered × (List ℕ × List ℕ)
  changing = changes_as out answer (read_changes (replica_of s) q out)

  pub changes_exists : Called C.changes (s, q, out, answer) (result_number changing.0) (changing.1.0, changing.1.1)
  unfolding changes_call
  changes_exists =
      called C.changes (slice s, (q.0, (lent_slice out, (lent_slice answer, tt)))) _ (slice s, (q.0, (lent_slice changing.1.0, (lent_slice changing.1.1, tt))))
      (stored_room s i, ((refl, l), (room out h, (room answer g, tt)))) (lent s i) (done (changes_call s q.0 out answer) (replica_past s [] i no_house))
