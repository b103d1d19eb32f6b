-- Taking a line in: it has one outcome, a refused line leaves the replica, and what is left is a replica. Assumes nothing.
use mathlib.Core.Path.{◌≡◌, refl, sym, ap, ◌∙◌, subst}
use Rattle.rules.specs.declared.Outcome.{Outcome}
use Rattle.std.specs.Prelude.{Result, Err}
use mathlib.Core.Bool.{Bool, true, false, not}
use mathlib.Core.List.{List, [], ◌∷◌}
use mathlib.Core.Logic.{◌⊎◌, inl, inr}
use Rattle.std.specs.Prelude.{Option, None, Some}
use Prim.Native.Nat.{ℕ, pred, ◌≤◌}
use native.Mathlib.Omega.{arith}
use Rattle.rules.specs.declared.Content.{Content}
use Rattle.rules.specs.declared.Content.TheVariants.{Live, Deleted}
use Rattle.rules.specs.declared.Refusal.{Refusal}
use Rattle.rules.specs.declared.Refusal.TheVariants.{NotJson, BadMember}
use Rattle.rules.specs.declared.Revision.{Revision}
use Rattle.rules.specs.Bytes.{Bytes}
use Rattle.rules.specs.Choice.{pick, maybe, any, first_that}
use Rattle.rules.specs.Order.{order_bytes, is_equal}
use Rattle.rules.specs.Replica.{Id, Hash, Replica, revision, IsContent, IsReplica}
use Rattle.rules.specs.Report.{text}
use Rattle.rules.specs.Room.{number_most, labels}
use Rattle.rules.specs.Union.{IsWrite}
use Rattle.rules.specs.Write.{Write, settle, write}
use Rattle.rules.proofs.ByteLaws.{AllBytes, bytes_join}
use Rattle.rules.proofs.ChoiceLaws.{or_left, or_right, none_holds}
use Rattle.rules.proofs.MapLaws.{none≢some, some_inj}
use Rattle.union.proofs.Cases.{write_refused}
use Rattle.union.proofs.Keeps.{write_keeps}
use Rattle.json_text.specs.Members.{Form, plain, object, array}
use Rattle.values.proofs.ReadingLaws.{line_one, reads_rfc}
use Rattle.lines.specs.Said.{both, each, once, unquote, plain_text, of_string, of_plain, named, read_number, read_hash, before_dash, after_dash, read_rev}
use Rattle.lines.specs.Take.{Members, Holds, Revisions, read_ids, read_revisions, optional, read_true, read_label, read_content, Line, all_said, read_line}
use Rattle.lines.specs.Take.{is_writable, unwritable, path_said, as_write, line_refusals, take_in, TakesIn}
use Rattle.lines.proofs.SaidLaws.{number_most_lem, hash_bytes}
use Rattle.lines.proofs.ShownLaws.{writable_small}

-- ---- one outcome

pub holds_one : (s : List ℕ) (m n : Option Members) → Holds s m → Holds s n → m ≡ n
holds_one s None None h k = refl
holds_one s None (Some ns) h k = absurd (h (reads_rfc ns s k))
holds_one s (Some ms) None h k = absurd (k (reads_rfc ms s h))
holds_one s (Some ms) (Some ns) h k = ap Some (line_one ms ns s h k)

pub takes_one : (r : Replica) (s : List ℕ) (o p : Result Outcome Refusal × Replica) → TakesIn r s o → TakesIn r s p → o ≡ p
takes_one r s o p x y = x.is ∙ (ap (take_in r) (holds_one s x.members y.members x.holds y.holds) ∙ sym y.is)

-- ---- what was read is in its range

maybe_from : {A B : Type 0} (f : A → Option B) (o : Option A) (b : B) → maybe None f o ≡ Some b → (a : A) × (f a ≡ Some b)
maybe_from f None b e = absurd (none≢some e)
maybe_from f (Some a) b e = (a, e)

string_from : {A B : Type 0} (f : List ℕ → Option B) (j : Form A) (b : B) → of_string f j ≡ Some b → (t : List ℕ) × (f t ≡ Some b)
unfolding of_string
string_from f j b e =
    let u = maybe_from (λ t. maybe None f (unquote t)) (plain_text j) b e in
    maybe_from f (unquote u.0) b u.1

plain_from : {A B : Type 0} (f : List ℕ → Option B) (j : Form A) (b : B) → of_plain f j ≡ Some b → (t : List ℕ) × (f t ≡ Some b)
unfolding of_plain
plain_from f j b e = maybe_from f (plain_text j) b e

both_from : {A B C : Type 0} (f : A → B → C) (o : Option A) (p : Option B) (c : C) → both f o p ≡ Some c → (a : A) × (b : B) × (o ≡ Some a) × (p ≡ Some b) × (f a b ≡ c)
both_from f None p c e = absurd (none≢some e)
both_from f (Some a) None c e = absurd (none≢some e)
both_from f (Some a) (Some b) c e = (a, b, refl, refl, some_inj e)

rev_range : (t : List ℕ) (v : Revision) → read_rev t ≡ Some v → (v.number.0 ≤ number_most) × Bytes v.hash
unfolding read_rev
rev_range t v e =
    let u = both_from revision (read_number number_most (before_dash t)) (read_hash (after_dash t)) v e in
    let n = number_most_lem number_most (before_dash t) u.2 in
    let h = hash_bytes (after_dash t) u.3 in
    (subst (λ (z : Revision). z.number.0 ≤ number_most) u.4 n, subst (λ (z : Revision). Bytes z.hash) u.4 h)

each_bytes : {A : Type 0} (vs : List (Form A)) (hs : List Hash) → each (of_string read_hash) vs ≡ Some hs → AllBytes hs
unfolding each
each_bytes [] hs e = subst AllBytes (some_inj e) tt
each_bytes (v ∷ vs) hs e =
    let u = both_from ◌∷◌ (of_string read_hash v) (each (of_string read_hash) vs) hs e in
    let t = string_from read_hash v u.0 u.2 in
    subst AllBytes u.4 (hash_bytes t.0 t.1, each_bytes vs u.1 u.3)

ids_bytes : {A : Type 0} (j : Form (Form A)) (hs : List Hash) → read_ids j ≡ Some hs → AllBytes hs
unfolding read_ids
ids_bytes (plain t) hs e = absurd (none≢some e)
ids_bytes (object ms) hs e = absurd (none≢some e)
ids_bytes (array vs) hs e = each_bytes vs hs e

revisions_bytes : {A : Type 0} (j : Form (Form (Form A))) (rs : Revisions) → read_revisions j ≡ Some rs → AllBytes rs.ids
unfolding read_revisions
revisions_bytes (plain t) rs e = absurd (none≢some e)
revisions_bytes (array vs) rs e = absurd (none≢some e)
revisions_bytes (object ms) rs e =
    let u = both_from (λ n hs. record { start = n; ids = hs })
    (maybe None (of_plain (read_number number_most)) (once (named "start" ms))) (maybe None read_ids (once (named "ids" ms))) rs e in
    let v = maybe_from read_ids (once (named "ids" ms)) u.1 u.3 in
    subst (λ (z : Revisions). AllBytes z.ids) u.4 (ids_bytes v.0 u.1 v.1)

optional_from : {A B : Type 0} (f : A → Option B) (xs : List A) (b : B) → optional f xs ≡ Some (Some b) → (a : A) × (f a ≡ Some b)
unfolding optional
optional_from f [] b e = absurd (none≢some (some_inj e))
optional_from f (x ∷ []) b e = go (f x) refl e
  where
    go : (o : Option _) → f x ≡ o → maybe None (λ y. Some (Some y)) o ≡ Some (Some b) → (a : _) × (f a ≡ Some b)
    go None q e = absurd (none≢some e)
    go (Some y) q e = (x, q ∙ some_inj e)
optional_from f (x ∷ y ∷ xs) b e = absurd (none≢some e)

label_range : (t : List ℕ) (c : Content) → read_label t ≡ Some c → IsContent c
unfolding read_label
label_range t c e = go (read_number (pred labels) t) refl e
  where
    go : (o : Option ℕ) → read_number (pred labels) t ≡ o → maybe None (λ n. Some (Live n)) o ≡ Some c → IsContent c
    go None q e = absurd (none≢some e)
    go (Some n) q e = let h : n ≤ pred labels = number_most_lem (pred labels) t q in subst IsContent (some_inj e) (omega arith)

true_range : (t : List ℕ) (c : Content) → read_true t ≡ Some c → IsContent c
unfolding read_true
true_range t c e = go (is_equal (order_bytes (text "true") t)) e
  where
    go : (b : Bool) → pick b (Some Deleted) None ≡ Some c → IsContent c
    go true e = subst IsContent (some_inj e) tt
    go false e = absurd (none≢some e)

content_range : {A : Type 0} (ds ls : List (Form A)) (c : Content) → read_content ds ls ≡ Some c → IsContent c
unfolding read_content
content_range [] [] c e = absurd (none≢some e)
content_range [] (l ∷ ls) c e =
    let u = maybe_from (of_plain read_label) (once (l ∷ ls)) c e in let t = plain_from read_label u.0 c u.1 in label_range t.0 c t.1
content_range (d ∷ ds) [] c e =
    let u = maybe_from (of_plain read_true) (once (d ∷ ds)) c e in let t = plain_from read_true u.0 c u.1 in true_range t.0 c t.1
content_range (d ∷ ds) (l ∷ ls) c e = absurd (none≢some e)

-- what a line says, field by field
record Fields (i : Option Id) (v : Option Revision) (rs : Option (Option Revisions)) (c : Option Content) (x : Line) : Type 0 where
  id : i ≡ Some x.id
  rev : v ≡ Some x.rev
  revisions : rs ≡ Some x.revisions
  content : c ≡ Some x.content

fields : (i : Option Id) (v : Option Revision) (rs : Option (Option Revisions)) (c : Option Content) (x : Line) → all_said i v rs c ≡ Some x → Fields i v rs c x
fields None v rs c x e = absurd (none≢some e)
fields (Some i) None rs c x e = absurd (none≢some e)
fields (Some i) (Some v) None c x e = absurd (none≢some e)
fields (Some i) (Some v) (Some rs) None x e = absurd (none≢some e)
fields (Some i) (Some v) (Some rs) (Some c) x e =
    let q = some_inj e in
    record {
      id = ap (λ (z : Line). Some z.id) q;
      rev = ap (λ (z : Line). Some z.rev) q;
      revisions = ap (λ (z : Line). Some z.revisions) q;
      content = ap (λ (z : Line). Some z.content) q;
    }

id_bytes : (i : Id) → unwritable i ≡ false → Bytes i
unfolding unwritable any
id_bytes [] e = tt
id_bytes (c ∷ i) e = (writable_small c (or_left _ _ e), id_bytes i (or_right (not (is_writable c)) _ e))

-- the write of a line whose id can be written is one that a call can be given
pub line_range : (ms : Members) (x : Line) → read_line ms ≡ Some x → unwritable x.id ≡ false → IsWrite (as_write x)
unfolding read_line as_write
line_range ms x e w =
    let f = fields (maybe None (of_string Some) (once (named "_id" ms))) (maybe None (of_string read_rev) (once (named "_rev" ms)))
    (optional read_revisions (named "_revisions" ms)) (read_content (named "_deleted" ms) (named "label" ms)) x e in
    let v = maybe_from (of_string read_rev) (once (named "_rev" ms)) x.rev f.rev in
    let t = string_from read_rev v.0 x.rev v.1 in
    let n = rev_range t.0 x.rev t.1 in
    record {
      id = id_bytes x.id w;
      number = n.0;
      path = bytes_join (path_said x) (path x.revisions f.revisions n.1);
      content = content_range (named "_deleted" ms) (named "label" ms) x.content f.content;
    }
  where
    path : (o : Option Revisions) → optional read_revisions (named "_revisions" ms) ≡ Some o → Bytes x.rev.hash → AllBytes (maybe (x.rev.hash ∷ []) (λ rs. rs.ids) o)
    path None q b = (b, tt)
    path (Some rs) q b = let u = optional_from read_revisions (named "_revisions" ms) rs q in revisions_bytes u.0 rs u.1

-- ---- a line is refused, or it is a write

-- refused by one of 40 to 43, or a write of what it says
abbrev pub RefusedOr : Replica → Result Outcome Refusal × Replica → Type 0
RefusedOr r o = ((n : Refusal) × (o ≡ (Err n, r))) ⊎ ((w : Write) × IsWrite w × (o ≡ write r w))

take_either : (r : Replica) (ms : Option Members) → RefusedOr r (take_in r ms)
unfolding take_in line_refusals first_that
take_either r None = inl (NotJson, refl)
take_either r (Some ms) = go (read_line ms) refl
  where
    go : (l : Option Line) → read_line ms ≡ l
        → RefusedOr r (settle Err r (maybe (Err BadMember, r) (λ x. write r (as_write x)) l) (first_that (line_refusals (Some ms) l)))
    go None e = inl (BadMember, refl)
    go (Some x) e = by (first_that (line_refusals (Some ms) (Some x))) refl
      where
        by : (o : Option Refusal) → first_that (line_refusals (Some ms) (Some x)) ≡ o → RefusedOr r (settle Err r (write r (as_write x)) o)
        by (Some n) q = inl (n, refl)
        by None q =
            let (a, (b, (c, (d, end)))) = none_holds (line_refusals (Some ms) (Some x)) q in
            inr (as_write x, line_range ms x e d, refl)

pub takes_either : (r : Replica) (s : List ℕ) (o : Result Outcome Refusal × Replica) → TakesIn r s o → RefusedOr r o
takes_either r s o t = subst (RefusedOr r) (sym t.is) (take_either r t.members)

-- a refused line leaves the replica
pub takes_refused : (r : Replica) (s : List ℕ) (n : Refusal) (left : Replica) → TakesIn r s (Err n, left) → left ≡ r
takes_refused r s n left t = go (takes_either r s (Err n, left) t)
  where
    go : RefusedOr r (Err n, left) → left ≡ r
    go (inl u) = ap (λ (z : Result Outcome Refusal × Replica). z.1) u.1
    go (inr u) = ap (λ (z : Result Outcome Refusal × Replica). z.1) u.2 ∙ write_refused r u.0 n (ap (λ (z : Result Outcome Refusal × Replica). z.0) (sym u.2))

-- what is left is a replica
pub take-keeps : (r : Replica) (ms : Option Members) → IsReplica r → IsReplica (take_in r ms).1
take-keeps r ms k = go (take_in r ms) (take_either r ms)
  where
    go : (o : Result Outcome Refusal × Replica) → RefusedOr r o → IsReplica o.1
    go o (inl u) = subst (λ (z : Result Outcome Refusal × Replica). IsReplica z.1) (sym u.1) k
    go o (inr u) = subst (λ (z : Result Outcome Refusal × Replica). IsReplica z.1) (sym u.2) (write_keeps r u.0 k u.1)

pub takes_keeps : (r : Replica) (s : List ℕ) (o : Result Outcome Refusal × Replica) → IsReplica r → TakesIn r s o → IsReplica o.1
takes_keeps r s o k t = subst (λ (z : Result Outcome Refusal × Replica). IsReplica z.1) (sym t.is) (take-keeps r t.members k)
