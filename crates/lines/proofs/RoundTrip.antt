-- "What we put out comes back as the same write." Assumes nothing.
use mathlib.Core.Path.{◌≡◌, refl, sym, ap, ◌∙◌}
use Rattle.rules.specs.declared.Refusal.{Refusal}
use Rattle.rules.specs.declared.Outcome.{Outcome}
use Rattle.std.specs.Prelude.{Result}
use mathlib.Core.Bool.{false}
use mathlib.Core.List.{List, [], ◌∷◌, ◌++◌, map, append_assoc}
use mathlib.Core.Logic.{inl, inr}
use Rattle.std.specs.Prelude.{Option, None, Some}
use Prim.Native.Nat.{ℕ, zero, suc, pred, ◌≤◌}
use native.Mathlib.Omega.{arith}
use lib.ListN.{length}
use borrow.Author.Tests.{eq-eqb}
use Rattle.rules.specs.declared.Content.{Content}
use Rattle.rules.specs.declared.Content.TheVariants.{Live, Deleted}
use Rattle.rules.specs.declared.Revision.{Revision}
use Rattle.rules.specs.Bytes.{Bytes}
use Rattle.rules.specs.Choice.{maybe, any, first_that}
use Rattle.rules.specs.Map.{find}
use Rattle.rules.specs.Order.{order_n, order_bytes, order_rev}
use Rattle.rules.specs.Pull.{offer}
use Rattle.rules.specs.Read.{LeafOf, leaves, ancestry, path_of, first_of}
use Rattle.rules.specs.Replica.{Id, Hash, Node, Tree, Replica, Known, HasContent, IsRevision, IsContent, IsTree}
use Rattle.rules.specs.Report.{decimal, hex, text, rev_text}
use Rattle.rules.specs.Room.{hash_size, number_most, labels}
use Rattle.rules.specs.Union.{In}
use Rattle.rules.specs.Write.{parent_in, write}
use Rattle.rules.proofs.OrderLaws.{order_bytes_self}
use Rattle.union.proofs.Winners.{leaf_content}
use Rattle.json_text.specs.Grammar as grammar
use Rattle.json_text.specs.Grammar.{byte, ◌then◌, ◌or◌, white, ws, scalar}
use Rattle.json_text.specs.Members.{Form, plain, object, array, Json, member_of, form_of, value_of, line_of, spelt}
use Rattle.lines.specs.Said.{each, quote, quoted, but_last, unquote, of_string, of_plain, is_name, named, read_hash, read_rev}
use Rattle.lines.specs.Take.{Members, read_ids, read_revisions, optional, read_true, read_label, read_content, Line, read_line}
use Rattle.lines.specs.Take.{other_revisions, unwritable, is_writable, as_write, line_refusals, take_in, TakesIn}
use Rattle.lines.specs.Put.{member_text, ids_text, revisions_text, content_text, leaf_line}
use Rattle.lines.proofs.SaidLaws.{read_decimal, read_hex, read_rev_text}
use Rattle.lines.proofs.ShownLaws.{Shown, quoted_scalar, number_writable, number_scalar, hash_writable, true_scalar, object_shown, array_shown, member_shown, unwritable_append}
use Rattle.lines.proofs.TakesLaws.{holds_one}

-- ---- what the line of a leaf holds

unfoldable pub ids_values : {A : Type 0} → List Hash → List (Form A)
ids_values [] = []
ids_values (h ∷ hs) = plain (quoted (hex h)) ∷ ids_values hs

unfoldable pub content_member : {A : Type 0} → Content → List ℕ × Form A
content_member (Live n) = (quoted (text "label"), plain (decimal n))
content_member Deleted = (quoted (text "_deleted"), plain (text "true"))

-- "`_revisions` with `start` and `ids`"
unfoldable pub revisions_value : {A : Type 0} → ℕ → List Hash → Form (Form (Form A))
revisions_value n hs = object ((quoted (text "start"), plain (decimal n)) ∷ (quoted (text "ids"), array (ids_values hs)) ∷ [])

unfoldable pub line_members : Id → Revision → List Hash → Content → Members
line_members i v hs c =
    (quoted (text "_id"), plain (quoted i))
    ∷ (quoted (text "_rev"), plain (quoted (rev_text v)))
    ∷ (quoted (text "_revisions"), revisions_value v.number.0 hs)
    ∷ content_member c
    ∷ []

-- what they say
unfoldable pub line_said : Id → Revision → List Hash → Content → Line
line_said i v hs c = record { id = i; rev = v; revisions = Some (record { start = v.number.0; ids = hs }); content = c }

-- of a leaf
unfoldable pub leaf_members : Id → Tree → LeafOf → Members
leaf_members i t a = line_members i a.rev (path_of t a.rev) a.content

unfoldable pub leaf_said : Id → Tree → LeafOf → Line
leaf_said i t a = line_said i a.rev (path_of t a.rev) a.content

-- ---- the hashes of a path

abbrev pub Hashes : List Hash → Type 0
Hashes [] = Unit {0}
Hashes (h ∷ hs) = (Bytes h × (length h ≡ hash_size)) × Hashes hs

path_hashes : (t : Tree) → IsTree t → (n : ℕ) (v : Revision) → Known t v → Hashes (ancestry n t v)
unfolding ancestry
path_hashes t k zero v m = tt
path_hashes t k (suc n) v m = (((k.revisions v m).bytes, (k.revisions v m).size), go (find order_rev v t) refl (λ p q. path_hashes t k n p q))
  where
    up : (c : Node) → find order_rev v t ≡ Some c → (o : Option Revision) → c.parent ≡ o → ((p : Revision) → Known t p → Hashes (ancestry n t p)) → Hashes (maybe [] (ancestry n t) o)
    up c e None q ih = tt
    up c e (Some p) q ih = ih p (k.parents v p (c, e, q))

    go : (o : Option Node) → find order_rev v t ≡ o → ((p : Revision) → Known t p → Hashes (ancestry n t p)) → Hashes (maybe [] (ancestry n t) (parent_in o))
    go None e ih = tt
    go (Some c) e ih = up c e c.parent refl ih

path_first : (t : Tree) (v : Revision) → 1 ≤ v.number.0 → first_of (path_of t v) ≡ Some v.hash
unfolding path_of ancestry
path_first t v h = go v.number.0 h
  where
    go : (n : ℕ) → 1 ≤ n → first_of (ancestry n t v) ≡ Some v.hash
    go zero h = absurd (omega arith)
    go (suc n) h = refl

-- ---- the text

ids_shown : (d : ℕ) (hs : List Hash) → Hashes hs → Shown (value_of (suc d)) (ids_values hs) (map (λ h. quoted (hex h)) hs)
unfolding value_of form_of ids_values
ids_shown d [] k = tt
ids_shown d (h ∷ hs) k = (λ b. quoted_scalar (hex h) b (hash_writable (hex h) h (read_hex h k.0.0 k.0.1)), ids_shown d hs k.1)

number_shown : (n : ℕ) → n ≤ number_most → (b : List ℕ) → spelt scalar (decimal n) (decimal n ++ b) b
number_shown n h = number_scalar number_most (decimal n) n (read_decimal number_most n h (omega arith))

revisions_shown : (d n : ℕ) (hs : List Hash) → n ≤ number_most → Hashes hs → (b : List ℕ) → value_of (suc (suc (suc d))) (revisions_value n hs) (revisions_text n hs ++ b) b
unfolding revisions_value revisions_text ids_text value_of form_of unwritable any is_writable text
revisions_shown d n hs h k b =
    rw (append_assoc _ (125 ∷ []) b)
    (object_shown (value_of (suc (suc d))) ((quoted (text "start"), plain (decimal n)) ∷ (quoted (text "ids"), array (ids_values hs)) ∷ [])
    (member_text (text "start") (decimal n) ∷ member_text (text "ids") (ids_text hs) ∷ []) (
      member_shown (value_of (suc (suc d))) (text "start") (plain (decimal n)) (decimal n) refl (number_shown n h),
      (
        member_shown (value_of (suc (suc d))) (text "ids") (array (ids_values hs)) (ids_text hs) refl
            (λ c. rw (append_assoc _ (93 ∷ []) c) (array_shown (value_of (suc d)) (ids_values hs) (map (λ h. quoted (hex h)) hs) (ids_shown d hs k) c)),
        tt,
      ),
    )
    b)

content_shown : (d : ℕ) (c : Content) → IsContent c → (b : List ℕ) → member_of (value_of (suc d)) (content_member c) (content_text c ++ b) b
unfolding value_of form_of content_member unwritable any is_writable text
content_shown d (Live n) h =
    member_shown (value_of (suc d)) (text "label") (plain (decimal n)) (decimal n) refl
    (number_scalar (pred labels) (decimal n) n (read_decimal (pred labels) n (omega arith) (omega arith)))
content_shown d Deleted h = member_shown (value_of (suc d)) (text "_deleted") (plain (text "true")) (text "true") refl true_scalar

pub rev_writable : (v : Revision) → IsRevision v → unwritable (rev_text v) ≡ false
unfolding rev_text unwritable any is_writable text
rev_writable v k =
    let n = v.number.0 in
    let m = k.most in
    unwritable_append (decimal n) (45 ∷ hex v.hash) (number_writable number_most (decimal n) n (read_decimal number_most n m (omega arith)))
    (hash_writable (hex v.hash) v.hash (read_hex v.hash k.bytes k.size))

-- ---- what the members say

but_last_lem : (t : List ℕ) → but_last (t ++ (quote ∷ [])) ≡ t
unfolding but_last
but_last_lem [] = refl
but_last_lem (c ∷ []) = refl
but_last_lem (c ∷ d ∷ t) = ap (λ (l : List ℕ). c ∷ l) (but_last_lem (d ∷ t))

pub unquote_quoted : (t : List ℕ) → unquote (quoted t) ≡ Some t
unfolding unquote quoted
unquote_quoted t = ap Some (but_last_lem t)

module _ (A : Type 0) where
  string_said : {B : Type 0} (f : List ℕ → Option B) (t : List ℕ) → of_string {A = A} f (plain (quoted t)) ≡ f t
  unfolding of_string
  string_said f t = rw (unquote_quoted t) refl

  ids_said : (hs : List Hash) → Hashes hs → each (of_string {A = A} read_hash) (ids_values hs) ≡ Some hs
  unfolding each ids_values
  ids_said [] k = refl
  ids_said (h ∷ hs) k = rw (string_said read_hash (hex h), read_hex h k.0.0 k.0.1, ids_said hs k.1) refl

  revisions_said_lem : (n : ℕ) (hs : List Hash) → n ≤ number_most → Hashes hs
      → read_revisions {A = A} (revisions_value n hs) ≡ Some (record { start = n; ids = hs })
  unfolding revisions_value read_revisions read_ids of_plain named is_name order_bytes order_n quoted text
  revisions_said_lem n hs h k = rw (read_decimal number_most n h (omega arith), ids_said hs k) refl

line_said_lem : (i : Id) (v : Revision) (hs : List Hash) (c : Content) → IsRevision v → Hashes hs → IsContent c
    → read_line (line_members i v hs c) ≡ Some (line_said i v hs c)
unfolding read_line line_members line_said optional read_content read_label read_true of_plain content_member named is_name order_bytes order_n quoted text
line_said_lem i v hs (Live n) k p h =
    rw (
      string_said (Json 14) Some i,
      string_said (Json 14) read_rev (rev_text v),
      read_rev_text v k.most k.bytes k.size,
      revisions_said_lem (Json 12) v.number.0 hs k.most p,
      read_decimal (pred labels) n (omega arith) (omega arith),
    ) refl
line_said_lem i v hs Deleted k p h =
    rw (string_said (Json 14) Some i, string_said (Json 14) read_rev (rev_text v), read_rev_text v k.most k.bytes k.size, revisions_said_lem (Json 12) v.number.0 hs k.most p) refl

-- ---- a leaf that is put out

module _ (i : Id) (t : Tree) (k : IsTree t) (a : LeafOf) (m : In a (leaves t)) (w : unwritable i ≡ false) where
  known : HasContent t a.rev a.content
  known = leaf_content t k.ascending a m

  pub is_rev : IsRevision a.rev
  is_rev = k.revisions a.rev (known.0, known.1)

  pub is_content : IsContent a.content
  is_content = k.contents a.rev a.content known

  pub are_hashes : Hashes (path_of t a.rev)
  unfolding path_of
  are_hashes = path_hashes t k a.rev.number.0 a.rev (known.0, known.1)

  -- the line of a leaf is a text that holds its members
  pub put_holds : line_of (leaf_members i t a) (leaf_line i t a)
  unfolding line_of leaf_line leaf_members line_members value_of form_of ◌then◌ ws white ◌or◌ byte unwritable any is_writable text
  put_holds = (
    leaf_line i t a,
    (
      grammar.none,
      (
        10 ∷ [],
        (
          object_shown (value_of 15) (leaf_members i t a)
              (member_text (text "_id") (quoted i)
              ∷ member_text (text "_rev") (quoted (rev_text a.rev))
              ∷ member_text (text "_revisions") (revisions_text a.rev.number.0 (path_of t a.rev))
              ∷ content_text a.content
              ∷ []) (
                member_shown (value_of 15) (text "_id") (plain (quoted i)) (quoted i) refl (λ b. quoted_scalar i b w),
                (
                  member_shown (value_of 15) (text "_rev") (plain (quoted (rev_text a.rev))) (quoted (rev_text a.rev)) refl
                      (λ b. quoted_scalar (rev_text a.rev) b (rev_writable a.rev is_rev)),
                  (
                    member_shown (value_of 15) (text "_revisions")
                        (revisions_value a.rev.number.0 (path_of t a.rev)) (revisions_text a.rev.number.0 (path_of t a.rev)) refl
                        (revisions_shown 12 a.rev.number.0 (path_of t a.rev) is_rev.most are_hashes),
                    (
                      content_shown 14 a.content is_content,
                      tt,
                    ),
                  ),
                ),
              )
              (10 ∷ []),
          grammar.more {b = []} (inr (inr (inl refl))) grammar.none,
        ),
      ),
    ),
  )

  -- they say the leaf: id, number, path, content
  pub put_said : read_line (leaf_members i t a) ≡ Some (leaf_said i t a)
  unfolding leaf_members leaf_said
  put_said = line_said_lem i a.rev (path_of t a.rev) a.content is_rev are_hashes is_content

  -- that is the offer of the leaf
  pub said_offer : as_write (leaf_said i t a) ≡ offer i t a
  unfolding as_write offer leaf_said line_said
  said_offer = refl

  -- and none of 40 to 43 refuses it
  pub put_unrefused : first_that (line_refusals (Some (leaf_members i t a)) (Some (leaf_said i t a))) ≡ None
  unfolding line_refusals first_that other_revisions leaf_said line_said
  put_unrefused =
      rw (eq-eqb a.rev.number.0 a.rev.number.0 refl, path_first t a.rev is_rev.least, order_bytes_self a.rev.hash, w) refl

  pub put_taken : (r : Replica) → take_in r (Some (leaf_members i t a)) ≡ write r (offer i t a)
  unfolding take_in
  put_taken r = rw (put_said, put_unrefused, said_offer) refl

  -- "What we put out comes back as the same write": whatever replica it is taken into, and nothing else
  pub put_comes_back : (r : Replica) (o : Result Outcome Refusal × Replica) → TakesIn r (leaf_line i t a) o → o ≡ write r (offer i t a)
  put_comes_back r o x =
      x.is ∙ (ap (take_in r) (holds_one (leaf_line i t a) x.members (Some (leaf_members i t a)) x.holds put_holds) ∙ put_taken r)

  pub put_takes : (r : Replica) → TakesIn r (leaf_line i t a) (write r (offer i t a))
  put_takes r = record { members = Some (leaf_members i t a); holds = put_holds; is = sym (put_taken r) }
