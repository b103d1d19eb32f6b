-- What is put out, cut after each newline, is its lines. Assumes nothing.
use mathlib.Core.Path.{◌≡◌, refl, sym, ap, ◌∙◌, subst}
use Rattle.rules.specs.declared.Refusal.{Refusal}
use Rattle.rules.specs.declared.Outcome.{Outcome}
use Rattle.std.specs.Prelude.{Result}
use mathlib.Core.Bool.{Bool, false, not}
use mathlib.Core.List.{List, [], ◌∷◌, ◌++◌, map, append_assoc}
use mathlib.Core.Logic.{inl, inr}
use Prim.Native.Nat.{ℕ, pred, ◌≤◌}
use native.Mathlib.Omega.{arith}
use lib.Dec.{eqb}
use borrow.Author.Tests.{ne_eqb}
use Rattle.rules.specs.declared.Content.{Content}
use Rattle.rules.specs.declared.Content.TheVariants.{Live, Deleted}
use Rattle.rules.specs.Bytes.{join}
use Rattle.rules.specs.Choice.{any}
use Rattle.rules.specs.Read.{LeafOf, leaves, path_of}
use Rattle.rules.specs.Replica.{Id, Hash, Tree, Document, Replica, fresh, IsContent, IsTree, IsReplica}
use Rattle.rules.specs.Report.{decimal, hex, text, rev_text}
use Rattle.rules.specs.Room.{number_most, labels}
use Rattle.rules.specs.Union.{In}
use Rattle.rules.proofs.ByteLaws.{join_append}
use Rattle.rules.proofs.ChoiceLaws.{or_left, or_right}
use Rattle.union.proofs.Lists.{map_in}
use Rattle.lines.specs.Said.{quote, quoted}
use Rattle.lines.specs.Take.{is_writable, unwritable}
use Rattle.lines.specs.Put.{member_text, and_more, listed, ids_text, revisions_text, content_text, leaf_line, lines_text}
use Rattle.lines.specs.Whole.{lines_of, lines_in, cut_lines, dump_text, AllWritable, TakesAll, Copied, Stayed}
use Rattle.lines.proofs.SaidLaws.{read_decimal, read_hex}
use Rattle.lines.proofs.ShownLaws.{writable_visible, number_writable, hash_writable}
use Rattle.lines.proofs.RoundTrip.{Hashes, is_rev, is_content, are_hashes, rev_writable}
use Rattle.lines.proofs.OwnLaws.{has_document}
use Rattle.lines.proofs.Whole.{lines_out, whole_copied, whole_stays}

-- ---- texts without a newline

abbrev feeds : List ℕ → Bool
feeds t = any (λ c. eqb c 10) t

quiet_append : (a b : List ℕ) → feeds a ≡ false → feeds b ≡ false → feeds (a ++ b) ≡ false
unfolding any
quiet_append [] b e f = f
quiet_append (c ∷ a) b e f = let g : eqb c 10 ≡ false = or_left _ _ e in rw g (quiet_append a b (or_right (eqb c 10) _ e) f)

quiet_writable : (t : List ℕ) → unwritable t ≡ false → feeds t ≡ false
unfolding any unwritable
quiet_writable [] e = refl
quiet_writable (c ∷ t) e =
    let h : 32 ≤ c = writable_visible c (or_left _ _ e) in rw (ne_eqb c 10 (λ q. omega arith)) (quiet_writable t (or_right (not (is_writable c)) _ e))

quiet_quoted : (t : List ℕ) → unwritable t ≡ false → feeds (quoted t) ≡ false
unfolding any quoted
quiet_quoted t e = quiet_append t (quote ∷ []) (quiet_writable t e) refl

quiet_member : (n v : List ℕ) → unwritable n ≡ false → feeds v ≡ false → feeds (member_text n v) ≡ false
unfolding any member_text text
quiet_member n v e f = quiet_append (quoted n) (58 ∷ v) (quiet_quoted n e) f

abbrev AllQuiet : List (List ℕ) → Type 0
AllQuiet [] = Unit {0}
AllQuiet (t ∷ ts) = (feeds t ≡ false) × AllQuiet ts

quiet_more : (ts : List (List ℕ)) → AllQuiet ts → feeds (and_more ts) ≡ false
unfolding any and_more text
quiet_more [] q = refl
quiet_more (t ∷ ts) q = quiet_append t (and_more ts) q.0 (quiet_more ts q.1)

quiet_listed : (ts : List (List ℕ)) → AllQuiet ts → feeds (listed ts) ≡ false
unfolding any listed
quiet_listed [] q = refl
quiet_listed (t ∷ ts) q = quiet_append t (and_more ts) q.0 (quiet_more ts q.1)

quiet_number : (n : ℕ) → n ≤ pred labels → feeds (decimal n) ≡ false
quiet_number n h = quiet_writable (decimal n) (number_writable (pred labels) (decimal n) n (read_decimal (pred labels) n h (omega arith)))

quiet_hashes : (hs : List Hash) → Hashes hs → AllQuiet (map (λ h. quoted (hex h)) hs)
quiet_hashes [] k = tt
quiet_hashes (h ∷ hs) k = (quiet_quoted (hex h) (hash_writable (hex h) h (read_hex h k.0.0 k.0.1)), quiet_hashes hs k.1)

quiet_ids : (hs : List Hash) → Hashes hs → feeds (ids_text hs) ≡ false
unfolding any ids_text text
quiet_ids hs k = quiet_append (listed (map (λ h. quoted (hex h)) hs)) (93 ∷ []) (quiet_listed (map (λ h. quoted (hex h)) hs) (quiet_hashes hs k)) refl

quiet_revisions : (n : ℕ) (hs : List Hash) → n ≤ number_most → Hashes hs → feeds (revisions_text n hs) ≡ false
unfolding any revisions_text text unwritable is_writable
quiet_revisions n hs h k =
    quiet_append (listed (member_text (text "start") (decimal n) ∷ member_text (text "ids") (ids_text hs) ∷ [])) (125 ∷ [])
    (quiet_listed (member_text (text "start") (decimal n) ∷ member_text (text "ids") (ids_text hs) ∷ [])
    (quiet_member (text "start") (decimal n) refl (quiet_number n (omega arith)), (quiet_member (text "ids") (ids_text hs) refl (quiet_ids hs k), tt)))
    refl

quiet_content : (c : Content) → IsContent c → feeds (content_text c) ≡ false
unfolding any text unwritable is_writable
quiet_content (Live n) h = quiet_member (text "label") (decimal n) refl (quiet_number n (omega arith))
quiet_content Deleted h = quiet_member (text "_deleted") (text "true") refl refl

-- ---- lines

-- a line ends with its only newline
record OneLine (l : List ℕ) : Type 0 where
  init : List ℕ
  quiet : feeds init ≡ false
  is : l ≡ init ++ (10 ∷ [])

leaf_one : (i : Id) (t : Tree) → IsTree t → (a : LeafOf) → In a (leaves t) → unwritable i ≡ false → OneLine (leaf_line i t a)
unfolding leaf_line any text unwritable is_writable
leaf_one i t k a m w =
    let ts : List (List ℕ) =
    member_text (text "_id") (quoted i)
    ∷ member_text (text "_rev") (quoted (rev_text a.rev))
    ∷ member_text (text "_revisions") (revisions_text a.rev.number.0 (path_of t a.rev))
    ∷ content_text a.content
    ∷ [] in
    record {
      init = 123 ∷ (listed ts ++ (125 ∷ []));
      quiet = quiet_append (listed ts) (125 ∷ [])
          (quiet_listed ts (
            quiet_member (text "_id") (quoted i) refl (quiet_quoted i w),
            (
              quiet_member (text "_rev") (quoted (rev_text a.rev)) refl (quiet_quoted (rev_text a.rev) (rev_writable a.rev (is_rev i t k a m w))),
              (
                quiet_member (text "_revisions") (revisions_text a.rev.number.0 (path_of t a.rev)) refl
                    (quiet_revisions a.rev.number.0 (path_of t a.rev) (is_rev i t k a m w).most (are_hashes i t k a m w)),
                (quiet_content a.content (is_content i t k a m w), tt),
              ),
            ),
          ))
          refl;
      is = ap (λ (l : List ℕ). 123 ∷ l) (sym (append_assoc (listed ts) (125 ∷ []) (10 ∷ [])));
    }

cut_one : (init rest : List ℕ) → feeds init ≡ false → cut_lines (init ++ (10 ∷ rest)) ≡ (init ++ (10 ∷ [])) ∷ cut_lines rest
unfolding cut_lines any
cut_one [] rest q = refl
cut_one (c ∷ init) rest q =
    let e : eqb c 10 ≡ false = or_left _ _ q in rw (e, cut_one init rest (or_right (eqb c 10) _ q)) refl

cut_join : (ls : List (List ℕ)) → ((l : List ℕ) → In l ls → OneLine l) → cut_lines (join ls) ≡ ls
unfolding cut_lines join
cut_join [] f = refl
cut_join (l ∷ ls) f =
    let o = f l (inl refl) in
    ap (λ (z : List ℕ). cut_lines (z ++ join ls)) o.is
    ∙ (ap cut_lines (append_assoc o.init (10 ∷ []) (join ls))
    ∙ (cut_one o.init (join ls) o.quiet
    ∙ (ap (λ (z : List ℕ). z ∷ cut_lines (join ls)) (sym o.is) ∙ ap (λ (z : List (List ℕ)). l ∷ z) (cut_join ls (λ m i. f m (inr i))))))

dump_join : (ds : List (Id × Document)) → dump_text ds ≡ join (lines_in ds)
unfolding dump_text lines_in lines_text lines_of join
dump_join [] = refl
dump_join (d ∷ ds) = rw (join_append (lines_of d) (lines_in ds), dump_join ds) refl

lines_one : (ds : List (Id × Document)) → ((d : Id × Document) → In d ds → IsTree d.1.tree × (unwritable d.0 ≡ false))
    → (l : List ℕ) → In l (lines_in ds) → OneLine l
unfolding lines_of
lines_one ds f l m =
    let u = lines_out ds l m in
    let a = map_in (leaf_line u.0.0 u.0.1.tree) l (leaves u.0.1.tree) u.2 in
    let k = f u.0 u.1 in
    subst OneLine (sym a.2) (leaf_one u.0.0 u.0.1.tree k.0 a.0 a.1 k.1)

-- the lines of a document, cut from what it gives put out
pub document_cut : (i : Id) (d : Document) → IsTree d.tree → unwritable i ≡ false → cut_lines (lines_text i d.tree) ≡ lines_of (i, d)
unfolding lines_text lines_of
document_cut i d k w =
    cut_join (lines_of (i, d))
    (λ l m. let a = map_in (leaf_line i d.tree) l (leaves d.tree) m in subst OneLine (sym a.2) (leaf_one i d.tree k a.0 a.1 w))

-- the lines of a replica, cut from all of it put out
pub dump_cut : (r : Replica) → IsReplica r → AllWritable r → cut_lines (dump_text r.documents) ≡ lines_in r.documents
dump_cut r k w =
    ap cut_lines (dump_join r.documents) ∙ cut_join (lines_in r.documents) (lines_one r.documents (λ d m. ((has_document r k d m).tree, w d m)))

-- ---- a dump

-- all of a replica put out, cut after each newline and taken into a fresh one, line by line
pub dump_copied : (r : Replica) → IsReplica r → AllWritable r → (xs : List (Result Outcome Refusal)) (left : Replica)
    → TakesAll fresh (cut_lines (dump_text r.documents)) xs left → Copied r xs left
dump_copied r k w xs left t =
    whole_copied r k w (lines_in r.documents) (λ l. (λ m. m, λ m. m)) xs left
    (subst (λ (ls : List (List ℕ)). TakesAll fresh ls xs left) (dump_cut r k w) t)

-- and into itself
pub dump_stays : (r : Replica) → IsReplica r → AllWritable r → (xs : List (Result Outcome Refusal)) (left : Replica)
    → TakesAll r (cut_lines (dump_text r.documents)) xs left → Stayed r xs left
dump_stays r k w xs left t =
    whole_stays r k w (lines_in r.documents) (λ l m. m) xs left (subst (λ (ls : List (List ℕ)). TakesAll r ls xs left) (dump_cut r k w) t)
