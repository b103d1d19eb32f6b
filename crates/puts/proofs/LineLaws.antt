-- The parts of a leaf's line, and how long it is. Assumes nothing.
use mathlib.Core.Path.{◌≡◌, refl, sym, ap, ◌∙◌}
use mathlib.Core.List.{List, [], ◌∷◌, ◌++◌, map, append_assoc, append-nil}
use Prim.Native.Nat.{ℕ, suc, ◌+◌, ◌*◌, ◌/◌, ◌≤◌}
use native.Mathlib.Omega.{arith}
use lib.ListN.{length, take, drop, length-append}
use Rattle.rules.specs.declared.Content.{Content}
use Rattle.rules.specs.declared.Content.TheVariants.{Live, Deleted}
use Rattle.rules.specs.declared.Revision.{Revision}
use Rattle.rules.specs.Bytes.{part, pieces, join}
use Rattle.rules.specs.Choice.{maybe}
use Rattle.rules.specs.Map.{find}
use Rattle.rules.specs.Order.{order_rev}
use Rattle.rules.specs.Read.{path_of}
use Rattle.rules.specs.Replica.{Id, Hash, Tree, HasContent, IsTree}
use Rattle.rules.specs.Report.{decimal, hex, text, newline, rev_text}
use Rattle.rules.specs.Room.{hash_size}
use Rattle.rules.specs.Write.{parent_in}
use Rattle.rules.proofs.ByteLaws.{Sized, length-pieces, sized_pieces, length-join, pieces_add, pieces_join_all}
use Rattle.octets.proofs.SpliceLaws.{splice_none}
use Rattle.text.specs.Text.{size, Put}
use Rattle.text.proofs.TextLaws.{length-hex, decimal_longest}
use Rattle.tree.specs.Leaf.{leaf_of}
use Rattle.reads.proofs.TreeLaws.{path_unfolds, path_sized}
use Rattle.lines.specs.Said.{quote, quoted}
use Rattle.lines.specs.Put.{member_text, and_more, listed, ids_text, revisions_text, leaf_line}
use Rattle.puts.specs.Puts.{start_word, rev_word, revisions_word, ids_word, next_word, label_word, end_word, deleted_word}
use Rattle.puts.specs.Puts.{start_text, next_texts, path_text, end_text, hashes_in, next_size, line_size}

-- ---- hashes behind another

next_more : (hs : List Hash) (h : Hash) → next_texts (hs ++ (h ∷ [])) ≡ next_texts hs ++ (text next_word ++ hex h)
unfolding next_texts
next_more [] h = rw append-nil
next_more (x ∷ hs) h = rw (next_more hs h) (simp append_assoc)

pub next_none : (bs s : List ℕ) (at : ℕ) → Put (next_texts (pieces 0 hash_size bs)) s at at s
unfolding next_texts pieces
next_none bs s at = record { is = sym (splice_none s at); ends = omega arith }

-- one hash more of those that bytes are
pub next_piece : (bs : List ℕ) (k : ℕ) {h : Hash} → h ≡ part (k * hash_size) hash_size bs
    → (next_texts (pieces k hash_size bs) ++ text next_word) ++ hex h ≡ next_texts (pieces (k + 1) hash_size bs)
unfolding pieces part
next_piece bs k {h} e =
    append_assoc (next_texts (pieces k hash_size bs)) (text next_word) (hex h)
    ∙ rw e (sym (ap next_texts (pieces_add k 1 hash_size bs) ∙ next_more (pieces k hash_size bs) (take hash_size (drop (k * hash_size) bs))))

pub length-next : (hs : List Hash) → Sized hash_size hs → length (next_texts hs) ≡ length hs * next_size
unfolding next_texts text
length-next [] z = omega arith
length-next (h ∷ hs) z = let n = length-next hs z.1 in let e = z.0 in simp (length-append, length-hex) (omega arith)

pub next_size_lem : (bs : List ℕ) → length (next_texts (hashes_in bs)) ≡ length bs / hash_size * next_size
next_size_lem bs =
    let n = length bs / hash_size in
    length-next (hashes_in bs) (sized_pieces n hash_size bs (omega arith)) ∙ ap (λ (k : ℕ). k * next_size) (length-pieces n hash_size bs)

pub hashes_in_lem : (hs : List Hash) → Sized hash_size hs → hashes_in (join hs) ≡ hs
hashes_in_lem hs z =
    let n : length (join hs) / hash_size ≡ length hs = omega (arith, length-join hash_size hs z) in
    rw n (pieces_join_all hash_size hs z)

-- ---- the line

-- the quotation mark before each hash stands with the one after the hash before it
close_ids : (hs : List Hash) (x : List ℕ) → quote ∷ (and_more (map (λ h. quoted (hex h)) hs) ++ x) ≡ next_texts hs ++ (quote ∷ x)
unfolding and_more next_texts quoted text
close_ids [] x = refl
close_ids (h ∷ hs) x = simp append_assoc (ap (λ (l : List ℕ). 34 ∷ 44 ∷ 34 ∷ (hex h ++ l)) (close_ids hs x))

-- the members of a line, whatever their texts are, with the words between them put together
shape : (q c m o u b w z id rev rs st ids i r d h am nt e : List ℕ) → ((x : List ℕ) → q ++ (am ++ x) ≡ nt ++ (q ++ x))
    → o
    ++ ((((q ++ (id ++ q)) ++ (c ++ (q ++ (i ++ q))))
    ++ (m ++ (((q ++ (rev ++ q)) ++ (c ++ (q ++ (r ++ q))))
    ++ (m ++ (((q ++ (rs ++ q))
    ++ (c ++ (o ++ ((((q ++ (st ++ q)) ++ (c ++ d)) ++ (m ++ (((q ++ (ids ++ q)) ++ (c ++ (b ++ (((q ++ (h ++ q)) ++ am) ++ w)))) ++ []))) ++ u))))
    ++ (m ++ (e ++ [])))))))
    ++ z)
    ≡ ((o ++ (q ++ (id ++ (q ++ (c ++ q))))) ++ (i ++ ((q ++ (m ++ (q ++ (rev ++ (q ++ (c ++ q)))))) ++ r)))
    ++ (((q ++ (m ++ (q ++ (rs ++ (q ++ (c ++ (o ++ (q ++ (st ++ (q ++ c))))))))))
    ++ (d ++ ((m ++ (q ++ (ids ++ (q ++ (c ++ (b ++ q)))))) ++ (h ++ nt))))
    ++ (q ++ (w ++ (u ++ (m ++ (e ++ z))))))
shape q c m o u b w z id rev rs st ids i r d h am nt e close = simp (append_assoc, append-nil, close)

module _ (i : Id) (t : Tree) (v : Revision) (hs : List Hash) (p : path_of t v ≡ v.hash ∷ hs) where
  -- with the content's member m
  abbrev JoinedWith : List ℕ → Type 0
  JoinedWith m =
      text "{"
      ++ (listed
      (member_text (text "_id") (quoted i)
      ∷ member_text (text "_rev") (quoted (rev_text v))
      ∷ member_text (text "_revisions") (revisions_text v.number.0 (path_of t v))
      ∷ m
      ∷ [])
      ++ (text "}" ++ text newline))
      ≡ start_text i v ++ (path_text v hs ++ (text "\"" ++ (text "]" ++ (text "}" ++ (text "," ++ (m ++ (text "}" ++ text newline)))))))

  joined_with : (m : List ℕ) → JoinedWith m
  unfolding listed and_more member_text quoted revisions_text ids_text start_text path_text text
  joined_with m =
      rw p
      (shape (text "\"") (text ":") (text ",") (text "{") (text "}") (text "[") (text "]") (text "}" ++ text newline) (text "_id") (text "_rev")
      (text "_revisions") (text "start") (text "ids") i (rev_text v) (decimal v.number.0) (hex v.hash)
      (and_more (map (λ h. quoted (hex h)) hs)) (next_texts hs) m (close_ids hs))

  joined : (c : Content) → leaf_line i t (leaf_of v c) ≡ start_text i v ++ (path_text v hs ++ end_text c)
  unfolding leaf_line member_text quoted text
  joined (Live n) = joined_with (member_text (text "label") (decimal n))
  joined Deleted = joined_with (member_text (text "_deleted") (text "true"))

sizes : (i : Id) (v : Revision) (c : Content) (hs : List Hash) → Sized hash_size (v.hash ∷ hs)
    → length (start_text i v ++ (path_text v hs ++ end_text c)) ≡ line_size (length i) v.number (suc (length hs)) c
unfolding start_text path_text rev_text line_size text
sizes i v c hs z =
    let n = length-next hs z.1 in
    let e = z.0 in
    simp (length-append, length-hex) (omega arith)

-- ---- the parts as they are put together

pub start_joined : (i : Id) (v : Revision) → ((text start_word ++ i) ++ text rev_word) ++ rev_text v ≡ start_text i v
unfolding start_text
start_joined i v = simp append_assoc

pub path_joined : (v : Revision) (hs : List Hash)
    → (((text revisions_word ++ decimal v.number.0) ++ text ids_word) ++ hex v.hash) ++ next_texts hs ≡ path_text v hs
unfolding path_text
path_joined v hs = simp append_assoc

module _ {c : Content} where
  pub live_joined : {n : ℕ} → c ≡ Live n → (text label_word ++ decimal n) ++ text end_word ≡ end_text c
  live_joined e = rw e (simp append_assoc)

  pub live_size : {n : ℕ} → c ≡ Live n → length (end_text c) ≡ size label_word + length (decimal n) + size end_word
  unfolding text
  live_size e = rw e (simp length-append (omega arith))

  pub deleted_joined : c ≡ Deleted → text deleted_word ≡ end_text c
  deleted_joined e = rw e

  pub deleted_size : c ≡ Deleted → length (end_text c) ≡ size deleted_word
  unfolding text
  deleted_size e = rw e

-- a live leaf's label has the most digits
pub end_most : (c : Content) → length (end_text c) ≤ size label_word + 20 + size end_word
unfolding text
end_most (Live n) = simp length-append (omega (arith, decimal_longest n))
end_most Deleted = omega arith

-- ---- of a leaf in a tree

module _ {t : Tree} (h : IsTree t) (v : Revision) (c : Content) (k : HasContent t v c) where
  -- the hashes behind its own
  abbrev pub more : List Hash
  more = maybe [] (path_of t) (parent_in (find order_rev v t))

  pub path_is : path_of t v ≡ v.hash ∷ more
  path_is = path_unfolds t h v (k.0, k.1)

  pub sized : Sized hash_size (v.hash ∷ more)
  sized = rw path_is at (path_sized t h v (k.0, k.1))

  pub line_is : (i : Id) → leaf_line i t (leaf_of v c) ≡ start_text i v ++ (path_text v more ++ end_text c)
  line_is i = joined i t v more path_is c

  -- the size of a leaf's line
  pub line_size_lem : (i : Id) → length (leaf_line i t (leaf_of v c)) ≡ line_size (length i) v.number (length (path_of t v)) c
  line_size_lem i = ap length (line_is i) ∙ (sizes i v c more sized ∙ ap (λ (l : List Hash). line_size (length i) v.number (length l) c) (sym path_is))
