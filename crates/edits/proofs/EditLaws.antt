-- An edit whose own refusals don't hold is the path write of its revision and parent: the form is good, and 4 and 5 never hold. Assumes nothing.
use mathlib.Core.Path.{◌≡◌, refl, ap, ap₂, ◌∙◌}
use Rattle.std.specs.Prelude.{Ok, Err}
use mathlib.Core.Bool.{Bool, true, false, not, ◌||◌}
use mathlib.Core.List.{List, [], ◌∷◌, ◌++◌, append-nil}
use Rattle.std.specs.Prelude.{Option, None, Some}
use Prim.Native.Nat.{ℕ, suc, ◌+◌, ◌*◌, ◌/◌, ◌%◌, ◌≤◌}
use native.Mathlib.Omega.{arith}
use lib.Dec.{eqb, ltb}
use lib.ListN.{length, take, length-append}
use lib.Seq.{take_at, drop_at, take_all}
use borrow.Author.Tests.{le-ltb, eq-eqb, ne_eqb}
use Rattle.rules.specs.declared.Outcome.TheVariants.{Changed}
use Rattle.rules.specs.declared.Refusal.{Refusal}
use Rattle.rules.specs.declared.Revision.{Revision}
use Rattle.rules.specs.Bytes.{pieces}
use Rattle.rules.specs.Choice.{any, maybe, first_that}
use Rattle.rules.specs.Edit.{Edit, parent_of, parent_rule, new_number, as_write, already_known, last_number, edit_refusals, edit}
use Rattle.rules.specs.Map.{find}
use Rattle.rules.specs.Order.{order_rev, same_rev}
use Rattle.rules.specs.Replica.{Hash, revision, Node, Tree, Replica, tree_of}
use Rattle.rules.specs.Room.{hash_size, hashes_most}
use Rattle.rules.specs.Write.{Write, hashes, along, gives, added, is_none, lacks_parent, is_addition, adds, bad_id, bad_path}
use Rattle.rules.specs.Write.{low_number, differ, other_parent, agree, other_content, form_refusals, room_refusals, write_refusals, settle, write}
use Rattle.rules.proofs.GivenLaws.{adds_any}
use Rattle.edits.specs.Edit.{answer_of}

-- ---- what it gives

-- the parent, where there is one, has a hash of sixteen bytes and a number
abbrev pub GoodParent : Option Revision → Type 0
GoodParent None = Unit {0}
GoodParent (Some p) = (length p.hash ≡ hash_size) × (1 ≤ p.number.0)

-- the parent, as the path gives it
abbrev parent_entry : Option Revision → List (Revision × Node)
parent_entry None = []
parent_entry (Some p) = (p, record { parent = None; content = None }) ∷ []

pieces_one : (a : Hash) → length a ≡ hash_size → pieces 1 hash_size a ≡ a ∷ []
unfolding pieces
pieces_one a e = ap {B = List Hash} (λ x. x ∷ []) (take_all hash_size a (omega arith))

pieces_two : (a b : Hash) → length a ≡ hash_size → length b ≡ hash_size → pieces 2 hash_size (a ++ b) ≡ a ∷ b ∷ []
unfolding pieces
pieces_two a b e f =
    ap₂ {C = List Hash} (λ x y. x ∷ y ∷ []) (take_at a b hash_size e) (ap (take hash_size) (drop_at a b hash_size e) ∙ take_all hash_size b (omega arith))

abbrev tail : Option Revision → Hash
tail o = maybe [] (λ p. p.hash) o

abbrev hashes_of : Hash → Option Revision → List Hash
hashes_of h None = h ∷ []
hashes_of h (Some p) = h ∷ p.hash ∷ []

cut : (h : Hash) (o : Option Revision) → length h ≡ hash_size → GoodParent o → pieces (length (h ++ tail o) / hash_size) hash_size (h ++ tail o) ≡ hashes_of h o
cut h None e g =
    let l : length (h ++ []) / hash_size ≡ 1 = let q = length-append {A = ℕ} h [] in omega arith in
    ap₂ (λ (n : ℕ) (s : List ℕ). pieces n hash_size s) l (append-nil h) ∙ pieces_one h e
cut h (Some p) e g =
    let l : length (h ++ p.hash) / hash_size ≡ 2 = let q = length-append h p.hash in let z = g.0 in omega arith in
    ap (λ (n : ℕ). pieces n hash_size (h ++ p.hash)) l ∙ pieces_two h p.hash e g.0

module _ (r : Replica) (e : Edit) (size : length e.hash ≡ hash_size) (good : GoodParent (parent_of r e)) where
  abbrev w : Write
  w = as_write r e

  abbrev o : Option Revision
  o = parent_of r e

  edit_hashes : hashes w ≡ hashes_of e.hash o
  unfolding hashes as_write
  edit_hashes = cut e.hash o size good

  edit_gives :
      gives w ≡ (revision (new_number r e).0 e.hash, record { parent = o; content = Some e.content }) ∷ parent_entry o
  unfolding gives along as_write new_number
  edit_gives = ap (λ (hs : List Hash). along (new_number r e).0 hs (Some e.content)) edit_hashes ∙ go o
    where
      go : (q : Option Revision)
          → along (suc (maybe 0 (λ p. p.number.0) q)) (hashes_of e.hash q) (Some e.content)
          ≡ (revision (suc (maybe 0 (λ p. p.number.0) q)) e.hash, record { parent = q; content = Some e.content }) ∷ parent_entry q
      go None = refl
      go (Some p) = refl

  -- ---- the refusals of the form

  path_length : length w.path ≡ length (hashes_of e.hash o) * hash_size
  unfolding as_write
  path_length = length-append e.hash (tail o) ∙ go o good
    where
      go : (q : Option Revision) → GoodParent q → length e.hash + length (tail q) ≡ length (hashes_of e.hash q) * hash_size
      go None g = let s = size in omega arith
      go (Some p) g = let s = size in let z = g.0 in omega arith

  counted : (q : Option Revision) → GoodParent q
      → (1 ≤ length (hashes_of e.hash q)) × (length (hashes_of e.hash q) ≤ 2) × (length (hashes_of e.hash q) ≤ suc (maybe 0 (λ p. p.number.0) q))
  counted None g = (omega arith, omega arith, omega arith)
  counted (Some p) g = let z = g.1 in (omega arith, omega arith, omega arith)

  edit_path : bad_path w ≡ false
  unfolding bad_path
  edit_path =
      let c = counted o good in
      let l : length (hashes w) ≡ length (hashes_of e.hash o) = ap length edit_hashes in
      let p = path_length in
      let m : eqb (length w.path % hash_size) 0 ≡ true = eq-eqb (length w.path % hash_size) 0 (omega arith) in
      let a : eqb (length (hashes w)) 0 ≡ false = ne_eqb (length (hashes w)) 0 (λ z. let q = c.0 in omega arith) in
      let b : ltb hashes_most (length (hashes w)) ≡ false = le-ltb hashes_most (length (hashes w)) (let q = c.1 in omega arith) in
      rw (m, a, b)

  edit_number : low_number w ≡ false
  unfolding low_number as_write new_number
  edit_number =
      let c = counted o good in
      let l : length (hashes w) ≡ length (hashes_of e.hash o) = ap length edit_hashes in
      le-ltb w.number.0 (length (hashes w)) (let q = c.2 in omega arith)

  pub edit_form : bad_id e.id ≡ false → first_that (form_refusals w) ≡ None
  unfolding first_that as_write
  edit_form i = rw (i, edit_path, edit_number)

  -- ---- 4 and 5, and what is added

  abbrev t : Tree
  t = tree_of r w.id

  -- where nothing is given, nothing differs
  none_given : {A : Type 0} (same : A → A → Bool) (f : Node → Option A) (n : Option Node) → maybe false (λ m. differ same (f m) None) n ≡ false
  none_given same f None = refl
  none_given same f (Some n) = by (f n)
    where
      by : (q : Option _) → differ same q None ≡ false
      by None = refl
      by (Some a) = refl

  -- the new revision is not known
  module _ (new : already_known r e ≡ false) where
    abbrev g : Revision × Node
    g = (revision (new_number r e).0 e.hash, record { parent = o; content = Some e.content })

    unknown : find order_rev g.0 t ≡ None
    unfolding already_known as_write
    unknown = go (find order_rev g.0 (tree_of r e.id)) new
      where
        go : (n : Option Node) → not (is_none n) ≡ false → n ≡ None
        go None z = refl
        go (Some n) z = let q : ◌≡◌ {A = ℕ} 0 1 = cc in absurd (omega arith)

    any_entry : (p : Revision × Node → Bool) → p g ≡ false → ((q : Revision) → p (q, record { parent = None; content = None }) ≡ false) → any p (gives w) ≡ false
    unfolding any
    any_entry p a b = ap (any p) edit_gives ∙ (ap (λ (x : Bool). x || any p (parent_entry o)) a ∙ go o)
      where
        go : (q : Option Revision) → any p (parent_entry q) ≡ false
        go None = refl
        go (Some q) = ap (λ (x : Bool). x || false) (b q)

    edit_not_crossed : any (other_parent t) (gives w) ≡ false
    unfolding other_parent
    edit_not_crossed = any_entry (other_parent t) (ap (maybe false (λ (n : Node). differ same_rev n.parent g.1.parent)) unknown) (λ p. none_given same_rev (λ n. n.parent) (find order_rev p t))

    edit_not_other : any (other_content t) (gives w) ≡ false
    unfolding other_content
    edit_not_other = any_entry (other_content t) (ap (maybe false (λ (n : Node). differ agree n.content g.1.content)) unknown) (λ p. none_given agree (λ n. n.content) (find order_rev p t))

    edit_adds : adds r w ≡ true
    unfolding any is_addition
    edit_adds = adds_any r w ∙ (ap (any (is_addition t)) edit_gives ∙ ap (λ (x : Option Node). maybe true (λ n. lacks_parent g.1.parent n.parent) x || any (is_addition t) (parent_entry o)) unknown)

    -- ---- the edit and the write

    -- the edit's own refusals don't hold: it does what the path write does
    pub edit_by_write : bad_id e.id ≡ false → parent_rule r e ≡ true → last_number r e ≡ false
        → edit r e ≡ (answer_of (new_number r e) (write r w).0, (write r w).1)
    unfolding edit edit_refusals write write_refusals first_that as_write
    edit_by_write i p l =
        let c = edit_path in
        let d = edit_number in
        let x = edit_not_crossed in
        let y = edit_not_other in
        rw (i, p, l, new, c, d, x, y, edit_adds) (go (first_that (room_refusals r w)))
      where
        go : (q : Option Refusal)
            → settle Err r (Ok (new_number r e), added r w) q
            ≡ (answer_of (new_number r e) (settle Err r (Ok Changed, added r w) q).0, (settle Err r (Ok Changed, added r w) q).1)
        go None = refl
        go (Some n) = refl
