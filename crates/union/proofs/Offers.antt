-- The offers of a replica give exactly what it holds, and each is a well-formed write. Assumes nothing.
use mathlib.Core.Path.{◌≡◌, refl, sym, ap, ◌∙◌, subst}
use mathlib.Core.Bool.{Bool, true, false, true≢false}
use mathlib.Core.List.{List, [], ◌∷◌}
use mathlib.Core.Logic.{◌⊎◌, inl, inr, ◌↔◌}
use Rattle.std.specs.Prelude.{Option, None, Some}
use Prim.Native.Nat.{ℕ, zero, suc, ◌+◌, ◌≤◌, ◌<◌}
use native.Mathlib.Omega.{arith}
use lib.Dec.{leb, ltb}
use lib.ListN.{length}
use borrow.Author.Tests.{leb-true, leb-false, lt-ltb, le-ltb, lt-leb, le-leb, ne_eqb}
use Rattle.rules.specs.declared.Content.{Content}
use Rattle.rules.specs.declared.Revision.{Revision}
use Rattle.rules.specs.declared.Seq.{Seq}
use Rattle.rules.specs.Choice.{pick, maybe}
use Rattle.rules.specs.Map.{find}
use Rattle.rules.specs.Order.{order_rev}
use Rattle.rules.specs.Pull.{offer, offers_of, offers_in, offers}
use Rattle.rules.specs.Read.{LeafOf, leaves, ancestry, path_of, insert_by_seq, documents_after}
use Rattle.rules.specs.Replica.{Id, Hash, revision, Node, Tree, Document, Replica, document_of, tree_of, revisions_held, HasContent, IsId, IsTree, IsDocument, IsReplica}
use Rattle.rules.specs.Room.{id_most, hash_size, hashes_most, number_most}
use Rattle.rules.specs.Union.{In, IsWrite, all_from}
use Rattle.rules.specs.Write.{Write, hashes, newest_of, along, gives, bad_id, low_number, parent_in}
use Rattle.rules.proofs.OrderLaws.{bytes_order, rev_order, rev_path}
use Rattle.rules.proofs.MapLaws.{some_inj}
use Rattle.rules.proofs.ByteLaws.{Sized, AllBytes, bytes_join}
use Rattle.union.proofs.Lists.{in_cases, in_left, in_map, in_right, map_in}
use Rattle.union.proofs.Nodes.{by_option}
use Rattle.union.proofs.Trees.{Entry}
use Rattle.union.proofs.Paths.{write_closed}
use Rattle.union.proofs.PathBytes.{hashes_join, path_good}
use Rattle.union.proofs.Count.{find_in, in_find}
use Rattle.union.proofs.Winners.{content_leaf, leaf_content, leaf_of}
use Rattle.union.proofs.Sets.{GivenBy}
use Rattle.union.proofs.Refusals.{Well}
use Rattle.union.proofs.Held.{Has, Own, closed_tree, document_of_lem, tree_of_lem}

entry_path : (x y : Entry) → x.0 ≡ y.0 → x.1.parent ≡ y.1.parent → x.1.content ≡ y.1.content → x ≡ y
entry_path x y p q r = λ i. (p i, record { parent = q i; content = r i })

-- ---- the path of a revision

module _ (t : Tree) (k : IsTree t) where
  low : (x : Entry) → Has t x → 1 ≤ x.0.number.0
  low x m = (k.revisions x.0 (x.1, m)).least

  above : Node → ℕ → List Hash
  above c n = maybe [] (ancestry n t) c.parent

  path_step : (n : ℕ) (r : Revision) (c : Node) → Has t (r, c) → ancestry (suc n) t r ≡ r.hash ∷ above c n
  unfolding ancestry above
  path_step n r c m = ap (λ z. r.hash ∷ maybe [] (ancestry n t) (parent_in z)) m

  -- the parent that the path gives is the known one
  parent_given : (n : ℕ) (r : Revision) (c : Node) → Has t (r, c) → r.number.0 ≡ suc n → newest_of n (above c n) ≡ c.parent
  unfolding above
  parent_given n r c m e = go c.parent refl
    where
      go : (o : Option Revision) → c.parent ≡ o → newest_of n (maybe [] (ancestry n t) o) ≡ o
      go None q = refl
      go (Some p) q =
          let u = (closed_tree t k).down (r, c) p m q in
          let h = low (p, u.0) u.1 in
          let l = k.lower r p (c, m, q) in
          at_number n u.0 u.1 (omega arith) (omega arith)
        where
          at_number : (n : ℕ) (d : Node) → Has t (p, d) → p.number.0 ≡ n → 0 < n → newest_of n (ancestry n t p) ≡ Some p
          at_number zero d i z h = absurd (omega arith)
          at_number (suc n) d i z h = rw (path_step n p d i) (ap Some (rev_path (revision (suc n) p.hash) p (sym z) refl))

  head_entry : (n : ℕ) (r : Revision) (c : Node) (b : Option Content) → Has t (r, c) → r.number.0 ≡ suc n → c.content ≡ b
      → ◌≡◌ {A = Entry} (revision (suc n) r.hash, record { parent = newest_of n (above c n); content = b }) (r, c)
  head_entry n r c b m e q =
      entry_path (revision (suc n) r.hash, record { parent = newest_of n (above c n); content = b }) (r, c)
      (rev_path (revision (suc n) r.hash) r (sym e) refl) (parent_given n r c m e) (sym q)

  -- what the path of a known revision gives is known
  path_known : (n : ℕ) (r : Revision) (c : Node) (b : Option Content) → Has t (r, c) → r.number.0 ≡ n → c.content ≡ b
      → (x : Entry) → In x (along n (ancestry n t r) b) → Has t x
  unfolding along above
  path_known zero r c b m e q x i = absurd (let h = low (r, c) m in omega arith)
  path_known (suc n) r c b m e q x i =
      go (subst (λ (z : List Hash). In x (along (suc n) z b)) (path_step n r c m) i) (λ p d j z f. path_known n p d None j z f x)
    where
      deep : (o : Option Revision) → c.parent ≡ o
          → ((p : Revision) (d : Node) → Has t (p, d) → p.number.0 ≡ n → d.content ≡ None → In x (along n (ancestry n t p) None) → Has t x)
          → In x (along n (maybe [] (ancestry n t) o) None) → Has t x
      deep None f ih j = absurd j
      deep (Some p) f ih j =
          let u = (closed_tree t k).down (r, c) p m f in
          let l = k.lower r p (c, m, f) in
          ih p u.0 u.1 (omega arith) u.2 j

      go : In x (along (suc n) (r.hash ∷ above c n) b)
          → ((p : Revision) (d : Node) → Has t (p, d) → p.number.0 ≡ n → d.content ≡ None → In x (along n (ancestry n t p) None) → Has t x)
          → Has t x
      go (inl z) ih = subst (λ (y : Entry). Has t y) (sym (z ∙ head_entry n r c b m e q)) m
      go (inr j) ih = deep c.parent refl ih j

  -- a revision is on its own path
  self_on : (n : ℕ) (r : Revision) (c : Node) (b : Option Content) → Has t (r, c) → r.number.0 ≡ n → c.content ≡ b → In (r, c) (along n (ancestry n t r) b)
  unfolding along
  self_on zero r c b m e q = absurd (let h = low (r, c) m in omega arith)
  self_on (suc n) r c b m e q = rw (path_step n r c m) (inl (sym (head_entry n r c b m e q)))

  -- ---- its hashes

  path_sized : (n : ℕ) (r : Revision) (c : Node) → Has t (r, c) → Sized hash_size (ancestry n t r)
  unfolding above ancestry
  path_sized zero r c m = tt
  path_sized (suc n) r c m =
      subst (λ (z : List Hash). Sized hash_size z) (sym (path_step n r c m)) ((k.revisions r (c, m)).size, go c.parent refl (λ p d i. path_sized n p d i))
    where
      go : (o : Option Revision) → c.parent ≡ o → ((p : Revision) (d : Node) → Has t (p, d) → Sized hash_size (ancestry n t p)) → Sized hash_size (maybe [] (ancestry n t) o)
      go None e ih = tt
      go (Some p) e ih = let u = (closed_tree t k).down (r, c) p m e in ih p u.0 u.1

  path_bytes : (n : ℕ) (r : Revision) (c : Node) → Has t (r, c) → AllBytes (ancestry n t r)
  unfolding above ancestry
  path_bytes zero r c m = tt
  path_bytes (suc n) r c m =
      subst AllBytes (sym (path_step n r c m)) ((k.revisions r (c, m)).bytes, go c.parent refl (λ p d i. path_bytes n p d i))
    where
      go : (o : Option Revision) → c.parent ≡ o → ((p : Revision) (d : Node) → Has t (p, d) → AllBytes (ancestry n t p)) → AllBytes (maybe [] (ancestry n t) o)
      go None e ih = tt
      go (Some p) e ih = let u = (closed_tree t k).down (r, c) p m e in ih p u.0 u.1

  -- ---- the offer of a leaf

  offer_hashes : (i : Id) (a : LeafOf) → HasContent t a.rev a.content → hashes (offer i t a) ≡ path_of t a.rev
  unfolding offer path_of
  offer_hashes i a h = hashes_join (offer i t a) (path_of t a.rev) refl (path_sized a.rev.number.0 a.rev h.0 h.1)

  offer_gives : (i : Id) (a : LeafOf) → HasContent t a.rev a.content → gives (offer i t a) ≡ along a.rev.number.0 (path_of t a.rev) (Some a.content)
  unfolding gives offer
  offer_gives i a h = ap (λ (hs : List Hash). along a.rev.number.0 hs (Some a.content)) (offer_hashes i a h)

  offer_known : (i : Id) (a : LeafOf) → HasContent t a.rev a.content → (x : Entry) → In x (gives (offer i t a)) → Has t x
  unfolding path_of
  offer_known i a h x m = path_known a.rev.number.0 a.rev h.0 (Some a.content) h.1 refl h.2 x (rw (offer_gives i a h) at m)

  -- every revision is on the path of some leaf
  abbrev OnPath : Id → Entry → Type 0
  OnPath i x = (a : LeafOf) × HasContent t a.rev a.content × In x (gives (offer i t a))

  on_own : (i : Id) (x : Entry) → Has t x → (b : Content) → x.1.content ≡ Some b → OnPath i x
  unfolding path_of
  on_own i x m b e =
      let a = leaf_of x.0 b in
      (a, (x.1, m, e), rw (offer_gives i a (x.1, m, e)) (self_on x.0.number.0 x.0 x.1 (Some b) m refl e))

  on_childs : (i : Id) (x y : Entry) → Has t x → y.1.parent ≡ Some x.0 → OnPath i y → OnPath i x
  on_childs i x y m p u =
      let d = (write_closed (offer i t u.0)).down y x.0 u.2 p in
      let z = offer_known i u.0 u.1 (x.0, d.0) d.1 in
      let q : d.0 ≡ x.1 = some_inj (sym z ∙ m) in
      (u.0, u.1, subst (λ (c : Node). In (x.0, c) (gives (offer i t u.0))) q d.1)

  on_path : (i : Id) (f : ℕ) (x : Entry) → Has t x → number_most ≤ x.0.number.0 + f → OnPath i x
  on_path i zero x m h =
      by_option x.1.content
      (λ e. let u = (closed_tree t k).up x.0 x.1 m e in
      let l = k.lower u.0.0 x.0 (u.0.1, u.1, u.2) in
      let z = (k.revisions u.0.0 (u.0.1, u.1)).most in
      absurd (omega arith))
      (on_own i x m)
  on_path i (suc f) x m h =
      by_option x.1.content
      (λ e. let u = (closed_tree t k).up x.0 x.1 m e in
      let l = k.lower u.0.0 x.0 (u.0.1, u.1, u.2) in
      on_childs i x u.0 m u.2 (on_path i f u.0 u.1 (omega arith)))
      (on_own i x m)

  -- a path is no longer than its number
  path_length : (n : ℕ) (r : Revision) → length (ancestry n t r) ≤ n
  unfolding ancestry
  path_length zero r = omega arith
  path_length (suc n) r = go (parent_in (find order_rev r t)) (λ p. path_length n p)
    where
      go : (o : Option Revision) → ((p : Revision) → length (ancestry n t p) ≤ n) → suc (length (maybe [] (ancestry n t) o)) ≤ suc n
      go None ih = omega arith
      go (Some p) ih = let h = ih p in omega arith

-- ---- nor longer than the tree: each number once

up_to : ℕ → Tree → ℕ
up_to n [] = 0
up_to n (x ∷ xs) = pick (leb x.0.number.0 n) (suc (up_to n xs)) (up_to n xs)

up_to_all : (n : ℕ) (xs : Tree) → up_to n xs ≤ length xs
unfolding up_to
up_to_all n [] = omega arith
up_to_all n (x ∷ xs) = go (leb x.0.number.0 n) (up_to_all n xs)
  where
    go : (b : Bool) → up_to n xs ≤ length xs → pick b (suc (up_to n xs)) (up_to n xs) ≤ suc (length xs)
    go true h = omega arith
    go false h = omega arith

up_to_le : (n : ℕ) (xs : Tree) → up_to n xs ≤ up_to (suc n) xs
unfolding up_to
up_to_le n [] = omega arith
up_to_le n (x ∷ xs) = go (leb x.0.number.0 n) refl (leb x.0.number.0 (suc n)) refl (up_to_le n xs)
  where
    go : (b : Bool) → leb x.0.number.0 n ≡ b → (c : Bool) → leb x.0.number.0 (suc n) ≡ c → up_to n xs ≤ up_to (suc n) xs
        → pick b (suc (up_to n xs)) (up_to n xs) ≤ pick c (suc (up_to (suc n) xs)) (up_to (suc n) xs)
    go true e true f ih = omega arith
    go true e false f ih = absurd (let a = leb-true x.0.number.0 n e in let b = leb-false x.0.number.0 (suc n) f in omega arith)
    go false e true f ih = omega arith
    go false e false f ih = omega arith

up_to_lt : (n : ℕ) (xs : Tree) (y : Entry) → In y xs → y.0.number.0 ≡ suc n → up_to n xs < up_to (suc n) xs
unfolding up_to
up_to_lt n [] y m e = absurd m
up_to_lt n (x ∷ xs) y (inl q) e =
    let z : x.0.number.0 ≡ suc n = ap (λ (u : Entry). u.0.number.0) (sym q) ∙ e in
    rw (lt-leb x.0.number.0 n (omega arith), le-leb x.0.number.0 (suc n) (omega arith)) (let h = up_to_le n xs in omega arith)
up_to_lt n (x ∷ xs) y (inr m) e = go (leb x.0.number.0 n) refl (leb x.0.number.0 (suc n)) refl (up_to_lt n xs y m e)
  where
    go : (b : Bool) → leb x.0.number.0 n ≡ b → (c : Bool) → leb x.0.number.0 (suc n) ≡ c → up_to n xs < up_to (suc n) xs
        → pick b (suc (up_to n xs)) (up_to n xs) < pick c (suc (up_to (suc n) xs)) (up_to (suc n) xs)
    go true e true f ih = omega arith
    go true e false f ih = absurd (let a = leb-true x.0.number.0 n e in let b = leb-false x.0.number.0 (suc n) f in omega arith)
    go false e true f ih = omega arith
    go false e false f ih = omega arith

path_in_tree : (t : Tree) → IsTree t → (n : ℕ) (r : Revision) (c : Node) → Has t (r, c) → r.number.0 ≡ n → length (ancestry n t r) ≤ up_to n t
unfolding above
path_in_tree t k zero r c m e = absurd (let h = low t k (r, c) m in omega arith)
path_in_tree t k (suc n) r c m e = rw (path_step t k n r c m) (go c.parent refl (λ p d i j. path_in_tree t k n p d i j))
  where
    more : up_to n t < up_to (suc n) t
    more = up_to_lt n t (r, c) (find_in rev_order t r c m) e

    go : (o : Option Revision) → c.parent ≡ o → ((p : Revision) (d : Node) → Has t (p, d) → p.number.0 ≡ n → length (ancestry n t p) ≤ up_to n t)
        → suc (length (maybe [] (ancestry n t) o)) ≤ up_to (suc n) t
    go None q ih = let h = more in omega arith
    go (Some p) q ih =
        let h = more in
        let u = (closed_tree t k).down (r, c) p m q in
        let l = k.lower r p (c, m, q) in
        let z = ih p u.0 u.1 (omega arith) in
        omega arith

-- ---- the documents after a sequence

insert_in : (d : Id × Document) (xs : List (Id × Document)) (x : Id × Document) → In x (insert_by_seq d xs) ↔ In x (d ∷ xs)
unfolding insert_by_seq
insert_in d [] x = (λ m. m, λ m. m)
insert_in d (y ∷ ys) x = go (leb d.1.seq.0 y.1.seq.0) (insert_in d ys x)
  where
    go : (b : Bool) → In x (insert_by_seq d ys) ↔ In x (d ∷ ys) → In x (pick b (d ∷ y ∷ ys) (y ∷ insert_by_seq d ys)) ↔ In x (d ∷ y ∷ ys)
    go true ih = (λ m. m, λ m. m)
    go false ih = (there, back)
      where
        there : In x (y ∷ insert_by_seq d ys) → In x (d ∷ y ∷ ys)
        there (inl q) = inr (inl q)
        there (inr m) = elim (ih.0 m) [ inl q ↦ inl q | inr n ↦ inr (inr n) ]

        back : In x (d ∷ y ∷ ys) → In x (y ∷ insert_by_seq d ys)
        back (inl q) = inr (ih.1 (inl q))
        back (inr (inl q)) = inl q
        back (inr (inr m)) = inr (ih.1 (inr m))

pub after_out : (s : Seq) (ds : List (Id × Document)) (x : Id × Document) → In x (documents_after s ds) → In x ds
unfolding documents_after
after_out s [] x m = m
after_out s (d ∷ ds) x m = go (ltb s.0 d.1.seq.0) m (λ n. after_out s ds x n)
  where
    go : (b : Bool) → In x (pick b (insert_by_seq d (documents_after s ds)) (documents_after s ds)) → (In x (documents_after s ds) → In x ds) → In x (d ∷ ds)
    go true m ih = elim ((insert_in d (documents_after s ds) x).0 m) [ inl q ↦ inl q | inr n ↦ inr (ih n) ]
    go false m ih = inr (ih m)

-- all whose own sequence is above s
pub after_in : (s : Seq) (ds : List (Id × Document)) (x : Id × Document) → s.0 < x.1.seq.0 → In x ds → In x (documents_after s ds)
unfolding documents_after
after_in s [] x h m = m
after_in s (d ∷ ds) x h m = go (ltb s.0 d.1.seq.0) refl m (λ n. after_in s ds x h n)
  where
    go : (b : Bool) → ltb s.0 d.1.seq.0 ≡ b → In x (d ∷ ds) → (In x ds → In x (documents_after s ds))
        → In x (pick b (insert_by_seq d (documents_after s ds)) (documents_after s ds))
    go true e (inl q) ih = (insert_in d (documents_after s ds) x).1 (inl q)
    go true e (inr n) ih = (insert_in d (documents_after s ds) x).1 (inr (ih n))
    go false e (inl q) ih =
        absurd (true≢false (sym (lt-ltb s.0 d.1.seq.0 (subst (λ (z : Id × Document). s.0 < z.1.seq.0) q h)) ∙ e))
    go false e (inr n) ih = ih n

pub offers_out : (ds : List (Id × Document)) (w : Write) → In w (offers_in ds) → (d : Id × Document) × In d ds × In w (offers_of d)
unfolding offers_in
offers_out [] w m = absurd m
offers_out (d ∷ ds) w m = go (in_cases w (offers_of d) (offers_in ds) m) (λ n. offers_out ds w n)
  where
    go : In w (offers_of d) ⊎ In w (offers_in ds) → (In w (offers_in ds) → (e : Id × Document) × In e ds × In w (offers_of e)) → (e : Id × Document) × In e (d ∷ ds) × In w (offers_of e)
    go (inl n) ih = (d, inl refl, n)
    go (inr n) ih = let u = ih n in (u.0, inr u.1, u.2)

offers_in_lem : (ds : List (Id × Document)) (d : Id × Document) (w : Write) → In d ds → In w (offers_of d) → In w (offers_in ds)
unfolding offers_in
offers_in_lem [] d w m n = absurd m
offers_in_lem (x ∷ ds) d w (inl q) n = in_left w (offers_of x) (offers_in ds) (subst (λ (z : Id × Document). In w (offers_of z)) q n)
offers_in_lem (x ∷ ds) d w (inr m) n = in_right w (offers_of x) (offers_in ds) (offers_in_lem ds d w m n)

pub length-held : (ds : List (Id × Document)) (d : Id × Document) → In d ds → length d.1.tree ≤ revisions_held ds
unfolding revisions_held
length-held [] d m = absurd m
length-held (x ∷ xs) d (inl q) = let e : length d.1.tree ≡ length x.1.tree = ap (λ (z : Id × Document). length z.1.tree) q in omega arith
length-held (x ∷ xs) d (inr m) = let h = length-held xs d m in omega arith

id_good : (i : Id) → IsId i → bad_id i ≡ false
unfolding bad_id
id_good i k = let a = k.least in let b = k.most in rw (ne_eqb (length i) 0 (λ z. omega arith), le-ltb id_most (length i) b) refl

-- ---- the offers of a replica

module _ (r : Replica) (k : IsReplica r) where
  -- an offer: its document and its leaf
  record FromLeaf (w : Write) : Type 0 where
    pub id : Id
    pub document : Document
    in_replica : In (id, document) r.documents
    pub is : IsDocument r id document
    pub held : document_of r id ≡ Some document
    pub leaf : LeafOf
    pub content : HasContent document.tree leaf.rev leaf.content
    pub offered : w ≡ offer id document.tree leaf

  from_leaf : (s : Seq) (w : Write) → In w (offers s r) → FromLeaf w
  unfolding offers offers_of document_of
  from_leaf s w m =
      let u = offers_out (documents_after s r.documents) w m in
      let d = u.0 in
      let i = after_out s r.documents d u.1 in
      let f = in_find bytes_order r.documents k.ascending d i in
      let h = k.documents d.0 d.1 f in
      let l = map_in (offer d.0 d.1.tree) w (leaves d.1.tree) u.2 in
      record {
        id = d.0;
        document = d.1;
        in_replica = i;
        is = h;
        held = f;
        leaf = l.0;
        content = leaf_content d.1.tree h.tree.ascending l.0 l.1;
        offered = l.2;
      }

  -- what they give is held, and all that is held they give
  pub offers_own : (s : Seq) (i : Id) (x : Entry) → GivenBy (offers s r) i x → Own r i x
  unfolding offer
  offers_own s i x g =
      let l = from_leaf s g.0 g.1 in
      let e : l.id ≡ i = ap (λ (z : Write). z.id) (sym l.offered) ∙ g.2 in
      let n : In x (gives (offer l.id l.document.tree l.leaf)) = subst (λ (z : Write). In x (gives z)) l.offered g.3 in
      let m : Has l.document.tree x = offer_known l.document.tree l.is.tree l.id l.leaf l.content x n in
      subst (λ (j : Id). Has (tree_of r j) x) e (subst (λ (z : Tree). Has z x) (sym (tree_of_lem r k l.id l.document l.held)) m)

  pub own_offers : (i : Id) (x : Entry) → Own r i x → GivenBy (offers all_from r) i x
  unfolding offers offers_of offer document_of
  own_offers i x m =
      let d = document_of_lem r k i x m in
      let j = find_in bytes_order r.documents i d.0 d.1 in
      let u = on_path d.0.tree d.3.tree i number_most x d.2 (omega arith) in
      let w = offer i d.0.tree u.0 in (
        w,
        offers_in_lem (documents_after all_from r.documents) (i, d.0) w (after_in all_from r.documents (i, d.0) d.3.seq_least j)
            (in_map (offer i d.0.tree) u.0 (leaves d.0.tree) (content_leaf d.0.tree d.3.tree.ascending u.0 u.1)),
        refl,
        u.2,
      )

  -- the path of a leaf is no longer than a path can be
  pub path_room_lem : (i : Id) (d : Document) → In (i, d) r.documents → IsDocument r i d → (a : LeafOf) → HasContent d.tree a.rev a.content
      → length (path_of d.tree a.rev) ≤ hashes_most
  unfolding path_of
  path_room_lem i d j h a c =
      let n = a.rev.number.0 in
      let fits = path_in_tree d.tree h.tree n a.rev c.0 c.1 refl in
      let all = up_to_all n d.tree in
      let size = length-held r.documents (i, d) j in
      let room = k.revisions_at_most in
      omega arith

  -- each is well-formed
  pub offers_well : (s : Seq) (w : Write) → In w (offers s r) → Well w
  unfolding offer path_of ancestry low_number
  offers_well s w m = let l = from_leaf s w m in subst Well (sym l.offered) (go l.id l.document l.in_replica l.is l.leaf l.content)
    where
      positive : (n : ℕ) (t : Tree) (v : Revision) → 1 ≤ n → 1 ≤ length (ancestry n t v)
      positive zero t v h = absurd (omega arith)
      positive (suc n) t v h = omega arith

      go : (i : Id) (d : Document) → In (i, d) r.documents → IsDocument r i d → (a : LeafOf) → HasContent d.tree a.rev a.content → Well (offer i d.tree a)
      go i d j h a c =
          let n = a.rev.number.0 in
          let few = path_length d.tree h.tree n a.rev in
          let Some-hash = positive n d.tree a.rev (h.tree.revisions a.rev (c.0, c.1)).least in
          record {
            id_ok = id_good i h.id;
            path_ok = path_good (offer i d.tree a) (path_of d.tree a.rev) refl (path_sized d.tree h.tree n a.rev c.0 c.1) Some-hash
                (path_room_lem i d j h a c);
            number_ok = rw (offer_hashes d.tree h.tree i a c) (le-ltb n (length (path_of d.tree a.rev)) few);
          }

  -- what the offer of a leaf gives is in its range
  offer_range : (i : Id) (d : Document) → IsDocument r i d → (a : LeafOf) → HasContent d.tree a.rev a.content → IsWrite (offer i d.tree a)
  unfolding offer path_of
  offer_range i d h a c = record {
    id = h.id.bytes;
    number = (h.tree.revisions a.rev (c.0, c.1)).most;
    path = bytes_join (path_of d.tree a.rev) (path_bytes d.tree h.tree a.rev.number.0 a.rev c.0 c.1);
    content = h.tree.contents a.rev a.content c;
  }

  pub offers_range : (s : Seq) (w : Write) → In w (offers s r) → IsWrite w
  offers_range s w m =
      let l = from_leaf s w m in subst IsWrite (sym l.offered) (offer_range l.id l.document l.is l.leaf l.content)
