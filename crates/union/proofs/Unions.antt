-- What holds a closed set is its union, and a union is one thing: its trees, list for list. Assumes nothing.
use mathlib.Core.Path.{◌≡◌, refl, sym, ap, ◌∙◌, subst}
use Rattle.std.specs.declared.cmp.Ordering.TheVariants.{Less, Equal, Greater}
use Rattle.std.specs.declared.cmp.Ordering.{Ordering}
use mathlib.Core.List.{[], ◌∷◌}
use mathlib.Core.Logic.{inl, inr, ◌↔◌}
use Rattle.std.specs.Prelude.{Option, None, Some}
use Rattle.rules.specs.declared.Content.{Content}
use Rattle.rules.specs.declared.Revision.{Revision}
use Rattle.rules.specs.Map.{Map, find, Ascending}
use Rattle.rules.specs.Order.{order_bytes, order_rev}
use Rattle.rules.specs.Read.{winner}
use Rattle.rules.specs.Replica.{Id, Node, Tree, Document, Replica, tree_in, document_of, tree_of, Known, HasParent, HasContent, IsReplica}
use Rattle.rules.specs.Union.{Things, held, both, IsUnion, ContentIn, trees, SameButSeq, Within}
use Rattle.rules.proofs.OrderLaws.{bytes_order, rev_order}
use Rattle.rules.proofs.MapLaws.{none≢some, some_inj, ext}
use Rattle.union.proofs.Nodes.{AtSome, by_option, opt_ext}
use Rattle.union.proofs.Trees.{Rep}
use Rattle.union.proofs.Paths.{Closed}
use Rattle.union.proofs.Winners.{winner_top}
use Rattle.union.proofs.Sets.{Givens, things}
use Rattle.union.proofs.Replicas.{Holds, rep_of}

module _ (r : Replica) (G : Givens) (a : Holds r G) (c : (i : Id) → Closed (G i)) where
  pub rep_at : (i : Id) → Rep (tree_of r i) (G i)
  unfolding tree_of document_of
  rep_at i = rep_of (document_of r i) (G i) (a.at i)

  pub some_at : (i : Id) (v : Revision) (b : Node) → find order_rev v (tree_of r i) ≡ Some b → AtSome b (λ d. G i (v, d))
  some_at i v b e = rw e at ((rep_at i).at v)

  -- a given revision is known
  pub node_of : (i : Id) (v : Revision) (d : Node) → G i (v, d) → (b : Node) × (find order_rev v (tree_of r i) ≡ Some b) × AtSome b (λ d. G i (v, d))
  node_of i v d m = by_option (find order_rev v (tree_of r i)) (λ e. absurd ((rw e at ((rep_at i).at v)) d m)) (λ b e. (b, e, rw e at ((rep_at i).at v)))

  revision_iff : (i : Id) (v : Revision) → Known (tree_of r i) v ↔ (things G).revision i v
  revision_iff i v = (λ t. (some_at i v t.0 t.1).known, λ t. let b = node_of i v t.0 t.1 in (b.0, b.1))

  parent_iff : (i : Id) (v p : Revision) → HasParent (tree_of r i) v p ↔ (things G).parent i v p
  parent_iff i v p = (
    λ t. (some_at i v t.0 t.1).parent_of p t.2,
    λ t. let b = node_of i v t.0 t.1 in (b.0, b.1, b.2.parent_to t.0 p t.1 t.2),
  )

  content_iff : (i : Id) (v : Revision) (b : Content) → HasContent (tree_of r i) v b ↔ ContentIn (things G) i v b
  content_iff i v b = (there, back)
    where
      there : HasContent (tree_of r i) v b → ContentIn (things G) i v b
      there t =
          let u = some_at i v t.0 t.1 in
          ((u.known, λ w h. let y = (c i).down (w, h.0) v h.1 h.2 in u.leaf b t.2 y.0 y.1 y.2), u.content_of_lem b t.2)

      back : ContentIn (things G) i v b → HasContent (tree_of r i) v b
      back t =
          let d = t.1 in
          let u = node_of i v d.0 d.1 in (
            u.0,
            u.1,
            u.2.content_to d.0 b (λ y m n. let z = (c i).up v y m n in t.0.1 z.0.0 (z.0.1, z.1, z.2)) d.1 d.2,
          )

  pub union : IsUnion r (things G)
  unfolding document_of
  union = record {
    documents = λ i. (
      λ t. let d = (rw t.1 at (a.at i)).1 in (d.0.0, (d.0.1, d.1)),
      λ t. by_option (document_of r i) (λ e. absurd ((rw e at (a.at i)) (t.0, t.1.0) t.1.1)) (λ d e. (d, e)),
    );
    revisions = revision_iff;
    parents = parent_iff;
    leaves = λ i v. (
      λ t. ((revision_iff i v).0 t.0, λ u m. t.1 (u, (parent_iff i u v).1 m)),
      λ t. ((revision_iff i v).1 t.0, λ h. t.1 h.0 ((parent_iff i h.0 v).0 h.1)),
    );
    contents = content_iff;
    winners = λ i x. let w = winner_top (tree_of r i) (rep_at i).ascending x in (
      λ e. (let t = w.0 e in ((content_iff i x.rev x.content).0 t.0, λ b h. t.1 b ((content_iff i b.rev b.content).1 h))),
      λ t. w.1 ((content_iff i x.rev x.content).1 t.0, λ b h. t.1 b ((content_iff i b.rev b.content).0 h)),
    );
  }

-- ---- the same union, put otherwise

-- the same revisions and parents, and the same contents of leaves
pub record Alike (g h : Things) : Type 0 where
  pub revisions : (i : Id) (v : Revision) → g.revision i v ↔ h.revision i v
  pub parents : (i : Id) (v p : Revision) → g.parent i v p ↔ h.parent i v p
  pub contents : (i : Id) (v : Revision) (c : Content) → ContentIn g i v c ↔ ContentIn h i v c

pub alike : (g h : Things) → Within g h → Within h g → Alike g h
alike g h a b = record {
  revisions = λ i v. (a.revisions i v, b.revisions i v);
  parents = λ i v p. (a.parents i v p, b.parents i v p);
  contents = λ i v c. (content g h a b i v c, content h g b a i v c);
}
  where
    content : (g h : Things) → Within g h → Within h g → (i : Id) (v : Revision) (c : Content) → ContentIn g i v c → ContentIn h i v c
    content g h a b i v c t = ((a.revisions i v t.0.0, λ u m. t.0.1 u (b.parents i u v m)), a.contents i v c t.1)

pub union_alike : (r : Replica) (g h : Things) → Alike g h → IsUnion r g → IsUnion r h
union_alike r g h a u = record {
  documents = λ i. (
    λ t. let d = (u.documents i).0 t in (d.0, (a.revisions i d.0).0 d.1),
    λ t. (u.documents i).1 (t.0, (a.revisions i t.0).1 t.1),
  );
  revisions = λ i v. (λ t. (a.revisions i v).0 ((u.revisions i v).0 t), λ t. (u.revisions i v).1 ((a.revisions i v).1 t));
  parents = λ i v p. (λ t. (a.parents i v p).0 ((u.parents i v p).0 t), λ t. (u.parents i v p).1 ((a.parents i v p).1 t));
  leaves = λ i v. (
    λ t. (let l = (u.leaves i v).0 t in ((a.revisions i v).0 l.0, λ w m. l.1 w ((a.parents i w v).1 m))),
    λ t. (u.leaves i v).1 ((a.revisions i v).1 t.0, λ w m. t.1 w ((a.parents i w v).0 m)),
  );
  contents = λ i v c. (λ t. (a.contents i v c).0 ((u.contents i v c).0 t), λ t. (u.contents i v c).1 ((a.contents i v c).1 t));
  winners = λ i x. (
    λ t. (let l = (u.winners i x).0 t in ((a.contents i x.rev x.content).0 l.0, λ y m. l.1 y ((a.contents i y.rev y.content).1 m))),
    λ t. (u.winners i x).1 ((a.contents i x.rev x.content).1 t.0, λ y m. t.1 y ((a.contents i y.rev y.content).0 m)),
  );
}

-- what a union holds is in it
pub union_within : (r : Replica) (g : Things) → IsUnion r g → Within (held r) g
union_within r g u = record {
  revisions = λ i v. (u.revisions i v).0;
  parents = λ i v p. (u.parents i v p).0;
  contents = λ i v c t. ((u.contents i v c).0 t).1;
}

-- a union put together with part of what it came from is that union again
pub union_again : (m s : Replica) (g h : Things) → IsUnion m g → Within h g → IsUnion s (both (held m) h) → IsUnion s g
union_again m s g h u k t = union_alike s (both (held m) h) g same t
  where
    revision_to : (i : Id) (v : Revision) → (both (held m) h).revision i v → g.revision i v
    revision_to i v (inl a) = (u.revisions i v).0 a
    revision_to i v (inr b) = k.revisions i v b

    parent_to : (i : Id) (v p : Revision) → (both (held m) h).parent i v p → g.parent i v p
    parent_to i v p (inl a) = (u.parents i v p).0 a
    parent_to i v p (inr b) = k.parents i v p b

    content_to : (i : Id) (v : Revision) (c : Content) → (both (held m) h).content i v c → g.content i v c
    content_to i v c (inl a) = ((u.contents i v c).0 a).1
    content_to i v c (inr b) = k.contents i v c b

    same : Alike (both (held m) h) g
    same = record {
      revisions = λ i v. (revision_to i v, λ a. inl ((u.revisions i v).1 a));
      parents = λ i v p. (parent_to i v p, λ a. inl ((u.parents i v p).1 a));
      contents = λ i v c. (
        λ a. ((revision_to i v a.0.0, λ w b. a.0.1 w (inl ((u.parents i w v).1 b))), content_to i v c a.1),
        λ a. ((inl ((u.revisions i v).1 a.0.0), λ w b. a.0.1 w (parent_to i w v b)), inl ((u.contents i v c).1 a)),
      );
    }

-- a union put together with further things is the union of all of them, where only revisions have contents
pub union_then : (m s : Replica) (g h : Things) → ((i : Id) (v : Revision) (c : Content) → g.content i v c → g.revision i v)
    → IsUnion m g → IsUnion s (both (held m) h) → IsUnion s (both g h)
union_then m s g h only u t = union_alike s (both (held m) h) (both g h) same t
  where
    revision_to : (i : Id) (v : Revision) → (both (held m) h).revision i v → (both g h).revision i v
    revision_to i v (inl a) = inl ((u.revisions i v).0 a)
    revision_to i v (inr b) = inr b

    revision_from : (i : Id) (v : Revision) → (both g h).revision i v → (both (held m) h).revision i v
    revision_from i v (inl a) = inl ((u.revisions i v).1 a)
    revision_from i v (inr b) = inr b

    parent_to : (i : Id) (v p : Revision) → (both (held m) h).parent i v p → (both g h).parent i v p
    parent_to i v p (inl a) = inl ((u.parents i v p).0 a)
    parent_to i v p (inr b) = inr b

    parent_from_lem : (i : Id) (v p : Revision) → (both g h).parent i v p → (both (held m) h).parent i v p
    parent_from_lem i v p (inl a) = inl ((u.parents i v p).1 a)
    parent_from_lem i v p (inr b) = inr b

    content_to : (i : Id) (v : Revision) (c : Content) → (both (held m) h).content i v c → (both g h).content i v c
    content_to i v c (inl a) = inl ((u.contents i v c).0 a).1
    content_to i v c (inr b) = inr b

    -- what has no child in both has none in g, so that m holds its content
    content_from_lem : (i : Id) (v : Revision) (c : Content) → ((w : Revision) → (both g h).parent i w v → ⊥) → (both g h).content i v c → (both (held m) h).content i v c
    content_from_lem i v c n (inl a) = inl ((u.contents i v c).1 ((only i v c a, λ w b. n w (inl b)), a))
    content_from_lem i v c n (inr b) = inr b

    same : Alike (both (held m) h) (both g h)
    same = record {
      revisions = λ i v. (revision_to i v, revision_from i v);
      parents = λ i v p. (parent_to i v p, parent_from_lem i v p);
      contents = λ i v c. (
        λ a. ((revision_to i v a.0.0, λ w b. a.0.1 w (parent_from_lem i w v b)), content_to i v c a.1),
        λ a. ((revision_from i v a.0.0, λ w b. a.0.1 w (parent_to i w v b)), content_from_lem i v c a.0.1 a.1),
      );
    }

-- ---- a union is one thing

abbrev tree_may : Option Document → Option Tree
tree_may None = None
tree_may (Some d) = Some d.tree

find_trees : (ds : Map Id Document) (i : Id) → find order_bytes i (trees ds) ≡ tree_may (find order_bytes i ds)
unfolding trees find
find_trees [] i = refl
find_trees (d ∷ ds) i = go (order_bytes i d.0) refl (find_trees ds i)
  where
    go : (o : Ordering) → order_bytes i d.0 ≡ o → find order_bytes i (trees ds) ≡ tree_may (find order_bytes i ds)
        → find order_bytes i (trees (d ∷ ds)) ≡ tree_may (find order_bytes i (d ∷ ds))
    go Less e ih = rw e refl
    go Equal e ih = rw e refl
    go Greater e ih = rw e ih

ascending_trees : (ds : Map Id Document) → Ascending order_bytes ds → Ascending order_bytes (trees ds)
unfolding trees
ascending_trees [] s = tt
ascending_trees (d ∷ []) s = (tt, tt)
ascending_trees (d ∷ e ∷ ds) s = (s.0, ascending_trees (e ∷ ds) s.1)

tree_found : (r : Replica) (i : Id) → find order_bytes i (trees r.documents) ≡ tree_may (document_of r i)
unfolding document_of
tree_found r i = find_trees r.documents i

module _ (r s : Replica) (g : Things) (u : IsUnion r g) (t : IsUnion s g) where
  parent_over : (i : Id) (v : Revision) (m n : Node) → find order_rev v (tree_of r i) ≡ Some m → find order_rev v (tree_of s i) ≡ Some n
      → (p : Revision) → m.parent ≡ Some p → n.parent ≡ Some p
  parent_over i v m n e f p q =
      let z = (t.parents i v p).1 ((u.parents i v p).0 (m, e, q)) in
      ap (λ (x : Node). x.parent) (some_inj (sym f ∙ z.1)) ∙ z.2

  content_over : (i : Id) (v : Revision) (m n : Node) → find order_rev v (tree_of r i) ≡ Some m → find order_rev v (tree_of s i) ≡ Some n
      → (c : Content) → m.content ≡ Some c → n.content ≡ Some c
  content_over i v m n e f c q =
      let z = (t.contents i v c).1 ((u.contents i v c).0 (m, e, q)) in
      ap (λ (x : Node). x.content) (some_inj (sym f ∙ z.1)) ∙ z.2

node_over : (r s : Replica) (g : Things) → IsUnion r g → IsUnion s g → (i : Id) (v : Revision) (n : Node)
    → find order_rev v (tree_of r i) ≡ Some n → find order_rev v (tree_of s i) ≡ Some n
node_over r s g u t i v n e =
    let z = (t.revisions i v).1 ((u.revisions i v).0 (n, e)) in
    let p = opt_ext z.0.parent n.parent (parent_over s r g t u i v z.0 n z.1 e) (parent_over r s g u t i v n z.0 e z.1) in
    let c = opt_ext z.0.content n.content (content_over s r g t u i v z.0 n z.1 e) (content_over r s g u t i v n z.0 e z.1) in
    z.1 ∙ ap Some (λ j. record { parent = p j; content = c j })

-- two replicas that are the union of the same things have the same trees, list for list
pub one_union : (r s : Replica) (g : Things) → IsReplica r → IsReplica s → IsUnion r g → IsUnion s g → SameButSeq r s
unfolding tree_of
one_union r s g k l u t =
    ext bytes_order (trees r.documents) (trees s.documents) (ascending_trees r.documents k.ascending) (ascending_trees s.documents l.ascending)
    (λ i. tree_found r i ∙ (go i (document_of r i) refl (document_of s i) refl ∙ sym (tree_found s i)))
  where
    go : (i : Id) (o : Option Document) → document_of r i ≡ o → (q : Option Document) → document_of s i ≡ q → tree_may o ≡ tree_may q
    go i None e None f = refl
    go i None e (Some y) f = absurd (let z = (u.documents i).1 ((t.documents i).0 (y, f)) in none≢some (sym e ∙ z.1))
    go i (Some x) e None f = absurd (let z = (t.documents i).1 ((u.documents i).0 (x, e)) in none≢some (sym f ∙ z.1))
    go i (Some x) e (Some y) f =
        ap Some
        (ext rev_order x.tree y.tree (k.documents i x e).tree.ascending (l.documents i y f).tree.ascending
        (λ v. ap (λ z. find order_rev v (tree_in z)) (sym e)
        ∙ (opt_ext (find order_rev v (tree_of r i)) (find order_rev v (tree_of s i)) (node_over r s g u t i v) (node_over s r g t u i v)
        ∙ ap (λ z. find order_rev v (tree_in z)) f)))

tree_or : Option Tree → Tree
tree_or None = []
tree_or (Some t) = t

tree_or_lem : (o : Option Document) → tree_in o ≡ tree_or (tree_may o)
unfolding tree_or
tree_or_lem None = refl
tree_or_lem (Some d) = refl

-- replicas that are the same but for sequences have the same tree for each id, so the same winner
pub same_tree : (r s : Replica) → SameButSeq r s → (i : Id) → tree_of r i ≡ tree_of s i
unfolding tree_of
same_tree r s e i =
    tree_or_lem (document_of r i)
    ∙ (ap tree_or (sym (tree_found r i) ∙ (ap (λ (m : Map Id Tree). find order_bytes i m) e ∙ tree_found s i)) ∙ sym (tree_or_lem (document_of s i)))

pub same_winner : (r s : Replica) → SameButSeq r s → (i : Id) → winner (tree_of r i) ≡ winner (tree_of s i)
same_winner r s e i = ap winner (same_tree r s e i)

-- and hold parts of the same things
pub same_within : (r s : Replica) (g : Things) → SameButSeq r s → Within (held s) g → Within (held r) g
same_within r s g e k = record {
  revisions = λ i v m. k.revisions i v (subst (λ (t : Tree). Known t v) (same_tree r s e i) m);
  parents = λ i v p m. k.parents i v p (subst (λ (t : Tree). HasParent t v p) (same_tree r s e i) m);
  contents = λ i v c m. k.contents i v c (subst (λ (t : Tree). HasContent t v c) (same_tree r s e i) m);
}
