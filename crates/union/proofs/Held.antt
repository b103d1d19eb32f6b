-- A replica as the set of its own entries, and back: what holds a closed and sound set has the trees of a replica. Assumes nothing.
use mathlib.Core.Path.{◌≡◌, refl, sym, ap, ◌∙◌, subst}
use Rattle.std.specs.declared.cmp.Ordering.TheVariants.{Less, Equal, Greater}
use Rattle.std.specs.declared.cmp.Ordering.{Ordering}
use mathlib.Core.List.{[], ◌∷◌}
use mathlib.Core.Logic.{◌⊎◌, inl, inr}
use Rattle.std.specs.Prelude.{Option, None, Some}
use Prim.Native.Nat.{suc, ◌≤◌}
use native.Mathlib.Omega.{arith}
use lib.ListN.{length}
use Rattle.rules.specs.declared.Content.{Content}
use Rattle.rules.specs.declared.Revision.{Revision}
use Rattle.rules.specs.Map.{find, Ascending}
use Rattle.rules.specs.Order.{order_rev}
use Rattle.rules.specs.Replica.{Id, Node, Tree, Document, Replica, tree_in, document_of, tree_of, IsId, IsRevision, IsContent, IsTree, IsDocument, IsReplica}
use Rattle.rules.specs.Union.{In}
use Rattle.rules.proofs.OrderLaws.{less≢equal, equal≢greater, rev_order}
use Rattle.rules.proofs.MapLaws.{none≢some, some_inj}
use Rattle.union.proofs.Nodes.{At, by_option}
use Rattle.union.proofs.Trees.{Entry, Given, Rep}
use Rattle.union.proofs.Paths.{Closed}
use Rattle.union.proofs.Count.{find_in, in_find}
use Rattle.union.proofs.Sets.{Givens}
use Rattle.union.proofs.Replicas.{DocAt, Holds}
use Rattle.union.proofs.Unions.{node_of, rep_at, some_at, union}

-- what is known in a tree, and in a replica: `things (Own r)` is `held r`
abbrev pub Has : Tree → Given
Has t x = find order_rev x.0 t ≡ Some x.1

abbrev pub Own : Replica → Givens
Own r i x = Has (tree_of r i) x

-- ids, revisions and contents as they must be
pub record Sound (G : Givens) : Type 0 where
  pub id : (i : Id) (x : Entry) → G i x → IsId i
  pub revision : (i : Id) (x : Entry) → G i x → IsRevision x.0
  pub under : (i : Id) (x : Entry) (p : Revision) → G i x → x.1.parent ≡ Some p → suc p.number.0 ≡ x.0.number.0
  pub contents : (i : Id) (x : Entry) (c : Content) → G i x → x.1.content ≡ Some c → IsContent c

-- ---- a tree of a replica

-- an ascending tree is the union of its own entries
rep_own : (t : Tree) → Ascending order_rev t → Rep t (Has t)
rep_own t s = record { ascending = s; at = λ r. go r (find order_rev r t) refl }
  where
    go : (r : Revision) (o : Option Node) → find order_rev r t ≡ o → At (find order_rev r t) (λ c. find order_rev r t ≡ Some c)
    go r None f = rw f (λ c m. none≢some m)
    go r (Some c) f = rw f (record {
      known = (c, refl);
      parent_of = λ p e. (c, refl, e);
      parent_to = λ d p m e. ap (λ (z : Node). z.parent) (some_inj m) ∙ e;
      content_of_lem = λ b e. (c, refl, e);
      inner = λ e. (c, refl, e);
      leaf = λ b e d m n. none≢some (sym n ∙ (ap (λ (z : Node). z.content) (sym (some_inj m)) ∙ e));
      content_to = λ d b h m e. ap (λ (z : Node). z.content) (some_inj m) ∙ e;
    })

-- a child of a revision in a list, or that it has none there
abbrev Child : Tree → Revision → Type 0
Child t v = (x : Entry) × In x t × (x.1.parent ≡ Some v)

abbrev NoChild : Tree → Revision → Type 0
NoChild t v = (x : Entry) → In x t → x.1.parent ≡ Some v → ⊥

child : (t : Tree) (v : Revision) → Child t v ⊎ NoChild t v
child [] v = inr (λ x m e. m)
child (y ∷ t) v = go y.1.parent refl (child t v)
  where
    none_here : (y.1.parent ≡ Some v → ⊥) → NoChild t v → NoChild (y ∷ t) v
    none_here n h x (inl q) e = n (ap (λ (z : Entry). z.1.parent) (sym q) ∙ e)
    none_here n h x (inr m) e = h x m e

    later : (y.1.parent ≡ Some v → ⊥) → Child t v ⊎ NoChild t v → Child (y ∷ t) v ⊎ NoChild (y ∷ t) v
    later n (inl u) = inl (u.0, inr u.1, u.2)
    later n (inr h) = inr (none_here n h)

    go : (o : Option Revision) → y.1.parent ≡ o → Child t v ⊎ NoChild t v → Child (y ∷ t) v ⊎ NoChild (y ∷ t) v
    go None e ih = later (λ q. none≢some (sym e ∙ q)) ih
    go (Some p) e ih = by (order_rev p v) refl
      where
        self : y.1.parent ≡ Some v → order_rev p v ≡ Equal
        self q = subst (λ (z : Revision). order_rev p z ≡ Equal) (some_inj (sym e ∙ q)) (rev_order.self p)

        by : (o : Ordering) → order_rev p v ≡ o → Child (y ∷ t) v ⊎ NoChild (y ∷ t) v
        by Less f = later (λ q. less≢equal (sym f ∙ self q)) ih
        by Equal f = inl (y, inl refl, e ∙ ap Some (rev_order.same p v f))
        by Greater f = later (λ q. equal≢greater (sym (self q) ∙ f)) ih

pub closed_tree : (t : Tree) → IsTree t → Closed (Has t)
closed_tree t k = record { down = down; up = up }
  where
    down : (x : Entry) (p : Revision) → Has t x → x.1.parent ≡ Some p → (c : Node) × Has t (p, c) × (c.content ≡ None)
    down x p m e =
        let u = k.parents x.0 p (x.1, m, e) in (
          u.0,
          u.1,
          by_option u.0.content (λ z. z)
              (λ c z. absurd (((k.leaves p).0 (c, (u.0, u.1, z))).1 (x.0, (x.1, m, e)))),
        )

    up : (r : Revision) (c : Node) → Has t (r, c) → c.content ≡ None → (x : Entry) × Has t x × (x.1.parent ≡ Some r)
    up r c m e = go (child t r)
      where
        go : Child t r ⊎ NoChild t r → (x : Entry) × Has t x × (x.1.parent ≡ Some r)
        go (inl u) = (u.0, in_find rev_order t k.ascending u.0 u.1, u.2)
        go (inr n) =
            let h = (k.leaves r).1 ((c, m), λ z. n (z.0, z.1.0) (find_in rev_order t z.0 z.1.0 z.1.1) z.1.2) in
            absurd (none≢some (sym e ∙ (ap (λ (z : Node). z.content) (some_inj (sym m ∙ h.1.1)) ∙ h.1.2)))

-- ---- a replica

module _ (r : Replica) (k : IsReplica r) where
  -- a fact about the tree of each id
  by_document : (i : Id) (P : Tree → Type 0) → P [] → ((d : Document) → document_of r i ≡ Some d → IsDocument r i d → P d.tree) → P (tree_of r i)
  unfolding tree_of
  by_document i P n f = go (document_of r i) refl
    where
      go : (o : Option Document) → document_of r i ≡ o → P (tree_in o)
      go None e = n
      go (Some d) e = f d e (k.documents i d e)

  pub tree_of_lem : (i : Id) (d : Document) → document_of r i ≡ Some d → tree_of r i ≡ d.tree
  unfolding tree_of
  tree_of_lem i d e = ap tree_in e

  pub ascending_own : (i : Id) → Ascending order_rev (tree_of r i)
  ascending_own i = by_document i (λ t. Ascending order_rev t) tt (λ d e h. h.tree.ascending)

  nothing : (x : Entry) → Has [] x → ⊥
  unfolding find
  nothing x m = none≢some m

  pub closed_own : (i : Id) → Closed (Own r i)
  closed_own i =
      by_document i (λ t. Closed (Has t)) (record { down = λ x p m e. absurd (nothing x m); up = λ v c m e. absurd (nothing (v, c) m) })
      (λ d e h. closed_tree d.tree h.tree)

  -- a document with an entry of its tree
  pub document_of_lem : (i : Id) (x : Entry) → Own r i x → (d : Document) × (document_of r i ≡ Some d) × Has d.tree x × IsDocument r i d
  unfolding tree_of
  document_of_lem i x m = go (document_of r i) refl m
    where
      go : (o : Option Document) → document_of r i ≡ o → Has (tree_in o) x → (d : Document) × (document_of r i ≡ Some d) × Has d.tree x × IsDocument r i d
      go None e m = absurd (nothing x m)
      go (Some d) e m = (d, e, m, k.documents i d e)

  pub sound_own : Sound (Own r)
  sound_own = record {
    id = λ i x m. (document_of_lem i x m).3.id;
    revision = λ i x m. let t = document_of_lem i x m in t.3.tree.revisions x.0 (x.1, t.2);
    under = λ i x p m e. let t = document_of_lem i x m in t.3.tree.lower x.0 p (x.1, t.2, e);
    contents = λ i x c m e. let t = document_of_lem i x m in t.3.tree.contents x.0 c (x.1, t.2, e);
  }

  first_entry : (t : Tree) → IsTree t → (x : Entry) × Has t x
  unfolding find
  first_entry [] h = absurd (let n = h.some_revision in omega arith)
  first_entry (x ∷ t) h = (x, in_find rev_order (x ∷ t) h.ascending x (inl refl))

  pub holds_own : Holds r (Own r)
  unfolding tree_of document_of
  holds_own = record { ascending = k.ascending; at = λ i. go i (document_of r i) refl }
    where
      go : (i : Id) (o : Option Document) → document_of r i ≡ o → DocAt o (Has (tree_in o))
      go i None e = nothing
      go i (Some d) e = let h = (k.documents i d e).tree in (rep_own d.tree h.ascending, first_entry d.tree h)

-- ---- what holds a closed and sound set

filled : (t : Tree) (v : Revision) (b : Node) → find order_rev v t ≡ Some b → 1 ≤ length t
unfolding find
filled [] v b e = absurd (none≢some e)
filled (y ∷ t) v b e = omega arith

module _ (r : Replica) (G : Givens) (a : Holds r G) (c : (i : Id) → Closed (G i)) (n : Sound G) where
  -- the tree of an id that has an entry
  is_tree : (i : Id) (x : Entry) → G i x → IsTree (tree_of r i)
  is_tree i x m = record {
    ascending = (rep_at r G a c i).ascending;
    some_revision = (let u = node_of r G a c i x.0 x.1 m in filled (tree_of r i) x.0 u.0 u.1);
    revisions = λ v t. let u = (some_at r G a c i v t.0 t.1).known in n.revision i (v, u.0) u.1;
    lower = λ v p t. let u = (some_at r G a c i v t.0 t.1).parent_of p t.2 in n.under i (v, u.0) p u.1 u.2;
    parents = λ v p t. let u = (some_at r G a c i v t.0 t.1).parent_of p t.2 in
        let d = (c i).down (v, u.0) p u.1 u.2 in
        let b = node_of r G a c i p d.0 d.1 in
        (b.0, b.1);
    leaves = λ v. (
      λ t. ((union r G a c).leaves i v).1 (((union r G a c).contents i v t.0).0 t.1).0,
      λ t. by_option t.0.0.content
          (λ e. (let u = (some_at r G a c i v t.0.0 t.0.1).inner e in
          let d = (c i).up v u.0 u.1 u.2 in
          absurd (t.1 (d.0.0, ((union r G a c).parents i d.0.0 v).1 (d.0.1, d.1, d.2)))))
          (λ b e. (b, (t.0.0, t.0.1, e))),
    );
    contents = λ v b t. let u = (some_at r G a c i v t.0 t.1).content_of_lem b t.2 in n.contents i (v, u.0) b u.1 u.2;
  }

  some_entry : (i : Id) (d : Document) → document_of r i ≡ Some d → (x : Entry) × G i x
  unfolding document_of
  some_entry i d e = let t : DocAt (Some d) (G i) = rw e at (a.at i) in t.1

  pub document_id : (i : Id) (d : Document) → document_of r i ≡ Some d → IsId i
  document_id i d e = let t = some_entry i d e in n.id i t.0 t.1

  pub document_tree : (i : Id) (d : Document) → document_of r i ≡ Some d → IsTree d.tree
  unfolding tree_of
  document_tree i d e = let t = some_entry i d e in subst IsTree (ap tree_in e) (is_tree i t.0 t.1)
