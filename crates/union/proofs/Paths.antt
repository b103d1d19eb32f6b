-- What a path gives is closed under parents; the tests 4 and 5; a write that finds nothing to add. Assumes nothing.
use mathlib.Core.Path.{◌≡◌, refl, sym, ap, ◌∙◌, subst}
use mathlib.Core.Bool.{false, true≢false}
use mathlib.Core.List.{List, [], ◌∷◌}
use mathlib.Core.Logic.{◌⊎◌, inl, inr}
use Rattle.std.specs.Prelude.{Option, None, Some}
use Prim.Native.Nat.{ℕ, zero, suc, pred, ◌≤◌}
use native.Mathlib.Omega.{arith}
use lib.ListN.{length}
use Rattle.rules.specs.declared.Content.{Content}
use Rattle.rules.specs.declared.Revision.{Revision}
use Rattle.rules.specs.Choice.{any}
use Rattle.rules.specs.Map.{find}
use Rattle.rules.specs.Order.{order_rev, same_rev}
use Rattle.rules.specs.Replica.{Hash, revision, Node, Tree}
use Rattle.rules.specs.Union.{In}
use Rattle.rules.specs.Write.{Write, hashes, newest_of, along, gives, lacks_parent, is_addition, other_parent, other_content, agree}
use Rattle.rules.proofs.OrderLaws.{true_same_rev}
use Rattle.rules.proofs.MapLaws.{none≢some, some_inj}
use Rattle.rules.proofs.GivenLaws.{true_agree, same_differ}
use Rattle.union.proofs.Lists.{any_none, any_out}
use Rattle.union.proofs.Nodes.{At, AtSome, by_option}
use Rattle.union.proofs.Trees.{Agrees, Entry, Given, Rep, ◌∪◌}

-- a parent that is given is given as an older revision, with no content; what is given no content is
-- given as a parent
pub record Closed (G : Given) : Type 0 where
  pub down : (x : Entry) (p : Revision) → G x → x.1.parent ≡ Some p → (c : Node) × G (p, c) × (c.content ≡ None)
  pub up : (r : Revision) (c : Node) → G (r, c) → c.content ≡ None → (x : Entry) × G x × (x.1.parent ≡ Some r)

-- the head of what an older part of a path gives
head_in : (n : ℕ) (hs : List Hash) (p : Revision) → newest_of n hs ≡ Some p → (c : Node) × In (p, c) (along n hs None) × (c.content ≡ None)
unfolding along
head_in n [] p e = absurd (none≢some e)
head_in n (h ∷ hs) p e =
    (record { parent = newest_of (pred n) hs; content = None }, inl (λ i. (sym (some_inj e) i, record { parent = newest_of (pred n) hs; content = None })), refl)

along_down : (hs : List Hash) (n : ℕ) (b : Option Content) (x : Entry) (p : Revision) → In x (along n hs b) → x.1.parent ≡ Some p
    → (c : Node) × In (p, c) (along n hs b) × (c.content ≡ None)
unfolding along
along_down [] n b x p m e = absurd m
along_down (h ∷ hs) n b x p (inl q) e =
    let t = head_in (pred n) hs p (ap (λ (y : Entry). y.1.parent) (sym q) ∙ e) in (t.0, inr t.1, t.2)
along_down (h ∷ hs) n b x p (inr m) e = let t = along_down hs (pred n) None x p m e in (t.0, inr t.1, t.2)

-- an older revision is the parent of the one before it
older_up : (hs : List Hash) (n : ℕ) (r : Revision) (c : Node) → In (r, c) (along n hs None)
    → (newest_of n hs ≡ Some r) ⊎ ((x : Entry) × In x (along n hs None) × (x.1.parent ≡ Some r))
unfolding along
older_up [] n r c m = absurd m
older_up (h ∷ hs) n r c (inl q) = inl (ap Some (ap (λ (y : Entry). y.0) (sym q)))
older_up (h ∷ hs) n r c (inr m) = inr (go (older_up hs (pred n) r c m))
  where
    go : (newest_of (pred n) hs ≡ Some r) ⊎ ((x : Entry) × In x (along (pred n) hs None) × (x.1.parent ≡ Some r))
        → (x : Entry) × In x (along n (h ∷ hs) None) × (x.1.parent ≡ Some r)
    go (inl e) = ((revision n h, record { parent = newest_of (pred n) hs; content = None }), inl refl, e)
    go (inr t) = (t.0, inr t.1, t.2)

path_up : (hs : List Hash) (n : ℕ) (b : Content) (r : Revision) (c : Node) → In (r, c) (along n hs (Some b)) → c.content ≡ None
    → (x : Entry) × In x (along n hs (Some b)) × (x.1.parent ≡ Some r)
unfolding along
path_up [] n b r c m e = absurd m
path_up (h ∷ hs) n b r c (inl q) e = absurd (none≢some (sym e ∙ ap (λ (y : Entry). y.1.content) q))
path_up (h ∷ hs) n b r c (inr m) e = go (older_up hs (pred n) r c m)
  where
    go : (newest_of (pred n) hs ≡ Some r) ⊎ ((x : Entry) × In x (along (pred n) hs None) × (x.1.parent ≡ Some r))
        → (x : Entry) × In x (along n (h ∷ hs) (Some b)) × (x.1.parent ≡ Some r)
    go (inl e) = ((revision n h, record { parent = newest_of (pred n) hs; content = Some b }), inl refl, e)
    go (inr t) = (t.0, inr t.1, t.2)

pub write_closed : (w : Write) → Closed (λ x. In x (gives w))
unfolding gives
write_closed w = record {
  down = λ x p m e. along_down (hashes w) w.number.0 (Some w.content) x p m e;
  up = λ r c m e. path_up (hashes w) w.number.0 w.content r c m e;
}

-- ---- the tests 4 and 5

module _ (t : Tree) (G : Given) (es : List Entry) (a : Rep t G) (g : Agrees (G ∪ es)) where
  at_some : (r : Revision) (c : Node) → find order_rev r t ≡ Some c → AtSome c (λ c. G (r, c))
  at_some r c e = rw e at (a.at r)

  pub not_crossed : any (other_parent t) es ≡ false
  unfolding other_parent
  not_crossed = any_none (other_parent t) es (λ x m. go x m (find order_rev x.0 t) refl)
    where
      go : (x : Entry) → In x es → (o : Option Node) → find order_rev x.0 t ≡ o → other_parent t x ≡ false
      go x m None e = rw e refl
      go x m (Some c) e = rw e (same_differ same_rev c.parent x.1.parent
          (λ p q u v. let t = (at_some x.0 c e).parent_of p u in true_same_rev p q ((g x.0).parents t.0 x.1 p q (inr t.1) (inl m) t.2 v)))

  pub not_other : any (other_content t) es ≡ false
  unfolding other_content
  not_other = any_none (other_content t) es (λ x m. go x m (find order_rev x.0 t) refl)
    where
      go : (x : Entry) → In x es → (o : Option Node) → find order_rev x.0 t ≡ o → other_content t x ≡ false
      go x m None e = rw e refl
      go x m (Some c) e = rw e (same_differ agree c.content x.1.content
          (λ p q u v. let t = (at_some x.0 c e).content_of_lem p u in true_agree p q ((g x.0).contents t.0 x.1 p q (inr t.1) (inl m) t.2 v)))

  -- an entry that adds nothing: its revision is known, and its parent too if it gives one
  not_new : (x : Entry) → is_addition t x ≡ false → (c : Node) × (find order_rev x.0 t ≡ Some c) × (lacks_parent x.1.parent c.parent ≡ false)
  unfolding is_addition
  not_new x e = go (find order_rev x.0 t) refl
    where
      go : (o : Option Node) → find order_rev x.0 t ≡ o → (c : Node) × (find order_rev x.0 t ≡ Some c) × (lacks_parent x.1.parent c.parent ≡ false)
      go None q = absurd (true≢false (sym (rw q refl) ∙ e))
      go (Some c) q = (c, q, sym (rw q refl) ∙ e)

  -- then what it gives as parent is given already
  parent_known : (x : Entry) (p : Revision) → In x es → is_addition t x ≡ false → x.1.parent ≡ Some p
      → (c : Node) × (find order_rev x.0 t ≡ Some c) × (c.parent ≡ Some p)
  parent_known x p m e u = let t = not_new x e in go t.0 t.1 t.2 t.0.parent refl
    where
      go : (c : Node) → find order_rev x.0 t ≡ Some c → lacks_parent x.1.parent c.parent ≡ false → (o : Option Revision) → c.parent ≡ o
          → (c : Node) × (find order_rev x.0 t ≡ Some c) × (c.parent ≡ Some p)
      go c f l None q = absurd (true≢false (sym (rw (q, u) refl) ∙ l))
      go c f l (Some y) q =
          let t = (at_some x.0 c f).parent_of y q in
          (c, f, q ∙ ap Some ((g x.0).parents t.0 x.1 y p (inr t.1) (inl m) t.2 u))

  pub rep_same : Closed G → Closed (λ x. In x es) → any (is_addition t) es ≡ false → Rep t (G ∪ es)
  rep_same k l no-adds = record { ascending = a.ascending; at = λ r. go r (find order_rev r t) refl }
    where
      quiet : (x : Entry) → In x es → is_addition t x ≡ false
      quiet x m = any_out (is_addition t) es x no-adds m

      some_at : (r : Revision) (c : Node) → find order_rev r t ≡ Some c → AtSome c (λ c. (G ∪ es) (r, c))
      some_at r c f = let b = at_some r c f in record {
        known = (b.known.0, inr b.known.1);
        parent_of = λ p e. let t = b.parent_of p e in (t.0, inr t.1, t.2);
        parent_to = λ d p m e. elim m [
          | inl i ↦ (let t = parent_known (r, d) p i (quiet (r, d) i) e in subst (λ (z : Node). z.parent ≡ Some p) (some_inj (sym t.1 ∙ f)) t.2)
          | inr s ↦ b.parent_to d p s e
        ];
        content_of_lem = λ p e. let t = b.content_of_lem p e in (t.0, inr t.1, t.2);
        inner = λ e. let t = b.inner e in (t.0, inr t.1, t.2);
        leaf = λ p e d m n. elim m [
          | inl i ↦ (let t = l.up r d i n in
              let u = parent_known t.0 r t.1 (quiet t.0 t.1) t.2 in
              let v = (at_some t.0.0 u.0 u.1).parent_of r u.2 in
              let y = k.down (t.0.0, v.0) r v.1 v.2 in
              b.leaf p e y.0 y.1 y.2)
          | inr s ↦ b.leaf p e d s n
        ];
        content_to = λ d p h m e. elim m [
          | inl i ↦ by_option b.known.0.content
              (λ n. absurd (h b.known.0 (inr b.known.1) n))
              (λ t z. b.content_to b.known.0 t (λ y s n. h y (inr s) n) b.known.1 z
              ∙ ap Some ((g r).contents b.known.0 d t p (inr b.known.1) (inl i) z e))
          | inr s ↦ b.content_to d p (λ y s n. h y (inr s) n) s e
        ];
      }

      go : (r : Revision) (o : Option Node) → find order_rev r t ≡ o → At (find order_rev r t) (λ c. (G ∪ es) (r, c))
      go r None f = rw f (λ c m. elim m [
        | inl i ↦ (let t = not_new (r, c) (quiet (r, c) i) in none≢some (sym f ∙ t.1))
        | inr s ↦ (rw f at (a.at r)) c s
      ])
      go r (Some c) f = rw f (some_at r c f)

-- ---- the numbers of a path

pub record Numbers (x : Entry) (n : ℕ) : Type 0 where
  pub low : 1 ≤ x.0.number.0
  pub high : x.0.number.0 ≤ n
  pub under : (p : Revision) → x.1.parent ≡ Some p → suc p.number.0 ≡ x.0.number.0

pub along_numbers : (hs : List Hash) (n : ℕ) (b : Option Content) → length hs ≤ n → (x : Entry) → In x (along n hs b) → Numbers x n
unfolding along
along_numbers [] n b h x m = absurd m
along_numbers (y ∷ ys) zero b h x m = absurd (omega arith)
along_numbers (y ∷ ys) (suc n) b h x (inl q) =
    subst (λ (z : Entry). Numbers z (suc n)) (sym q) (record { low = omega arith; high = omega arith; under = λ p e. go ys p e })
  where
    go : (ys : List Hash) (p : Revision) → newest_of n ys ≡ Some p → suc p.number.0 ≡ suc n
    go [] p e = absurd (none≢some e)
    go (z ∷ zs) p e = ap (λ (r : Revision). suc r.number.0) (sym (some_inj e))
along_numbers (y ∷ ys) (suc n) b h x (inr m) =
    let t = along_numbers ys n None (omega arith) x m in
    record { low = t.low; high = (let k = t.high in omega arith); under = t.under }

-- a path gives each revision once
pub along_once : (hs : List Hash) (n : ℕ) (b : Option Content) → length hs ≤ n → (r : Revision) (c d : Node)
    → In (r, c) (along n hs b) → In (r, d) (along n hs b) → c ≡ d
unfolding along
along_once [] n b h r c d m k = absurd m
along_once (y ∷ ys) zero b h r c d m k = absurd (omega arith)
along_once (y ∷ ys) (suc n) b h r c d (inl p) (inl q) = ap (λ (z : Entry). z.1) (p ∙ sym q)
along_once (y ∷ ys) (suc n) b h r c d (inl p) (inr k) =
    let t = (along_numbers ys n None (omega arith) (r, d) k).high in
    let u : r.number.0 ≡ suc n = ap (λ (z : Entry). z.0.number.0) p in absurd (omega arith)
along_once (y ∷ ys) (suc n) b h r c d (inr m) (inl q) =
    let t = (along_numbers ys n None (omega arith) (r, c) m).high in
    let u : r.number.0 ≡ suc n = ap (λ (z : Entry). z.0.number.0) q in absurd (omega arith)
along_once (y ∷ ys) (suc n) b h r c d (inr m) (inr k) = along_once ys n None (omega arith) r c d m k

-- the hash of each revision of a path is one of its hashes, and only the newest has a content
pub along_hash : (hs : List Hash) (n : ℕ) (b : Option Content) (x : Entry) → In x (along n hs b) → In x.0.hash hs
unfolding along
along_hash [] n b x m = absurd m
along_hash (y ∷ ys) n b x (inl q) = inl (ap (λ (z : Entry). z.0.hash) q)
along_hash (y ∷ ys) n b x (inr m) = inr (along_hash ys (pred n) None x m)

pub along_content : (hs : List Hash) (n : ℕ) (b : Option Content) (x : Entry) (c : Content) → In x (along n hs b) → x.1.content ≡ Some c → b ≡ Some c
unfolding along
along_content [] n b x c m e = absurd m
along_content (y ∷ ys) n b x c (inl q) e = ap (λ (z : Entry). z.1.content) (sym q) ∙ e
along_content (y ∷ ys) n b x c (inr m) e = absurd (none≢some (along_content ys (pred n) None x c m e))
