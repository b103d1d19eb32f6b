-- One node of a tree against the nodes that are given for its revision. Assumes nothing.
use mathlib.Core.Path.{◌≡◌, refl, sym, ap, ◌∙◌}
use Rattle.std.specs.Prelude.{Option, None, Some}
use mathlib.Core.Logic.{◌⊎◌, inl, inr}
use Rattle.rules.specs.declared.Content.{Content}
use Rattle.rules.specs.declared.Revision.{Revision}
use Rattle.rules.specs.Choice.{or_else}
use Rattle.rules.specs.Replica.{Node}
use Rattle.rules.specs.Write.{keeps, learn}
use Rattle.rules.proofs.MapLaws.{none≢some}

infixl 40 ◌⊕◌
-- a set of nodes
abbrev pub Set : Type 1
Set = Node → Type 0

-- with one more
abbrev pub ◌⊕◌ : Set → Node → Set
◌⊕◌ S x = λ c. (c ≡ x) ⊎ S c

-- the node c is what the set S of nodes given for one revision comes to: every parent given is its
-- parent, and it has a content exactly if none gives the revision without one, as an older one
pub record AtSome (c : Node) (S : Set) : Type 0 where
  pub known : (d : Node) × S d
  pub parent_of : (p : Revision) → c.parent ≡ Some p → (d : Node) × S d × (d.parent ≡ Some p)
  pub parent_to : (d : Node) (p : Revision) → S d → d.parent ≡ Some p → c.parent ≡ Some p
  pub content_of_lem : (b : Content) → c.content ≡ Some b → (d : Node) × S d × (d.content ≡ Some b)
  pub inner : c.content ≡ None → (d : Node) × S d × (d.content ≡ None)
  pub leaf : (b : Content) → c.content ≡ Some b → (d : Node) → S d → d.content ≡ None → ⊥
  pub content_to : (d : Node) (b : Content) → ((x : Node) → S x → x.content ≡ None → ⊥) → S d → d.content ≡ Some b → c.content ≡ Some b

-- what is found of a revision against the set: nothing, if the set is empty
abbrev pub At : Option Node → Set → Type 0
At None S = (c : Node) → S c → ⊥
At (Some c) S = AtSome c S

-- no two of the set give different parents or different contents
pub record Agree (S : Set) : Type 0 where
  pub parents : (c d : Node) (p q : Revision) → S c → S d → c.parent ≡ Some p → d.parent ≡ Some q → p ≡ q
  pub contents : (c d : Node) (p q : Content) → S c → S d → c.content ≡ Some p → d.content ≡ Some q → p ≡ q

pub at_iff : (o : Option Node) (S R : Set) → ((c : Node) → S c → R c) → ((c : Node) → R c → S c) → At o S → At o R
at_iff None S R f g a = λ c r. a c (g c r)
at_iff (Some c) S R f g a = record {
  known = (a.known.0, f a.known.0 a.known.1);
  parent_of = λ p e. let t = a.parent_of p e in (t.0, f t.0 t.1, t.2);
  parent_to = λ d p r e. a.parent_to d p (g d r) e;
  content_of_lem = λ b e. let t = a.content_of_lem b e in (t.0, f t.0 t.1, t.2);
  inner = λ e. let t = a.inner e in (t.0, f t.0 t.1, t.2);
  leaf = λ b e d r n. a.leaf b e d (g d r) n;
  content_to = λ d b h r e. a.content_to d b (λ x s n. h x (f x s) n) (g d r) e;
}

-- the first of two options
or_of : {A : Type 0} (x y : Option A) (p : A) → or_else x y ≡ Some p → (x ≡ Some p) ⊎ ((x ≡ None) × (y ≡ Some p))
or_of None y p e = inr (refl, e)
or_of (Some a) y p e = inl e

or_left : {A : Type 0} (x y : Option A) (p : A) → x ≡ Some p → or_else x y ≡ Some p
or_left x y p e = rw e refl

or_right : {A : Type 0} (x y : Option A) (p : A) → ((q : A) → x ≡ Some q → q ≡ p) → y ≡ Some p → or_else x y ≡ Some p
or_right None y p h e = e
or_right (Some a) y p h e = ap Some (h a refl)

keep_of : (x y : Option Content) (b : Content) → keeps x y ≡ Some b → (x ≡ None → ⊥) × (y ≡ Some b)
keep_of None y b e = absurd (none≢some e)
keep_of (Some a) y b e = (λ n. none≢some (sym n), e)

keep_to : (x y : Option Content) (b : Content) → (x ≡ None → ⊥) → y ≡ Some b → keeps x y ≡ Some b
keep_to None y b n e = absurd (n refl)
keep_to (Some a) y b n e = e

keep_none : (x y : Option Content) → keeps x y ≡ None → (x ≡ None) ⊎ (y ≡ None)
keep_none None y e = inl refl
keep_none (Some a) y e = inr e

pub by_option : {A : Type 0} {X : Type 0} (o : Option A) → (o ≡ None → X) → ((a : A) → o ≡ Some a → X) → X
by_option None f g = f refl
by_option (Some a) f g = g a refl

pub learn_at : (o : Option Node) (x : Node) (S : Set) → At o S → Agree (S ⊕ x) → At (Some (learn x o)) (S ⊕ x)
learn_at None x S a g = record {
  known = (x, inl refl);
  parent_of = λ p e. (x, inl refl, e);
  parent_to = λ d p r e. elim r [ inl q ↦ ap (λ (c : Node). c.parent) (sym q) ∙ e | inr s ↦ absurd (a d s) ];
  content_of_lem = λ b e. (x, inl refl, e);
  inner = λ e. (x, inl refl, e);
  leaf = λ b e d r n. elim r [ inl q ↦ none≢some (sym n ∙ (ap (λ (c : Node). c.content) q ∙ e)) | inr s ↦ a d s ];
  content_to = λ d b h r e. elim r [ inl q ↦ ap (λ (c : Node). c.content) (sym q) ∙ e | inr s ↦ absurd (a d s) ];
}
learn_at (Some c) x S a g = record {
  known = (a.known.0, inr a.known.1);
  parent_of = λ p e. elim (or_of c.parent x.parent p e) [
    | inl q ↦ (let t = a.parent_of p q in (t.0, inr t.1, t.2))
    | inr q ↦ (x, inl refl, q.1)
  ];
  parent_to = λ d p r e. elim r [
    | inl q ↦ or_right c.parent x.parent p
        (λ b z. let t = a.parent_of b z in g.parents t.0 x b p (inr t.1) (inl refl) t.2 (ap (λ (c : Node). c.parent) (sym q) ∙ e))
        (ap (λ (c : Node). c.parent) (sym q) ∙ e)
    | inr s ↦ or_left c.parent x.parent p (a.parent_to d p s e)
  ];
  inner = λ e. elim (keep_none x.content c.content e) [
    | inl n ↦ (x, inl refl, n)
    | inr n ↦ (let t = a.inner n in (t.0, inr t.1, t.2))
  ];
  content_of_lem = λ b e. let t = a.content_of_lem b (keep_of x.content c.content b e).1 in (t.0, inr t.1, t.2);
  leaf = λ b e d r n. elim r [
    | inl q ↦ (keep_of x.content c.content b e).0 (ap (λ (c : Node). c.content) (sym q) ∙ n)
    | inr s ↦ a.leaf b (keep_of x.content c.content b e).1 d s n
  ];
  content_to = λ d b h r e. keep_to x.content c.content b (λ n. h x (inl refl) n) (elim r [
    | inl q ↦ by_option a.known.0.content
        (λ n. absurd (h a.known.0 (inr a.known.1) n))
        (λ t z. a.content_to a.known.0 t (λ y s n. h y (inr s) n) a.known.1 z
        ∙ ap Some (g.contents a.known.0 x t b (inr a.known.1) (inl refl) z (ap (λ (c : Node). c.content) (sym q) ∙ e)))
    | inr s ↦ a.content_to d b (λ y s n. h y (inr s) n) s e
  ]);
}

-- two options with the same values
pub opt_ext : {A : Type 0} (x y : Option A) → ((a : A) → x ≡ Some a → y ≡ Some a) → ((a : A) → y ≡ Some a → x ≡ Some a) → x ≡ y
opt_ext None None f g = refl
opt_ext None (Some b) f g = g b refl
opt_ext (Some a) y f g = sym (f a refl)
