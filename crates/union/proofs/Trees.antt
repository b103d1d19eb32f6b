-- The tree of a document against a set of entries. Assumes nothing.
use mathlib.Core.Path.{◌≡◌, refl, sym, ap, ◌∙◌, subst}
use Rattle.std.specs.declared.cmp.Ordering.TheVariants.{Less, Equal, Greater}
use Rattle.std.specs.declared.cmp.Ordering.{Ordering}
use mathlib.Core.List.{List, [], ◌∷◌}
use Rattle.std.specs.Prelude.{Some}
use mathlib.Core.Logic.{◌⊎◌, inl, inr}
use Rattle.rules.specs.declared.Revision.{Revision}
use Rattle.rules.specs.Map.{find, alter, Ascending}
use Rattle.rules.specs.Order.{order_rev}
use Rattle.rules.specs.Replica.{Node, Tree}
use Rattle.rules.specs.Union.{In}
use Rattle.rules.specs.Write.{learn, add_all}
use Rattle.rules.proofs.OrderLaws.{less≢equal, equal≢greater, rev_order}
use Rattle.rules.proofs.MapLaws.{find_same, find_other, ascending_alter}
use Rattle.union.proofs.Nodes.{Agree, At, Set, ◌⊕◌, at_iff, learn_at}

-- a revision with what is given or known of it
abbrev pub Entry : Type 0
Entry = Revision × Node

abbrev pub add : Tree → Entry → Tree
add t g = alter order_rev g.0 (learn g.1) t

-- a set of entries
abbrev pub Given : Type 1
Given = Entry → Type 0

infixl 40 ◌∪◌
abbrev pub ◌∪◌ : Given → List Entry → Given
◌∪◌ G es = λ x. In x es ⊎ G x

abbrev pub ◌⊞◌ : Given → Entry → Given
◌⊞◌ G e = λ x. (x ≡ e) ⊎ G x

infixl 40 ◌⊞◌
pub record Rep (t : Tree) (G : Given) : Type 0 where
  pub ascending : Ascending order_rev t
  pub at : (r : Revision) → At (find order_rev r t) (λ c. G (r, c))

abbrev pub Agrees : Given → Type 0
Agrees G = (r : Revision) → Agree (λ c. G (r, c))

pub agree_sub : (S R : Set) → ((c : Node) → S c → R c) → Agree R → Agree S
agree_sub S R f g = record {
  parents = λ c d p q a b e h. g.parents c d p q (f c a) (f d b) e h;
  contents = λ c d p q a b e h. g.contents c d p q (f c a) (f d b) e h;
}

pub rep_iff : (t : Tree) (G H : Given) → ((x : Entry) → G x → H x) → ((x : Entry) → H x → G x) → Rep t G → Rep t H
rep_iff t G H f g a = record {
  ascending = a.ascending;
  at = λ r. at_iff (find order_rev r t) (λ c. G (r, c)) (λ c. H (r, c)) (λ c. f (r, c)) (λ c. g (r, c)) (a.at r);
}

hit : (t : Tree) (e : Entry) (G : Given) → Rep t G → Agrees (G ⊞ e)
    → At (find order_rev e.0 (add t e)) (λ c. (G ⊞ e) (e.0, c))
hit t e G a g =
    rw (find_same rev_order e.0 (learn e.1) t)
    (at_iff (Some (learn e.1 (find order_rev e.0 t))) ((λ c. G (e.0, c)) ⊕ e.1) (λ c. (G ⊞ e) (e.0, c)) into from
    (learn_at (find order_rev e.0 t) e.1 (λ c. G (e.0, c)) (a.at e.0)
    (agree_sub ((λ c. G (e.0, c)) ⊕ e.1) (λ c. (G ⊞ e) (e.0, c)) into (g e.0))))
  where
    into : (c : Node) → ((c ≡ e.1) ⊎ G (e.0, c)) → (G ⊞ e) (e.0, c)
    into c (inl q) = inl (λ i. (e.0, q i))
    into c (inr s) = inr s

    from : (c : Node) → (G ⊞ e) (e.0, c) → ((c ≡ e.1) ⊎ G (e.0, c))
    from c (inl q) = inl (ap (λ (x : Entry). x.1) q)
    from c (inr s) = inr s

miss : (t : Tree) (e : Entry) (G : Given) (r : Revision) → Rep t G → (order_rev r e.0 ≡ Equal → ⊥)
    → At (find order_rev r (add t e)) (λ c. (G ⊞ e) (r, c))
miss t e G r a n =
    rw (find_other rev_order r e.0 (learn e.1) t n)
    (at_iff (find order_rev r t) (λ c. G (r, c)) (λ c. (G ⊞ e) (r, c)) (λ c s. inr s) from (a.at r))
  where
    from : (c : Node) → (G ⊞ e) (r, c) → G (r, c)
    from c (inl q) = absurd (n (subst (λ (x : Revision). order_rev r x ≡ Equal) (ap (λ (x : Entry). x.0) q) (rev_order.self r)))
    from c (inr s) = s

rep_add : (t : Tree) (e : Entry) (G : Given) → Rep t G → Agrees (G ⊞ e) → Rep (add t e) (G ⊞ e)
rep_add t e G a g = record {
  ascending = ascending_alter rev_order e.0 (learn e.1) t a.ascending;
  at = λ r. go r (order_rev r e.0) refl;
}
  where
    go : (r : Revision) (o : Ordering) → order_rev r e.0 ≡ o → At (find order_rev r (add t e)) (λ c. (G ⊞ e) (r, c))
    go r Less p = miss t e G r a (λ q. less≢equal (sym p ∙ q))
    go r Equal p = subst (λ (x : Revision). At (find order_rev x (add t e)) (λ c. (G ⊞ e) (x, c))) (sym (rev_order.same r e.0 p)) (hit t e G a g)
    go r Greater p = miss t e G r a (λ q. equal≢greater (sym q ∙ p))

pub rep_adds : (es : List Entry) (t : Tree) (G : Given) → Rep t G → Agrees (G ∪ es) → Rep (add_all es t) (G ∪ es)
unfolding add_all
rep_adds [] t G a g = rep_iff t G (G ∪ []) (λ x s. inr s) (λ x s. elim s [ inl b ↦ absurd b | inr t ↦ t ]) a
rep_adds (e ∷ es) t G a g =
    rep_iff (add_all es (add t e)) ((G ⊞ e) ∪ es) (G ∪ (e ∷ es)) into from
    (rep_adds es (add t e) (G ⊞ e) (rep_add t e G a (λ r. agree_sub (λ c. (G ⊞ e) (r, c)) (λ c. (G ∪ (e ∷ es)) (r, c)) (λ c s. into (r, c) (inr s)) (g r)))
    (λ r. agree_sub (λ c. ((G ⊞ e) ∪ es) (r, c)) (λ c. (G ∪ (e ∷ es)) (r, c)) (λ c. into (r, c)) (g r)))
  where
    into : (x : Entry) → ((G ⊞ e) ∪ es) x → (G ∪ (e ∷ es)) x
    into x (inl m) = inl (inr m)
    into x (inr (inl q)) = inl (inl q)
    into x (inr (inr s)) = inr s

    from : (x : Entry) → (G ∪ (e ∷ es)) x → ((G ⊞ e) ∪ es) x
    from x (inl (inl q)) = inr (inl q)
    from x (inl (inr m)) = inl m
    from x (inr s) = inr (inr s)

pub rep_empty : (G : Given) → ((x : Entry) → G x → ⊥) → Rep [] G
unfolding find
rep_empty G n = record { ascending = tt; at = λ r c s. n (r, c) s }
