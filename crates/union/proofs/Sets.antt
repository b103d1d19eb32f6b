-- Sets of entries, one for each document: parts of them, two together, and that they are closed under parents. Assumes nothing.
use mathlib.Core.Path.{◌≡◌}
use mathlib.Core.List.{List}
use mathlib.Core.Logic.{◌⊎◌, inl, inr}
use Rattle.std.specs.Prelude.{Some}
use Rattle.rules.specs.Replica.{Id, Node}
use Rattle.rules.specs.Union.{In, Things, Gives, given, both, Compatible, Fits, Within}
use Rattle.rules.specs.Write.{Write, gives}
use Rattle.rules.proofs.GivenLaws.{agree_true}
use Rattle.union.proofs.Trees.{Agrees, Entry, Given}
use Rattle.union.proofs.Paths.{Closed, write_closed}

-- sets of entries, one for each document
abbrev pub Givens : Type 1
Givens = Id → Given

-- the revisions, parents and contents in them
abbrev pub things : Givens → Things
things G = record {
  revision = λ i v. (n : Node) × G i (v, n);
  parent = λ i v p. (n : Node) × G i (v, n) × (n.parent ≡ Some p);
  content = λ i v c. (n : Node) × G i (v, n) × (n.content ≡ Some c);
}

-- with what one more write gives
infixl 40 ◌⊎w◌
abbrev pub ◌⊎w◌ : Givens → Write → Givens
◌⊎w◌ G w = λ i x. ((w.id ≡ i) × In x (gives w)) ⊎ G i x

-- what writes give, as sets of entries: `things (GivenBy ws)` is `given ws`
abbrev pub GivenBy : List Write → Givens
GivenBy ws i x = Gives ws i x.0 x.1

-- with what writes give
abbrev pub Plus : Givens → List Write → Givens
Plus G ws i x = GivenBy ws i x ⊎ G i x

-- nothing
abbrev pub NoGivens : Givens
NoGivens i x = ⊥

-- ---- parts of sets

pub within_sub : (G H : Givens) → ((i : Id) (x : Entry) → G i x → H i x) → Within (things G) (things H)
within_sub G H h = record {
  revisions = λ i v m. (m.0, h i (v, m.0) m.1);
  parents = λ i v p m. (m.0, h i (v, m.0) m.1, m.2);
  contents = λ i v c m. (m.0, h i (v, m.0) m.1, m.2);
}

pub within_all : (f g h : Things) → Within f g → Within g h → Within f h
within_all f g h a b = record {
  revisions = λ i v m. b.revisions i v (a.revisions i v m);
  parents = λ i v p m. b.parents i v p (a.parents i v p m);
  contents = λ i v c m. b.contents i v c (a.contents i v c m);
}

pub both_within : (f g h : Things) → Within f h → Within g h → Within (both f g) h
both_within f g h a b = record {
  revisions = λ i v m. elim m [ inl t ↦ a.revisions i v t | inr t ↦ b.revisions i v t ];
  parents = λ i v p m. elim m [ inl t ↦ a.parents i v p t | inr t ↦ b.parents i v p t ];
  contents = λ i v c m. elim m [ inl t ↦ a.contents i v c t | inr t ↦ b.contents i v c t ];
}

pub within_left : (f g : Things) → Within f (both f g)
within_left f g = record { revisions = λ i v m. inl m; parents = λ i v p m. inl m; contents = λ i v c m. inl m }

pub fits_within : (g h : Things) → Within g h → Fits h → Fits g
fits_within g h k f = record {
  ids = f.ids;
  ids_most = f.ids_most;
  ids_all = λ i v m. f.ids_all i v (k.revisions i v m);
  revisions = f.revisions;
  revisions_at_most = f.revisions_at_most;
  revisions_all = λ i v m. f.revisions_all i v (k.revisions i v m);
}

pub compatible_within : (g h : Things) → Within g h → Compatible h → Compatible g
compatible_within g h k c = record {
  parents = λ i v p q m n. c.parents i v p q (k.parents i v p m) (k.parents i v q n);
  contents = λ i v p q m n. c.contents i v p q (k.contents i v p m) (k.contents i v q n);
}

pub agrees : (G : Givens) → Compatible (things G) → (i : Id) → Agrees (G i)
agrees G g i v = record {
  parents = λ c d p q m n e f. g.parents i v p q (c, m, e) (d, n, f);
  contents = λ c d p q m n e f. agree_true p q (g.contents i v p q (c, m, e) (d, n, f));
}

-- two sets together: what is in either
abbrev pub Both : Givens → Givens → Givens
Both G H i x = G i x ⊎ H i x

pub both_to : (G H : Givens) → Within (things (Both G H)) (both (things G) (things H))
both_to G H = record {
  revisions = λ i v m. elim m.1 [ inl a ↦ inl (m.0, a) | inr b ↦ inr (m.0, b) ];
  parents = λ i v p m. elim m.1 [ inl a ↦ inl (m.0, a, m.2) | inr b ↦ inr (m.0, b, m.2) ];
  contents = λ i v c m. elim m.1 [ inl a ↦ inl (m.0, a, m.2) | inr b ↦ inr (m.0, b, m.2) ];
}

pub both_from : (G H : Givens) → Within (both (things G) (things H)) (things (Both G H))
both_from G H = record {
  revisions = λ i v m. elim m [ inl a ↦ (a.0, inl a.1) | inr b ↦ (b.0, inr b.1) ];
  parents = λ i v p m. elim m [ inl a ↦ (a.0, inl a.1, a.2) | inr b ↦ (b.0, inr b.1, b.2) ];
  contents = λ i v c m. elim m [ inl a ↦ (a.0, inl a.1, a.2) | inr b ↦ (b.0, inr b.1, b.2) ];
}

pub only_given : (ws : List Write) → Within (things (Plus NoGivens ws)) (given ws)
only_given ws = within_sub (Plus NoGivens ws) (GivenBy ws) (λ i x m. elim m [ inl k ↦ k | inr b ↦ absurd b ])

-- ---- closed under parents

pub closed_both : (G H : Given) → Closed G → Closed H → Closed (λ x. G x ⊎ H x)
closed_both G H a b = record {
  down = λ x p m e. elim m [
    | inl k ↦ (let t = a.down x p k e in (t.0, inl t.1, t.2))
    | inr k ↦ (let t = b.down x p k e in (t.0, inr t.1, t.2))
  ];
  up = λ r c m e. elim m [
    | inl k ↦ (let t = a.up r c k e in (t.0, inl t.1, t.2))
    | inr k ↦ (let t = b.up r c k e in (t.0, inr t.1, t.2))
  ];
}

pub closed_w : (G : Givens) (w : Write) → ((i : Id) → Closed (G i)) → (i : Id) → Closed ((G ⊎w w) i)
closed_w G w c i = record {
  down = λ x p m e. elim m [
    | inl s ↦ (let t = (write_closed w).down x p s.1 e in (t.0, inl (s.0, t.1), t.2))
    | inr s ↦ (let t = (c i).down x p s e in (t.0, inr t.1, t.2))
  ];
  up = λ r b m e. elim m [
    | inl s ↦ (let t = (write_closed w).up r b s.1 e in (t.0, inl (s.0, t.1), t.2))
    | inr s ↦ (let t = (c i).up r b s e in (t.0, inr t.1, t.2))
  ];
}

pub closed_none : (i : Id) → Closed (NoGivens i)
closed_none i = record { down = λ x p m e. absurd m; up = λ r d m e. absurd m }

pub closed_given : (ws : List Write) (i : Id) → Closed (GivenBy ws i)
closed_given ws i = record {
  down = λ x p m e. let t = (write_closed m.0).down x p m.3 e in (t.0, (m.0, m.1, m.2, t.1), t.2);
  up = λ r d m e. let t = (write_closed m.0).up r d m.3 e in (t.0, (m.0, m.1, m.2, t.1), t.2);
}
