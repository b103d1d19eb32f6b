-- Writes one after the other: what they leave holds exactly what was held and given. Assumes nothing.
use mathlib.Core.Path.{◌≡◌, refl, sym, ap, ◌∙◌, subst}
use mathlib.Core.List.{List, [], ◌∷◌}
use mathlib.Core.Logic.{inl, inr}
use Rattle.rules.specs.Map.{find}
use Rattle.rules.specs.Replica.{Id, Replica, fresh, document_of}
use Rattle.rules.specs.Union.{In, given, Compatible, Fits, Within, write_all, AllAccepted, SeqSuffices}
use Rattle.rules.specs.Write.{Write, gives, write}
use Rattle.union.proofs.Trees.{Entry}
use Rattle.union.proofs.Paths.{Closed}
use Rattle.union.proofs.Sets.{GivenBy, Givens, NoGivens, Plus, ◌⊎w◌, agrees, closed_none, closed_w, compatible_within, fits_within, only_given, things, within_sub}
use Rattle.union.proofs.Refusals.{Well}
use Rattle.union.proofs.Replicas.{Holds, holds_iff, step}

-- one more write in front
cons_to : (G : Givens) (w : Write) (ws : List Write) (i : Id) (x : Entry) → Plus (G ⊎w w) ws i x → Plus G (w ∷ ws) i x
cons_to G w ws i x (inl m) = inl (m.0, inr m.1, m.2, m.3)
cons_to G w ws i x (inr (inl m)) = inl (w, inl refl, m.0, m.1)
cons_to G w ws i x (inr (inr s)) = inr s

cons_from : (G : Givens) (w : Write) (ws : List Write) (i : Id) (x : Entry) → Plus G (w ∷ ws) i x → Plus (G ⊎w w) ws i x
cons_from G w ws i x (inl m) = go m.0 m.1 m.2 m.3
  where
    go : (v : Write) → In v (w ∷ ws) → v.id ≡ i → In x (gives v) → Plus (G ⊎w w) ws i x
    go v (inl q) e n = inr (inl (ap (λ (z : Write). z.id) (sym q) ∙ e, subst (λ (z : Write). In x (gives z)) q n))
    go v (inr q) e n = inl (v, q, e, n)
cons_from G w ws i x (inr s) = inr (inr s)

-- what a further write gives stands in what all give
pub one_within : (G : Givens) (w : Write) (ws : List Write) → Within (things (G ⊎w w)) (things (Plus G (w ∷ ws)))
one_within G w ws = within_sub (G ⊎w w) (Plus G (w ∷ ws)) (λ i x m. cons_to G w ws i x (inr m))

pub rest_within : (G : Givens) (w : Write) (ws : List Write) → Within (things (Plus (G ⊎w w) ws)) (things (Plus G (w ∷ ws)))
rest_within G w ws = within_sub (Plus (G ⊎w w) ws) (Plus G (w ∷ ws)) (cons_to G w ws)

pub absorb : (ws : List Write) (r : Replica) (G : Givens) → Holds r G → ((i : Id) → Closed (G i))
    → ((w : Write) → In w ws → Well w) → Compatible (things (Plus G ws)) → Fits (things (Plus G ws)) → SeqSuffices ws r
    → AllAccepted ws r × Holds (write_all ws r) (Plus G ws)
unfolding write_all
absorb [] r G a c k g f q =
    (tt, holds_iff r G (Plus G []) (λ i x m. inr m) (λ i x m. elim m [ inl b ↦ absurd b.1 | inr t ↦ t ]) a)
absorb (w ∷ ws) r G a c k g f q =
    let all = things (Plus G (w ∷ ws)) in
    let one = one_within G w ws in
    let more = rest_within G w ws in
    let t = step r w G a (agrees (G ⊎w w) (compatible_within (things (G ⊎w w)) all one g)) (k w (inl refl))
    (fits_within (things (G ⊎w w)) all one f) c q.0 in
    let u = absorb ws (write r w).1 (G ⊎w w) t.1 (closed_w G w c) (λ v m. k v (inr m))
    (compatible_within (things (Plus (G ⊎w w) ws)) all more g) (fits_within (things (Plus (G ⊎w w) ws)) all more f) q.1 in
    ((t.0, u.0), holds_iff (write_all ws (write r w).1) (Plus (G ⊎w w) ws) (Plus G (w ∷ ws)) (cons_to G w ws) (cons_from G w ws) u.1)

-- ---- from fresh

pub holds_fresh : Holds fresh NoGivens
unfolding document_of find
holds_fresh = record { ascending = tt; at = λ i x m. m }

pub holds_all : (ws : List Write) → ((w : Write) → In w ws → Well w) → Compatible (given ws) → Fits (given ws) → SeqSuffices ws fresh
    → AllAccepted ws fresh × Holds (write_all ws fresh) (GivenBy ws)
holds_all ws k g f q =
    let t = absorb ws fresh NoGivens holds_fresh closed_none k
    (compatible_within (things (Plus NoGivens ws)) (given ws) (only_given ws) g)
    (fits_within (things (Plus NoGivens ws)) (given ws) (only_given ws) f) q in
    (t.0, holds_iff (write_all ws fresh) (Plus NoGivens ws) (GivenBy ws) (λ i x m. elim m [ inl k ↦ k | inr b ↦ absurd b ]) (λ i x m. inl m) t.1)
