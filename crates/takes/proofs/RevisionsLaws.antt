-- Laws of a path beside the revision of `_rev`. Assumes nothing.
use mathlib.Core.Bool.{Bool, true, false, not, ◌||◌}
use Rattle.std.specs.declared.cmp.Ordering.TheVariants.{Less, Equal, Greater}
use Rattle.std.specs.declared.cmp.Ordering.{Ordering}
use mathlib.Core.List.{List, [], ◌∷◌}
use mathlib.Core.Logic.{◌⊎◌, inl, inr}
use Rattle.std.specs.Prelude.{Option, None, Some, Result, Ok, Err}
use mathlib.Core.Path.{◌≡◌, refl, sym, ap, ◌∙◌, subst}
use Prim.Native.Nat.{ℕ, suc, ◌*◌, ◌<◌}
use native.Mathlib.Omega.{arith}
use borrow.Author.Tests.{eq-eqb, ne_eqb, eqb-true, eqb-false}
use lib.Dec.{eqb}
use lib.ListN.{length, take, get_or}
use Rattle.rules.specs.declared.Revision.{Revision}
use Rattle.rules.specs.Bytes.{join, part}
use Rattle.rules.specs.Choice.{pick, maybe}
use Rattle.rules.specs.Order.{order_bytes, is_equal}
use Rattle.rules.specs.Read.{first_of}
use Rattle.rules.specs.Replica.{Hash}
use Rattle.rules.specs.Room.{hash_size, hashes_most}
use Rattle.rules.proofs.OrderLaws.{order_bytes_same, order_bytes_self, less≢equal, equal≢greater}
use Rattle.octets.specs.Octets.{HashPut}
use Rattle.octets.proofs.ByteOrderLaws.{differ}
use Rattle.octets.proofs.SpliceLaws.{length-splice}
use Rattle.json_text.specs.Members.{Form, plain, Json}
use Rattle.json_text.proofs.WsLaws.{byte_at}
use Rattle.lines.specs.Take.{Revisions, read_revisions, optional, other_revisions}
use Rattle.takes.specs.declared.Spot.{Spot}
use Rattle.takes.specs.declared.Spot.TheVariants.{Absent, Once, Repeated}
use Rattle.rules.specs.declared.Refusal.{Refusal}
use Rattle.rules.specs.declared.Refusal.TheVariants.{BadMember, OtherRevisions}
use Rattle.takes.specs.Spots.{ValueAt, SpotIs}
use Rattle.takes.specs.Path.{laid_most, laid_room, Laid, PathSays, PathRead, beside_rev}
use Rattle.takes.specs.Read.{RevsSay, RevsAt, RevsKept}
use Rattle.takes.proofs.ValueLaws.{object_brace}
use Rattle.takes.proofs.LaidLaws.{laid_one}

equal_turned : (a b : List ℕ) → is_equal (order_bytes a b) ≡ is_equal (order_bytes b a)
equal_turned a b = go (order_bytes a b) refl
  where
    no : (o : Ordering) → order_bytes a b ≡ o → (o ≡ Equal → ⊥) → is_equal (order_bytes b a) ≡ false
    no o e f = differ b a (λ q. f (sym e ∙ (ap (λ (l : List ℕ). order_bytes a l) q ∙ order_bytes_self a)))

    go : (o : Ordering) → order_bytes a b ≡ o → is_equal o ≡ is_equal (order_bytes b a)
    go Equal e = sym (ap is_equal (ap (λ (l : List ℕ). order_bytes b l) (order_bytes_same a b e) ∙ order_bytes_self b))
    go Less e = sym (no Less e less≢equal)
    go Greater e = sym (no Greater e (λ q. equal≢greater (sym q)))

-- ---- the needs of `beside`

module _ (v : Revision) (first n : ℕ) (path : List ℕ) where
  pub beside_start : (b : ℕ) → b ≡ v.number.0 → (first ≡ b → ⊥) → Err OtherRevisions ≡ beside_rev v first n path
  unfolding beside_rev
  beside_start b e f = rw (ne_eqb first v.number.0 (λ q. f (q ∙ sym e)))

  module _ (b : ℕ) (e : b ≡ v.number.0) (f : first ≡ b) where
    pub beside_none : n ≡ 0 → Err OtherRevisions ≡ beside_rev v first n path
    unfolding beside_rev
    beside_none g = rw (eq-eqb first v.number.0 (f ∙ e), eq-eqb n 0 g)

    module _ (g : n ≡ 0 → ⊥) (same : Bool) (h : same ≡ is_equal (order_bytes v.hash (take hash_size path))) where
      pub beside_other : not same ≡ true → Err OtherRevisions ≡ beside_rev v first n path
      unfolding beside_rev part
      beside_other k = rw (eq-eqb first v.number.0 (f ∙ e), ne_eqb n 0 g, ap not (sym h) ∙ k)

      pub beside_same : not same ≡ false → Ok n ≡ beside_rev v first n path
      unfolding beside_rev part
      beside_same k = rw (eq-eqb first v.number.0 (f ∙ e), ne_eqb n 0 g, ap not (sym h) ∙ k)

-- ---- 42

module _ (v : Revision) (first n : ℕ) (path : List ℕ) (hs : List Hash) (l : Laid hs n path) where
  -- the first hash stands at the front
  front : (n ≡ 0 → ⊥) → (h : Hash) × (first_of hs ≡ Some h) × (take hash_size path ≡ h)
  front f = go hs refl
    where
      go : (ys : List Hash) → hs ≡ ys → (h : Hash) × (first_of hs ≡ Some h) × (take hash_size path ≡ h)
      go (h ∷ ys) e = let q : first_of hs ≡ Some h = ap first_of e in (h, q, l.first h q)
      go [] e = absurd (f (empty l.held))
        where
          empty : ((length hs ≡ n) × (take (n * hash_size) path ≡ join hs)) ⊎ ((hashes_most < length hs) × (n ≡ laid_most)) → n ≡ 0
          empty (inl p) = sym p.0 ∙ ap length e
          empty (inr p) = let a = p.0 in let b : length hs ≡ 0 = ap length e in absurd (omega arith)

  or-true : (b : Bool) → (b || true) ≡ true
  or-true true = refl
  or-true false = refl

  -- what 42 asks is what the bytes were compared for
  same_test : other_revisions v (record { start = first; ids = hs })
      ≡ (not (eqb first v.number.0) || (eqb n 0 || not (is_equal (order_bytes v.hash (part 0 hash_size path)))))
  unfolding other_revisions part
  same_test = ap (λ (b : Bool). not (eqb first v.number.0) || b) (go (eqb n 0) refl)
    where
      go : (b : Bool) → eqb n 0 ≡ b → maybe true (λ h. not (is_equal (order_bytes h v.hash))) (first_of hs) ≡ (b || not (is_equal (order_bytes v.hash (take hash_size path))))
      go true q = ap (λ (ys : List Hash). maybe true (λ (h : Hash). not (is_equal (order_bytes h v.hash))) (first_of ys)) (l.«none_is» (eqb-true n 0 q))
      go false q =
          let t = front (eqb-false n 0 q) in
          ap (maybe true (λ (h : Hash). not (is_equal (order_bytes h v.hash)))) t.1
          ∙ ap not (ap (λ (h : Hash). is_equal (order_bytes h v.hash)) (sym t.2) ∙ equal_turned (take hash_size path) v.hash)

  pub beside_says : (o : Option Revisions) (r : Result ℕ Refusal) → o ≡ Some (record { start = first; ids = hs }) → r ≡ beside_rev v first n path
      → PathSays (maybe None (λ b. Some (Some b)) o) v path r
  unfolding beside_rev
  beside_says o r e f = subst (PathSays (maybe None (λ (b : Revisions). Some (Some b)) o) v path) (sym f) (go (other_revisions v (record { start = first; ids = hs })) refl)
    where
      go : (b : Bool) → other_revisions v (record { start = first; ids = hs }) ≡ b
          → PathSays (maybe None (λ b. Some (Some b)) o) v path (pick (not (eqb first v.number.0) || (eqb n 0 || not (is_equal (order_bytes v.hash (part 0 hash_size path))))) (Err OtherRevisions) (Ok n))
      go true q = rw (sym same_test ∙ q, e) (inr (record { start = first; ids = hs }, refl, q, refl))
      go false q = rw (sym same_test ∙ q, e) (Some (record { start = first; ids = hs }), refl, q, l)

-- ---- the needs of `path_in`

no_object : {d : ℕ} {s : List ℕ} {v e : ℕ} (j : Json (suc (suc (suc d)))) → ValueAt (suc (suc (suc d))) j s v e → (get_or s v 0 ≡ 123 → ⊥) → read_revisions j ≡ None
unfolding read_revisions
no_object (plain t) a f = refl
no_object (Form.array vs) a f = refl
no_object {d} {s} {v} (Form.object ms) a f = let z = object_brace ms a in absurd (f (byte_at s v 123 z.0 z.1))

module _ (d : ℕ) (s : List ℕ) (p : Spot) (v : Revision) (path : List ℕ) where
  pub path_absent : (after : List ℕ) → length path ≡ laid_room → p ≡ Absent → HashPut path 0 v.hash after → PathRead d s p v path (Ok 1) after
  unfolding optional
  path_absent after room e h = record {
    room = ap length h.is ∙ length-splice path 0 v.hash (omega (arith, h.size, room));
    say = λ vs q. (None, ap (optional read_revisions) (subst (SpotIs (suc (suc (suc d))) s vs) e q), refl, laid_one path after v.hash room h.size h.is);
  }

  pub path_repeated : p ≡ Repeated → PathRead d s p v path (Err BadMember) path
  unfolding optional
  path_repeated e = record { room = refl; say = λ vs q. inl (say vs (subst (SpotIs (suc (suc (suc d))) s vs) e q), refl) }
    where
      say : (vs : List (Json (suc (suc (suc d))))) → SpotIs (suc (suc (suc d))) s vs Repeated → optional read_revisions vs ≡ None
      say vs h = rw h.3

  module _ (x e b : ℕ) (f : p ≡ Once x e) (g : b ≡ get_or s x 0) where
    pub path_no_object : (b ≡ 123 → ⊥) → PathRead d s p v path (Err BadMember) path
    unfolding optional
    path_no_object k = record { room = refl; say = λ vs q. inl (say vs (subst (SpotIs (suc (suc (suc d))) s vs) f q), refl) }
      where
        say : (vs : List (Json (suc (suc (suc d))))) → SpotIs (suc (suc (suc d))) s vs (Once x e) → optional read_revisions vs ≡ None
        say vs h = rw (h.1, no_object h.0 h.2 (λ q. k (g ∙ q)))

    module _ (k : b ≡ 123) (got : Option (ℕ × ℕ)) (kept : RevsKept d s p path got) where
      says : (j : Json (suc (suc (suc d)))) → ValueAt (suc (suc (suc d))) j s x e → RevsSay (read_revisions j) path got
      unfolding RevsAt
      says j a = kept.at x e f (sym g ∙ k) j e a.is

      pub path_wrong : got ≡ None → PathRead d s p v path (Err BadMember) path
      unfolding optional
      path_wrong z = record { room = refl; say = λ vs q. inl (say vs (subst (SpotIs (suc (suc (suc d))) s vs) f q), refl) }
        where
          say : (vs : List (Json (suc (suc (suc d))))) → SpotIs (suc (suc (suc d))) s vs (Once x e) → optional read_revisions vs ≡ None
          say vs h = rw (h.1, subst (RevsSay (read_revisions h.0) path) z (says h.0 h.2))

      pub path_beside : (first n : ℕ) (r : Result ℕ Refusal) → got ≡ Some (first, n) → r ≡ beside_rev v first n path → PathRead d s p v path r path
      unfolding optional
      path_beside first n r z u = record { room = refl; say = λ vs q. say vs (subst (SpotIs (suc (suc (suc d))) s vs) f q) }
        where
          say : (vs : List (Json (suc (suc (suc d))))) → SpotIs (suc (suc (suc d))) s vs (Once x e) → PathSays (optional read_revisions vs) v path r
          say vs h =
              let t = subst (RevsSay (read_revisions h.0) path) z (says h.0 h.2) in
              subst (λ (o : Option (Option Revisions)). PathSays o v path r) (sym (ap (optional read_revisions) h.1)) (beside_says v first n path t.0 t.2 (read_revisions h.0) r t.1 u)
