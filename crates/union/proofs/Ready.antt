-- One computed test of the hypotheses on a list of writes: well-formed, compatible, and fitting the room. Assumes nothing.
use mathlib.Core.Path.{◌≡◌, refl, sym, ap, ◌∙◌, subst}
use Rattle.rules.specs.declared.Refusal.{Refusal}
use Rattle.rules.specs.declared.Outcome.{Outcome}
use Rattle.std.specs.Prelude.{Result, Ok, Err}
use mathlib.Core.Bool.{Bool, true, false, not, ◌&&◌, ◌||◌, true≢false}
use mathlib.Core.List.{List, [], ◌∷◌}
use mathlib.Core.Logic.{inl, inr}
use Rattle.std.specs.Prelude.{Option, None, Some}
use Prim.Native.Nat.{ℕ, ◌≤◌}
use lib.Dec.{eqb, leb, ltb}
use lib.ListN.{length}
use borrow.Author.Tests.{leb-false, ltb-false}
use Rattle.rules.specs.declared.Content.{Content}
use Rattle.rules.specs.declared.Content.TheVariants.{Live, Deleted}
use Rattle.rules.specs.declared.Refusal.TheVariants.{SequenceSpent}
use Rattle.rules.specs.declared.Revision.{Revision}
use Rattle.rules.specs.Bytes.{Bytes}
use Rattle.rules.specs.Choice.{any, first_that}
use Rattle.rules.specs.Order.{order_bytes, is_equal, same_rev}
use Rattle.rules.specs.Refusal.{refusal_number}
use Rattle.rules.specs.Replica.{Id, Node, Replica, IsContent}
use Rattle.rules.specs.Room.{documents_most, revisions_most, number_most, labels}
use Rattle.rules.specs.Union.{In, Gives, given, WellFormed, Compatible, Fits, SeqSuffices}
use Rattle.rules.specs.Write.{Write, gives, is_none, differ, agree, form_refusals, write}
use Rattle.rules.proofs.OrderLaws.{bytes_order, same_equal, same_rev_true, true_same_rev}
use Rattle.rules.proofs.ChoiceLaws.{neither}
use Rattle.rules.proofs.GivenLaws.{differ_same}
use Rattle.union.specs.Said.{answers}
use Rattle.union.proofs.Lists.{any_out}
use Rattle.union.proofs.Trees.{Entry}
use Rattle.union.proofs.Sets.{compatible_within, fits_within}
use Rattle.union.proofs.Orders.{part}

-- ---- well-formed

unfoldable pub not_bytes : List ℕ → Bool
not_bytes s = any (leb 256) s

abbrev no_content : Content → Bool
no_content (Live n) = leb labels n
no_content Deleted = false

unfoldable pub malformed : Write → Bool
malformed w =
    not_bytes w.id || (ltb number_most w.number.0 || (not_bytes w.path || (no_content w.content || not (is_none (first_that (form_refusals w))))))

bytes_if : (s : List ℕ) → not_bytes s ≡ false → Bytes s
unfolding not_bytes any
bytes_if [] e = tt
bytes_if (b ∷ bs) e = let t = neither (leb 256 b) (any (leb 256) bs) e in (leb-false 256 b t.0, bytes_if bs t.1)

content_if : (c : Content) → no_content c ≡ false → IsContent c
content_if (Live n) e = leb-false labels n e
content_if Deleted e = tt

none_if : {A : Type 0} (o : Option A) → not (is_none o) ≡ false → o ≡ None
none_if None e = refl
none_if (Some a) e = absurd (true≢false e)

well_formed_if : (w : Write) → malformed w ≡ false → WellFormed w
unfolding malformed
well_formed_if w e =
    let a = neither (not_bytes w.id) (ltb number_most w.number.0 || (not_bytes w.path || (no_content w.content || not (is_none (first_that (form_refusals w)))))) e in
    let b = neither (ltb number_most w.number.0) (not_bytes w.path || (no_content w.content || not (is_none (first_that (form_refusals w))))) a.1 in
    let c = neither (not_bytes w.path) (no_content w.content || not (is_none (first_that (form_refusals w)))) b.1 in
    let d = neither (no_content w.content) (not (is_none (first_that (form_refusals w)))) c.1 in
    record {
      write = record {
        id = bytes_if w.id a.0;
        number = ltb-false number_most w.number.0 b.0;
        path = bytes_if w.path c.0;
        content = content_if w.content d.0;
      };
      form = none_if (first_that (form_refusals w)) d.1;
    }

-- ---- compatible

unfoldable pub clash : Entry → Entry → Bool
clash x y =
    same_rev x.0 y.0 && (differ same_rev x.1.parent y.1.parent || differ agree x.1.content y.1.content)

unfoldable pub clashes : Write → Write → Bool
clashes w v = is_equal (order_bytes w.id v.id) && any (λ x. any (clash x) (gives v)) (gives w)

unfoldable pub incompatible : List Write → Bool
incompatible ws = any (λ w. any (clashes w) ws) ws

and_out : (a b : Bool) → (a && b) ≡ false → a ≡ true → b ≡ false
and_out true b e q = e
and_out false b e q = absurd (true≢false (sym q))

module _ (ws : List Write) (h : incompatible ws ≡ false) where
  no_clash : (i : Id) (v : Revision) (c d : Node) → Gives ws i v c → Gives ws i v d
      → (differ same_rev c.parent d.parent ≡ false) × (differ agree c.content d.content ≡ false)
  unfolding incompatible clashes clash
  no_clash i v c d m n =
      let a1 = any_out (λ w. any (clashes w) ws) ws m.0 h m.1 in
      let a2 = any_out (clashes m.0) ws n.0 a1 n.1 in
      let a3 = and_out (is_equal (order_bytes m.0.id n.0.id)) (any (λ x. any (clash x) (gives n.0)) (gives m.0)) a2 (same_equal bytes_order m.0.id n.0.id (m.2 ∙ sym n.2)) in
      let a4 = any_out (λ x. any (clash x) (gives n.0)) (gives m.0) (v, c) a3 m.3 in
      let a5 = any_out (clash (v, c)) (gives n.0) (v, d) a4 n.3 in
      neither (differ same_rev c.parent d.parent) (differ agree c.content d.content)
      (and_out (same_rev v v) (differ same_rev c.parent d.parent || differ agree c.content d.content) a5 (true_same_rev v v refl))

  compatible_if : Compatible (given ws)
  compatible_if = record {
    parents = λ i v p q m n. same_rev_true p q (differ_same same_rev m.0.parent n.0.parent (no_clash i v m.0 n.0 m.1 n.1).0 p q m.2 n.2);
    contents = λ i v p q m n. differ_same agree m.0.content n.0.content (no_clash i v m.0 n.0 m.1 n.1).1 p q m.2 n.2;
  }

-- ---- the room, all that is given counted with repeats

unfoldable pub ids_of : List Write → List Id
ids_of [] = []
ids_of (w ∷ ws) = w.id ∷ ids_of ws

unfoldable pub tagged : Id → List Entry → List (Id × Revision) → List (Id × Revision)
tagged i [] ps = ps
tagged i (x ∷ xs) ps = (i, x.0) ∷ tagged i xs ps

unfoldable pub revisions_of : List Write → List (Id × Revision)
revisions_of [] = []
revisions_of (w ∷ ws) = tagged w.id (gives w) (revisions_of ws)

in_ids : (ws : List Write) (w : Write) → In w ws → In w.id (ids_of ws)
unfolding ids_of
in_ids [] w m = absurd m
in_ids (v ∷ ws) w (inl q) = inl (ap (λ (z : Write). z.id) q)
in_ids (v ∷ ws) w (inr m) = inr (in_ids ws w m)

in_rest : (i : Id) (es : List Entry) (ps : List (Id × Revision)) (p : Id × Revision) → In p ps → In p (tagged i es ps)
unfolding tagged
in_rest i [] ps p m = m
in_rest i (x ∷ xs) ps p m = inr (in_rest i xs ps p m)

in_tagged : (i : Id) (es : List Entry) (ps : List (Id × Revision)) (x : Entry) → In x es → In (i, x.0) (tagged i es ps)
unfolding tagged
in_tagged i [] ps x m = absurd m
in_tagged i (y ∷ ys) ps x (inl q) = inl (λ j. (i, (q j).0))
in_tagged i (y ∷ ys) ps x (inr m) = inr (in_tagged i ys ps x m)

in_revisions : (ws : List Write) (w : Write) (x : Entry) → In w ws → In x (gives w) → In (w.id, x.0) (revisions_of ws)
unfolding revisions_of
in_revisions [] w x m n = absurd m
in_revisions (v ∷ ws) w x (inl q) n =
    subst (λ (z : Write). In (z.id, x.0) (tagged v.id (gives v) (revisions_of ws))) (sym q)
    (in_tagged v.id (gives v) (revisions_of ws) x (subst (λ (z : Write). In x (gives z)) q n))
in_revisions (v ∷ ws) w x (inr m) n = in_rest v.id (gives v) (revisions_of ws) (w.id, x.0) (in_revisions ws w x m n)

fits_if : (ws : List Write) → length (ids_of ws) ≤ documents_most → length (revisions_of ws) ≤ revisions_most → Fits (given ws)
fits_if ws a b = record {
  ids = ids_of ws;
  ids_most = a;
  ids_all = λ i v m. (let n = m.1 in subst (λ (z : Id). In z (ids_of ws)) n.2 (in_ids ws n.0 n.1));
  revisions = revisions_of ws;
  revisions_at_most = b;
  revisions_all = λ i v m. (let n = m.1 in subst (λ (z : Id). In (z, v) (revisions_of ws)) n.2 (in_revisions ws n.0 (v, m.0) n.1 n.3));
}

-- ---- together

unfoldable pub unready : List Write → Bool
unready ws =
    any malformed ws
    || (incompatible ws || (ltb documents_most (length (ids_of ws)) || ltb revisions_most (length (revisions_of ws))))

pub record Ready (ws : List Write) : Type 0 where
  pub well_formed : (w : Write) → In w ws → WellFormed w
  pub compatible : Compatible (given ws)
  pub fits : Fits (given ws)

pub ready : (ws : List Write) → unready ws ≡ false → Ready ws
unfolding unready
ready ws e =
    let a = neither (any malformed ws) (incompatible ws || (ltb documents_most (length (ids_of ws)) || ltb revisions_most (length (revisions_of ws)))) e in
    let b = neither (incompatible ws) (ltb documents_most (length (ids_of ws)) || ltb revisions_most (length (revisions_of ws))) a.1 in
    let c = neither (ltb documents_most (length (ids_of ws))) (ltb revisions_most (length (revisions_of ws))) b.1 in
    record {
      well_formed = λ w m. well_formed_if w (any_out malformed ws w a.0 m);
      compatible = compatible_if ws b.0;
      fits = fits_if ws (ltb-false documents_most (length (ids_of ws)) c.0) (ltb-false revisions_most (length (revisions_of ws)) c.1);
    }

-- writes among others that are ready, in any order and with any repeats, are ready too
pub ready_part : (ws vs : List Write) → ((w : Write) → In w ws → In w vs) → Ready vs → Ready ws
ready_part ws vs h k = record {
  well_formed = λ w m. k.well_formed w (h w m);
  compatible = compatible_within (given ws) (given vs) (part ws vs h) k.compatible;
  fits = fits_within (given ws) (given vs) (part ws vs h) k.fits;
}

-- ---- and of the sequence: none of the answers is 8

unfoldable pub is_spent : Result Outcome Refusal → Bool
is_spent (Ok o) = false
is_spent (Err n) = eqb (refusal_number n) (refusal_number SequenceSpent)

pub suffices_if : (ws : List Write) (r : Replica) → any is_spent (answers r ws) ≡ false → SeqSuffices ws r
unfolding answers is_spent
suffices_if [] r e = tt
suffices_if (w ∷ ws) r e =
    let t = neither (is_spent (write r w).0) (any is_spent (answers (write r w).1 ws)) (unfold any in e) in
    (λ q. true≢false (sym (ap is_spent q) ∙ t.0), suffices_if ws (write r w).1 t.1)
