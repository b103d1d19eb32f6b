-- The offers of a replica's documents: they give what it holds, agree, fit, and change nothing in it. Assumes nothing.
use mathlib.Core.Path.{◌≡◌, refl, sym, ap, ◌∙◌, subst}
use Rattle.std.specs.Prelude.{Ok}
use mathlib.Core.Bool.{Bool, false}
use mathlib.Core.List.{List, [], ◌∷◌, ◌++◌, map}
use mathlib.Core.Logic.{inl, inr}
use Rattle.std.specs.Prelude.{Option, None, Some}
use Prim.Native.Nat.{suc, ◌+◌}
use native.Mathlib.Omega.{arith}
use lib.ListN.{length, length-append}
use borrow.Author.Tests.{le-ltb}
use Rattle.rules.specs.declared.Outcome.TheVariants.{Unchanged}
use Rattle.rules.specs.declared.Revision.{Revision}
use Rattle.rules.specs.Choice.{any, how_many}
use Rattle.rules.specs.Order.{same_rev}
use Rattle.rules.specs.Pull.{offer, offers_of, offers_in, offers}
use Rattle.rules.specs.Read.{leaves, documents_after}
use Rattle.rules.specs.Replica.{Id, Node, Tree, Document, Replica, document_of, tree_of, revisions_held, IsDocument, IsReplica}
use Rattle.rules.specs.Room.{revisions_most}
use Rattle.rules.specs.Union.{In, Gives, given, held, WellFormed, Compatible, Fits, Within, all_from}
use Rattle.rules.specs.Write.{Write, gives, is_new, lacks_parent, is_addition, count_new, adds, other_parent, agree, other_content, documents_full, revisions_full, sequence_spent}
use Rattle.rules.specs.Write.{form_refusals, write}
use Rattle.rules.proofs.ChoiceLaws.{holds_none}
use Rattle.rules.proofs.GivenLaws.{true_agree, same_differ, adds_any}
use Rattle.rules.proofs.MapLaws.{some_inj}
use Rattle.rules.proofs.OrderLaws.{bytes_order, rev_order, true_same_rev}
use Rattle.union.proofs.Lists.{in_left, in_right, in_map, map_in, any_none}
use Rattle.union.proofs.Trees.{Entry}
use Rattle.union.proofs.Count.{find_in, in_find}
use Rattle.union.proofs.Refusals.{Well, unrefused}
use Rattle.union.proofs.Held.{Own, document_of_lem}
use Rattle.union.proofs.Offers.{after_in, after_out, offers_out, offers_own, own_offers, offers_well, offers_range}

length-map : {A B : Type 0} (f : A → B) (xs : List A) → length (map f xs) ≡ length xs
length-map f [] = refl
length-map f (x ∷ xs) = ap suc (length-map f xs)

pub offers_in_lem : (ds : List (Id × Document)) (d : Id × Document) (w : Write) → In d ds → In w (offers_of d) → In w (offers_in ds)
unfolding offers_in
offers_in_lem [] d w m n = absurd m
offers_in_lem (x ∷ ds) d w (inl q) n = in_left w (offers_of x) (offers_in ds) (subst (λ (z : Id × Document). In w (offers_of z)) q n)
offers_in_lem (x ∷ ds) d w (inr m) n = in_right w (offers_of x) (offers_in ds) (offers_in_lem ds d w m n)

-- the revisions of documents, each with its document
tagged : Id → Tree → List (Id × Revision)
tagged i t = map (λ x. (i, x.0)) t

tags : List (Id × Document) → List (Id × Revision)
tags [] = []
tags (d ∷ ds) = tagged d.0 d.1.tree ++ tags ds

length_tags : (ds : List (Id × Document)) → length (tags ds) ≡ revisions_held ds
unfolding tags tagged revisions_held
length_tags [] = refl
length_tags (d ∷ ds) =
    let e = length_tags ds in
    let f = length-map {B = Id × Revision} (λ (x : Entry). (d.0, x.0)) d.1.tree in
    rw (length-append (tagged d.0 d.1.tree) (tags ds), f, e) refl

in_tags : (ds : List (Id × Document)) (d : Id × Document) (x : Entry) → In d ds → In x d.1.tree → In (d.0, x.0) (tags ds)
unfolding tags tagged
in_tags [] d x m n = absurd m
in_tags (e ∷ ds) d x (inl q) n =
    in_left (d.0, x.0) (tagged e.0 e.1.tree) (tags ds)
    (subst (λ (z : Id × Document). In (d.0, x.0) (tagged z.0 z.1.tree)) q (in_map (λ (y : Entry). (d.0, y.0)) x d.1.tree n))
in_tags (e ∷ ds) d x (inr m) n = in_right (d.0, x.0) (tagged e.0 e.1.tree) (tags ds) (in_tags ds d x m n)

module _ (r : Replica) (k : IsReplica r) where
  -- ---- the offers of its documents are those of a pull of all of it

  pub has_document : (d : Id × Document) → In d r.documents → IsDocument r d.0 d.1
  unfolding document_of
  has_document d m = k.documents d.0 d.1 (in_find bytes_order r.documents k.ascending d m)

  pulled : (w : Write) → In w (offers_in r.documents) → In w (offers all_from r)
  unfolding offers
  pulled w m =
      let u = offers_out r.documents w m in
      offers_in_lem (documents_after all_from r.documents) u.0 w (after_in all_from r.documents u.0 (has_document u.0 u.1).seq_least u.1) u.2

  unpulled : (w : Write) → In w (offers all_from r) → In w (offers_in r.documents)
  unfolding offers
  unpulled w m =
      let u = offers_out (documents_after all_from r.documents) w m in offers_in_lem r.documents u.0 w (after_out all_from r.documents u.0 u.1) u.2

  pub offered_form : (w : Write) → In w (offers_in r.documents) → Well w
  offered_form w m = offers_well r k all_from w (pulled w m)

  pub offered_formed : (w : Write) → In w (offers_in r.documents) → WellFormed w
  offered_formed w m =
      let f = offered_form w m in
      record { write = offers_range r k all_from w (pulled w m); form = holds_none (form_refusals w) (f.id_ok, (f.path_ok, (f.number_ok, tt))) }

  -- ---- what they give

  module _ (ws : List Write) (to : (w : Write) → In w ws → In w (offers_in r.documents)) where
    pub given_own : Within (given ws) (held r)
    given_own = record {
      revisions = λ i v m. (m.0, own i v m.0 m.1);
      parents = λ i v p m. (m.0, own i v m.0 m.1, m.2);
      contents = λ i v c m. (m.0, own i v m.0 m.1, m.2);
    }
      where
        own : (i : Id) (v : Revision) (n : Node) → Gives ws i v n → Own r i (v, n)
        own i v n g = offers_own r k all_from i (v, n) (g.0, pulled g.0 (to g.0 g.1), g.2, g.3)

    pub own_given : ((w : Write) → In w (offers_in r.documents) → In w ws) → Within (held r) (given ws)
    own_given back = record {
      revisions = λ i v m. (m.0, all i v m.0 m.1);
      parents = λ i v p m. (m.0, all i v m.0 m.1, m.2);
      contents = λ i v c m. (m.0, all i v m.0 m.1, m.2);
    }
      where
        all : (i : Id) (v : Revision) (n : Node) → Own r i (v, n) → Gives ws i v n
        all i v n m = let g = own_offers r k i (v, n) m in (g.0, back g.0 (unpulled g.0 g.1), g.2, g.3)

  -- what it holds agrees with itself, and fits
  pub held_compatible : Compatible (held r)
  held_compatible = record {
    parents = λ i v p q a b. some_inj (sym a.2 ∙ (ap (λ (n : Node). n.parent) (some_inj (sym a.1 ∙ b.1)) ∙ b.2));
    contents = λ i v c d a b. true_agree c d (some_inj (sym a.2 ∙ (ap (λ (n : Node). n.content) (some_inj (sym a.1 ∙ b.1)) ∙ b.2)));
  }

  pub held_fits : Fits (held r)
  unfolding document_of
  held_fits = record {
    ids = map (λ d. d.0) r.documents;
    ids_most = rw (length-map (λ (d : Id × Document). d.0) r.documents) k.documents_at_most;
    ids_all = λ i v m. let d = document_of_lem r k i (v, m.0) m.1 in
        in_map (λ (d : Id × Document). d.0) (i, d.0) r.documents (find_in bytes_order r.documents i d.0 d.1);
    revisions = tags r.documents;
    revisions_at_most = rw (length_tags r.documents) k.revisions_at_most;
    revisions_all = λ i v m. let d = document_of_lem r k i (v, m.0) m.1 in
        in_tags r.documents (i, d.0) (v, m.0) (find_in bytes_order r.documents i d.0 d.1) (find_in rev_order d.0.tree v m.0 d.2);
  }

  -- ---- written to the replica itself

  module _ (w : Write) (m : In w (offers_in r.documents)) where
    own : (x : Entry) → In x (gives w) → Own r w.id x
    own x n = offers_own r k all_from w.id x (w, pulled w m, refl, n)

    no_other_parent : any (other_parent (tree_of r w.id)) (gives w) ≡ false
    unfolding other_parent
    no_other_parent =
        any_none (other_parent (tree_of r w.id)) (gives w)
        (λ x n. rw (own x n) (same_differ same_rev x.1.parent x.1.parent (λ a b p q. true_same_rev a b (some_inj (sym p ∙ q)))))

    no_other_content : any (other_content (tree_of r w.id)) (gives w) ≡ false
    unfolding other_content
    no_other_content =
        any_none (other_content (tree_of r w.id)) (gives w)
        (λ x n. rw (own x n) (same_differ agree x.1.content x.1.content (λ a b p q. true_agree a b (some_inj (sym p ∙ q)))))

    lacks_none : (o : Option Revision) → lacks_parent o o ≡ false
    lacks_none None = refl
    lacks_none (Some p) = refl

    adds_none : adds r w ≡ false
    unfolding is_addition
    adds_none =
        adds_any r w ∙ any_none (is_addition (tree_of r w.id)) (gives w) (λ x n. rw (own x n) (lacks_none x.1.parent))

    none_of : {A : Type 0} (p : A → Bool) (xs : List A) → ((x : A) → In x xs → p x ≡ false) → how_many p xs ≡ 0
    unfolding how_many
    none_of p [] h = refl
    none_of p (x ∷ xs) h = rw (h x (inl refl), none_of p xs (λ y n. h y (inr n))) refl

    new_none : count_new (tree_of r w.id) (gives w) ≡ 0
    unfolding count_new is_new
    new_none = none_of (is_new (tree_of r w.id)) (gives w) (λ x n. rw (own x n) refl)

    -- the document is there
    documents_room : documents_full r w.id ≡ false
    unfolding documents_full document_of offers_of offer
    documents_room =
        let u = offers_out r.documents w m in
        let l = map_in (offer u.0.0 u.0.1.tree) w (leaves u.0.1.tree) u.2 in
        let e : w.id ≡ u.0.0 = ap (λ (z : Write). z.id) l.2 in
        let f = in_find bytes_order r.documents k.ascending u.0 u.1 in
        rw (e, f) refl

    revisions_room : revisions_full r w ≡ false
    unfolding revisions_full
    revisions_room = rw new_none (le-ltb revisions_most (revisions_held r.documents + 0) (let h = k.revisions_at_most in omega arith))

    seq_room : sequence_spent r w ≡ false
    unfolding sequence_spent
    seq_room = rw adds_none refl

    pub own_unchanged : write r w ≡ (Ok Unchanged, r)
    unfolding write
    own_unchanged =
        rw (
          unrefused r w (record {
            form = offered_form w m;
            four = no_other_parent;
            five = no_other_content;
            six = documents_room;
            seven = revisions_room;
            eight = seq_room;
          }),
          adds_none,
        ) refl
