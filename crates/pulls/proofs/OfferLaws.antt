-- One offer, and the leaves of a document offered from the last row down. Assumes nothing.
use mathlib.Core.Path.{◌≡◌, refl, sym, ap, ap₂, ◌∙◌, subst}
use Rattle.rules.specs.declared.Refusal.{Refusal}
use Rattle.rules.specs.declared.Outcome.{Outcome}
use Rattle.std.specs.Prelude.{None, Some, Result}
use mathlib.Core.List.{List, [], ◌∷◌, ◌++◌, map}
use mathlib.Core.Logic.{inl}
use Prim.Native.Nat.{ℕ, suc, ◌+◌, ◌-◌, ◌≤◌, ◌<◌}
use native.Mathlib.Omega.{arith}
use lib.ListN.{length, take}
use Rattle.rules.specs.declared.Content.{Content}
use Rattle.rules.specs.declared.Counts.{Counts}
use Rattle.rules.specs.declared.Revision.{Revision}
use Rattle.rules.specs.Bytes.{join, part, pieces}
use Rattle.rules.specs.Layout.{row_size}
use Rattle.rules.specs.Pull.{offer, offers_of, count, take_in}
use Rattle.rules.specs.Read.{LeafOf, leaf_in, leaves, path_of}
use Rattle.rules.specs.Replica.{Id, Tree, Document, Replica, document_of, HasContent, IsDocument}
use Rattle.rules.specs.Room.{revisions_most, hashes_most}
use Rattle.rules.specs.Union.{In}
use Rattle.rules.specs.Write.{Write, write}
use Rattle.rules.proofs.OrderLaws.{bytes_order}
use Rattle.octets.specs.Splice.{splice}
use Rattle.octets.proofs.SpliceLaws.{length-splice, part_splice_at}
use Rattle.union.specs.Said.{total}
use Rattle.union.proofs.Count.{in_find}
use Rattle.union.proofs.Lists.{in_right}
use Rattle.union.proofs.Offers.{path_room_lem}
use Rattle.union.proofs.Pulls.{count_one}
use Rattle.union.proofs.Winners.{leaf_content}
use Rattle.tree.specs.declared.table.Body.{Body}
use Rattle.tree.specs.Leaf.{leaf_of}
use Rattle.tree.specs.Path.{PathPut}
use Rattle.tree.specs.Rows.{row_at, node_at, rev_at}
use Rattle.tree.specs.Table.{tree_at, row_start}
use Rattle.tree.proofs.LeafLaws.{leaves_append, rev_of_row, leaf_none, leaf_one}
use Rattle.tree.proofs.TableLaws.{tree_last, tree_cut}
use Rattle.store.specs.Storage.{replica_of, IsStored}
use Rattle.store.specs.Documents.{documents_of, document_at, IsBody}
use Rattle.store.proofs.BodyLaws.{body_shows}
use Rattle.store.proofs.FitLaws.{stored_laid}
use Rattle.store.proofs.StoredLaws.{size_laid}
use Rattle.reads.proofs.NextLaws.{in_at}
use Rattle.writes.specs.Judge.{Wrote}
use Rattle.pulls.specs.Pulls.{path_room, Offered, Made, CanOffer, CanOfferAll}

-- ---- one offer

-- the scratch place has the path's hashes at its front
path_front : (p bs : List ℕ) (n : ℕ) → length bs ≡ n → n ≤ length p → take n (splice p 0 bs) ≡ bs
unfolding part
path_front p bs n e h = part_splice_at p 0 bs n (omega arith) (sym e)

pub record WasPut (u : Tree) (v : Revision) (p : List ℕ) (n : ℕ) (q : List ℕ) : Type 0 where
  pub within : n ≤ length q
  pub path : take n q ≡ join (path_of u v)
  pub room : length q ≡ length p

pub was_put : {u : Tree} {v : Revision} {p : List ℕ} {n : ℕ} {q : List ℕ} → length (path_of u v) ≤ hashes_most → path_room ≤ length p → PathPut u v 0 p n q
    → WasPut u v p n q
was_put {u} {v} {p} {n} {q} f h d =
    let bs = join (path_of u v) in
    let e = d.end in
    let z = d.size in
    let l : length q ≡ length p = ap length d.is ∙ length-splice p 0 bs (omega arith) in
    record { within = omega arith; path = ap (take n) d.is ∙ path_front p bs n (omega arith) (omega arith); room = l }

-- the target is what the write leaves
pub offer_made : {i : Id} {u : Tree} {v : Revision} {c : Content} {t p : List ℕ} {n : ℕ} {q : List ℕ} {r : Result Outcome Refusal} {left : List ℕ}
    → WasPut u v p n q → Wrote t (record { id = i; number = v.number; path = take n q; content = c }) r left
    → Made (offer i u (leaf_of v c)) t p r left q
unfolding offer
offer_made {i} {u} {v} {c} {t} {p} {n} {q} {r} {left} put wrote =
    let d : Wrote t (offer i u (leaf_of v c)) r left
    = subst (λ (bs : List ℕ). Wrote t (record { id = i; number = v.number; path = bs; content = c }) r left) put.path wrote in
    record { answer = d.answer; means = d.means; is_stored = d.is; room = put.room }

-- and the answer is counted
counted : {w : Write} {c after : Counts} {t p : List ℕ} {r : Result Outcome Refusal} {left q : List ℕ} → Made w t p r left q → after ≡ count r c
    → Offered (w ∷ []) c t p after left q
unfolding take_in
counted {c = c} made e = record {
  is = ap₂ {C = Counts × Replica} (λ a b. (a, b)) (ap (λ (x : Result Outcome Refusal). count x c) (sym made.answer) ∙ sym e) (sym made.means);
  is_stored = made.is_stored;
  room = made.room;
}

-- ---- the leaves of a document, from the last row down

-- the offers of the leaves of t, as revisions of document x
abbrev offers_from : Id × Document → Tree → List Write
offers_from x t = map (offer x.0 x.1.tree) (leaves t)

-- the rows below i of document d are still to be offered
pub record Left (s : List ℕ) (d : ℕ) (b : Body) (c₀ : Counts) (t₀ p₀ t p : List ℕ) (i : ℕ) (c : Counts) : Type 0 where
  pub within : i ≤ b.rows
  pub few : total c + length (leaves (tree_at b.base i s)) ≤ revisions_most
  pub is : take_in (offers_from (document_at (documents_of s) d) (tree_at b.base i s)) (c, replica_of t)
      ≡ take_in (offers_of (document_at (documents_of s) d)) (c₀, replica_of t₀)
  pub is_stored : IsStored t
  pub room : length p ≡ length p₀

-- row k is a leaf of document d, which i names, with the revision v and the content o
pub record LeafRow (s : List ℕ) (d : ℕ) (b : Body) (k : ℕ) (i : Id) (v : Revision) (o : Content) : Type 0 where
  pub named : i ≡ (document_at (documents_of s) d).0
  pub kind : (row_at (row_start b k) s).content ≡ Some o
  pub rev : v ≡ rev_at (row_start b k) s

module _ {s : List ℕ} {d : ℕ} {b : Body} (body : IsBody s d b) where
  abbrev x : Id × Document
  x = document_at (documents_of s) d

  abbrev below : ℕ → Tree
  below n = tree_at b.base n s

  tree_is : below b.rows ≡ x.1.tree
  tree_is = (body_shows s d b body).tree

  pub left_all : {c₀ : Counts} {t₀ p₀ : List ℕ} → CanOfferAll s d c₀ t₀ p₀ → Left s d b c₀ t₀ p₀ t₀ p₀ b.rows c₀
  unfolding offers_of
  left_all can = record {
    within = omega arith;
    few = rw tree_is can.few;
    is = rw tree_is;
    is_stored = can.target;
    room = refl;
  }

  module _ {c₀ : Counts} {t₀ p₀ t p : List ℕ} {i : ℕ} {c : Counts} (left : Left s d b c₀ t₀ p₀ t p i c) where
    pub sizes : CanOfferAll s d c₀ t₀ p₀ → length t ≡ length t₀
    sizes can = size_laid t (stored_laid t left.is_stored) ∙ sym (size_laid t₀ (stored_laid t₀ can.target))

    -- no row is left
    pub left_none : i ≡ 0 → Offered (offers_of x) c₀ t₀ p₀ c t p
    unfolding take_in leaves tree_at pieces
    left_none e = record {
      is = sym (subst (λ (n : ℕ). take_in (offers_from x (below n)) (c, replica_of t) ≡ take_in (offers_of x) (c₀, replica_of t₀)) e left.is);
      is_stored = left.is_stored;
      room = left.room;
    }

    module _ (some_row : 0 < i) where
      abbrev place : ℕ
      place = row_start b (i - 1)

      pub row_within : place + row_size ≤ length s
      row_within = let w = (body_shows s d b body).within in let l = left.within in omega arith

      next : leaves (below i) ≡ leaf_in (node_at place s) ++ leaves (below (i - 1))
      unfolding leaves
      next =
          let e : i ≡ i - 1 + 1 = omega arith in
          ap (λ (n : ℕ). leaves (below n)) e
          ∙ (ap leaves (tree_last b.base (i - 1) s) ∙ leaves_append (below (i - 1)) (node_at place s ∷ []))

      pub left_inner : (row_at place s).content ≡ None → Left s d b c₀ t₀ p₀ t p (i - 1) c
      left_inner k =
          let n : leaves (below i) ≡ leaves (below (i - 1)) = next ∙ rw (leaf_none place s k) in
          record {
            within = let l = left.within in omega arith;
            few = rw n at left.few;
            is = rw n at left.is;
            is_stored = left.is_stored;
            room = left.room;
          }

      module _ {h : Id} {v : Revision} {o : Content} (row : LeafRow s d b (i - 1) h v o) where
        next_leaf : leaves (below i) ≡ leaf_of v o ∷ leaves (below (i - 1))
        unfolding rev_at
        next_leaf = next ∙ rw (leaf_one place s o row.kind, rev_of_row place s, row.rev)

        fewer : length (leaves (below i)) ≡ suc (length (leaves (below (i - 1))))
        fewer = ap length next_leaf

        left_leaf : {c' : Counts} {t' p' : List ℕ} → Offered (offer h (below b.rows) (leaf_of v o) ∷ []) c t p c' t' p'
            → Left s d b c₀ t₀ p₀ t' p' (i - 1) c'
        unfolding take_in
        left_leaf {c'} {t'} made =
            let ws = offers_from x (below (i - 1)) in
            let w = offer x.0 x.1.tree (leaf_of v o) in
            let one : take_in (w ∷ []) (c, replica_of t) ≡ (c', replica_of t')
            = ap₂ (λ (h : Id) (u : Tree). take_in (offer h u (leaf_of v o) ∷ []) (c, replica_of t)) (sym row.named) (sym tree_is) ∙ made.is in
            let rest : take_in (w ∷ ws) (c, replica_of t) ≡ take_in (offers_of x) (c₀, replica_of t₀)
            = subst (λ (l : List LeafOf). take_in (map (offer x.0 x.1.tree) l) (c, replica_of t) ≡ take_in (offers_of x) (c₀, replica_of t₀)) next_leaf left.is in
            let up : suc (total c) ≡ total c'
            = sym (count_one (write (replica_of t) w).0 c) ∙ ap (λ (z : Counts × Replica). total z.0) one in
            record {
              within = let l = left.within in omega arith;
              few = let l = left.few in let n = fewer in omega arith;
              is = ap (take_in ws) (sym one) ∙ rest;
              is_stored = made.is_stored;
              room = made.room ∙ left.room;
            }

        -- whatever its answer was, the offer is counted and the rows below are left
        pub left_counted : {c' : Counts} {t' p' : List ℕ} {a : Result Outcome Refusal} → Made (offer h (below b.rows) (leaf_of v o)) t p a t' p' → c' ≡ count a c
            → Left s d b c₀ t₀ p₀ t' p' (i - 1) c'
        left_counted made q = left_leaf (counted made q)

        leaf_in_lem : In (leaf_of v o) (leaves x.1.tree)
        leaf_in_lem =
            let behind : Tree = tree_at (row_start b i) (b.rows - i) s in
            let cut : below b.rows ≡ below i ++ behind
            = tree_cut b.base i (b.rows - i) b.rows s (let l = left.within in omega arith) in
            let all : leaves x.1.tree ≡ leaves behind ++ leaves (below i)
            = ap leaves (sym tree_is ∙ cut) ∙ leaves_append (below i) behind in
            rw all (in_right (leaf_of v o) (leaves behind) (leaves (below i)) (rw next_leaf (inl refl)))

        pub can_count : total c < revisions_most
        can_count = let n = fewer in let l = left.few in omega arith

        pub can_offer : CanOfferAll s d c₀ t₀ p₀ → CanOffer s b v t p
        unfolding document_of
        can_offer can =
            let r = replica_of s in
            let z = can.source.replica in
            let m : In x r.documents = in_at (documents_of s) d can.within in
            let is : IsDocument r x.0 x.1 = z.documents x.0 x.1 (in_find bytes_order r.documents z.ascending x m) in
            let has : HasContent x.1.tree v o = leaf_content x.1.tree is.tree.ascending (leaf_of v o) leaf_in_lem in
            record {
              rows = record { within = (body_shows s d b body).within; ascending = rw tree_is is.tree.ascending };
              few = rw tree_is (path_room_lem r z x.0 x.1 m is (leaf_of v o) has);
              room = let e₁ = can.room in let e₂ = left.room in omega arith;
              target = left.is_stored;
            }
