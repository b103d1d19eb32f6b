-- A whole replica put out and taken in: into a fresh one it leaves the union of what was held, into itself it changes nothing. Assumes nothing.
use mathlib.Core.Path.{◌≡◌, refl, sym, ap, ap₂, ◌∙◌, subst}
use Rattle.rules.specs.declared.Refusal.{Refusal}
use Rattle.rules.specs.declared.Outcome.{Outcome}
use Rattle.std.specs.Prelude.{Result, Ok}
use mathlib.Core.List.{List, [], ◌∷◌}
use mathlib.Core.Logic.{◌⊎◌, inl, inr, ◌↔◌}
use Prim.Native.Nat.{ℕ}
use Rattle.rules.specs.declared.Outcome.TheVariants.{Unchanged}
use Rattle.rules.specs.Bytes.{join}
use Rattle.rules.specs.Pull.{offer, offers_of, offers_in}
use Rattle.rules.specs.Read.{LeafOf, leaves}
use Rattle.rules.specs.Replica.{Id, Document, Replica, fresh, IsReplica}
use Rattle.rules.specs.Union.{In, given, held, IsUnion, SameButSeq, WellFormed, write_all, IsAccepted, AllAccepted}
use Rattle.rules.specs.Write.{Write, write}
use Rattle.rules.proofs.MapLaws.{some_inj}
use Rattle.union.specs.Said.{answers}
use Rattle.union.proofs.Lists.{in_left, in_right, in_cases, in_map, map_in}
use Rattle.union.proofs.Sets.{compatible_within, fits_within}
use Rattle.union.proofs.Unions.{alike, one_union, union, union_alike}
use Rattle.union.proofs.Held.{Own, holds_own, closed_own}
use Rattle.union.proofs.Orders.{made, union_of_writes}
use Rattle.union.proofs.Offers.{offers_out}
use Rattle.values.proofs.ReadingLaws.{line_one}
use Rattle.lines.specs.Take.{read_line, as_write, TakesIn}
use Rattle.lines.specs.Put.{leaf_line, lines_text}
use Rattle.lines.specs.Whole.{lines_of, lines_in, AllWritable, TakesAll, Copied, Stayed}
use Rattle.lines.proofs.RoundTrip.{leaf_members, leaf_said, put_holds, put_said, said_offer, put_comes_back, put_takes}
use Rattle.lines.proofs.OwnLaws.{has_document, offers_in_lem, offered_formed, given_own, own_given, held_compatible, held_fits, own_unchanged}

-- the text of a document is its lines
pub lines_text_lem : (d : Id × Document) → lines_text d.0 d.1.tree ≡ join (lines_of d)
unfolding lines_text lines_of
lines_text_lem d = refl

pub lines_out : (ds : List (Id × Document)) (l : List ℕ) → In l (lines_in ds) → (d : Id × Document) × In d ds × In l (lines_of d)
unfolding lines_in
lines_out [] l m = absurd m
lines_out (d ∷ ds) l m = go (in_cases l (lines_of d) (lines_in ds) m) (λ n. lines_out ds l n)
  where
    go : In l (lines_of d) ⊎ In l (lines_in ds) → (In l (lines_in ds) → (e : Id × Document) × In e ds × In l (lines_of e)) → (e : Id × Document) × In e (d ∷ ds) × In l (lines_of e)
    go (inl n) ih = (d, inl refl, n)
    go (inr n) ih = let u = ih n in (u.0, inr u.1, u.2)

lines_in_lem : (ds : List (Id × Document)) (d : Id × Document) (l : List ℕ) → In d ds → In l (lines_of d) → In l (lines_in ds)
unfolding lines_in
lines_in_lem [] d l m n = absurd m
lines_in_lem (x ∷ ds) d l (inl q) n = in_left l (lines_of x) (lines_in ds) (subst (λ (z : Id × Document). In l (lines_of z)) q n)
lines_in_lem (x ∷ ds) d l (inr m) n = in_right l (lines_of x) (lines_in ds) (lines_in_lem ds d l m n)

-- the answers of accepted writes
all_accepted : (ws : List Write) (r : Replica) → AllAccepted ws r → (x : Result Outcome Refusal) → In x (answers r ws) → IsAccepted x
unfolding answers
all_accepted [] r h x m = absurd m
all_accepted (w ∷ ws) r h x (inl q) = subst IsAccepted (sym q) h.0
all_accepted (w ∷ ws) r h x (inr m) = all_accepted ws (write r w).1 h.1 x m

-- writes that change nothing
all_unchanged : (ws : List Write) (r : Replica) → ((w : Write) → In w ws → write r w ≡ (Ok Unchanged, r)) → Stayed r (answers r ws) (write_all ws r)
unfolding answers write_all
all_unchanged [] r h = record { unchanged = λ x m. absurd m; same = refl }
all_unchanged (w ∷ ws) r h =
    let e = h w (inl refl) in
    let rest = all_unchanged ws r (λ v m. h v (inr m)) in
    rw e (record { unchanged = λ x m. elim m [ inl q ↦ q | inr n ↦ rest.unchanged x n ]; same = rest.same })

module _ (r : Replica) (k : IsReplica r) (ids : AllWritable r) where
  -- a line of the replica: its document, its leaf and its offer
  record IsLine (l : List ℕ) (w : Write) : Type 0 where
    document : Id × Document
    in_replica : In document r.documents
    leaf : LeafOf
    in_document : In leaf (leaves document.1.tree)
    text : l ≡ leaf_line document.0 document.1.tree leaf
    offered : w ≡ offer document.0 document.1.tree leaf

  is_line : (l : List ℕ) → In l (lines_in r.documents) → (w : Write) × IsLine l w
  unfolding lines_of
  is_line l m =
      let u = lines_out r.documents l m in
      let a = map_in (leaf_line u.0.0 u.0.1.tree) l (leaves u.0.1.tree) u.2 in
      (offer u.0.0 u.0.1.tree a.0, record { document = u.0; in_replica = u.1; leaf = a.0; in_document = a.1; text = a.2; offered = refl })

  line_offer : (l : List ℕ) (w : Write) → IsLine l w → In w (offers_in r.documents)
  unfolding offers_of
  line_offer l w x =
      offers_in_lem r.documents x.document w x.in_replica
      (subst (λ (z : Write). In z (offers_of x.document)) (sym x.offered)
      (in_map (offer x.document.0 x.document.1.tree) x.leaf (leaves x.document.1.tree) x.in_document))

  offer_line : (w : Write) → In w (offers_in r.documents) → (l : List ℕ) × IsLine l w × In l (lines_in r.documents)
  unfolding offers_of lines_of
  offer_line w m =
      let u = offers_out r.documents w m in
      let a = map_in (offer u.0.0 u.0.1.tree) w (leaves u.0.1.tree) u.2 in (
        leaf_line u.0.0 u.0.1.tree a.0,
        record { document = u.0; in_replica = u.1; leaf = a.0; in_document = a.1; text = refl; offered = a.2 },
        lines_in_lem r.documents u.0 _ u.1 (in_map (leaf_line u.0.0 u.0.1.tree) a.0 (leaves u.0.1.tree) a.1),
      )

  line_taken : (l : List ℕ) (w : Write) → IsLine l w → (s : Replica) (o : Result Outcome Refusal × Replica) → TakesIn s l o → o ≡ write s w
  line_taken l w x s o t =
      let d = x.document in
      put_comes_back d.0 d.1.tree (has_document r k d x.in_replica).tree x.leaf x.in_document (ids d x.in_replica) s o
      (subst (λ (z : List ℕ). TakesIn s z o) x.text t)
      ∙ ap (write s) (sym x.offered)

  line_takes : (l : List ℕ) (w : Write) → IsLine l w → (s : Replica) → TakesIn s l (write s w)
  line_takes l w x s =
      let d = x.document in
      subst (λ (z : List ℕ). TakesIn s z (write s w)) (sym x.text)
      (subst (λ (z : Write). TakesIn s (leaf_line d.0 d.1.tree x.leaf) (write s z)) (sym x.offered)
      (put_takes d.0 d.1.tree (has_document r k d x.in_replica).tree x.leaf x.in_document (ids d x.in_replica) s))

  -- one offer for a line
  line_once : (l : List ℕ) (v w : Write) → IsLine l v → IsLine l w → v ≡ w
  line_once l v w x y =
      let d = x.document in
      let e = y.document in
      let td = (has_document r k d x.in_replica).tree in
      let te = (has_document r k e y.in_replica).tree in
      let hd = put_holds d.0 d.1.tree td x.leaf x.in_document (ids d x.in_replica) in
      let he = put_holds e.0 e.1.tree te y.leaf y.in_document (ids e y.in_replica) in
      let same = line_one (leaf_members d.0 d.1.tree x.leaf) (leaf_members e.0 e.1.tree y.leaf) (leaf_line d.0 d.1.tree x.leaf) hd
      (rw (sym y.text ∙ x.text) at he) in
      let sd = put_said d.0 d.1.tree td x.leaf x.in_document (ids d x.in_replica) in
      let se = put_said e.0 e.1.tree te y.leaf y.in_document (ids e y.in_replica) in
      let said : leaf_said d.0 d.1.tree x.leaf ≡ leaf_said e.0 e.1.tree y.leaf = some_inj (sym sd ∙ (ap read_line same ∙ se)) in
      x.offered
      ∙ (sym (said_offer d.0 d.1.tree td x.leaf x.in_document (ids d x.in_replica))
      ∙ (ap as_write said ∙ (said_offer e.0 e.1.tree te y.leaf y.in_document (ids e y.in_replica) ∙ sym y.offered)))

  -- ---- lines one after the other

  -- their offers
  offers_for : (ls : List (List ℕ)) → ((l : List ℕ) → In l ls → In l (lines_in r.documents)) → List Write
  offers_for [] f = []
  offers_for (l ∷ ls) f = (is_line l (f l (inl refl))).0 ∷ offers_for ls (λ m i. f m (inr i))

  for_out : (ls : List (List ℕ)) (f : (l : List ℕ) → In l ls → In l (lines_in r.documents)) (w : Write) → In w (offers_for ls f) → In w (offers_in r.documents)
  unfolding offers_for
  for_out [] f w m = absurd m
  for_out (l ∷ ls) f w (inl q) = let y = is_line l (f l (inl refl)) in subst (λ (z : Write). In z (offers_in r.documents)) (sym q) (line_offer l y.0 y.1)
  for_out (l ∷ ls) f w (inr m) = for_out ls (λ n i. f n (inr i)) w m

  for_in : (ls : List (List ℕ)) (f : (l : List ℕ) → In l ls → In l (lines_in r.documents)) (l : List ℕ) (w : Write) → In l ls → IsLine l w → In w (offers_for ls f)
  unfolding offers_for
  for_in [] f l w m x = absurd m
  for_in (n ∷ ls) f l w (inl q) x =
      let y = is_line n (f n (inl refl)) in inl (line_once n w y.0 (subst (λ (z : List ℕ). IsLine z w) q x) y.1)
  for_in (n ∷ ls) f l w (inr m) x = inr (for_in ls (λ n i. f n (inr i)) l w m x)

  all_taken : (ls : List (List ℕ)) (f : (l : List ℕ) → In l ls → In l (lines_in r.documents)) (s : Replica) (xs : List (Result Outcome Refusal)) (left : Replica)
      → TakesAll s ls xs left → (xs ≡ answers s (offers_for ls f)) × (left ≡ write_all (offers_for ls f) s)
  unfolding offers_for answers write_all
  all_taken [] f s [] left t = (refl, t)
  all_taken [] f s (x ∷ xs) left t = absurd t
  all_taken (l ∷ ls) f s [] left t = absurd t
  all_taken (l ∷ ls) f s (x ∷ xs) left t =
      let y = is_line l (f l (inl refl)) in
      let e : ◌≡◌ {A = Result Outcome Refusal × Replica} (x, t.0) (write s y.0) = line_taken l y.0 y.1 s (x, t.0) t.1 in
      let a : x ≡ (write s y.0).0 = ap (λ (z : Result Outcome Refusal × Replica). z.0) e in
      let b : t.0 ≡ (write s y.0).1 = ap (λ (z : Result Outcome Refusal × Replica). z.1) e in
      let rest = all_taken ls (λ n i. f n (inr i)) (write s y.0).1 xs left (subst (λ (m : Replica). TakesAll m ls xs left) b t.2) in
      (ap₂ ◌∷◌ a rest.0, rest.1)

  all_takes : (ls : List (List ℕ)) (f : (l : List ℕ) → In l ls → In l (lines_in r.documents)) (s : Replica)
      → TakesAll s ls (answers s (offers_for ls f)) (write_all (offers_for ls f) s)
  unfolding offers_for answers write_all
  all_takes [] f s = refl
  all_takes (l ∷ ls) f s =
      let y = is_line l (f l (inl refl)) in ((write s y.0).1, line_takes l y.0 y.1 s, all_takes ls (λ n i. f n (inr i)) (write s y.0).1)

  -- lines of the replica can be taken into any
  pub whole_takes : (ls : List (List ℕ)) → ((l : List ℕ) → In l ls → In l (lines_in r.documents))
      → (s : Replica) → (xs : List (Result Outcome Refusal)) × (left : Replica) × TakesAll s ls xs left
  whole_takes ls f s = (answers s (offers_for ls f), write_all (offers_for ls f) s, all_takes ls f s)

  -- a whole replica put out and taken into a fresh one leaves exactly the union of what it held, in
  -- whatever order its lines come and with any repeats
  pub whole_copied : (ls : List (List ℕ)) → ((l : List ℕ) → In l ls ↔ In l (lines_in r.documents))
      → (xs : List (Result Outcome Refusal)) (left : Replica) → TakesAll fresh ls xs left → Copied r xs left
  whole_copied ls h xs left t = record {
    accepted = λ x m. all_accepted ws fresh u.0 x (subst (λ (z : List (Result Outcome Refusal)). In x z) a.0 m);
    union = subst (λ (z : Replica). IsUnion z (held r)) (sym a.1) holds;
    same = subst (λ (z : Replica). SameButSeq z r) (sym a.1)
        (one_union (write_all ws fresh) r (held r) (made ws formed) k holds (union r (Own r) (holds_own r k) (closed_own r k)));
  }
    where
      f : (l : List ℕ) → In l ls → In l (lines_in r.documents)
      f l m = (h l).0 m

      ws : List Write
      ws = offers_for ls f

      back : (w : Write) → In w (offers_in r.documents) → In w ws
      back w m = let y = offer_line w m in for_in ls f y.0 w ((h y.0).1 y.2) y.1

      formed : (w : Write) → In w ws → WellFormed w
      formed w m = offered_formed r k w (for_out ls f w m)

      u : AllAccepted ws fresh × IsUnion (write_all ws fresh) (given ws)
      u =
          let i = given_own r k ws (for_out ls f) in
          union_of_writes ws formed (compatible_within (given ws) (held r) i (held_compatible r k)) (fits_within (given ws) (held r) i (held_fits r k))

      holds : IsUnion (write_all ws fresh) (held r)
      holds =
          union_alike (write_all ws fresh) (given ws) (held r)
          (alike (given ws) (held r) (given_own r k ws (for_out ls f)) (own_given r k ws (for_out ls f) back)) u.1

      a : (xs ≡ answers fresh ws) × (left ≡ write_all ws fresh)
      a = all_taken ls f fresh xs left t

  -- taken into the replica itself, it changes nothing
  pub whole_stays : (ls : List (List ℕ)) → ((l : List ℕ) → In l ls → In l (lines_in r.documents))
      → (xs : List (Result Outcome Refusal)) (left : Replica) → TakesAll r ls xs left → Stayed r xs left
  whole_stays ls f xs left t =
      let a = all_taken ls f r xs left t in
      let s = all_unchanged (offers_for ls f) r (λ w m. own_unchanged r k w (for_out ls f w m)) in
      record { unchanged = λ x m. s.unchanged x (subst (λ (z : List (Result Outcome Refusal)). In x z) a.0 m); same = a.1 ∙ s.same }
