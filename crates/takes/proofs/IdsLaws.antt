-- Laws of the ids of an array, read one after the other. Assumes nothing.
use mathlib.Core.List.{List, [], ◌∷◌, ◌++◌}
use Rattle.rules.proofs.MapLaws.{some_inj}
use Rattle.std.specs.Prelude.{Option, None, Some}
use mathlib.Core.Path.{◌≡◌, refl, sym, ap, ◌∙◌, subst}
use Prim.Native.Nat.{ℕ, suc, ◌+◌, ◌*◌, ◌-◌, ◌≤◌, ◌<◌, min}
use native.Mathlib.Omega.{arith}
use lib.ListN.{length, take, drop, get_or}
use Rattle.rules.specs.Replica.{Hash}
use Rattle.rules.specs.Room.{hash_size, hashes_most}
use Rattle.octets.specs.Splice.{splice}
use Rattle.json_text.specs.Grammar.{◌then◌}
use Rattle.json_text.specs.Members.{Json, array_of, value_of}
use Rattle.values.specs.declared.Next.{Next}
use Rattle.values.specs.declared.Next.TheVariants as next
use Rattle.values.specs.Places.{ClosedAt, FirstAt, Opens, MoreAt, Follows}
use Rattle.values.specs.Reading.{Onward, Leads, NoList}
use Rattle.values.proofs.ReadingLaws.{arrays}
use Rattle.values.proofs.ItemLaws.{walk_none, walk_first, walk_more, walk_last, walk_wrong}
use Rattle.lines.specs.Said.{both, each, of_string, read_hash}
use Rattle.lines.proofs.SaidLaws.{hash_size_lem}
use Rattle.takes.specs.Path.{laid_room, hash_in, Laid, IdsAt, IdsRead}
use Rattle.takes.proofs.LaidLaws.{laid_none, laid_more}
use Rattle.takes.proofs.HashLaws.{hash_parts, HashItem, hash_item, no_hash}

-- ---- what f gives for each

module _ {A B : Type 0} (f : A → Option B) where
  both_none : (o : Option B) → both {C = List B} ◌∷◌ o None ≡ None
  both_none None = refl
  both_none (Some b) = refl

  each_more : (xs : List A) (x : A) (ys : List B) (y : B) → each f xs ≡ Some ys → f x ≡ Some y → each f (xs ++ (x ∷ [])) ≡ Some (ys ++ (y ∷ []))
  unfolding each
  each_more [] x ys y e g = let z : ys ≡ [] = cc in rw (g, z)
  each_more (a ∷ xs) x ys y e g = go (λ bs r. each_more xs x bs y r g) (f a) (each f xs) refl refl e
    where
      go : ((bs : List B) → each f xs ≡ Some bs → each f (xs ++ (x ∷ [])) ≡ Some (bs ++ (y ∷ [])))
          → (o : Option B) (p : Option (List B)) → f a ≡ o → each f xs ≡ p → both ◌∷◌ o p ≡ Some ys → both ◌∷◌ (f a) (each f (xs ++ (x ∷ []))) ≡ Some (ys ++ (y ∷ []))
      go ih None p q r k = let z : ◌≡◌ {A = ℕ} 0 1 = cc in absurd (omega arith)
      go ih (Some b) None q r k = let z : ◌≡◌ {A = ℕ} 0 1 = cc in absurd (omega arith)
      go ih (Some b) (Some bs) q r k = let z : ys ≡ b ∷ bs = cc in rw (q, ih bs r, z)

  each_stop : (xs : List A) (x : A) (rest : List A) → f x ≡ None → each f (xs ++ (x ∷ rest)) ≡ None
  unfolding each
  each_stop [] x rest g = rw g
  each_stop (a ∷ xs) x rest g = rw (each_stop xs x rest g) (both_none (f a))

-- ---- the array

are_end : {n m e x : ℕ} → ◌≡◌ {A = Option (ℕ × ℕ)} (Some (n, e)) (Some (m, x)) → e ≡ x
are_end q = ap (λ (x : ℕ × ℕ). x.1) (some_inj q)

no_end : {A : Type 0} {n e : ℕ} → ◌≡◌ {A = Option (ℕ × ℕ)} None (Some (n, e)) → A
no_end q = let z : ◌≡◌ {A = ℕ} 0 1 = cc in absurd (omega arith)

-- the values of done are hashes, and those are laid down
pub record ReadingIds (d : ℕ) (s : List ℕ) (at i n : ℕ) (path : List ℕ) : Type 0 where
  pub done : List (Json (suc d))
  pub hashes : List Hash
  pub leads : Leads (value_of (suc d)) 93 (array_of (value_of (suc d))) s at i done
  pub said : each (of_string read_hash) done ≡ Some hashes
  pub laid : Laid hashes n path

module _ {d : ℕ} {s : List ℕ} {at : ℕ} {path : List ℕ} (bracket : get_or s at 0 ≡ 91) (room : length path ≡ laid_room) where
  pub no_ids : (r : Next) (e : ℕ) → Opens s at 93 r → r ≡ next.End e → IdsRead d s at path (Some (0, e)) path
  unfolding each IdsAt
  no_ids r e o f =
      let c : ClosedAt s (at + 1) 93 e = subst (Opens s at 93) f o in
      let l = walk_none (arrays (suc d)) bracket c in
      record { room = refl; say = λ vs b p. ([], rw (l.only vs b p).0, laid_none path room); ends = λ n x q. ([], rw (sym (are_end q)) l) }

  pub ids_start : (r : Next) (i : ℕ) → Opens s at 93 r → r ≡ next.Item i → ReadingIds d s at i 0 path
  unfolding each
  ids_start r i o f =
      let c : FirstAt s at 93 i = subst (Opens s at 93) f o in
      record { done = []; hashes = []; leads = walk_first (arrays (suc d)) bracket c; said = refl; laid = laid_none path room }

-- a hash that is laid down
pub record Here (s : List ℕ) (i : ℕ) (path : List ℕ) (at : ℕ) (after : List ℕ) : Type 0 where
  pub hash : Hash
  pub is : hash_in s i ≡ Some hash
  pub put : after ≡ splice path at hash

module _ {d : ℕ} {s : List ℕ} {at i n : ℕ} {path : List ℕ} (w : ReadingIds d s at i n path) (path₀ : List ℕ) (room₀ : length path₀ ≡ laid_room) where
  -- no hash, and so wrong
  pub id_wrong : hash_in s i ≡ None → IdsRead d s at path₀ None path
  unfolding Onward ◌then◌ IdsAt
  id_wrong e =
      record {
        room = w.laid.room ∙ sym room₀;
        say = λ vs b p.
            (let t = w.leads.to vs b p in
            rw t.are (each_stop (of_string read_hash) w.done t.next t.rest (no_hash s i d t.next t.text.0 w.leads.within e t.text.1.0)));
        ends = λ n x q. no_end q;
      }

  module _ {k : ℕ} {after' : List ℕ} (place : k ≡ min n hashes_most) (h : Here s i path (k * hash_size) after') where
    stands_here : HashItem s i d h.hash
    stands_here = hash_item s i d h.hash (hash_parts s i h.hash h.is)

    now_done : List (Json (suc d))
    now_done = w.done ++ (stands_here.value ∷ [])

    now_hashes : List Hash
    now_hashes = w.hashes ++ (h.hash ∷ [])

    now_said : each (of_string read_hash) now_done ≡ Some now_hashes
    unfolding now_done now_hashes stands_here
    now_said = each_more (of_string read_hash) w.done stands_here.value w.hashes h.hash w.said stands_here.said

    now_laid : Laid now_hashes (k + 1) after'
    unfolding now_hashes
    now_laid = laid_more w.hashes n k path after' h.hash w.laid (hash_size_lem (take 32 (drop (i + 1) s)) (hash_parts s i h.hash h.is).hash) place h.put

    pub ids_on : (r : Option Next) (j : ℕ) → Follows s (i + 34) 93 r → r ≡ Some (next.Item j) → ReadingIds d s at j (k + 1) after'
    unfolding now_done stands_here
    ids_on r j o f = record {
      done = now_done;
      hashes = now_hashes;
      leads = walk_more (arrays (suc d)) w.leads stands_here.item (subst (Follows s (i + 34) 93) f o);
      said = now_said;
      laid = now_laid;
    }

    pub ids_last : (r : Option Next) (e : ℕ) → Follows s (i + 34) 93 r → r ≡ Some (next.End e) → IdsRead d s at path₀ (Some (k + 1, e)) after'
    unfolding now_done stands_here IdsAt
    ids_last r e o f =
        let l = walk_last (arrays (suc d)) w.leads stands_here.item (subst (Follows s (i + 34) 93) f o) in
        record { room = now_laid.room ∙ sym room₀; say = λ vs b p. (now_hashes, ap (each (of_string read_hash)) (l.only vs b p).0 ∙ now_said, now_laid); ends = λ m x q. (now_done, rw (sym (are_end q)) l) }

    pub ids_no_end : (r : Option Next) → Follows s (i + 34) 93 r → r ≡ None → IdsRead d s at path₀ None after'
    unfolding stands_here NoList IdsAt
    ids_no_end r o f =
        let l = walk_wrong (arrays (suc d)) w.leads stands_here.item (subst (Follows s (i + 34) 93) f o) in
        record { room = now_laid.room ∙ sym room₀; say = λ vs b p. absurd (l vs b p); ends = λ m x q. no_end q }

    pub ids_within : i + 34 ≤ length s
    ids_within = (hash_parts s i h.hash h.is).within

pub ids_fall : (s : List ℕ) (i : ℕ) (r : Option Next) (j : ℕ) → Follows s (i + 34) 93 r → r ≡ Some (next.Item j) → length s - j < length s - i
ids_fall s i r j o f =
    let c : MoreAt s (i + 34) j = subst (Follows s (i + 34) 93) f o in
    let a = c.white.from in
    let b = c.spaces.from in
    let e = c.spaces.within in
    omega arith
