-- Adding a path oldest first leaves what adding it newest first leaves. Assumes nothing.
use mathlib.Core.Path.{◌≡◌, refl, sym, ap, ◌∙◌, subst}
use Rattle.std.specs.declared.cmp.Ordering.TheVariants.{Less, Equal, Greater}
use Rattle.std.specs.declared.cmp.Ordering.{Ordering}
use mathlib.Core.List.{List, [], ◌∷◌, ◌++◌}
use mathlib.Core.Logic.{◌⊎◌, inl, inr, ⊎_elim}
use Rattle.std.specs.Prelude.{Option, None, Some}
use Prim.Native.Nat.{ℕ, zero, suc, ◌+◌, ◌≤◌, ◌<◌}
use native.Mathlib.Omega.{arith}
use lib.ListN.{length, take, drop}
use Rattle.rules.specs.declared.Content.{Content}
use Rattle.rules.specs.declared.Revision.{Revision}
use Rattle.rules.specs.Map.{Map, find, alter, Ascending}
use Rattle.rules.specs.Order.{order_rev}
use Rattle.rules.specs.Replica.{Hash, Node, Tree}
use Rattle.rules.specs.Choice.{pick, how_many}
use Rattle.rules.specs.Write.{along, learn, add_all, is_none, is_new, count_new}
use Rattle.rules.proofs.OrderLaws.{TotalOrder, less≢equal, equal≢greater, rev_order}
use Rattle.rules.proofs.MapLaws.{find_same, find_other, ascending_alter, ext}
use Rattle.writes.specs.Path.{add_last}

equal_or_not : (o : Ordering) → (o ≡ Equal) ⊎ (o ≡ Equal → ⊥)
equal_or_not Less = inr less≢equal
equal_or_not Equal = inl refl
equal_or_not Greater = inr (λ e. equal≢greater (sym e))

-- ---- altering at two keys

module _ {K A : Type 0} (O : TotalOrder K) where
  abbrev has : K → Map K A → Option A
  has k t = find O.cmp k t

  -- altered at both, the later does not touch what the earlier left
  first_kept : (j k : K) (f g : Option A → A) (t : Map K A) → (O.cmp j k ≡ Equal → ⊥)
      → has j (alter O.cmp k g (alter O.cmp j f t)) ≡ has j (alter O.cmp j f (alter O.cmp k g t))
  first_kept j k f g t n =
      find_other O j k g (alter O.cmp j f t) n
      ∙ (find_same O j f t
      ∙ (ap (λ (o : Option A). Some (f o)) (sym (find_other O j k g t n)) ∙ sym (find_same O j f (alter O.cmp k g t))))

  swap_at : (j k : K) (f g : Option A → A) (t : Map K A) → (O.cmp j k ≡ Equal → ⊥) → (O.cmp k j ≡ Equal → ⊥) → (v : K)
      → has v (alter O.cmp j f (alter O.cmp k g t)) ≡ has v (alter O.cmp k g (alter O.cmp j f t))
  swap_at j k f g t n m v =
      ⊎_elim
      (λ e. subst (λ (x : K). has x (alter O.cmp j f (alter O.cmp k g t)) ≡ has x (alter O.cmp k g (alter O.cmp j f t)))
      (sym (O.same v j e)) (sym (first_kept j k f g t n)))
      (λ vj. ⊎_elim
      (λ e. subst (λ (x : K). has x (alter O.cmp j f (alter O.cmp k g t)) ≡ has x (alter O.cmp k g (alter O.cmp j f t)))
      (sym (O.same v k e)) (first_kept k j g f t m))
      (λ vk. find_other O v j f (alter O.cmp k g t) vj
      ∙ (find_other O v k g t vk ∙ sym (find_other O v k g (alter O.cmp j f t) vk ∙ find_other O v j f t vj)))
      (equal_or_not (O.cmp v k)))
      (equal_or_not (O.cmp v j))

  alter_swap : (j k : K) (f g : Option A → A) (t : Map K A) → Ascending O.cmp t → (O.cmp j k ≡ Equal → ⊥) → (O.cmp k j ≡ Equal → ⊥)
      → alter O.cmp j f (alter O.cmp k g t) ≡ alter O.cmp k g (alter O.cmp j f t)
  alter_swap j k f g t a n m =
      ext O _ _ (ascending_alter O j f _ (ascending_alter O k g t a)) (ascending_alter O k g _ (ascending_alter O j f t a)) (swap_at j k f g t n m)

-- ---- revisions with other numbers

number_differs : (a b : Revision) → (a.number.0 ≡ b.number.0 → ⊥) → order_rev a b ≡ Equal → ⊥
number_differs a b n e = n (ap (λ (v : Revision). v.number.0) (rev_order.same a b e))

-- all are numbered below n
abbrev pub Lower : ℕ → List (Revision × Node) → Type 0
Lower n [] = Unit {0}
Lower n (g ∷ gs) = (g.0.number.0 < n) × Lower n gs

-- each is numbered above those after it
abbrev pub Falls : List (Revision × Node) → Type 0
Falls [] = Unit {0}
Falls (g ∷ gs) = Lower g.0.number.0 gs × Falls gs

lower_along : (n m : ℕ) (hs : List Hash) (c : Option Content) → length hs ≤ n → n < m → Lower m (along n hs c)
unfolding along
lower_along n m [] c h l = tt
lower_along zero m (x ∷ hs) c h l = absurd (omega arith)
lower_along (suc n) m (x ∷ hs) c h l = (l, lower_along n m hs None (omega arith) (omega arith))

pub falls_along : (n : ℕ) (hs : List Hash) (c : Option Content) → length hs ≤ n → Falls (along n hs c)
unfolding along
falls_along n [] c h = tt
falls_along zero (x ∷ hs) c h = absurd (omega arith)
falls_along (suc n) (x ∷ hs) c h = (lower_along n (suc n) hs None (omega arith) (omega arith), falls_along n hs None (omega arith))

-- ---- the oldest first

pub ascending_add_last : (gs : List (Revision × Node)) (t : Tree) → Ascending order_rev t → Ascending order_rev (add_last gs t)
unfolding add_last
ascending_add_last [] t a = a
ascending_add_last (g ∷ gs) t a = ascending_alter rev_order g.0 (learn g.1) (add_last gs t) (ascending_add_last gs t a)

-- what is added above all others may be added first
past : (v : Revision) (f : Option Node → Node) (gs : List (Revision × Node)) (t : Tree) → Ascending order_rev t → Lower v.number.0 gs
    → add_last gs (alter order_rev v f t) ≡ alter order_rev v f (add_last gs t)
unfolding add_last
past v f [] t a l = refl
past v f (g ∷ gs) t a l =
    let h = l.0 in
    ap (alter order_rev g.0 (learn g.1)) (past v f gs t a l.1)
    ∙ alter_swap rev_order g.0 v (learn g.1) f (add_last gs t) (ascending_add_last gs t a) (number_differs g.0 v (λ e. omega arith))
    (number_differs v g.0 (λ e. omega arith))

pub add_oldest_first : (gs : List (Revision × Node)) (t : Tree) → Ascending order_rev t → Falls gs → add_all gs t ≡ add_last gs t
unfolding add_all add_last
add_oldest_first [] t a f = refl
add_oldest_first (g ∷ gs) t a f =
    add_oldest_first gs (alter order_rev g.0 (learn g.1) t) (ascending_alter rev_order g.0 (learn g.1) t a) f.1
    ∙ past g.0 (learn g.1) gs t a f.0

-- the one before what was added
pub add_last_append : (gs hs : List (Revision × Node)) (t : Tree) → add_last (gs ++ hs) t ≡ add_last gs (add_last hs t)
unfolding add_last
add_last_append [] hs t = refl
add_last_append (g ∷ gs) hs t = ap (alter order_rev g.0 (learn g.1)) (add_last_append gs hs t)

-- ---- how many revisions it adds

module _ {K A : Type 0} (O : TotalOrder K) where
  length_alter : (k : K) (f : Option A → A) (t : Map K A) → length (alter O.cmp k f t) ≡ pick (is_none (find O.cmp k t)) 1 0 + length t
  unfolding alter find
  length_alter k f [] = refl
  length_alter k f (x ∷ t) = go (O.cmp k x.0) refl (length_alter k f t)
    where
      go : (o : Ordering) → O.cmp k x.0 ≡ o → length (alter O.cmp k f t) ≡ pick (is_none (find O.cmp k t)) 1 0 + length t
          → length (alter O.cmp k f (x ∷ t)) ≡ pick (is_none (find O.cmp k (x ∷ t))) 1 0 + suc (length t)
      go Less e ih = rw e (omega arith)
      go Equal e ih = rw e (omega arith)
      go Greater e ih = rw e (omega arith)

-- what lies above all that is added stays known or unknown
pub above_stays : (v : Revision) (gs : List (Revision × Node)) (t : Tree) → Lower v.number.0 gs → find order_rev v (add_last gs t) ≡ find order_rev v t
unfolding add_last
above_stays v [] t l = refl
above_stays v (g ∷ gs) t l =
    let h = l.0 in
    find_other rev_order v g.0 (learn g.1) (add_last gs t) (number_differs v g.0 (λ e. omega arith)) ∙ above_stays v gs t l.1

pub length-add_last : (gs : List (Revision × Node)) (t : Tree) → Falls gs → length (add_last gs t) ≡ count_new t gs + length t
unfolding add_last count_new how_many is_new
length-add_last [] t f = omega arith
length-add_last (g ∷ gs) t f =
    let a = length_alter rev_order g.0 (learn g.1) (add_last gs t) in
    let b = ap {B = ℕ} (λ (o : Option Node). pick (is_none o) 1 0) (above_stays g.0 gs t f.0) in
    let c = length-add_last gs t f.1 in
    omega arith

pub falls_drop : (k : ℕ) (gs : List (Revision × Node)) → Falls gs → Falls (drop k gs)
falls_drop zero gs f = f
falls_drop (suc k) [] f = tt
falls_drop (suc k) (g ∷ gs) f = falls_drop k gs f.1

lower_take : (m n : ℕ) (gs : List (Revision × Node)) → Lower n gs → Lower n (take m gs)
lower_take zero n gs l = tt
lower_take (suc m) n [] l = tt
lower_take (suc m) n (g ∷ gs) l = (l.0, lower_take m n gs l.1)

pub falls_take : (m : ℕ) (gs : List (Revision × Node)) → Falls gs → Falls (take m gs)
falls_take zero gs f = tt
falls_take (suc m) [] f = tt
falls_take (suc m) (g ∷ gs) f = (lower_take m g.0.number.0 gs f.0, falls_take m gs f.1)

pub count_drop : (t : Tree) (k : ℕ) (gs : List (Revision × Node)) → count_new t (drop k gs) ≤ count_new t gs
unfolding count_new how_many
count_drop t zero gs = omega arith
count_drop t (suc k) [] = omega arith
count_drop t (suc k) (g ∷ gs) = let h = count_drop t k gs in omega arith

pub count_take : (t : Tree) (m : ℕ) (gs : List (Revision × Node)) → count_new t (take m gs) ≤ count_new t gs
unfolding count_new how_many
count_take t zero gs = omega arith
count_take t (suc m) [] = omega arith
count_take t (suc m) (g ∷ gs) = let h = count_take t m gs in omega arith

-- one more of those taken
pub next_taken : {A : Type 0} (k m : ℕ) (xs : List A) (x : A) → k < m → drop k xs ≡ x ∷ drop (suc k) xs → drop k (take m xs) ≡ x ∷ drop (suc k) (take m xs)
next_taken k zero xs x h e = absurd (omega arith)
next_taken zero (suc m) [] x h e = e
next_taken zero (suc m) (y ∷ xs) x h e = let q : y ≡ x = cc in ap (λ (z : _). z ∷ take m xs) q
next_taken (suc k) (suc m) [] x h e = e
next_taken (suc k) (suc m) (y ∷ xs) x h e = next_taken k m xs x (omega arith) e
