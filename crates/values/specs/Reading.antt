-- What a walk over the items of an object or an array knows of them: what it has read, and what it
-- would be to read on.
use Rattle.std.specs.Prelude.{◌≡◌, List, ◌∷◌, ◌++◌, ℕ, ◌-◌, ◌≤◌, ◌<◌, length, take, drop}
use Rattle.json_text.specs.Grammar.{Rule, byte, ◌then◌, ws}
use Rattle.json_text.specs.Members.{Json, others, member_of, value_of}
use Rattle.json_text.specs.Skips.{Ends}

-- the item x stands at i and ends at e, and no other item ends where a value can end
pub record ItemAt {A : Type 0} (item : A → Rule) (x : A) (s : List ℕ) (i e : ℕ) : Type 0 where
  pub from : i ≤ e
  pub within : e ≤ length s
  pub is : item x (drop i s) (drop e s)
  pub only : (y : A) (r : List ℕ) → item y (drop i s) r → Ends r → (y ≡ x) × (r ≡ drop e s)

-- no item stands at i
unfoldable pub NoItem : {A : Type 0} → (A → Rule) → List ℕ → ℕ → Type 0
NoItem {A} item s i = (y : A) (r : List ℕ) → item y (drop i s) r → Ends r → ⊥

-- an item and those after it, up to the closing bracket
unfoldable pub Onward : {A : Type 0} → (A → Rule) → ℕ → A → List A → Rule
Onward item close x rest = item x then others item (ws then byte close) rest

-- the items xs are those of done, and at least one more that stands at i
pub record GoesOn {A : Type 0} (item : A → Rule) (close : ℕ) (s : List ℕ) (i : ℕ) (done xs : List A) (b : List ℕ) : Type 0 where
  pub next : A
  pub rest : List A
  pub are : xs ≡ done ++ (next ∷ rest)
  pub text : Onward item close next rest (drop i s) b

-- Of a list P whose bracket stands at `at`, the items of done are read, and the next stands at i.
pub record Leads {A : Type 0} (item : A → Rule) (close : ℕ) (P : List A → Rule) (s : List ℕ) (at i : ℕ) (done : List A) : Type 0 where
  pub from : at < i
  pub within : i ≤ length s
  pub to : (xs : List A) (b : List ℕ) → P xs (drop at s) b → GoesOn item close s i done xs b
  pub back : (x : A) (rest : List A) (b : List ℕ) → Onward item close x rest (drop i s) b → P (done ++ (x ∷ rest)) (drop at s) b

-- the list P that stands at `at` is xs and ends at e, and no other stands there
pub record ListAt {A : Type 0} (P : List A → Rule) (xs : List A) (s : List ℕ) (at e : ℕ) : Type 0 where
  pub from : at < e
  pub within : e ≤ length s
  pub is : P xs (drop at s) (drop e s)
  pub only : (ys : List A) (b : List ℕ) → P ys (drop at s) b → (ys ≡ xs) × (b ≡ drop e s)

-- no list P stands at `at`
unfoldable pub NoList : {A : Type 0} → (List A → Rule) → List ℕ → ℕ → Type 0
NoList {A} P s at = (xs : List A) (b : List ℕ) → P xs (drop at s) b → ⊥

-- a member stands at `at`: its name's text, up to ne, and its value, from v to e
pub record MemberRead (d : ℕ) (s : List ℕ) (at ne v e : ℕ) : Type 0 where
  pub value : Json d
  pub item : ItemAt (member_of (value_of d)) (take (ne - at) (drop at s), value) s at e
  pub holds : ItemAt (value_of d) value s v e
