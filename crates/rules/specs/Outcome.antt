-- Calls of a compiled function, stated once over the promise of any of them; and that "a public function's
-- promise leaves one possible outcome: answer, replica and lent bytes".
use Rattle.std.specs.Prelude.{◌≡◌, List, ℕ}
use contract.Lifetimes.{Lfts}
use denote.Triple.Clauses.{AtExit}
use borrow.Fn.Kinds.{ParamKind, ResultKind, In, Out, Dens, GoodsP, res_t, ended_of}

-- A call of a function of n lifetimes, parameters ps and result r: `asked` is what its `requires` ask of
-- the arguments, and `learnt` what its `ensures` say of the result and of the parameters at exit. What
-- holds after every call of it is a function of this record.
pub record Call (n : ℕ) (ps : List (ParamKind n)) (r : ResultKind n) (asked : In n ps) (learnt : Out n ps r) : Type 0 where
  pub lifetimes : Lfts n
  pub args : Dens lifetimes ps
  pub result : (res_t r lifetimes).Denot
  pub exit : AtExit (ended_of n ps r) lifetimes
  -- the arguments are those that there are: numbers in the range of their types, slices that fit into memory
  pub in_range : GoodsP lifetimes ps args
  pub asks : asked lifetimes args
  pub promise : learnt lifetimes args result exit

-- "For every input, refusals among them": two results and exits that the promise permits for one call's
-- arguments are alike. `left` is what the function can leave: the contents of what was lent to it as `&mut`.
module _ (n : ℕ) (ps : List (ParamKind n)) (r : ResultKind n) where
  -- where the result is a part of what was lent, `answer` is that part's contents
  abbrev pub OneOutcomeBy :
      In n ps →
      Out n ps r →
      {Y X : Type 0} →
      ((κs : Lfts n) → (res_t r κs).Denot → Y) →
      ((κs : Lfts n) → AtExit (ended_of n ps r) κs → X) →
      Type 0
  OneOutcomeBy asked learnt answer left =
      (κs : Lfts n) (a : Dens κs ps) (x y : (res_t r κs).Denot) (s t : AtExit (ended_of n ps r) κs)
      → asked κs a
      → learnt κs a x s
      → learnt κs a y t
      → (answer κs x ≡ answer κs y) × (left κs s ≡ left κs t)

  abbrev pub OneOutcome :
      In n ps → Out n ps r → {X : Type 0} → ((κs : Lfts n) → AtExit (ended_of n ps r) κs → X) → Type 0
  OneOutcome asked learnt left =
      (κs : Lfts n) (a : Dens κs ps) (x y : (res_t r κs).Denot) (s t : AtExit (ended_of n ps r) κs)
      → asked κs a
      → learnt κs a x s
      → learnt κs a y t
      → (x ≡ y) × (left κs s ≡ left κs t)

-- nothing was lent as `&mut`
abbrev pub nothing : {A B : Type 0} → A → B → Unit {0}
nothing a b = tt

-- a call that answers, and leaves a lent buffer, as o says
pub record Does {A : Type 0} (o : A × List ℕ) (answer : A) (buffer : List ℕ) : Type 0 where
  pub answers : answer ≡ o.0
  pub left : buffer ≡ o.1
