-- What the functions of this crate answer, at places of a text.
use Rattle.std.specs.Prelude.{◌≡◌, List, ℕ, ◌+◌, get_or}
use Rattle.std.specs.Prelude.{Option, None, Some}
use Rattle.json_text.specs.Grammar.{string}
use Rattle.json_text.specs.Tight.{member, value}
use Rattle.json_text.specs.Skips.{WsTo, OnlyAt, WholeAt, NoText}
use Rattle.values.specs.declared.Next.{Next}
use Rattle.values.specs.declared.Next.TheVariants as next
use Rattle.values.specs.declared.Member.{Member}

-- ---- the ends of a list

-- after the white space at `at` stands the closing bracket, and e is the place behind it
pub record ClosedAt (s : List ℕ) (at close e : ℕ) : Type 0 where
  pub bracket : ℕ
  pub white : WsTo s at bracket
  pub is : get_or s bracket 0 ≡ close
  pub next : e ≡ bracket + 1

-- the first item stands at i: what follows the opening bracket at `at` and white space is no closing one
pub record FirstAt (s : List ℕ) (at close i : ℕ) : Type 0 where
  pub white : WsTo s (at + 1) i
  pub other : get_or s i 0 ≡ close → ⊥

abbrev pub Opens : List ℕ → ℕ → ℕ → Next → Type 0
Opens s at close (next.Item i) = FirstAt s at close i
Opens s at close (next.End e) = ClosedAt s (at + 1) close e

-- another item stands at j, after white space, a comma and white space
pub record MoreAt (s : List ℕ) (at j : ℕ) : Type 0 where
  pub comma : ℕ
  pub white : WsTo s at comma
  pub is : get_or s comma 0 ≡ 44
  pub spaces : WsTo s (comma + 1) j

-- after the white space at `at` stands neither a comma nor the closing bracket
pub record NeitherAt (s : List ℕ) (at close : ℕ) : Type 0 where
  pub place : ℕ
  pub white : WsTo s at place
  pub no_comma : get_or s place 0 ≡ 44 → ⊥
  pub no_close : get_or s place 0 ≡ close → ⊥

abbrev pub Follows : List ℕ → ℕ → ℕ → Option Next → Type 0
Follows s at close (Some (next.Item j)) = MoreAt s at j
Follows s at close (Some (next.End e)) = ClosedAt s at close e
Follows s at close None = NeitherAt s at close

-- ---- a member

-- a member whose value goes at most d deep stands at `at`: its name, a colon with the white space around
-- it, and its value
pub record MemberAt (d : ℕ) (s : List ℕ) (at : ℕ) (m : Member) : Type 0 where
  pub here : m.name ≡ at
  pub named : OnlyAt string s at m.name_end
  pub colon : ℕ
  pub white : WsTo s m.name_end colon
  pub is : get_or s colon 0 ≡ 58
  pub spaces : WsTo s (colon + 1) m.value
  pub holds : WholeAt (value d) s m.value m.value_end

abbrev pub Finds : ℕ → List ℕ → ℕ → Option Member → Type 0
Finds d s at (Some m) = MemberAt d s at m
Finds d s at None = NoText (member (value d)) s at
