-- A run of bytes put into the place of another.
use Rattle.std.specs.Prelude.{List, ◌++◌, ℕ, ◌+◌, length, take, drop}

-- s with vs in the place of the elements from `at` on
unfoldable pub splice : List ℕ → ℕ → List ℕ → List ℕ
splice s at vs = take at s ++ (vs ++ drop (at + length vs) s)
