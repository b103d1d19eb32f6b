-- What a path gives, hash by hash.
use Rattle.std.specs.Prelude.{◌≡◌, List, [], ◌∷◌, ℕ, ◌+◌, ◌-◌, ◌*◌, ◌/◌, ◌≤◌, ◌<◌, eqb, ltb, length}
use Rattle.std.specs.Prelude.{Option, None, Some}
use Rattle.rules.specs.declared.Content.{Content}
use Rattle.rules.specs.declared.Revision.{Revision}
use Rattle.rules.specs.declared.RevNumber.{RevNumber}
use Rattle.rules.specs.Bytes.{part}
use Rattle.rules.specs.Choice.{pick}
use Rattle.rules.specs.Map.{alter}
use Rattle.rules.specs.Order.{order_rev}
use Rattle.rules.specs.Replica.{Id, Hash, revision, Node, Tree}
use Rattle.rules.specs.Room.{hash_size, hashes_most, id_most}
use Rattle.rules.specs.Write.{Write, gives, learn}

-- the path write that a call gives
abbrev pub write_of : Id → RevNumber → List ℕ → Content → Write
write_of i n p c = record { id = i; number = n; path = p; content = c }

-- how many hashes bytes are
unfoldable pub count_of : List ℕ → ℕ
count_of path = length path / hash_size

-- the k-th hash after the newest
unfoldable pub hash_at : List ℕ → ℕ → Hash
hash_at path k = part (k * hash_size) hash_size path

-- "The k-th hash after the newest has the number less k."
unfoldable pub rev_at : ℕ → List ℕ → ℕ → Revision
rev_at number path k = revision (number - k) (hash_at path k)

-- "Each hash is the parent of the one before it": the oldest is given none
unfoldable pub parent_at : ℕ → List ℕ → ℕ → Option Revision
parent_at number path k = pick (ltb (k + 1) (count_of path)) (Some (rev_at number path (k + 1))) None

-- only the newest is given a content
abbrev pub content_at : Content → ℕ → Option Content
content_at c k = pick (eqb k 0) (Some c) None

-- what a path gives for its k-th hash
unfoldable pub given_at : ℕ → List ℕ → Content → ℕ → Revision × Node
given_at number path c k = (rev_at number path k, record { parent = parent_at number path k; content = content_at c k })

-- what it gives for all of them: the id doesn't matter
unfoldable pub gives_of : RevNumber → List ℕ → Content → List (Revision × Node)
gives_of number path c = gives (write_of [] number path c)

-- the path has a k-th hash, and it is numbered
pub record InPath (path : List ℕ) (number k : ℕ) : Type 0 where
  pub within : k < count_of path
  pub most : count_of path ≤ hashes_most
  pub deep : count_of path ≤ number

-- ---- adding it, the oldest first

unfoldable pub add_last : List (Revision × Node) → Tree → Tree
add_last [] t = t
add_last (g ∷ gs) t = alter order_rev g.0 (learn g.1) (add_last gs t)

-- ---- "A write is well-formed if 1 to 3 below don't refuse it": its sizes

pub record GoodForm (w : Write) : Type 0 where
  pub size : length w.path ≡ count_of w.path * hash_size
  pub least : 1 ≤ count_of w.path
  pub most : count_of w.path ≤ hashes_most
  pub deep : count_of w.path ≤ w.number.0
  pub id_least : 1 ≤ length w.id
  pub id_at_most : length w.id ≤ id_most
