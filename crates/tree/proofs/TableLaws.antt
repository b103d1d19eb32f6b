-- A table's rows, one by one. Assumes nothing.
use mathlib.Core.Path.{◌≡◌, refl, ap, ◌∙◌}
use mathlib.Core.List.{List, [], ◌∷◌, ◌++◌, map}
use Prim.Native.Nat.{ℕ, zero, suc, ◌+◌, ◌*◌, ◌≤◌, ◌<◌}
use lib.ListN.{length, get_or, take, drop}
use lib.Seq.{drop-drop}
use Rattle.rules.specs.declared.Revision.{Revision}
use Rattle.rules.specs.Bytes.{part, pieces}
use Rattle.rules.specs.Layout.{row_size, row_of}
use Rattle.rules.specs.Replica.{Node, Tree}
use Rattle.rules.proofs.ByteLaws.{length-pieces, pieces_add, get_d_pieces, take-pieces}
use Rattle.tree.specs.Rows.{node_held, node_at}
use Rattle.tree.specs.Table.{tree_at}

-- what pieces of a row's size mean
abbrev means : List (List ℕ) → Tree
means ps = map node_held (map row_of ps)

means_append : (ps qs : List (List ℕ)) → means (ps ++ qs) ≡ means ps ++ means qs
means_append [] qs = refl
means_append (p ∷ ps) qs = ap (λ (t : Tree). node_held (row_of p) ∷ t) (means_append ps qs)

length-means : (ps : List (List ℕ)) → length (means ps) ≡ length ps
length-means [] = refl
length-means (p ∷ ps) = ap suc (length-means ps)

take-means : (k : ℕ) (ps : List (List ℕ)) → take k (means ps) ≡ means (take k ps)
take-means zero ps = refl
take-means (suc k) [] = refl
take-means (suc k) (p ∷ ps) = ap (λ (t : Tree). node_held (row_of p) ∷ t) (take-means k ps)

-- what stands for a row past the end
abbrev pub no_row : Revision × Node
no_row = node_held (row_of [])

get_d_means : (ps : List (List ℕ)) (i : ℕ) → get_or (means ps) i no_row ≡ node_held (row_of (get_or ps i []))
get_d_means [] i = refl
get_d_means (p ∷ ps) zero = refl
get_d_means (p ∷ ps) (suc i) = get_d_means ps i

pub length-tree : (base n : ℕ) (s : List ℕ) → length (tree_at base n s) ≡ n
unfolding tree_at
length-tree base n s = length-means (pieces n row_size (drop base s)) ∙ length-pieces n row_size (drop base s)

-- row i, in its bytes
pub tree_row : (base n i : ℕ) (s : List ℕ) → i < n → get_or (tree_at base n s) i no_row ≡ node_at (base + i * row_size) s
unfolding tree_at node_at part
tree_row base n i s h =
    get_d_means (pieces n row_size (drop base s)) i
    ∙ ap (λ (l : List ℕ). node_held (row_of l)) (get_d_pieces n row_size i (drop base s) h ∙ ap (take row_size) (drop-drop (i * row_size) base s))

-- the first k rows
pub tree_take : (base k n : ℕ) (s : List ℕ) → k ≤ n → take k (tree_at base n s) ≡ tree_at base k s
unfolding tree_at
tree_take base k n s h = take-means k (pieces n row_size (drop base s)) ∙ ap means (take-pieces k n row_size (drop base s) h)

-- the first i rows and the rest
pub tree_cut : (base i m n : ℕ) (s : List ℕ) → n ≡ i + m → tree_at base n s ≡ tree_at base i s ++ tree_at (base + i * row_size) m s
unfolding tree_at
tree_cut base i m n s e =
    rw (e, pieces_add i m row_size (drop base s), drop-drop (i * row_size) base s) (means_append (pieces i row_size (drop base s)) (pieces m row_size (drop (base + i * row_size) s)))

pub tree_one : (base : ℕ) (s : List ℕ) → tree_at base 1 s ≡ node_at base s ∷ []
unfolding tree_at node_at pieces part
tree_one base s = refl

-- the last of n rows
pub tree_last : (base n : ℕ) (s : List ℕ) → tree_at base (n + 1) s ≡ tree_at base n s ++ (node_at (base + n * row_size) s ∷ [])
tree_last base n s = tree_cut base n 1 (n + 1) s refl ∙ ap (λ (t : Tree). tree_at base n s ++ t) (tree_one (base + n * row_size) s)
