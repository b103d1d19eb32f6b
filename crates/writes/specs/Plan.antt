-- What a pass over a path finds in a document's tree.
use Rattle.std.specs.Prelude.{◌≡◌, Bool, true, false, not, ◌&&◌, ◌||◌, List, [], ◌∷◌, ℕ, ◌+◌, ◌-◌, ◌≤◌, ◌<◌, eqb, drop}
use Rattle.std.specs.declared.cmp.Ordering.TheVariants.{Less}
use Rattle.std.specs.Prelude.{Option, None, Some}
use Rattle.rules.specs.declared.Revision.{Revision}
use Rattle.rules.specs.Choice.{pick, maybe}
use Rattle.rules.specs.Map.{Below}
use Rattle.rules.specs.Order.{order_rev, same_rev}
use Rattle.rules.specs.Replica.{Node, Tree}
use Rattle.rules.specs.Write.{is_new, is_new_parent, is_addition, other_parent, other_content}
use Rattle.rules.specs.Room.{hashes_most}
use Rattle.tree.specs.Rows.{node_at}
use Rattle.tree.specs.declared.table.Body.{Body}
use Rattle.tree.specs.Table.{tree_in, row_start, Searchable}
use Rattle.writes.specs.declared.plan.Plan.{Plan}
use Rattle.writes.specs.declared.plan.Pass.{Pass}
use Rattle.writes.specs.Path.{count_of, rev_at, parent_at}

abbrev pub no_plan : Plan
no_plan = record { crossed = false; other = false; revisions = 0; parents = 0; reach = 0 }

-- the plan with the k-th revision of the path in it: an addition alters it and its parent
unfoldable pub planned : Tree → ℕ → Plan → Revision × Node → Plan
planned t k p g = record {
  crossed = p.crossed || other_parent t g;
  other = p.other || other_content t g;
  revisions = p.revisions + pick (is_new t g) 1 0;
  parents = p.parents + pick (is_new_parent t g) 1 0;
  reach = pick (is_addition t g) (k + 2) p.reach;
}

unfoldable pub plan_from : Tree → ℕ → Plan → List (Revision × Node) → Plan
plan_from t k p [] = p
plan_from t k p (g ∷ gs) = plan_from t (k + 1) (planned t k p g) gs

unfoldable pub plan_of : Tree → List (Revision × Node) → Plan
plan_of t gs = plan_from t 0 no_plan gs

-- ---- a row that the path adds nothing to

-- the parent given, if one is, is the one held
abbrev pub parent_held : Option Revision → Option Revision → Bool
parent_held None held = true
parent_held (Some p) held = maybe false (λ q. same_rev q p) held

-- what is held is the revision, with the parent given for it
unfoldable pub holds : Revision × Node → Revision → Option Revision → Bool
holds x v o = same_rev x.0 v && parent_held o x.1.parent

-- the last row holds the k-th revision, which is not the newest
unfoldable pub settled : Body → List ℕ → ℕ → List ℕ → ℕ → Bool
settled b s number path k =
    not (eqb k 0)
    && (not (eqb b.rows 0) && holds (node_at (row_start b (b.rows - 1)) s) (rev_at number path k) (parent_at number path k))

-- ---- the pass

-- the counts after k revisions fit
pub record Counted (p : Plan) (k : ℕ) : Type 0 where
  pub few : k < hashes_most
  pub revisions : p.revisions ≤ k
  pub parents : p.parents ≤ k

pub record CanStep (s : List ℕ) (b : Body) (p : Plan) (k : ℕ) : Type 0 where
  pub search : Searchable b s
  pub counted : Counted p k

-- the revision is planned, and every lower one is below the rows from the new top on
pub record Stepped (s : List ℕ) (b : Body) (g : Revision × Node) (p : Plan) (k : ℕ) (r : Pass) : Type 0 where
  pub plan : r.plan ≡ planned (tree_in b s) k p g
  pub within : r.top ≤ b.rows
  pub lower : (v : Revision) → order_rev v g.0 ≡ Less → Below order_rev v (drop r.top (tree_in b s))

pub record CanPlan (s : List ℕ) (b : Body) (number : ℕ) (path : List ℕ) : Type 0 where
  pub search : Searchable b s
  pub most : count_of path ≤ hashes_most
  pub deep : count_of path ≤ number
