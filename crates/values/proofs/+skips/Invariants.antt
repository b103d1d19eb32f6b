-- The functions that pass over values call each other: `skip_value`, `skip_array`, `skip_object`, `skip_list`,
-- `skip_item` and `skip_member` meet
-- their contracts. Depth and what is left of the text fall at every call but that of an item as a value. Assumes nothing.
use Prim.Native.Nat.{◌+◌, ◌-◌, ◌*◌}
use lib.ListN.{length}
use Rattle.json_text.specs.Tight.{value}
use Rattle.values.specs.Kinds.{close_of, list_of, item_of}
use Rattle.values.proofs.SkipLaws.{Walks, place}
use Rattle.values.proofs.+skips.Given as goal

abbrev pub invariant-skip_list-loop-next : goal.invariant-skip_list-loop-next
invariant-skip_list-loop-next l = Walks (close_of l.kind) (item_of l.kind (value l.depth)) (list_of l.kind (value l.depth)) l.s l.at l.next

abbrev pub decreases-skip_list-loop-next : goal.decreases-skip_list-loop-next
decreases-skip_list-loop-next l = length l.s - place l.next

abbrev pub decreases-skip_array : goal.decreases-skip_array
decreases-skip_array l = 2 * (l.depth + (length l.s.now - l.at)) + 1

abbrev pub decreases-skip_object : goal.decreases-skip_object
decreases-skip_object l = 2 * (l.depth + (length l.s.now - l.at)) + 1

abbrev pub decreases-skip_list : goal.decreases-skip_list
decreases-skip_list l = 2 * (l.depth + (length l.s.now - l.at))

abbrev pub decreases-skip_item : goal.decreases-skip_item
decreases-skip_item l = 2 * (l.depth + (length l.s.now - l.at)) + 1

abbrev pub decreases-skip_member : goal.decreases-skip_member
decreases-skip_member l = 2 * (l.depth + (length l.s.now - l.at))

abbrev pub decreases-skip_value : goal.decreases-skip_value
decreases-skip_value l = 2 * (l.depth + (length l.s.now - l.at))
