-- The fourteen proved examples, as one statement over the table. Assumes nothing.
use mathlib.Core.Path.{◌≡◌, refl}
use Rattle.rules.specs.Bytes.{be, join, pieces}
use Rattle.rules.specs.Choice.{any, how_many, first_that}
use Rattle.rules.specs.Examples.{shorts, look, play, table, steps_of, seen_of}
use Rattle.rules.specs.Image.{head_bytes, contents_bytes, body_bytes, image, save}
use Rattle.rules.specs.Map.{find, alter}
use Rattle.rules.specs.Order.{order_n, order_bytes, order_rev, same_rev}
use Rattle.rules.specs.Read.{leaves, order_leaf, highest, winner, front, short_buffer, reads}
use Rattle.rules.specs.Replica.{fresh, document_of, tree_of, revisions_held}
use Rattle.rules.specs.Write.{hashes, along, gives, add_all, added, is_new, is_new_parent, count_new, count_parents, adds, bad_id}
use Rattle.rules.specs.Write.{bad_path, low_number, other_parent, other_content, documents_full, revisions_full, sequence_spent, room_refusals, write_refusals, write}

pub fourteen : play fresh (steps_of table) ≡ seen_of table
unfolding be join pieces any first_that shorts look play table steps_of seen_of head_bytes contents_bytes body_bytes image
    save front short_buffer reads find alter order_n order_bytes order_rev same_rev leaves order_leaf highest winner
    document_of tree_of revisions_held hashes along gives add_all added is_new is_new_parent count_new count_parents adds
    how_many bad_id bad_path low_number other_parent other_content documents_full revisions_full sequence_spent room_refusals
    write_refusals write
fourteen = refl
