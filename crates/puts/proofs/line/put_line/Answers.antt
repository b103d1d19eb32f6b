-- `line::put_line` meets its contract. Assumes nothing.
use mathlib.Core.Path.{refl}
use Prim.Native.Nat.{◌-◌}
use native.Mathlib.Omega.{arith}
use Rattle.rules.specs.Room.{hash_size}
use Rattle.text.proofs.TextLaws.{put_then, put_as}
use Rattle.puts.proofs.PathLaws.{start_room, path_end, path_kept, path_within, revisions_room, content_room, line_joined}
use Rattle.puts.proofs.line.put_line.Goals as goal

pub put_path-end-requires : goal.put_path-end-requires
put_path-end-requires c =
    let f = c.requires.few in
    let h = c.requires.scratch in
    record { rows = c.requires.rows.rows; room = omega arith }

pub put_start-w-requires : goal.put_start-w-requires
put_start-w-requires c = start_room c.requires

pub slice_bounds-put_revisions-count : goal.slice_bounds-put_revisions-count
slice_bounds-put_revisions-count c = omega (arith, path_end c.requires c.put_path-end.ensures)

pub slice_bounds-put_revisions-start : goal.slice_bounds-put_revisions-start
slice_bounds-put_revisions-start c = omega (arith, path_end c.requires c.put_path-end.ensures, path_within c.requires c.put_path-end.ensures)

pub slice_bounds-put_revisions-end : goal.slice_bounds-put_revisions-end
slice_bounds-put_revisions-end c = omega (arith, path_end c.requires c.put_path-end.ensures, path_within c.requires c.put_path-end.ensures)

pub put_revisions-c-requires : goal.put_revisions-c-requires
put_revisions-c-requires c =
    let n = c.put_path-end.result - hash_size in
    let r = revisions_room c.requires c.put_path-end.ensures n refl refl c.put_start-w.ensures.ends in
    omega arith

pub put_content-requires : goal.put_content-requires
put_content-requires c =
    let n = c.put_path-end.result - hash_size in
    let r = content_room c.requires c.put_path-end.ensures n refl refl c.put_start-w.ensures.ends c.put_revisions-c.ensures.ends in
    omega arith

pub returns : goal.returns
returns c =
    let n = c.put_path-end.result - hash_size in
    let r = content_room c.requires c.put_path-end.ensures n refl refl c.put_start-w.ensures.ends c.put_revisions-c.ensures.ends in
    record {
      put =
          put_as (line_joined c.requires c.put_path-end.ensures n refl refl)
          (put_then (put_then c.put_start-w.ensures c.put_revisions-c.ensures (omega arith)) c.put_content.ensures (omega (arith, c.put_content.ensures.ends)));
      scratch = path_kept c.requires c.put_path-end.ensures;
    }
