-- `json_text::skip_hex` meets its contract. Assumes nothing.
use Prim.Native.Nat.{◌+◌}
use mathlib.Core.Path.{refl}
use native.Mathlib.Omega.{arith}
use Rattle.std.specs.Prelude.{None, Some}
use Rattle.json_text.proofs.CharLaws.{exact_then, not_then, one_hex, here_exact}
use Rattle.json_text.specs.Grammar.{◌then◌, hex}
use Rattle.json_text.proofs.skip_hex.Goals.{else-hex_at-via-then-hex_at+then-hex_at-2+then-hex_at-3+else-hex_at-4, else-hex_at-via-then-hex_at+then-hex_at-2+else-hex_at-3, else-hex_at-via-then-hex_at+else-hex_at-2, else-hex_at-via-else-hex_at}
use Rattle.json_text.proofs.skip_hex.Goals as goal

pub returns-then-hex_at-4 : goal.returns-then-hex_at-4
returns-then-hex_at-4 c =
    let a = c.args in
    let s = a.s.now in
    let i = a.at in
    let e = Some (i + 4) in
    exact_then _ _ one_hex s i (i + 1) refl e c.if-hex_at.ensures
    (exact_then _ _ one_hex s (i + 1) (i + 2) (omega arith) e c.if-hex_at-2.ensures
    (exact_then _ _ one_hex s (i + 2) (i + 3) (omega arith) e c.if-hex_at-3.ensures
    (here_exact _ one_hex s (i + 3) (i + 4) (omega arith) c.if-hex_at-4.ensures)))

pub returns : goal.returns
returns c =
    let s = c.args.s.now in
    let i = c.args.at in
    let no2 = exact_then hex (hex then hex then hex) one_hex s i (i + 1) refl None in
    let no3 = exact_then hex (hex then hex) one_hex s (i + 1) (i + 2) (omega arith) None in
    elim c.else-hex_at.branch [
      | else-hex_at-via-then-hex_at+then-hex_at-2+then-hex_at-3+else-hex_at-4 w ↦
          no2 w.if-hex_at.ensures (no3 w.if-hex_at-2.ensures (exact_then _ _ one_hex s (i + 2) (i + 3) (omega arith) None w.if-hex_at-3.ensures w.if-hex_at-4.ensures))
      | else-hex_at-via-then-hex_at+then-hex_at-2+else-hex_at-3 w ↦
          no2 w.if-hex_at.ensures (no3 w.if-hex_at-2.ensures (not_then _ _ s (i + 2) w.if-hex_at-3.ensures))
      | else-hex_at-via-then-hex_at+else-hex_at-2 w ↦ no2 w.if-hex_at.ensures (not_then _ _ s (i + 1) w.if-hex_at-2.ensures)
      | else-hex_at-via-else-hex_at w ↦ not_then _ _ s i w.if-hex_at.ensures
    ]
