-- A leaf's line as it is written: its path's hashes stand in a scratch place, and its parts follow one another. Assumes nothing.
use mathlib.Core.Path.{◌≡◌, sym, ap, ◌∙◌}
use mathlib.Core.List.{List, ◌∷◌, ◌++◌, append_assoc}
use Prim.Native.Nat.{ℕ, suc, ◌+◌, ◌-◌, ◌*◌, ◌/◌, ◌≤◌}
use native.Mathlib.Omega.{arith}
use lib.ListN.{length, take, drop, length-append}
use lib.Seq.{take_at, drop_at}
use Rattle.rules.specs.declared.Content.{Content}
use Rattle.rules.specs.declared.Revision.{Revision}
use Rattle.rules.specs.Bytes.{join}
use Rattle.rules.specs.Read.{front, path_of}
use Rattle.rules.specs.Replica.{Id, Hash, Tree}
use Rattle.rules.specs.Report.{text}
use Rattle.rules.specs.Room.{hash_size}
use Rattle.rules.proofs.ByteLaws.{Sized, length-join}
use Rattle.octets.proofs.SpliceLaws.{length-splice}
use Rattle.text.proofs.TextLaws.{length-hex}
use Rattle.tree.specs.declared.table.Body.{Body}
use Rattle.tree.specs.Leaf.{leaf_of}
use Rattle.tree.specs.Path.{PathPut}
use Rattle.tree.specs.Table.{tree_in}
use Rattle.reads.proofs.AnswerLaws.{front_splice}
use Rattle.lines.specs.Put.{leaf_line}
use Rattle.puts.specs.Puts.{start_text, path_text, end_text, hashes_in, start_most, path_size, line_size, CanPutLine}
use Rattle.puts.proofs.LineLaws.{length-next, hashes_in_lem, more, path_is, sized, line_is, line_size_lem}

path_length : (v : Revision) (hs : List Hash) → Sized hash_size (v.hash ∷ hs) → length (path_text v hs) ≡ path_size v.number.0 (length hs)
unfolding path_text text
path_length v hs z = let n = length-next hs z.1 in let e = z.0 in simp (length-append, length-hex) (omega arith)

module _ {b : Body} {s : List ℕ} {i : Id} {v : Revision} {c : Content} {path out : List ℕ} {at : ℕ} (can : CanPutLine b s i v c path out at) where
  abbrev t : Tree
  t = tree_in b s

  -- the hashes behind the revision's own
  abbrev others : List Hash
  others = more can.rows.is v c can.content

  hashes : Sized hash_size (v.hash ∷ others)
  hashes = sized can.rows.is v c can.content

  path_long : length (path_of t v) ≡ suc (length others)
  path_long = ap length (path_is can.rows.is v c can.content)

  parts : length (leaf_line i t (leaf_of v c)) ≡ length (start_text i v) + (path_size v.number.0 (length others) + length (end_text c))
  parts =
      ap length (line_is can.rows.is v c can.content i)
      ∙ (length-append (start_text i v) (path_text v others ++ end_text c)
      ∙ ap (λ (n : ℕ). length (start_text i v) + n)
      (length-append (path_text v others) (end_text c) ∙ ap (λ (n : ℕ). n + length (end_text c)) (path_length v others hashes)))

  -- what follows a start is longer than a start can grow
  pub start_room : at + start_most (length i) ≤ length out
  unfolding line_size
  start_room = omega (arith, line_size_lem can.rows.is v c can.content i, path_long, can.room)

  module _ {end : ℕ} {path' : List ℕ} (put : PathPut t v 0 path end path') where
    pub path_end : end ≡ (1 + length others) * hash_size
    path_end = let e = put.end in let n = path_long in omega arith

    pub path_kept : length path' ≡ length path
    path_kept =
        let e = put.size in
        let f = can.few in
        let l = can.scratch in
        ap length put.is ∙ length-splice path 0 (join (path_of t v)) (omega arith)

    pub path_within : end ≤ length path'
    path_within = let e = put.end in let f = can.few in let l = can.scratch in let k = path_kept in omega arith

    -- the part of the scratch place behind the first hash
    behind : (n : ℕ) → n ≡ end - hash_size → take n (drop hash_size path') ≡ join others
    unfolding join front
    behind n e =
        let all : List ℕ = join (path_of t v) in
        let whole : path' ≡ v.hash ++ (join others ++ drop (length all) path)
        = put.is
        ∙ (front_splice all path
        ∙ (ap (λ (hs : List Hash). join hs ++ drop (length all) path) (path_is can.rows.is v c can.content)
        ∙ append_assoc v.hash (join others) (drop (length all) path))) in
        let l = length-join hash_size others hashes.1 in
        let f = path_end in
        ap (λ (x : List ℕ). take n (drop hash_size x)) whole
        ∙ (ap (take n) (drop_at v.hash (join others ++ drop (length all) path) hash_size hashes.0)
        ∙ take_at (join others) (drop (length all) path) n (omega arith))

    module _ {x : List ℕ} (n : ℕ) (w : n ≡ end - hash_size) (is : x ≡ take n (drop hash_size path')) where
      bytes : x ≡ join others
      bytes = is ∙ behind n w

      few : length x / hash_size ≡ length others
      few = let e = ap length bytes in let l = length-join hash_size others hashes.1 in omega arith

      pub revisions_room : {next : ℕ} → next ≡ at + length (start_text i v) → next + path_size v.number.0 (length x / hash_size) ≤ length out
      revisions_room e = let f = few in let p = parts in let r = can.room in rw f (omega arith)

      pub content_room : {next last : ℕ} → next ≡ at + length (start_text i v) → last ≡ next + length (path_text v (hashes_in x))
          → last + length (end_text c) ≤ length out
      content_room {next} {last} e q =
          let h : length (path_text v (hashes_in x)) ≡ path_size v.number.0 (length others)
          = ap (λ (y : List ℕ). length (path_text v (hashes_in y))) bytes
          ∙ (ap (λ (hs : List Hash). length (path_text v hs)) (hashes_in_lem others hashes.1) ∙ path_length v others hashes) in
          let p = parts in
          let r = can.room in
          omega arith

      pub line_joined : (start_text i v ++ path_text v (hashes_in x)) ++ end_text c ≡ leaf_line i t (leaf_of v c)
      line_joined =
          append_assoc (start_text i v) (path_text v (hashes_in x)) (end_text c)
          ∙ (ap (λ (y : List ℕ). start_text i v ++ (path_text v (hashes_in y) ++ end_text c)) bytes
          ∙ (ap (λ (hs : List Hash). start_text i v ++ (path_text v hs ++ end_text c)) (hashes_in_lem others hashes.1)
          ∙ sym (line_is can.rows.is v c can.content i)))
