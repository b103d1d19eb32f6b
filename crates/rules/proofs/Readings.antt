-- How the readings of the rules are written down, and the replicas that several of them speak of. Each reading is
-- an example that holds the definitions to a sentence of 01: a definition that read the sentence otherwise would be
-- refused there. Assumes nothing.
use mathlib.Core.Path.{◌≡◌, refl}
use Rattle.rules.specs.declared.Refusal.{Refusal}
use Rattle.rules.specs.declared.Outcome.{Outcome}
use Rattle.std.specs.Prelude.{Result}
use mathlib.Core.List.{List, [], ◌∷◌, ◌++◌, map}
use Rattle.std.specs.Prelude.{None, Some, Option}
use Prim.Native.Nat.{ℕ, zero, suc, ◌+◌, ◌-◌}
use lib.ListN.{length, take, drop, replicate}
use Rattle.rules.specs.declared.Content.{Content}
use Rattle.rules.specs.declared.Content.TheVariants.{Live, Deleted}
use Rattle.rules.specs.declared.Revision.{Revision}
use Rattle.rules.specs.Answer.{written_number}
use Rattle.rules.specs.Bytes.{pieces, join}
use Rattle.rules.specs.Choice.{any, how_many, first_that}
use Rattle.rules.specs.Examples.{lot, hash, on}
use Rattle.rules.specs.Map.{find, alter}
use Rattle.rules.specs.Order.{order_n, order_bytes, order_rev, same_rev}
use Rattle.rules.specs.Replica.{revision, Replica, fresh, tree_of, document_of, revisions_held, Id, Node, Tree, Document}
use Rattle.rules.specs.Room.{number_most, seq_most, labels}
use Rattle.rules.specs.Union.{write_all}
use Rattle.rules.specs.Write.{Write, write, hashes, along, gives, add_all, added, is_new, is_new_parent, count_new, count_parents}
use Rattle.rules.specs.Write.{adds, bad_id, bad_path, low_number, other_parent, other_content, documents_full, revisions_full, sequence_spent, room_refusals, write_refusals}

-- an answer as its refusal's number, 0 if accepted, and its value: of a write 1 changed, 0 unchanged
abbrev pub wrote : Result Outcome Refusal → ℕ × ℕ
wrote a = ((written_number a).refusal, (written_number a).value)

-- what writes leave of a fresh replica
abbrev pub after : List Write → Replica
after ws = write_all ws fresh

-- what each of some writes answers, all on the same replica
abbrev pub tries : Replica → List Write → List (ℕ × ℕ)
tries r ws = map (λ w. wrote (write r w).0) ws

-- ---- one document and several

-- a revision with its parent and its content, none where it has a child
abbrev pub row : Revision → Option Revision → Option Content → Revision × Node
row v p c = (v, record { parent = p; content = c })

-- the revision of a number and a first byte
abbrev pub rev : ℕ → ℕ → Revision
rev n h = revision n (hash h)

-- a document of an own sequence
abbrev pub doc : Id → ℕ → Tree → Id × Document
doc i q t = (i, record { seq = record { 0 = q }; tree = t })

abbrev pub holding : ℕ → List (Id × Document) → Replica
holding q ds = record { seq = record { 0 = q }; documents = ds }

-- n documents of one revision, their ids one byte each, from n - 1 down
unfoldable pub shelf : ℕ → List Write
shelf zero = []
shelf (suc n) = on (n ∷ []) 1 (0x20 ∷ []) (Live 1) ∷ shelf n

-- one path of n revisions, all hashes equal
abbrev pub trunk : ℕ → Write
trunk n = on lot n (replicate n 0x01) (Live 1)

-- a document at the last sequence
abbrev pub spent : Tree → Replica
spent t = holding seq_most (doc lot seq_most t ∷ [])

-- the largest number, sequence and label
abbrev pub utmost : Replica
utmost = spent (row (rev (number_most - 1) 0xff) None None ∷ row (rev number_most 0xff) (Some (rev (number_most - 1) 0xff)) (Some (Live (labels - 1))) ∷ [])

-- ---- what writes leave

-- 2-bb under 3-aa, and 2-dd, both children of 1-cc
abbrev pub forked : Replica
forked = holding 2
    (doc lot 2
    (row (rev 1 0xcc) None None
    ∷ row (rev 2 0xbb) (Some (rev 1 0xcc)) None
    ∷ row (rev 2 0xdd) (Some (rev 1 0xcc)) (Some (Live 2))
    ∷ row (rev 3 0xaa) (Some (rev 2 0xbb)) (Some (Live 1))
    ∷ [])
    ∷ [])

-- what cases 1 to 5 leave: the leaves 3-05, deleted, and 2-4c, live, which wins
abbrev pub lots : Replica
lots = holding 4
    (doc lot 4
    (row (rev 1 0x20) None None
    ∷ row (rev 2 0x4c) (Some (rev 1 0x20)) (Some (Live 9))
    ∷ row (rev 2 0x91) (Some (rev 1 0x20)) None
    ∷ row (rev 3 0x05) (Some (rev 2 0x91)) (Some Deleted)
    ∷ [])
    ∷ [])

-- a resurrected document: the deleted winner 1-20 has become the parent of 2-77
abbrev pub risen : Replica
risen = holding 2 (doc lot 2 (row (rev 1 0x20) None None ∷ row (rev 2 0x77) (Some (rev 1 0x20)) (Some (Live 3)) ∷ []) ∷ [])

-- the document a was written first and again last, bb between, as a deletion
abbrev pub pair : Replica
pair = holding 4
    (doc (0x61 ∷ []) 4
    (row (rev 1 0x20) None None
    ∷ row (rev 2 0x30) (Some (rev 1 0x20)) (Some (Live 1))
    ∷ row (rev 2 0x40) (Some (rev 1 0x20)) (Some (Live 1))
    ∷ [])
    ∷ doc (0x62 ∷ 0x62 ∷ []) 2 (row (rev 1 0x20) None (Some Deleted) ∷ [])
    ∷ [])

-- documents a (rows 0 to 2) and b (rows 3 and 4, the parent of the last being all zeros)
abbrev pub two : Replica
two = holding 4
    (doc (0x61 ∷ []) 3
    (row (rev 1 0x10) None None
    ∷ row (rev 2 0x20) (Some (rev 1 0x10)) (Some (Live 2))
    ∷ row (rev 2 0x30) (Some (rev 1 0x10)) (Some Deleted)
    ∷ [])
    ∷ doc (0x62 ∷ []) 4 (row (rev 2 0x00) None None ∷ row (rev 3 0x50) (Some (rev 2 0x00)) (Some (Live 5)) ∷ [])
    ∷ [])

pub made : after (on lot 3 (0xaa ∷ 0xbb ∷ 0xcc ∷ []) (Live 1) ∷ on lot 2 (0xdd ∷ 0xcc ∷ []) (Live 2) ∷ [])
    ∷ after
    (on lot 1 (0x20 ∷ []) (Live 7)
    ∷ on lot 2 (0x91 ∷ 0x20 ∷ []) (Live 8)
    ∷ on lot 2 (0x4c ∷ 0x20 ∷ []) (Live 9)
    ∷ on lot 3 (0x05 ∷ 0x91 ∷ 0x20 ∷ []) Deleted
    ∷ [])
    ∷ after
    (on (0x61 ∷ []) 1 (0x20 ∷ []) (Live 1)
    ∷ on (0x62 ∷ 0x62 ∷ []) 1 (0x20 ∷ []) Deleted
    ∷ on (0x61 ∷ []) 2 (0x30 ∷ 0x20 ∷ []) (Live 1)
    ∷ on (0x61 ∷ []) 2 (0x40 ∷ 0x20 ∷ []) (Live 1)
    ∷ [])
    ∷ after
    (on (0x61 ∷ []) 1 (0x10 ∷ []) (Live 1)
    ∷ on (0x61 ∷ []) 2 (0x20 ∷ 0x10 ∷ []) (Live 2)
    ∷ on (0x61 ∷ []) 2 (0x30 ∷ 0x10 ∷ []) Deleted
    ∷ on (0x62 ∷ []) 3 (0x50 ∷ 0x00 ∷ []) (Live 5)
    ∷ [])
    ∷ []
    ≡ forked ∷ lots ∷ pair ∷ two ∷ []
unfolding pieces join any how_many first_that find alter order_n order_bytes order_rev same_rev document_of tree_of
    revisions_held hashes along gives add_all added is_new is_new_parent count_new count_parents adds bad_id bad_path low_number
    other_parent other_content documents_full revisions_full sequence_spent room_refusals write_refusals write write_all
made = refl

-- ---- the image of `two`

-- the head, the entries at 16 and 60, the rows at 104, 152, 200, 248 and 296
unfoldable pub two_image : List ℕ
two_image =
    (0 ∷ 1 ∷ 0 ∷ 2 ∷ 0 ∷ 5 ∷ 0 ∷ 0 ∷ 0 ∷ 0 ∷ 0 ∷ 4 ∷ 0 ∷ 0 ∷ 1 ∷ 88 ∷ [])
    ++ ((1 ∷ 0x61 ∷ replicate 31 0) ++ ((0 ∷ 0 ∷ 3 ∷ 0 ∷ 0 ∷ 0 ∷ 3 ∷ 0 ∷ 0 ∷ 0 ∷ 104 ∷ [])
    ++ ((1 ∷ 0x62 ∷ replicate 31 0) ++ ((0 ∷ 0 ∷ 2 ∷ 0 ∷ 0 ∷ 0 ∷ 4 ∷ 0 ∷ 0 ∷ 0 ∷ 248 ∷ [])
    ++ ((0 ∷ 0 ∷ 0 ∷ 1 ∷ hash 0x10) ++ ((0 ∷ 0 ∷ 0 ∷ 0 ∷ replicate 16 0) ++ (replicate 8 0
    ++ ((0 ∷ 0 ∷ 0 ∷ 2 ∷ hash 0x20) ++ ((1 ∷ 1 ∷ 0 ∷ 0 ∷ hash 0x10) ++ ((0 ∷ 0 ∷ 0 ∷ 0 ∷ 0 ∷ 0 ∷ 0 ∷ 2 ∷ [])
    ++ ((0 ∷ 0 ∷ 0 ∷ 2 ∷ hash 0x30) ++ ((2 ∷ 1 ∷ 0 ∷ 0 ∷ hash 0x10) ++ (replicate 8 0
    ++ ((0 ∷ 0 ∷ 0 ∷ 2 ∷ hash 0x00) ++ ((0 ∷ 0 ∷ 0 ∷ 0 ∷ replicate 16 0) ++ (replicate 8 0
    ++ ((0 ∷ 0 ∷ 0 ∷ 3 ∷ hash 0x50) ++ ((1 ∷ 1 ∷ 0 ∷ 0 ∷ replicate 16 0) ++ (0 ∷ 0 ∷ 0 ∷ 0 ∷ 0 ∷ 0 ∷ 0 ∷ 5 ∷ [])))))))))))))))))))

-- the image with bytes put at a place
unfoldable pub put : List (ℕ × List ℕ) → List ℕ → List ℕ
put [] s = s
put (p ∷ ps) s = put ps (take p.0 s ++ (p.1 ++ drop (p.0 + length p.1) s))
