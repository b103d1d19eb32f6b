-- Where each field of a head, an entry and a row stands. "All numbers big-endian."
use Rattle.std.specs.Prelude.{List, ℕ, ◌+◌, take, drop, get_or}
use Rattle.rules.specs.declared.Revision.{Revision}
use Rattle.rules.specs.Bytes.{value, part}
use Rattle.rules.specs.Replica.{Hash, revision}
use Rattle.rules.specs.Room.{id_most, hash_size}

-- ---- the head

-- "Head, 16 bytes: edition 1 (2), documents d (2), revisions r (2), zero (2), update sequence (4), total
-- length (4)": where each begins, and where the head ends
abbrev pub documents_at : ℕ
documents_at = 2

abbrev pub revisions_at : ℕ
revisions_at = documents_at + 2

abbrev pub head_zero_at : ℕ
head_zero_at = revisions_at + 2

abbrev pub sequence_at : ℕ
sequence_at = head_zero_at + 2

abbrev pub total_at : ℕ
total_at = sequence_at + 4

abbrev pub head_size : ℕ
head_size = total_at + 4

pub record Head : Type 0 where
  pub edition : ℕ
  pub documents : ℕ
  pub revisions : ℕ
  pub zero : ℕ
  pub seq : ℕ
  pub total : ℕ

unfoldable pub head_of : List ℕ → Head
head_of s = record {
  edition = value (part 0 2 s);
  documents = value (part documents_at 2 s);
  revisions = value (part revisions_at 2 s);
  zero = value (part head_zero_at 2 s);
  seq = value (part sequence_at 4 s);
  total = value (part total_at 4 s);
}

-- ---- an entry of the contents

-- "Contents, 44 bytes a document: id length (1), id filled with zeros (32), zero (1), rows (2), own
-- sequence (4), byte place of its first row (4)"
abbrev pub id_in : ℕ
id_in = 1

abbrev pub entry_zero_in : ℕ
entry_zero_in = id_in + id_most

abbrev pub count_in : ℕ
count_in = entry_zero_in + 1

abbrev pub own_in : ℕ
own_in = count_in + 2

abbrev pub place_in : ℕ
place_in = own_in + 4

abbrev pub entry_size : ℕ
entry_size = place_in + 4

pub record Entry : Type 0 where
  pub size : ℕ
  pub id : List ℕ
  pub fill : List ℕ
  pub zero : ℕ
  pub rows : ℕ
  pub seq : ℕ
  pub place : ℕ

unfoldable pub entry_of : List ℕ → Entry
entry_of e =
    let n = get_or e 0 0 in
    record {
      size = n;
      id = take n (part id_in id_most e);
      fill = drop n (part id_in id_most e);
      zero = get_or e entry_zero_in 0;
      rows = value (part count_in 2 e);
      seq = value (part own_in 4 e);
      place = value (part place_in 4 e);
    }

-- ---- a row

-- "Row, 48 bytes: number (4), hash (16), kind (1: ..), parent known (1: 0 or 1), zero (2), parent hash (16,
-- ..), label (8, zero unless live)"
abbrev pub hash_in : ℕ
hash_in = 4

abbrev pub kind_in : ℕ
kind_in = hash_in + hash_size

abbrev pub known_in : ℕ
known_in = kind_in + 1

abbrev pub row_zero_in : ℕ
row_zero_in = known_in + 1

abbrev pub parent_hash_in : ℕ
parent_hash_in = row_zero_in + 2

abbrev pub label_in : ℕ
label_in = parent_hash_in + hash_size

abbrev pub row_size : ℕ
row_size = label_in + 8

pub record Row : Type 0 where
  pub rev : Revision
  pub kind : ℕ
  pub flag : ℕ
  pub zero : ℕ
  pub parent : Hash
  pub label : ℕ

unfoldable pub row_of : List ℕ → Row
row_of w = record {
  rev = revision (value (part 0 4 w)) (part hash_in hash_size w);
  kind = get_or w kind_in 0;
  flag = get_or w known_in 0;
  zero = value (part row_zero_in 2 w);
  parent = part parent_hash_in hash_size w;
  label = value (part label_in 8 w);
}
