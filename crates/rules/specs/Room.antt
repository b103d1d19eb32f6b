-- The limits. "Room: 32 documents and 512 revisions in all documents together."
use Rattle.std.specs.Prelude.{ℕ}

abbrev pub documents_most : ℕ
documents_most = 32

abbrev pub revisions_most : ℕ
revisions_most = 512

-- "1 to 512 hashes"
abbrev pub hashes_most : ℕ
hashes_most = 512

-- "an id of 1 to 32 bytes"
abbrev pub id_most : ℕ
id_most = 32

-- "The hash is sixteen bytes"
abbrev pub hash_size : ℕ
hash_size = 16

-- "Numbers run from 1 to 4,294,967,295"
abbrev pub number_most : ℕ
number_most = 4294967295

-- "an update sequence, 0 when fresh, at most 4,294,967,295"
abbrev pub seq_most : ℕ
seq_most = 4294967295

-- "its 64-bit label"
abbrev pub labels : ℕ
labels = 18446744073709551616
