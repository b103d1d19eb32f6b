-- A replica and its image: a replica's image meets every rule and is read back, and bytes that meet every rule
-- hold a replica whose image they are. Assumes nothing.
use mathlib.Core.Path.{◌≡◌, refl, sym, ap, ap₂, ◌∙◌, subst}
use mathlib.Core.List.{List, [], ◌∷◌, ◌++◌, map}
use Rattle.std.specs.Prelude.{None}
use Prim.Native.Nat.{ℕ, ◌+◌, ◌*◌, ◌≤◌}
use native.Mathlib.Omega.{arith}
use lib.ListN.{length}
use Rattle.rules.specs.Bytes.{join, Bytes}
use Rattle.rules.specs.Choice.{first_that}
use Rattle.rules.specs.Faults.{faults, sum_rows, largest, in_each, bad_rows, bad_links}
use Rattle.rules.specs.Image.{entries_of, rows_of, deal, documents_in, replica_in, row_bytes, head_bytes, contents_bytes, body_bytes, image, total_length, node_in}
use Rattle.rules.specs.Layout.{Head, Entry, Row, head_of, entry_size, row_size, head_size}
use Rattle.rules.specs.Map.{Map}
use Rattle.rules.specs.Replica.{Id, Tree, Document, Replica, document_of, revisions_held, IsReplica}
use Rattle.rules.specs.Room.{documents_most, revisions_most, seq_most}
use Rattle.rules.proofs.ByteLaws.{join_append}
use Rattle.rules.proofs.OrderLaws.{bytes_order}
use Rattle.images.proofs.Lists.{Each, each_onto, each_from, map-append}
use Rattle.images.proofs.Members.{each_find, find_each}
use Rattle.images.proofs.Rows.{row_with, row_for, row_bytes_fields}
use Rattle.images.proofs.Entries.{entry_with, entry_bytes_fields}
use Rattle.images.proofs.Fields.{head_with, image_with, Fits, length_image_with, bytes_image_with, image_head, image_entries, image_rows, image_fits, image_written}
use Rattle.images.proofs.Sequences.{seq_of, Distinct, seqs_forth, seqs_back, own_forth, own_back}
use Rattle.images.proofs.Documents.{entries_for, rows_for, length_entries_for, length_rows_for, sum_entries_for, largest_entries_for, seqs_entries_for, deal_rows, IsDoc, entries_forth, rows_fit, rows_clear, links_clear, documents_read, documents_back, EntriesHold, DocsHold}
use Rattle.images.proofs.Tests.{AllFalse}
use Rattle.images.proofs.Rules.{Meets, faults_meets, meets_faults}

-- ---- the image by its fields

unfoldable pub head_for : Replica → Head
head_for r = record {
  edition = 1;
  documents = length r.documents;
  revisions = revisions_held r.documents;
  zero = 0;
  seq = r.seq.0;
  total = total_length (length r.documents) (revisions_held r.documents);
}

-- where the first row of the first document is
abbrev bodies : Map Id Document → ℕ
bodies ds = head_size + entry_size * length ds

-- a replica's entries
abbrev entries_from : Replica → List Entry
entries_from r = entries_for (bodies r.documents) r.documents

contents_fields : (due : ℕ) (ds : Map Id Document) → contents_bytes due ds ≡ join (map entry_with (entries_for due ds))
unfolding contents_bytes entries_for join
contents_fields due [] = refl
contents_fields due (d ∷ ds) =
    ap₂ (λ (a b : List ℕ). a ++ b) (entry_bytes_fields due d) (contents_fields (due + row_size * length d.1.tree) ds)

body_fields : (ds : Map Id Document) → body_bytes ds ≡ join (map row_with (rows_for ds))
unfolding body_bytes rows_for join
body_fields [] = refl
body_fields (d ∷ ds) =
    ap₂ (λ (a b : List ℕ). a ++ b) (tree d.1.tree) (body_fields ds)
    ∙ (sym (join_append (map row_with (map row_for d.1.tree)) (map row_with (rows_for ds)))
    ∙ ap join (sym (map-append row_with (map row_for d.1.tree) (rows_for ds))))
  where
    tree : (t : Tree) → join (map row_bytes t) ≡ join (map row_with (map row_for t))
    tree [] = refl
    tree (v ∷ t) = ap₂ (λ (a b : List ℕ). a ++ b) (row_bytes_fields v) (tree t)

pub image_fields : (r : Replica) → image r ≡ image_with (head_for r) (entries_from r) (rows_for r.documents)
unfolding image image_with head_bytes head_with head_for
image_fields r =
    ap₂ (λ (a b : List ℕ). head_with (head_for r) ++ (a ++ b)) (contents_fields (bodies r.documents) r.documents) (body_fields r.documents)

-- ---- a replica's image

module _ (r : Replica) (i : IsReplica r) where
  pub docs_each : Each IsDoc r.documents
  unfolding document_of
  docs_each =
      find_each bytes_order IsDoc r.documents i.ascending λ k d e. record { id = (i.documents k d e).id; tree = (i.documents k d e).tree }

  seqs_least : Each (λ d. 1 ≤ seq_of d) r.documents
  unfolding document_of
  seqs_least = find_each bytes_order (λ d. 1 ≤ seq_of d) r.documents i.ascending λ k d e. (i.documents k d e).seq_least

  seqs_distinct : Distinct (map seq_of r.documents)
  unfolding document_of
  seqs_distinct = own_forth r.documents i.ascending λ k j d e p q m. (i.documents k d p).seq_own j e q m

  hold : EntriesHold (bodies r.documents) None (entries_from r)
  hold =
      let a = i.documents_at_most in
      let b = i.revisions_at_most in
      let c = i.seq_at_most in
      let e = i.seq_largest in
      entries_forth (bodies r.documents) None r.documents docs_each i.ascending tt (omega arith) (omega arith)

  fits : Fits (head_for r) (entries_from r) (rows_for r.documents)
  unfolding head_for
  fits =
      let a = i.documents_at_most in
      let b = i.revisions_at_most in
      let c = i.seq_at_most in
      record {
        head = record {
          edition = omega arith;
          documents = omega arith;
          revisions = omega arith;
          zero = omega arith;
          seq = omega arith;
          total = omega arith;
        };
        entries = hold.fits;
        rows = rows_fit r.documents docs_each;
        documents = length_entries_for (bodies r.documents) r.documents;
        revisions = length_rows_for r.documents;
      }

  meets : Meets (total_length (length r.documents) (revisions_held r.documents)) (head_for r)
      (entries_from r) (rows_for r.documents)
  unfolding head_for
  meets =
      let ds : Map Id Document = r.documents in
      let due : ℕ = bodies r.documents in
      let seqs = seqs_entries_for due ds in
      record {
        long = omega arith;
        edition = refl;
        zero = refl;
        documents = i.documents_at_most;
        revisions = i.revisions_at_most;
        total = refl;
        given = refl;
        entries = hold.clear;
        sum = sum_entries_for due ds;
        seqs = seqs_forth (entries_for due ds) (subst (λ (l : List ℕ). Each (λ n. 1 ≤ n) l) (sym seqs) (each_onto (λ n. 1 ≤ n) seq_of ds seqs_least))
            (subst Distinct (sym seqs) seqs_distinct);
        largest = i.seq_largest ∙ sym (largest_entries_for due ds);
        rows = subst (λ (l : List (List Row)). AllFalse (in_each (bad_rows None) l)) (sym (deal_rows due ds)) (rows_clear ds docs_each);
        links = subst (λ (l : List (List Row)). AllFalse (in_each bad_links l)) (sym (deal_rows due ds)) (links_clear ds docs_each);
      }

  -- its fields are read back
  head_of_lem : head_of (image r) ≡ head_for r
  head_of_lem = ap head_of (image_fields r) ∙ image_head (head_for r) (entries_from r) (rows_for r.documents) fits

  entries_of_lem : entries_of (image r) ≡ entries_from r
  entries_of_lem = ap entries_of (image_fields r) ∙ image_entries (head_for r) (entries_from r) (rows_for r.documents) fits hold.small

  rows_of_lem : rows_of (image r) ≡ rows_for r.documents
  rows_of_lem = ap rows_of (image_fields r) ∙ image_rows (head_for r) (entries_from r) (rows_for r.documents) fits

  pub length-image : length (image r) ≡ total_length (length r.documents) (revisions_held r.documents)
  unfolding head_for
  length-image = ap length (image_fields r) ∙ length_image_with (head_for r) (entries_from r) (rows_for r.documents) fits

  pub bytes_image : Bytes (image r)
  bytes_image = subst Bytes (sym (image_fields r)) (bytes_image_with (head_for r) (entries_from r) (rows_for r.documents) fits)

  pub image_faultless : first_that (faults (image r)) ≡ None
  image_faultless = meets_faults (image r) (rw (length-image, head_of_lem, entries_of_lem, rows_of_lem) meets)

  pub image_read : replica_in (image r) ≡ r
  unfolding replica_in head_for
  image_read =
      let due : ℕ = bodies r.documents in
      let documents : documents_in node_in (entries_of (image r)) (deal (entries_of (image r)) (rows_of (image r))) ≡ r.documents =
      ap₂ (λ (es : List Entry) (ws : List Row). documents_in node_in es (deal es ws)) entries_of_lem rows_of_lem
      ∙ (ap (documents_in node_in (entries_for due r.documents)) (deal_rows due r.documents) ∙ documents_read due r.documents docs_each) in
      let seq : (head_of (image r)).seq ≡ r.seq.0 = ap (λ (h : Head). h.seq) head_of_lem in
      λ j. record { seq = record { 0 = seq j }; documents = documents j }

-- ---- bytes that meet every rule

module _ (s : List ℕ) (p : Bytes s) (e : first_that (faults s) ≡ None) where
  rules : Meets (length s) (head_of s) (entries_of s) (rows_of s)
  rules = faults_meets s e

  size : length s ≡ total_length (head_of s).documents (head_of s).revisions
  size = sym rules.given ∙ rules.total

  held : DocsHold (head_size + entry_size * (head_of s).documents) None (entries_of s) (rows_of s) (replica_in s).documents
  unfolding replica_in
  held =
      let f = image_fits s p size in
      documents_back (head_size + entry_size * (head_of s).documents) None (entries_of s) (rows_of s) f.entries f.rows rules.entries (rules.sum ∙ sym f.revisions) rules.rows rules.links

  documents_count : length (replica_in s).documents ≡ (head_of s).documents
  documents_count =
      sym (length_entries_for (head_size + entry_size * (head_of s).documents) (replica_in s).documents) ∙ (ap length held.entries ∙ (image_fits s p size).documents)

  revisions_count : revisions_held (replica_in s).documents ≡ (head_of s).revisions
  revisions_count =
      sym (sum_entries_for (head_size + entry_size * (head_of s).documents) (replica_in s).documents) ∙ (ap sum_rows held.entries ∙ rules.sum)

  seqs_held : Each (λ n. 1 ≤ n) (map seq_of (replica_in s).documents) × Distinct (map seq_of (replica_in s).documents)
  seqs_held =
      let due : ℕ = head_size + entry_size * (head_of s).documents in
      let same : map (λ (x : Entry). x.seq) (entries_of s) ≡ map seq_of (replica_in s).documents =
      ap (map (λ (x : Entry). x.seq)) (sym held.entries) ∙ seqs_entries_for due (replica_in s).documents in
      subst (λ (ns : List ℕ). Each (λ n. 1 ≤ n) ns × Distinct ns) same (seqs_back (entries_of s) rules.seqs)

  seq_is : (replica_in s).seq.0 ≡ (head_of s).seq
  unfolding replica_in
  seq_is = refl

  pub held_replica : IsReplica (replica_in s)
  unfolding document_of
  held_replica =
      let ds : Map Id Document = (replica_in s).documents in
      let due : ℕ = head_size + entry_size * (head_of s).documents in
      record {
        ascending = held.ascending;
        documents = λ k d q.
            let doc = each_find bytes_order IsDoc ds held.each k d q in
            record {
              id = doc.id;
              tree = doc.tree;
              seq_least = each_find bytes_order (λ x. 1 ≤ seq_of x) ds (each_from (λ n. 1 ≤ n) seq_of ds seqs_held.0) k d q;
              seq_own = λ j x u m. own_back ds seqs_held.1 k j d x q u m;
            };
        documents_at_most = subst (λ (n : ℕ). n ≤ documents_most) (sym documents_count) rules.documents;
        revisions_at_most = subst (λ (n : ℕ). n ≤ revisions_most) (sym revisions_count) rules.revisions;
        seq_largest = seq_is ∙ (rules.largest ∙ (ap largest (sym held.entries) ∙ largest_entries_for due ds));
        seq_at_most = subst (λ (n : ℕ). n ≤ seq_most) (sym seq_is) (let h = (image_fits s p size).head.seq in omega arith);
      }

  held_head : head_for (replica_in s) ≡ head_of s
  unfolding head_for
  held_head =
      let one : 1 ≡ (head_of s).edition = sym rules.edition in
      let zero : 0 ≡ (head_of s).zero = sym rules.zero in
      let total : total_length (length (replica_in s).documents) (revisions_held (replica_in s).documents) ≡ (head_of s).total =
      ap₂ (λ (d n : ℕ). total_length d n) documents_count revisions_count ∙ sym rules.total in
      λ j. record { edition = one j; documents = documents_count j; revisions = revisions_count j; zero = zero j; seq = seq_is j; total = total j }

  pub held_image : image (replica_in s) ≡ s
  held_image =
      let ds : Map Id Document = (replica_in s).documents in
      image_fields (replica_in s)
      ∙ (ap (λ (n : ℕ). image_with (head_for (replica_in s)) (entries_for (head_size + entry_size * n) ds) (rows_for ds)) documents_count
      ∙ (ap (λ (h : Head). image_with h (entries_for (head_size + entry_size * (head_of s).documents) ds) (rows_for ds)) held_head
      ∙ (ap₂ (image_with (head_of s)) held.entries held.rows ∙ image_written s p size)))
