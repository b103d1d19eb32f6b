-- A replica's documents: their entries and rows meet the rules exactly if they are a replica's. Assumes nothing.
use mathlib.Core.Path.{◌≡◌, refl, sym, ap, ap₂, ◌∙◌, subst}
use Rattle.std.specs.declared.cmp.Ordering.{Ordering}
use mathlib.Core.Bool.{Bool, false, not}
use mathlib.Core.List.{List, [], ◌∷◌, ◌++◌, map}
use Rattle.std.specs.Prelude.{Option, None, Some}
use Prim.Native.Nat.{ℕ, suc, ◌+◌, ◌*◌, ◌≤◌, max}
use native.Mathlib.Omega.{arith}
use lib.ListN.{length, take, drop, length-append, length-map, length-drop, take-append-drop}
use lib.Seq.{take_at, drop_at, length-take-le}
use Rattle.rules.specs.Faults.{bad_entries, not_above, largest, sum_rows, bad_rows, bad_links, in_each}
use Rattle.rules.specs.Image.{node_in, deal, documents_in, total_length}
use Rattle.rules.specs.Layout.{Entry, Row, row_size}
use Rattle.rules.specs.Map.{Map, Below, Ascending}
use Rattle.rules.specs.Order.{order_bytes, is_less}
use Rattle.rules.specs.Replica.{Id, Document, revisions_held, largest_seq, IsId, IsTree}
use Rattle.rules.specs.Room.{documents_most, revisions_most, seq_most, id_most}
use Rattle.images.proofs.Tests.{AllFalse}
use Rattle.images.proofs.Lists.{Each, each_map, each_onto, each_append, each_take, each_drop, map-map, map-id}
use Rattle.images.proofs.Rows.{RowFits, IsRow, row_for, row_of_node, fields_fit}
use Rattle.images.proofs.Entries.{EntryFits, EntryRules, rules_entry, entry_rules, entry_for, IsEntry, entry_for_fits, entry_for_rules, document_entry, entry_id}
use Rattle.images.proofs.Trees.{is_less_lem, tree_rows, tree_forth, tree_back}
use Rattle.images.proofs.Sequences.{seq_of}

-- ---- the fields that documents have

unfoldable pub entries_for : ℕ → Map Id Document → List Entry
entries_for place [] = []
entries_for place (d ∷ ds) = entry_for place d ∷ entries_for (place + row_size * length d.1.tree) ds

unfoldable pub rows_for : Map Id Document → List Row
rows_for [] = []
rows_for (d ∷ ds) = map row_for d.1.tree ++ rows_for ds

pub length_entries_for : (place : ℕ) (ds : Map Id Document) → length (entries_for place ds) ≡ length ds
unfolding entries_for
length_entries_for place [] = refl
length_entries_for place (d ∷ ds) = ap suc (length_entries_for (place + row_size * length d.1.tree) ds)

pub length_rows_for : (ds : Map Id Document) → length (rows_for ds) ≡ revisions_held ds
unfolding rows_for revisions_held
length_rows_for [] = refl
length_rows_for (d ∷ ds) =
    length-append (map row_for d.1.tree) (rows_for ds) ∙ ap₂ (λ (a b : ℕ). a + b) (length-map d.1.tree row_for) (length_rows_for ds)

pub sum_entries_for : (place : ℕ) (ds : Map Id Document) → sum_rows (entries_for place ds) ≡ revisions_held ds
unfolding entries_for entry_for sum_rows revisions_held
sum_entries_for place [] = refl
sum_entries_for place (d ∷ ds) = ap (λ (n : ℕ). length d.1.tree + n) (sum_entries_for (place + row_size * length d.1.tree) ds)

pub largest_entries_for : (place : ℕ) (ds : Map Id Document) → largest (entries_for place ds) ≡ largest_seq ds
unfolding entries_for entry_for largest largest_seq
largest_entries_for place [] = refl
largest_entries_for place (d ∷ ds) = ap (max (seq_of d)) (largest_entries_for (place + row_size * length d.1.tree) ds)

pub seqs_entries_for : (place : ℕ) (ds : Map Id Document) → map (λ (e : Entry). e.seq) (entries_for place ds) ≡ map seq_of ds
unfolding entries_for entry_for
seqs_entries_for place [] = refl
seqs_entries_for place (d ∷ ds) = ap {B = List ℕ} (λ l. seq_of d ∷ l) (seqs_entries_for (place + row_size * length d.1.tree) ds)

-- each document's own rows
pub deal_rows : (place : ℕ) (ds : Map Id Document) → deal (entries_for place ds) (rows_for ds) ≡ map (λ d. map row_for d.1.tree) ds
unfolding deal entries_for entry_for rows_for
deal_rows place [] = refl
deal_rows place (d ∷ ds) =
    let rs : List Row = map row_for d.1.tree in
    let n : length rs ≡ length d.1.tree = length-map d.1.tree row_for in
    ap₂ {C = List (List Row)} (λ a b. a ∷ b) (take_at rs (rows_for ds) (length d.1.tree) n)
    (ap (deal (entries_for (place + row_size * length d.1.tree) ds)) (drop_at rs (rows_for ds) (length d.1.tree) n)
    ∙ deal_rows (place + row_size * length d.1.tree) ds)

-- ---- documents give entries and rows that meet the rules

-- what one document satisfies by itself
pub record IsDoc (d : Id × Document) : Type 0 where
  pub id : IsId d.0
  pub tree : IsTree d.1.tree

-- above the id before, where there is one
abbrev pub AboveId : Option Id → Map Id Document → Type 0
AboveId None ds = Unit {0}
AboveId (Some j) ds = Below order_bytes j ds

not_above_lem : (before : Option Id) (d : Id × Document) (ds : Map Id Document) → AboveId before (d ∷ ds) → not_above before d.0 ≡ false
not_above_lem None d ds b = refl
not_above_lem (Some j) d ds b = ap (λ (o : Ordering). not (is_less o)) b

pub record EntriesHold (place : ℕ) (before : Option Id) (es : List Entry) : Type 0 where
  pub clear : AllFalse (bad_entries place before es)
  pub fits : Each EntryFits es
  pub small : Each (λ e. e.size ≤ id_most) es

pub entries_forth : (place : ℕ) (before : Option Id) (ds : Map Id Document) → Each IsDoc ds → Ascending order_bytes ds → AboveId before ds
    → place + row_size * revisions_held ds ≤ total_length documents_most revisions_most → largest_seq ds ≤ seq_most → EntriesHold place before (entries_for place ds)
unfolding entries_for entry_for bad_entries revisions_held largest_seq
entries_forth place before [] r s b room most = record { clear = tt; fits = tt; small = tt }
entries_forth place before (d ∷ ds) r s b room most =
    go (entries_forth (place + row_size * length d.1.tree) (Some d.0) ds r.1 s.1 s.0 (omega arith) (omega arith))
  where
    entry : IsEntry place d
    entry = record {
      id = r.0.id;
      rows_least = r.0.tree.some_revision;
      rows_most = omega arith;
      seq_at_most = omega arith;
      place = omega arith;
    }

    go : EntriesHold (place + row_size * length d.1.tree) (Some d.0) (entries_for (place + row_size * length d.1.tree) ds)
        → EntriesHold place before (entries_for place (d ∷ ds))
    go h = record {
      clear = (rules_entry place before (entry_for place d) (entry_for_rules place before d entry (not_above_lem before d ds b)), h.clear);
      fits = (entry_for_fits place d entry, h.fits);
      small = (r.0.id.most, h.small);
    }

pub rows_fit : (ds : Map Id Document) → Each IsDoc ds → Each RowFits (rows_for ds)
unfolding rows_for
rows_fit [] r = tt
rows_fit (d ∷ ds) r =
    each_append RowFits (map row_for d.1.tree) (rows_for ds)
    (each_onto RowFits row_for d.1.tree (each_map IsRow (λ v. RowFits (row_for v)) fields_fit d.1.tree (tree_rows d.1.tree r.0.tree)))
    (rows_fit ds r.1)

-- a test on each document's rows
each_clear : (f : List Row → List Bool) (ds : Map Id Document) → Each (λ d. AllFalse (f (map row_for d.1.tree))) ds
    → AllFalse (in_each f (map (λ d. map row_for d.1.tree) ds))
unfolding in_each
each_clear f [] h = tt
each_clear f (d ∷ ds) h =
    each_append (λ b. b ≡ false) (f (map row_for d.1.tree)) (in_each f (map (λ e. map row_for e.1.tree) ds)) h.0 (each_clear f ds h.1)

pub rows_clear : (ds : Map Id Document) → Each IsDoc ds → AllFalse (in_each (bad_rows None) (map (λ d. map row_for d.1.tree) ds))
rows_clear ds r =
    each_clear (bad_rows None) ds
    (each_map IsDoc (λ d. AllFalse (bad_rows None (map row_for d.1.tree))) (λ d i. (tree_forth d.1.tree i.tree).0) ds r)

pub links_clear : (ds : Map Id Document) → Each IsDoc ds → AllFalse (in_each bad_links (map (λ d. map row_for d.1.tree) ds))
links_clear ds r =
    each_clear bad_links ds
    (each_map IsDoc (λ d. AllFalse (bad_links (map row_for d.1.tree))) (λ d i. (tree_forth d.1.tree i.tree).1) ds r)

-- documents are read back from their entries and rows
pub documents_read : (place : ℕ) (ds : Map Id Document) → Each IsDoc ds
    → documents_in node_in (entries_for place ds) (map (λ d. map row_for d.1.tree) ds) ≡ ds
unfolding documents_in entries_for entry_for
documents_read place [] r = refl
documents_read place (d ∷ ds) r =
    let t : map node_in (map row_for d.1.tree) ≡ d.1.tree =
    map-map row_for node_in d.1.tree
    ∙ map-id (λ v. node_in (row_for v)) d.1.tree
    (each_map IsRow (λ v. node_in (row_for v) ≡ v) row_of_node d.1.tree (tree_rows d.1.tree r.0.tree)) in
    ap₂ {C = Map Id Document} (λ a b. a ∷ b) (λ i. (d.0, record { seq = d.1.seq; tree = t i }))
    (documents_read (place + row_size * length d.1.tree) ds r.1)

-- ---- entries and rows that meet the rules hold documents

pub record DocsHold (due : ℕ) (before : Option Id) (es : List Entry) (ws : List Row) (ds : Map Id Document) : Type 0 where
  pub entries : entries_for due ds ≡ es
  pub rows : rows_for ds ≡ ws
  pub each : Each IsDoc ds
  pub ascending : Ascending order_bytes ds
  pub above : AboveId before ds

each_split : (P : Bool → Type 0) (a b : List Bool) → Each P (a ++ b) → Each P a × Each P b
each_split P [] b h = (tt, h)
each_split P (x ∷ a) b h = let r = each_split P a b h.1 in ((h.0, r.0), r.1)

none_left : (ws : List Row) → 0 ≡ length ws → [] ≡ ws
none_left [] e = refl
none_left (w ∷ ws) e = absurd (omega arith)

-- one entry with its rows, in front of what the later ones hold
documents_step : (due : ℕ) (before : Option Id) (e : Entry) (es : List Entry) (ws : List Row) (ds : Map Id Document)
    → EntryFits e → EntryRules due before e → Each RowFits ws → e.rows ≤ length ws
    → AllFalse (bad_rows None (take e.rows ws)) → AllFalse (bad_links (take e.rows ws))
    → DocsHold (due + row_size * e.rows) (Some e.id) es (drop e.rows ws) ds
    → DocsHold due before (e ∷ es) ws ((e.id, record { seq = record { 0 = e.seq }; tree = map node_in (take e.rows ws) }) ∷ ds)
unfolding entries_for rows_for
documents_step due before e es ws ds f r g enough rows links h =
    let own : List Row = take e.rows ws in
    let d : Id × Document = (e.id, record { seq = record { 0 = e.seq }; tree = map node_in own }) in
    let n : length own ≡ e.rows = length-take-le e.rows ws enough in
    let m : length (map node_in own) ≡ e.rows = length-map own node_in ∙ n in
    let tree = tree_back own (each_take RowFits e.rows ws g) (subst (λ (k : ℕ). 1 ≤ k) (sym n) r.rows) rows links in
    record {
      entries = ap₂ {C = List Entry} (λ a b. a ∷ b) (document_entry due before e d f r refl m refl)
          (ap (λ (k : ℕ). entries_for (due + row_size * k) ds) m ∙ h.entries);
      rows = ap₂ (λ (a b : List Row). a ++ b) tree.1 h.rows ∙ take-append-drop e.rows ws;
      each = (record { id = entry_id due before e f r; tree = tree.0 }, h.each);
      ascending = (h.above, h.ascending);
      above = first before r.above;
    }
  where
    first : (b : Option Id) → not_above b e.id ≡ false → AboveId b ((e.id, record { seq = record { 0 = e.seq }; tree = map node_in (take e.rows ws) }) ∷ ds)
    first None z = tt
    first (Some j) z = is_less_lem (order_bytes j e.id) z

pub documents_back : (due : ℕ) (before : Option Id) (es : List Entry) (ws : List Row) → Each EntryFits es → Each RowFits ws
    → AllFalse (bad_entries due before es) → sum_rows es ≡ length ws
    → AllFalse (in_each (bad_rows None) (deal es ws)) → AllFalse (in_each bad_links (deal es ws))
    → DocsHold due before es ws (documents_in node_in es (deal es ws))
unfolding bad_entries sum_rows deal in_each documents_in entries_for rows_for
documents_back due before [] ws f g bad sum rows links =
    record { entries = refl; rows = none_left ws sum; each = tt; ascending = tt; above = nothing before }
  where
    nothing : (b : Option Id) → AboveId b []
    nothing None = tt
    nothing (Some j) = tt
documents_back due before (e ∷ es) ws f g bad sum rows links =
    let own : List Row = take e.rows ws in
    let later : List Row = drop e.rows ws in
    let a = each_split (λ b. b ≡ false) (bad_rows None own) (in_each (bad_rows None) (deal es later)) rows in
    let b = each_split (λ b. b ≡ false) (bad_links own) (in_each bad_links (deal es later)) links in
    let rest : sum_rows es ≡ length later = let l = length-drop e.rows ws in omega arith in
    documents_step due before e es ws (documents_in node_in es (deal es later)) f.0 (entry_rules due before e bad.0) g (omega arith) a.0 b.0
    (documents_back (due + row_size * e.rows) (Some e.id) es later f.1 (each_drop RowFits e.rows ws g) bad.1 rest a.1 b.1)
