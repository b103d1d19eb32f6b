-- Where a document is found: `place_of_id` agrees with `find`, and says where a change goes. Assumes nothing.
use mathlib.Core.Path.{◌≡◌, ap, ◌∙◌, sym}
use Rattle.std.specs.declared.cmp.Ordering.TheVariants.{Less, Equal, Greater}
use Rattle.std.specs.declared.cmp.Ordering.{Ordering}
use Rattle.std.specs.Prelude.{Ok, Err}
use Rattle.std.specs.Prelude.{Option, Some}
use Prim.Native.Nat.{ℕ, suc, ◌+◌, ◌≤◌, ◌<◌}
use native.Mathlib.Numerals.{add-one}
use lib.ListN.{length, drop, drop_of_length-le}
use lib.Seq.{drop-cons}
use Rattle.rules.specs.Map.{Map, by_order, find, alter}
use Rattle.rules.specs.Order.{order_bytes}
use Rattle.rules.specs.Replica.{Id, Document}
use Rattle.rules.proofs.OrderLaws.{bytes_order}
use Rattle.tree.specs.Table.{place}
use Rattle.tree.proofs.PlaceLaws.{HasGap, has_key, has_gap}
use Rattle.store.specs.Documents.{no_document, document_at, place_of_id}
use Rattle.store.specs.Change.{modify}
use Rattle.store.proofs.TableLaws.{set_modify, modify_same}

-- the id is document d's: the map has what stands there, and a change at the id changes it
pub record IsAt (d : ℕ) (i : Id) (ds : Map Id Document) : Type 0 where
  pub within : d < length ds
  pub is : (document_at ds d).0 ≡ i
  pub found : find order_bytes i ds ≡ Some (document_at ds d).1
  pub altered : (f : Option Document → Document) → alter order_bytes i f ds ≡ modify d (λ x. (x.0, f (Some x.1))) ds

-- the id is no document's: the map has nothing, and a change at the id puts a document in at d
abbrev pub IsGap : ℕ → Id → Map Id Document → Type 0
IsGap d i ds = HasGap order_bytes d i ds

pub id_found : (d : ℕ) (i : Id) (ds : Map Id Document) → place_of_id 0 i ds ≡ Ok d → IsAt d i ds
unfolding document_at
id_found d i ds e =
    let h = has_key bytes_order no_document d i ds e in
    let x = document_at ds d in
    record {
      within = h.within;
      is = h.is;
      found = h.found;
      altered = λ f.
          h.altered f
          ∙ (set_modify ds d _ ∙ modify_same d _ _ ds no_document (ap (λ (j : Id). (j, f (Some x.1))) (sym h.is)));
    }

pub id_gap : (d : ℕ) (i : Id) (ds : Map Id Document) → place_of_id 0 i ds ≡ Err d → IsGap d i ds
id_gap d i ds e = has_gap bytes_order no_document d i ds e

-- ---- a search from the first document on

-- document d has the id x, and o is the order of i and x
module _ (i : Id) (ds : Map Id Document) (d : ℕ) (h : d < length ds) {x : Id} (e : x ≡ (document_at ds d).0) {o : Ordering} (p : o ≡ order_bytes i x) where
  step : place_of_id d i (drop d ds) ≡ by_order o (Err d) (Ok d) (place_of_id (suc d) i (drop (suc d) ds))
  unfolding place document_at
  step = rw (drop-cons ds d no_document h, p, e)

  pub search_less : o ≡ Less → place_of_id d i (drop d ds) ≡ Err d
  search_less q = step ∙ rw q

  pub search_equal : o ≡ Equal → place_of_id d i (drop d ds) ≡ Ok d
  search_equal q = step ∙ rw q

  pub search_next : o ≡ Greater → place_of_id d i (drop d ds) ≡ place_of_id (d + 1) i (drop (d + 1) ds)
  search_next q = step ∙ rw (q, add-one d)

pub search_end : (i : Id) (ds : Map Id Document) (d : ℕ) → length ds ≤ d → place_of_id d i (drop d ds) ≡ Err d
unfolding place
search_end i ds d h = rw (drop_of_length-le ds h)
