-- What a line leaves: refused, or as the write that it is. Assumes nothing.
use mathlib.Core.Bool.{Bool, true, false}
use mathlib.Core.Logic.{inl, inr}
use Rattle.rules.proofs.MapLaws.{some_inj}
use Rattle.rules.specs.declared.Outcome.{Outcome}
use Rattle.std.specs.Prelude.{Result, Ok, Err}
use mathlib.Core.List.{List}
use Rattle.std.specs.Prelude.{Option, None, Some}
use mathlib.Core.Path.{◌≡◌, refl, sym, ap, ◌∙◌, subst}
use Prim.Native.Nat.{ℕ, ◌+◌, ◌*◌, ◌-◌, ◌≤◌, ◌<◌}
use native.Mathlib.Omega.{arith}
use borrow.Author.Tests.{eqb-true}
use lib.Dec.{eqb}
use lib.ListN.{length, take, drop, get_or}
use Rattle.rules.specs.declared.Content.{Content}
use Rattle.rules.specs.declared.Refusal.{Refusal}
use Rattle.rules.specs.declared.Refusal.TheVariants.{NotJson, BadMember, OtherRevisions, UnwritableId}
use Rattle.rules.specs.declared.Revision.{Revision}
use Rattle.rules.specs.Bytes.{join}
use Rattle.rules.specs.Choice.{pick, maybe, first_that}
use Rattle.rules.specs.Replica.{Id, Replica}
use Rattle.rules.specs.Room.{hash_size}
use Rattle.rules.specs.Write.{Write, write}
use Rattle.store.specs.Storage.{replica_of, IsStored}
use Rattle.lines.specs.Said.{once, of_string, named, read_rev}
use Rattle.lines.specs.Take.{Members, Revisions, Line, optional, read_revisions, read_content, all_said, read_line, other_revisions, unwritable, as_write, line_refusals, take_in}
use Rattle.fields.specs.declared.Name.TheVariants as name
use Rattle.writes.specs.Judge.{Wrote}
use Rattle.writes.specs.Path.{write_of}
use Rattle.takes.specs.declared.Spot.{Spot}
use Rattle.takes.specs.declared.Spot.TheVariants.{Absent, Once, Repeated}
use Rattle.takes.specs.declared.Walk.{Walk}
use Rattle.values.proofs.LineLaws.{no_brace, no_object, line_holds, no_end}
use Rattle.json_text.specs.Skips.{WsTo}
use Rattle.takes.specs.Spots.{Spots, spot, SpotsAre, AllFit, Fits, string_in, part_text, content_in}
use Rattle.takes.specs.Read.{WalkIs, WalkCase, RevsAt, OuterWalks, WholeLine, LineCase, LineWalks}
use Rattle.takes.specs.Path.{laid_most, laid_room, PathSays, PathRead, hashes_said}
use Rattle.takes.specs.Took.{Left, written, Stand, CanTake, TakesRest, TakesSpots, Took}
use Rattle.takes.proofs.SayLaws.{said_string, content_said_lem, all_fit}
use Rattle.takes.proofs.LaidLaws.{laid_write}

pub refused_left : {s : List ℕ} (n : Refusal) (o : Result Outcome Refusal × Replica) → IsStored s → o ≡ (Err n, replica_of s) → Left o (Err n) s
refused_left {s} n o h e = rw e (record { answer = refl; left = h.same; means = refl; is = h })

pub wrote_left : {s after : List ℕ} {r : Result Outcome Refusal} (w : Write) (o : Result Outcome Refusal × Replica) → Wrote s w r after → o ≡ write (replica_of s) w → Left o r after
wrote_left w o h e = rw e (record { answer = h.answer; left = h.left; means = h.means; is = h.is })

-- ---- the needs of `put`

pub put_refused : {s : List ℕ} (w : Write) (b : Bool) → IsStored s → b ≡ unwritable w.id → b ≡ true → Left (written (replica_of s) w) (Err UnwritableId) s
unfolding written
put_refused w b h e f = refused_left UnwritableId _ h (rw (sym e ∙ f))

pub put_wrote : {s after : List ℕ} {r : Result Outcome Refusal} (w : Write) (b : Bool) → b ≡ unwritable w.id → b ≡ false → Wrote s w r after → Left (written (replica_of s) w) r after
unfolding written
put_wrote w b e f h = wrote_left w _ h (rw (sym e ∙ f))

-- ---- what taking in is, by what a line says

module _ (r : Replica) (ms : Members) where
  pub takes_bad : read_line ms ≡ None → take_in r (Some ms) ≡ (Err BadMember, r)
  unfolding take_in line_refusals first_that
  takes_bad e = rw e

  module _ (l : Line) (e : read_line ms ≡ Some l) where
    pub takes_other : maybe false (other_revisions l.rev) l.revisions ≡ true → take_in r (Some ms) ≡ (Err OtherRevisions, r)
    unfolding take_in line_refusals first_that
    takes_other f = rw (e, f)

    pub takes_written : maybe false (other_revisions l.rev) l.revisions ≡ false → take_in r (Some ms) ≡ written r (as_write l)
    unfolding take_in line_refusals first_that written as_write
    takes_written f = go (unwritable l.id) refl
      where
        go : (b : Bool) → unwritable l.id ≡ b → take_in r (Some ms) ≡ pick b (Err UnwritableId, r) (write r (as_write l))
        go true g = rw (e, f, g)
        go false g = rw (e, f, g)

pub takes_none : (r : Replica) → take_in r None ≡ (Err NotJson, r)
unfolding take_in line_refusals first_that
takes_none r = refl

-- ---- what a line says, by what its members do

no_path : (a : Option Id) (b : Option Revision) (c : Option Content) → all_said a b None c ≡ None
no_path None b c = refl
no_path (Some a) None c = refl
no_path (Some a) (Some b) c = refl

no_content_lem : (a : Option Id) (b : Option Revision) (c : Option (Option Revisions)) → all_said a b c None ≡ None
no_content_lem None b c = refl
no_content_lem (Some a) None c = refl
no_content_lem (Some a) (Some b) None = refl
no_content_lem (Some a) (Some b) (Some c) = refl

no_rev_lem : (a : Option Id) (c : Option (Option Revisions)) (d : Option Content) → all_said a None c d ≡ None
no_rev_lem None c d = refl
no_rev_lem (Some a) c d = refl

abbrev id_said : Members → Option Id
id_said ms = maybe None (of_string Some) (once (named "_id" ms))

abbrev revision_said : Members → Option Revision
revision_said ms = maybe None (of_string read_rev) (once (named "_rev" ms))

abbrev revisions_said : Members → Option (Option Revisions)
revisions_said ms = optional read_revisions (named "_revisions" ms)

abbrev content_of : Members → Option Content
content_of ms = read_content (named "_deleted" ms) (named "label" ms)

module _ (ms : Members) where
  said_no_id : maybe None (of_string Some) (once (named "_id" ms)) ≡ None → read_line ms ≡ None
  unfolding read_line
  said_no_id e = rw e

  said_no_rev : maybe None (of_string read_rev) (once (named "_rev" ms)) ≡ None → read_line ms ≡ None
  unfolding read_line
  said_no_rev e = rw e (no_rev_lem (id_said ms) (revisions_said ms) (content_of ms))

  said_no_content : read_content (named "_deleted" ms) (named "label" ms) ≡ None → read_line ms ≡ None
  unfolding read_line
  said_no_content e = rw e (no_content_lem (id_said ms) (revision_said ms) (revisions_said ms))

  said_no_path : optional read_revisions (named "_revisions" ms) ≡ None → read_line ms ≡ None
  unfolding read_line
  said_no_path e = rw e (no_path (id_said ms) (revision_said ms) (content_of ms))

  said_all : (i : Id) (v : Revision) (o : Option Revisions) (c : Content)
      → maybe None (of_string Some) (once (named "_id" ms)) ≡ Some i
      → maybe None (of_string read_rev) (once (named "_rev" ms)) ≡ Some v
      → optional read_revisions (named "_revisions" ms) ≡ Some o
      → read_content (named "_deleted" ms) (named "label" ms) ≡ Some c
      → read_line ms ≡ Some (record { id = i; rev = v; revisions = o; content = c })
  unfolding read_line
  said_all i v o c a b d e = rw (a, b, d, e)

-- ---- the needs of `take_rest`

module _ (s text : List ℕ) (i : Id) (v : Revision) (p : Spots) (h : IsStored s) where
  content_is : (ms : Members) → SpotsAre 15 text ms p → read_content (named "_deleted" ms) (named "label" ms) ≡ content_in text (spot p name.Deleted) (spot p name.Label)
  content_is ms a = content_said_lem 14 text (named "_deleted" ms) (named "label" ms) (spot p name.Deleted) (spot p name.Label) (a.are name.Deleted) (a.are name.Label)

  pub rest_no_content : (r : Option Content) → r ≡ content_in text (spot p name.Deleted) (spot p name.Label) → r ≡ None → TakesRest s text i v p (Err BadMember) s
  unfolding TakesRest
  rest_no_content r e f ms a x y =
      refused_left BadMember _ h (takes_bad (replica_of s) ms (said_no_content ms (content_is ms a ∙ (sym e ∙ f))))

  module _ (before after : List ℕ) (q : Result ℕ Refusal) (g : PathRead 12 text (spot p name.Revisions) v before q after) where
    say : (ms : Members) → SpotsAre 15 text ms p → PathSays (optional read_revisions (named "_revisions" ms)) v after q
    say ms a = g.say (named "_revisions" ms) (a.are name.Revisions)

    -- the hashes fit the place that they are laid down in
    pub path_fits : Stand text p → (n : ℕ) → q ≡ Ok n → (n ≤ laid_most) × (length after ≡ laid_room)
    path_fits a n f =
        let t = subst (PathSays (optional read_revisions (named "_revisions" a.members)) v after) f (say a.members a.are) in
        (t.3.most, t.3.room)

    module _ (r : Option Content) (c : Content) (e : r ≡ content_in text (spot p name.Deleted) (spot p name.Label)) (f : r ≡ Some c) where
      content_there : (ms : Members) → SpotsAre 15 text ms p → read_content (named "_deleted" ms) (named "label" ms) ≡ Some c
      content_there ms a = content_is ms a ∙ (sym e ∙ f)

      pub rest_refused : (n : Refusal) → q ≡ Err n → TakesRest s text i v p (Err n) s
      unfolding TakesRest
      rest_refused n k ms a x y = go (subst (PathSays (optional read_revisions (named "_revisions" ms)) v after) k (say ms a))
        where
          go : PathSays (optional read_revisions (named "_revisions" ms)) v after (Err n) → Left (take_in (replica_of s) (Some ms)) (Err n) s
          go (inl t) = rw t.1 (refused_left BadMember _ h (takes_bad (replica_of s) ms (said_no_path ms t.0)))
          go (inr t) =
              let l : Line = record { id = i; rev = v; revisions = Some t.0; content = c } in
              rw t.3 (refused_left OtherRevisions _ h (takes_other (replica_of s) ms l (said_all ms i v (Some t.0) c x y t.1 (content_there ms a)) t.2))

      pub rest_written : (n : ℕ) {w : Result Outcome Refusal} {left : List ℕ} → q ≡ Ok n
          → Left (written (replica_of s) (write_of i v.number (take (n * hash_size) after) c)) w left → TakesRest s text i v p w left
      unfolding TakesRest written as_write
      rest_written n {w} {left} k put ms a x y =
          let t = subst (PathSays (optional read_revisions (named "_revisions" ms)) v after) k (say ms a) in
          let l : Line = record { id = i; rev = v; revisions = t.0; content = c } in
          let u : take_in (replica_of s) (Some ms) ≡ written (replica_of s) (as_write l) = takes_written (replica_of s) ms l (said_all ms i v t.0 c x y t.1 (content_there ms a)) t.2 in
          let z : write (replica_of s) (write_of i v.number (take (n * hash_size) after) c) ≡ write (replica_of s) (write_of i v.number (join (hashes_said v t.0)) c)
          = laid_write (replica_of s) i v.number c t.3 in
          subst (λ (o : Result Outcome Refusal × Replica). Left o w left)
          (ap (λ (o : Result Outcome Refusal × Replica). pick (unwritable i) (Err UnwritableId, replica_of s) o) z ∙ sym u) put

-- ---- the needs of `take_spots`

module _ (s text : List ℕ) (p : Spots) (h : IsStored s) where
  id_is : (ms : Members) → SpotsAre 15 text ms p → maybe None (of_string Some) (once (named "_id" ms)) ≡ maybe None Some (part_text text (string_in text (spot p name.Id)))
  id_is ms a = said_string 14 text (named "_id" ms) Some (spot p name.Id) (a.are name.Id)

  rev_is : (ms : Members) → SpotsAre 15 text ms p → maybe None (of_string read_rev) (once (named "_rev" ms)) ≡ maybe None read_rev (part_text text (string_in text (spot p name.Rev)))
  rev_is ms a = said_string 14 text (named "_rev" ms) read_rev (spot p name.Rev) (a.are name.Rev)

  pub spots_no_id : (q : Option (ℕ × ℕ)) → q ≡ string_in text (spot p name.Id) → q ≡ None → TakesSpots s text p (Err BadMember) s
  unfolding TakesSpots
  spots_no_id q e f ms a =
      refused_left BadMember _ h (takes_bad (replica_of s) ms (said_no_id ms (id_is ms a ∙ ap (λ (x : Option (ℕ × ℕ)). maybe None Some (part_text text x)) (sym e ∙ f))))

  pub spots_no_rev : (q : Option (ℕ × ℕ)) → q ≡ string_in text (spot p name.Rev) → q ≡ None → TakesSpots s text p (Err BadMember) s
  unfolding TakesSpots
  spots_no_rev q e f ms a =
      refused_left BadMember _ h (takes_bad (replica_of s) ms (said_no_rev ms (rev_is ms a ∙ ap (λ (x : Option (ℕ × ℕ)). maybe None read_rev (part_text text x)) (sym e ∙ f))))

  module _ (q : Option (ℕ × ℕ)) (x y : ℕ) (e : q ≡ string_in text (spot p name.Rev)) (f : q ≡ Some (x, y)) (r : Option Revision) (g : r ≡ read_rev (take (y - x) (drop x text))) where
    rev_read : (ms : Members) → SpotsAre 15 text ms p → maybe None (of_string read_rev) (once (named "_rev" ms)) ≡ r
    rev_read ms a = rev_is ms a ∙ (ap (λ (z : Option (ℕ × ℕ)). maybe None read_rev (part_text text z)) (sym e ∙ f) ∙ sym g)

    pub spots_bad_rev : r ≡ None → TakesSpots s text p (Err BadMember) s
    unfolding TakesSpots
    spots_bad_rev k ms a = refused_left BadMember _ h (takes_bad (replica_of s) ms (said_no_rev ms (rev_read ms a ∙ k)))

    pub spots_rest : (o : Option (ℕ × ℕ)) (from to : ℕ) (v : Revision) → o ≡ string_in text (spot p name.Id) → o ≡ Some (from, to) → r ≡ Some v
        → (w : Result Outcome Refusal) (left : List ℕ) → TakesRest s text (take (to - from) (drop from text)) v p w left → TakesSpots s text p w left
    unfolding TakesSpots TakesRest
    spots_rest o from to v u z k w left t ms a =
        t ms a (id_is ms a ∙ ap (λ (b : Option (ℕ × ℕ)). maybe None Some (part_text text b)) (sym u ∙ z)) (rev_read ms a ∙ k)

pub stand_fits : {text : List ℕ} {p : Spots} → Stand text p → AllFit text p
stand_fits h = all_fit {d = 14} h.are

-- a string's part lies within the line
pub part-within : (text : List ℕ) (q : Spot) (o : Option (ℕ × ℕ)) (from to : ℕ) → Fits text q → o ≡ string_in text q → o ≡ Some (from, to) → (from ≤ to) × (to ≤ length text)
part-within text q o from to h e f = go q h (sym e ∙ f)
  where
    no : ◌≡◌ {A = Option (ℕ × ℕ)} None (Some (from, to)) → ⊥
    no k = let z : ◌≡◌ {A = ℕ} 0 1 = cc in omega arith

    go : (q : Spot) → Fits text q → string_in text q ≡ Some (from, to) → (from ≤ to) × (to ≤ length text)
    go Absent h e = absurd (no e)
    go Repeated h e = absurd (no e)
    go (Once v x) h e = quoted (eqb (get_or text v 0) 34) refl e
      where
        quoted : (b : Bool) → eqb (get_or text v 0) 34 ≡ b → ◌≡◌ {A = Option (ℕ × ℕ)} (pick b (Some (v + 1, x - 1)) None) (Some (from, to)) → (from ≤ to) × (to ≤ length text)
        quoted false k e = absurd (no e)
        quoted true k e =
            let p = some_inj e in
            let a : v + 1 ≡ from = ap (λ (x : ℕ × ℕ). x.0) p in
            let c : x - 1 ≡ to = ap (λ (x : ℕ × ℕ). x.1) p in
            let w = h.2 (eqb-true (get_or text v 0) 34 k) in
            let u = h.1 in
            (omega arith, omega arith)

-- ---- the needs of `walk_line`

module _ {s : List ℕ} {at : ℕ} (w : WsTo s 0 at) (before after : List ℕ) where
  pub line_no_brace : (get_or s at 0 ≡ 123 → ⊥) → LineWalks s before None before
  line_no_brace f = record { room = refl; is = no_brace w f }

  module _ (r : Option (Walk (ℕ × ℕ))) (h : OuterWalks 12 s at before r after) where
    pub line_no_object : r ≡ None → LineWalks s before None after
    line_no_object f = record { room = h.room; is = no_object w (subst (WalkCase (RevsAt 12 s) name.Revisions 123 15 s at after) f h.is) }

    module _ (x : Walk (ℕ × ℕ)) (f : r ≡ Some x) where
      is_outer : WalkIs (RevsAt 12 s) name.Revisions 123 15 s at x after
      is_outer = subst (WalkCase (RevsAt 12 s) name.Revisions 123 15 s at after) f h.is

      pub outer_within : x.end ≤ length s
      outer_within = is_outer.passes.is.within

      module _ {e : ℕ} (v : WsTo s x.end e) where
        pub line_ends : length s ≤ e → LineWalks s before (Some x) after
        line_ends k = record {
          room = h.room;
          is = record {
            line_is = record { members = is_outer.passes.members; is = line_holds w is_outer.passes.is v k; spots = is_outer.passes.spots };
            kept = is_outer.kept;
          };
        }

        pub line_goes_on : e < length s → LineWalks s before None after
        line_goes_on k = record { room = h.room; is = no_end w is_outer.passes.is v k }

-- ---- the needs of `take_in`

module _ (s text : List ℕ) (h : IsStored s) (before after : List ℕ) (r : Option (Walk (ℕ × ℕ))) (g : LineWalks text before r after) where
  pub took_none : r ≡ None → Took s text (Err NotJson) s
  took_none f =
      let l = refused_left NotJson (take_in (replica_of s) None) h (takes_none (replica_of s)) in
      record { members = None; holds = subst (LineCase text after) f g.is; answer = l.answer; left = l.left; means = l.means; is = l.is }

  module _ (x : Walk (ℕ × ℕ)) (f : r ≡ Some x) where
    whole : WholeLine text x after
    whole = subst (LineCase text after) f g.is

    pub can_take : length before ≡ laid_room → CanTake s text x after
    can_take room = record {
      stored = h;
      stand = record { members = whole.line_is.members; are = whole.line_is.spots };
      kept = whole.kept;
      room = g.room ∙ room;
    }

    pub took_some : (w : Result Outcome Refusal) (left : List ℕ) → TakesSpots s text x.spots w left → Took s text w left
    unfolding TakesSpots
    took_some w left t =
        let i = whole.line_is in
        let l = t i.members i.spots in
        record { members = Some i.members; holds = i.is; answer = l.answer; left = l.left; means = l.means; is = l.is }
