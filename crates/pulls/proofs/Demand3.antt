-- Demand 3, of the compiled write and pull: what their promises say of any bytes that hold replicas. Assumes nothing.
use mathlib.Core.Path.{◌≡◌, refl, sym, ap, ◌∙◌}
use Rattle.rules.specs.declared.Refusal.{Refusal}
use Rattle.rules.specs.declared.Outcome.{Outcome}
use Rattle.std.specs.Prelude.{Result, Ok, Err}
use mathlib.Core.List.{List, [], ◌∷◌, ◌++◌}
use mathlib.Core.Logic.{inl, inr, ◌↔◌}
use Prim.Native.Nat.{ℕ}
use Rattle.rules.specs.declared.Counts.{Counts}
use Rattle.rules.specs.declared.Outcome.TheVariants.{Changed, Unchanged}
use Rattle.rules.specs.declared.Seq.{Seq}
use Rattle.rules.specs.Pull.{offers, count, no_counts, take_in, pull}
use Rattle.rules.specs.Read.{winner, documents_after}
use Rattle.rules.specs.Replica.{Id, Document, Replica, fresh, document_of, tree_of}
use Rattle.rules.specs.Union.{In, Things, given, held, both, IsUnion, SameButSeq, WellFormed, Compatible, Fits, Within, write_all, IsAccepted, AllAccepted, SeqSuffices, all_from}
use Rattle.rules.specs.Write.{Write, write}
use Rattle.union.specs.Said.{SameAnswers, there, Agreed, total, leaf_count, answers, CountsEach}
use Rattle.union.proofs.Demand3 as union
use Rattle.union.proofs.Pulls.{pull_writes}
use Rattle.union.proofs.Unions.{alike, one_union, union_alike}
use Rattle.store.specs.Storage.{replica_of, stored, IsStored}
use Rattle.store.proofs.StoredLaws.{stored_back, fresh_fits}
use Rattle.writes.specs.Calls.{WriteCalls, NoneRefused, answers_of}
use Rattle.pulls.specs.Pulls.{Pulled}
use Rattle.pulls.specs.BothWays.{BothWays, BothMade, BothHold}
use Rattle.pulls.proofs.Calls.{Ran, ran, answered}

-- ---- writes in any order, from fresh

fresh_is : (s : List ℕ) → s ≡ stored fresh → replica_of s ≡ fresh
fresh_is s e = ap replica_of e ∙ stored_back fresh fresh_fits

module _ (ws : List Write) (s left : List ℕ) (e : s ≡ stored fresh) (calls : WriteCalls ws s left) where
  pub from_fresh : Ran ws s left calls
  from_fresh =
      ran ws s left
      (record { same = e ∙ ap stored (sym (fresh_is s e)); replica = rw (fresh_is s e) union.fresh_is_replica }) calls

  pub left_is : replica_of left ≡ write_all ws fresh
  left_is = from_fresh.replica ∙ ap (write_all ws) (fresh_is s e)

  -- none is refused, and the bytes left hold exactly the union of what was given
  pub union_of_writes : ((w : Write) → In w ws → WellFormed w) → Compatible (given ws) → Fits (given ws) → NoneRefused ws s left calls × IsUnion (replica_of left) (given ws)
  union_of_writes k c f =
      let u = union.union_of_writes ws k c f in (
        from_fresh.accepted (rw (fresh_is s e) u.0),
        rw left_is u.1,
      )

-- the same writes in any order and with any repeats leave the same but for sequences
pub any_order : (ws vs : List Write) → ((w : Write) → In w ws ↔ In w vs) → ((w : Write) → In w ws → WellFormed w) → Compatible (given ws) → Fits (given ws)
    → (s a b : List ℕ) → s ≡ stored fresh → WriteCalls ws s a → WriteCalls vs s b
    → SameButSeq (replica_of a) (replica_of b) × ((i : Id) → winner (tree_of (replica_of a) i) ≡ winner (tree_of (replica_of b) i))
any_order ws vs same k c f s a b e calls others =
    rw (left_is ws s a e calls, left_is vs s b e others) (union.any_order ws vs same k c f)

-- ---- pulls both ways

count_accepted : (o : Result Outcome Refusal) (c : Counts) → IsAccepted o → (count o c).refused ≡ c.refused
unfolding count
count_accepted (Ok Changed) c h = refl
count_accepted (Ok Unchanged) c h = refl
count_accepted (Err n) c h = absurd h

take_in_accepted : (ws : List Write) (c : Counts) (r : Replica) → AllAccepted ws r → (take_in ws (c, r)).0.refused ≡ c.refused
unfolding take_in
take_in_accepted [] c r h = refl
take_in_accepted (w ∷ ws) c r h = take_in_accepted ws (count (write r w).0 c) (write r w).1 h.1 ∙ count_accepted (write r w).0 c h.0

pull_accepted : (q : Seq) (s t : Replica) → AllAccepted (offers q s) t → (pull q s t).0.refused ≡ 0
unfolding pull
pull_accepted q s t h = take_in_accepted (offers q s) no_counts t h

module _ (a b a' b' : List ℕ) (c d : Counts) (ways : BothWays a b a' b' c d) where
  there_is : replica_of b' ≡ there (replica_of a) (replica_of b)
  there_is = ways.forth.means

  back_is : replica_of a' ≡ (pull all_from (there (replica_of a) (replica_of b)) (replica_of a)).1
  back_is = ways.back.means ∙ ap (λ (r : Replica). (pull all_from r (replica_of a)).1) there_is

  pub agreed : Agreed (replica_of a) (replica_of b) → BothHold a b a' b' c d
  agreed g = record {
    union_there = rw there_is g.union_there;
    union_back = rw back_is g.union_back;
    same = rw (there_is, back_is) g.same;
    winners = rw (there_is, back_is) g.winners;
    none_refused = (
      ap (λ (z : Counts). z.refused) ways.forth.counts ∙ pull_accepted all_from (replica_of a) (replica_of b) g.accepted_there,
      ap (λ (z : Counts). z.refused) ways.back.counts
          ∙ pull_accepted all_from (replica_of b') (replica_of a) (rw there_is g.accepted_back),
    );
  }

  -- replicas that "hold only things those writes give", where "neither runs out of sequence"
  pub two_way : (ws : List Write) → IsStored a → IsStored b → Compatible (given ws) → Fits (given ws) → Within (held (replica_of a)) (given ws) → Within (held (replica_of b)) (given ws)
      → SeqSuffices (offers all_from (replica_of a)) (replica_of b) → SeqSuffices (offers all_from (replica_of b')) (replica_of a) → BothHold a b a' b' c d
  two_way ws ka kb k f wa wb p q =
      agreed (union.two_way ws k f (replica_of a) (replica_of b) ka.replica kb.replica wa wb p (rw there_is at q))

  -- what a clerk relies on, whatever the replicas hold: where neither pull refused an offer, both hold the union
  -- of what they held
  pub none_refused : IsStored a → IsStored b → c.refused ≡ 0 → d.refused ≡ 0 → BothHold a b a' b' c d
  none_refused ka kb e f =
      agreed (union.none_refused (replica_of a) (replica_of b) ka.replica kb.replica
      (sym (ap (λ (z : Counts). z.refused) ways.forth.counts) ∙ e)
      (rw there_is at (sym (ap (λ (z : Counts). z.refused) ways.back.counts) ∙ f)))

-- where writes made both from fresh, no sequence is asked for
pub two_way_made : (us vs : List Write) → ((w : Write) → In w (us ++ vs) → WellFormed w) → Compatible (given (us ++ vs)) → Fits (given (us ++ vs))
    → (s a b a' b' : List ℕ) (c d : Counts) → BothMade us vs s a b → BothWays a b a' b' c d → BothHold a b a' b' c d
two_way_made us vs k m f s a b a' b' c d made ways =
    agreed a b a' b' c d ways
    (rw (left_is us s a made.is_fresh made.into_a, left_is vs s b made.is_fresh made.into_b) (union.two_way_made us vs k m f))

-- ---- one pull

-- where it refused no offer, its target holds the union of what both held
pub pull_unites : (a b b' : List ℕ) (c : Counts) → IsStored a → IsStored b → Pulled all_from a b c b' → c.refused ≡ 0
    → IsUnion (replica_of b') (both (held (replica_of a)) (held (replica_of b)))
pull_unites a b b' c ka kb call e =
    rw call.means
    (union.pull_unites (replica_of a) (replica_of b) ka.replica kb.replica (sym (ap (λ (z : Counts). z.refused) call.counts) ∙ e))

-- both pulled from copies of the other as it was, and neither refused an offer: they are the same but for
-- sequences
pub crossed_agree : (a b a' b' : List ℕ) (c d : Counts) → IsStored a → IsStored b → Pulled all_from a b c b' → Pulled all_from b a d a'
    → c.refused ≡ 0 → d.refused ≡ 0 → SameButSeq (replica_of b') (replica_of a')
crossed_agree a b a' b' c d ka kb forth back e f =
    one_union (replica_of b') (replica_of a') (both ha hb) forth.is_stored.replica back.is_stored.replica (pull_unites a b b' c ka kb forth e)
    (union_alike (replica_of a') (both hb ha) (both ha hb) (alike (both hb ha) (both ha hb) (turned hb ha) (turned ha hb)) (pull_unites b a a' d kb ka back f))
  where
    ha : Things
    ha = held (replica_of a)

    hb : Things
    hb = held (replica_of b)

    turned : (g h : Things) → Within (both g h) (both h g)
    turned g h = record {
      revisions = λ i v m. elim m [ inl t ↦ inr t | inr t ↦ inl t ];
      parents = λ i v p m. elim m [ inl t ↦ inr t | inr t ↦ inl t ];
      contents = λ i v x m. elim m [ inl t ↦ inr t | inr t ↦ inl t ];
    }

-- "They add up to the leaves of the source documents after that sequence."
pub counts_add_up : (s : List ℕ) (q : Seq) (t : List ℕ) (c : Counts) (left : List ℕ) → Pulled q s t c left
    → total c ≡ leaf_count (documents_after q (replica_of s).documents)
counts_add_up s q t c left call =
    ap (λ (z : Counts). total z) call.counts ∙ union.counts_add_up q (replica_of s) (replica_of t)

-- "each count is that of the offers one by one": it is how many of them, each made on what those before
-- it left, were answered so
pub counts_each : (s : List ℕ) (q : Seq) (t : List ℕ) (c : Counts) (left : List ℕ) → Pulled q s t c left
    → CountsEach c (answers (replica_of t) (offers q (replica_of s)))
counts_each s q t c left call = rw call.counts (union.counts_each q (replica_of s) (replica_of t))

-- and so answers the compiled write, called for each offer in turn, which leaves the same bytes
pub counts_calls : (s : List ℕ) (q : Seq) (t : List ℕ) (c : Counts) (left : List ℕ) → IsStored t → Pulled q s t c left
    → (m : List ℕ) (calls : WriteCalls (offers q (replica_of s)) t m)
    → CountsEach c (answers_of (offers q (replica_of s)) t m calls) × (left ≡ m)
counts_calls s q t c left k call m calls =
    let d = call in
    let r = ran (offers q (replica_of s)) t m k calls in (
      rw (answered (offers q (replica_of s)) t m calls) (counts_each s q t c left call),
      d.bytes ∙ (ap stored (pull_writes q (replica_of s) (replica_of t) ∙ sym r.replica) ∙ sym r.is_stored.same),
    )

-- nor does a pull change an answer about documents of the target that are not among the offered
pub pull_answers : (s : List ℕ) (q : Seq) (t : List ℕ) (c : Counts) (left : List ℕ) → Pulled q s t c left
    → (j : Id) → ((d : Id × Document) → In d (documents_after q (replica_of s).documents) → j ≡ d.0 → ⊥)
    → SameAnswers j (replica_of left) (replica_of t)
pull_answers s q t c left call j other = rw call.means (union.pull_answers q (replica_of s) (replica_of t) j other)

-- which stay as they were
pub pull_frame : (s : List ℕ) (q : Seq) (t : List ℕ) (c : Counts) (left : List ℕ) → Pulled q s t c left
    → (j : Id) → ((d : Id × Document) → In d (documents_after q (replica_of s).documents) → j ≡ d.0 → ⊥)
    → document_of (replica_of left) j ≡ document_of (replica_of t) j
pull_frame s q t c left call j other = rw call.means (union.pull_frame q (replica_of s) (replica_of t) j other)
