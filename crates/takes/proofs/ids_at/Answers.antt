-- `ids_at` meets its contract. The loop's invariant: the values before i are hashes, and those are laid down. Assumes nothing.
use Rattle.std.proofs.Common.{refl, sym, ap, ◌∙◌, None, Some}
use native.Mathlib.Omega.{arith}
use Rattle.json_text.proofs.WsLaws.{stands}
use Rattle.takes.proofs.IdsLaws.{no_ids, ids_start, id_wrong, ids_on, ids_last, ids_no_end, ids_within, ids_fall}
use Rattle.takes.proofs.ids_at.Goals as goal

pub open_at-requires : goal.open_at-requires
open_at-requires c = (stands c.args.s.now c.args.at 91 c.requires.0 (omega arith), omega arith)

pub returns-in-End : goal.returns-in-End
returns-in-End c = no_ids c.requires.0 c.requires.1 c.open_at.result _ c.open_at.ensures c.in-End.is

pub loop-hash-init : goal.loop-hash-init
loop-hash-init c = ids_start c.requires.0 c.requires.1 c.open_at.result _ c.open_at.ensures c.in-Item.is

pub overflow_mul-k : goal.overflow_mul-k
overflow_mul-k c = let e = c.min-k.ensures in omega arith

pub hash_in-requires : goal.hash_in-requires
hash_in-requires c = c.loop-hash.invariant.leads.within

pub put_hash-requires : goal.put_hash-requires
put_hash-requires c = let e = c.min-k.ensures in let r = c.loop-hash.invariant.laid.room in omega arith

pub returns-in_err-hash : goal.returns-in_err-hash
returns-in_err-hash c = rw c.from_residual.ensures (id_wrong c.loop-hash.invariant c.args.path.now c.requires.1 (sym c.hash_in.ensures ∙ c.in_err-hash.was))

pub overflow_add-n : goal.overflow_add-n
overflow_add-n c = let e = c.min-k.ensures in omega arith

pub overflow_add-i : goal.overflow_add-i
overflow_add-i c =
    let h = ids_within c.loop-hash.invariant c.args.path.now c.requires.1 c.min-k.ensures (record { hash = c.in_ok-hash.hash; is = sym c.hash_in.ensures ∙ c.in_ok-hash.was; put = c.put_hash.ensures.is }) in omega arith

pub after_item-requires : goal.after_item-requires
after_item-requires c =
    let h = ids_within c.loop-hash.invariant c.args.path.now c.requires.1 c.min-k.ensures (record { hash = c.in_ok-hash.hash; is = sym c.hash_in.ensures ∙ c.in_ok-hash.was; put = c.put_hash.ensures.is }) in
    (h, (omega arith, λ e. omega arith))

pub loop-hash-smaller : goal.loop-hash-smaller
loop-hash-smaller c = ids_fall _ _ (Some c.in_ok-j.field-0) _ c.in_ok-j.ensures (ap Some c.in-Item-2.is)

pub loop-hash-preserved : goal.loop-hash-preserved
loop-hash-preserved c =
    ids_on c.loop-hash.invariant c.args.path.now c.requires.1 c.min-k.ensures (record { hash = c.in_ok-hash.hash; is = sym c.hash_in.ensures ∙ c.in_ok-hash.was; put = c.put_hash.ensures.is }) (Some c.in_ok-j.field-0) _ c.in_ok-j.ensures (ap Some c.in-Item-2.is)

pub returns-in-End-2 : goal.returns-in-End-2
returns-in-End-2 c =
    ids_last c.loop-hash.invariant c.args.path.now c.requires.1 c.min-k.ensures (record { hash = c.in_ok-hash.hash; is = sym c.hash_in.ensures ∙ c.in_ok-hash.was; put = c.put_hash.ensures.is }) (Some c.in_ok-j.field-0) _ c.in_ok-j.ensures (ap Some c.in-End-2.is)

pub returns-in_err-j : goal.returns-in_err-j
returns-in_err-j c =
    rw c.from_residual-in_err-j.ensures (ids_no_end c.loop-hash.invariant c.args.path.now c.requires.1 c.min-k.ensures (record { hash = c.in_ok-hash.hash; is = sym c.hash_in.ensures ∙ c.in_ok-hash.was; put = c.put_hash.ensures.is }) None c.in_err-j.ensures refl)
