-- `offer_document` meets its contract. The loop's invariant: the offers of the rows below i are left, and would end as all the offers do. Assumes nothing.
use Rattle.pulls.proofs.OfferLaws.{Left}
use Rattle.pulls.proofs.offer_document.Given as goal

abbrev pub invariant-loop-i : goal.invariant-loop-i
invariant-loop-i l = Left l.source l.d l.body l.initial.c l.initial.target l.initial.path l.target l.path l.i l.c
