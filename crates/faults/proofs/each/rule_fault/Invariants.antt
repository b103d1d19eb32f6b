-- `each::rule_fault` meets its contract. Assumes nothing.
use Rattle.faults.proofs.EachLaws.{Passed}
use Rattle.faults.proofs.each.rule_fault.Given as goal

abbrev pub invariant-loop-i : goal.invariant-loop-i
invariant-loop-i g l = Passed g.A.Ask.rule l.s l.d l.i l.k
