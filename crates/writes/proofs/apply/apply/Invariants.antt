-- `apply::apply` meets its contract: before each turn those from the k-th on are added. Assumes nothing.
use lib.ListN.{take}
use Rattle.store.specs.Storage.{replica_of}
use Rattle.writes.specs.Path.{gives_of}
use Rattle.writes.proofs.LearnLaws.{Learning}
use Rattle.writes.proofs.apply.apply.Given as goal

abbrev pub invariant-loop-k : goal.invariant-loop-k
invariant-loop-k l = Learning (replica_of l.initial.b) l.d (take l.m (gives_of l.number l.path l.content)) l.k l.place l.b
