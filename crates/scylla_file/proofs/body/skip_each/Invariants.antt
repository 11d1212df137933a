use Rattle.scylla_sharding.proofs.Loops.{Repeats}
use Rattle.scylla_sharding.specs.Regions.{times}
use Rattle.scylla_file.specs.Bodies.{attribute_at}
use Rattle.scylla_file.proofs.body.skip_each.Given as goal

abbrev pub invariant-loop : goal.invariant-loop
invariant-loop l = Repeats (λ u. attribute_at) (times (λ u. attribute_at) l.count tt l.file l.at l.end) l.file l.end l.count l.counter l.p tt
