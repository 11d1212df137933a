use Rattle.scylla_sharding.proofs.Loops.{Repeats}
use Rattle.scylla_sharding.specs.Regions.{times}
use Rattle.scylla_file.specs.Components.{absent, component_at}
use Rattle.scylla_file.proofs.read_components.Given as goal

abbrev pub invariant-loop : goal.invariant-loop
invariant-loop l = Repeats component_at (times component_at l.count absent l.file l.at l.end) l.file l.end l.count l.counter l.p l.c
