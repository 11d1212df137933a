use Rattle.scylla_sharding.proofs.Loops.{Repeats}
use Rattle.scylla_sharding.specs.Regions.{times}
use Rattle.scylla_sharding.specs.Ranges.{range_after, first}
use Rattle.scylla_sharding.proofs.read_ranges.Given as goal

abbrev pub invariant-loop : goal.invariant-loop
invariant-loop l = Repeats range_after (times range_after l.count first l.file l.at l.end) l.file l.end l.count l.counter l.p l.before
