use Rattle.stats_contents.specs.Contents.{end_of}
use Rattle.stats_contents.proofs.contents.end_of.Goals as goal

pub returns : goal.returns
unfolding end_of
returns c = cc
