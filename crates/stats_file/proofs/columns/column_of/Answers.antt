use Rattle.stats_file.proofs.columns.column_of.Goals as goal

pub returns : goal.returns
returns c = cc
