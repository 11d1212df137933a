use Rattle.write_record_parts.proofs.convert.deletions_of.Goals as goal

pub returns : goal.returns
returns c = cc
