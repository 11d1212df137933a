use Rattle.number_fixed.proofs.+padded.Given as goal

abbrev pub decreases-padded : goal.decreases-padded
decreases-padded l = l.k
