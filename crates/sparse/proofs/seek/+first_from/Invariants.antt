use Rattle.sparse.proofs.seek.+first_from.Given as goal

abbrev pub decreases-first_from : goal.decreases-first_from
decreases-first_from g l = l.part.level
