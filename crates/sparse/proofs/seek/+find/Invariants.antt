use Rattle.sparse.proofs.seek.+find.Given as goal

abbrev pub decreases-find : goal.decreases-find
decreases-find g l = l.part.level
