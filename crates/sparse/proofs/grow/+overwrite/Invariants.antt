use Rattle.sparse.proofs.grow.+overwrite.Given as goal

abbrev pub decreases-overwrite : goal.decreases-overwrite
decreases-overwrite g l = l.part.level
