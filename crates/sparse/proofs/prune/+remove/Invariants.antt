use Rattle.sparse.proofs.prune.+remove.Given as goal

abbrev pub decreases-remove : goal.decreases-remove
decreases-remove g l = l.part.level
