use Rattle.sparse.proofs.prune.+unroot.Given as goal

abbrev pub decreases-unroot : goal.decreases-unroot
decreases-unroot g l = l.part.level
