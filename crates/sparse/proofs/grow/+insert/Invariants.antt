use Rattle.sparse.proofs.grow.+insert.Given as goal

abbrev pub decreases-insert : goal.decreases-insert
decreases-insert g l = l.part.level
