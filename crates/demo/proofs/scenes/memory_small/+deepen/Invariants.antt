use Rattle.demo.proofs.scenes.memory_small.+deepen.Given as goal

abbrev pub decreases-deepen : goal.decreases-deepen
decreases-deepen l = l.wanted
