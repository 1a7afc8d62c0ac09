use Rattle.std.proofs.Common.{length}
use Rattle.save_stack.specs.Meanings.{stack_of}
use Rattle.demo.proofs.scenes.held_back.print_pending.Given as goal

abbrev pub decreases-loop-code : goal.decreases-loop-code
decreases-loop-code l = length (stack_of l.pending).held
