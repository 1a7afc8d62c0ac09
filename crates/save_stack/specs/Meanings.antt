-- What a stack in memory means.
use Rattle.save_stack.specs.Stacks.{StackModel, row_of}
use Rattle.save_stack.specs.declared.stack.Stack.{Stack}

-- the stack that its row holds
abbrev pub stack_of : {E : Type 0} → Stack E → StackModel E
stack_of s = row_of s.top s.entries.now
