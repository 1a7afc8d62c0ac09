-- The answers of a close.
use Rattle.std.proofs.Common.{◌≡◌, Some, None, Ok, Err, Option, Result, ap, ◌∙◌}
use Rattle.std.proofs.lemmas.Result.{MatchResult-at_ok, MatchResult-at_err, err_from_is_err_and}
use Rattle.std.specs.Result.{MatchResult, IsErrAnd}
use Rattle.engine.specs.Faults.{answer_of, fault_at}
use Rattle.engine.specs.declared.fault.Cause.{Cause}
use Rattle.engine.specs.declared.fault.EngineFault.{EngineFault}
use Rattle.engine.specs.declared.nesting.Nesting.{Nesting}
use Rattle.registers.specs.declared.handle.GroupHandle.{GroupHandle}
use Rattle.registers.specs.declared.handle.StillOpen.{StillOpen}
use Rattle.registers.specs.Handles.{close_answer}

-- a close answers what the engine does, where post adds the handle to a fault
pub handed_back : (h : GroupHandle) (n : Nesting) (o : Option Cause) (post : EngineFault → StillOpen → Type 0) {r : Result Unit EngineFault} {s : Result Unit StillOpen}
    → ((f : EngineFault) (e : StillOpen) → post f e → e ≡ record { fault = f; handle = h })
    → r ≡ answer_of (tt {0}) n o → MatchResult r (λ x. s ≡ Ok x) (λ f. IsErrAnd s (post f)) → s ≡ close_answer h n o
handed_back h n None post adds e m = MatchResult-at_ok _ _ (tt {0}) e m
handed_back h n (Some c) post {s = s} adds e m =
    let x = err_from_is_err_and s (MatchResult-at_err _ _ (fault_at c n) e m) in
    x.1 ∙ ap Err (adds (fault_at c n) x.0 x.2)
