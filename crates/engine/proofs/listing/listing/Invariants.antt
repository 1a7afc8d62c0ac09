use Rattle.std.proofs.Common.{◌≡◌, ◌-◌, ◌≤◌}
use Rattle.output.specs.Writers.{out_of}
use Rattle.tokens.specs.Limits.{top_reach}
use Rattle.engine.specs.Listings.{lines_from, listed_to, all_stand}
use Rattle.engine.proofs.listing.listing.Given as goal

abbrev pub invariant-loop-place : goal.invariant-loop-place
invariant-loop-place g l =
    (l.from ≤ top_reach)
    × (listed_to (out_of l.writer l.out) (lines_from g.V.Value.ops (g.S.Store.model l.store) (g.V.Value.meaning l.pool) l.from ((g.S.Store.model l.store).reach - l.from))
    ≡ listed_to (out_of l.initial.writer l.initial.out) (lines_from g.V.Value.ops (g.S.Store.model l.store) (g.V.Value.meaning l.pool) 0 (g.S.Store.model l.store).reach))
    × (all_stand (out_of l.writer l.out) (lines_from g.V.Value.ops (g.S.Store.model l.store) (g.V.Value.meaning l.pool) l.from ((g.S.Store.model l.store).reach - l.from))
    ≡ all_stand (out_of l.initial.writer l.initial.out) (lines_from g.V.Value.ops (g.S.Store.model l.store) (g.V.Value.meaning l.pool) 0 (g.S.Store.model l.store).reach))

abbrev pub decreases-loop-place : goal.decreases-loop-place
decreases-loop-place g l = top_reach - l.from
