use Rattle.std.proofs.Common.{◌≡◌, true, ◌++◌}
use Rattle.std.specs.List.{flat_map}
use Rattle.output.specs.Text.{Added}
use Rattle.output.specs.Writers.{out_of}
use Rattle.token_pool.specs.Meanings.{pool_of}
use Rattle.mixed.specs.Texts.{token_text}
use Rattle.mixed.proofs.text.write_list.Given as goal

abbrev pub invariant-loop-code : goal.invariant-loop-code
invariant-loop-code l = record {
  all : l.yielded ++ l.code-iterator ≡ (pool_of l.pool).list l.list;
  written : Added (flat_map token_text l.yielded) (out_of l.initial.writer l.initial.out) (out_of l.writer l.out) true;
}
