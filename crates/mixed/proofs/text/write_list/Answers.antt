use Rattle.std.proofs.Common.{◌≡◌, ◌++◌, append_assoc, append-nil}
use Rattle.std.specs.List.{flat_map}
use Rattle.std.proofs.lemmas.Grind.{flat_map-append}
use Rattle.output.specs.Writers.{out_of}
use Rattle.output.proofs.Pieces.{reads, nothing, next, more}
use Rattle.token_pool.specs.Meanings.{pool_of}
use Rattle.mixed.specs.Texts.{token_text}
use Rattle.mixed.proofs.text.write_list.Goals as goal

pub loop-code-init : goal.loop-code-init
loop-code-init c = record { all = cc; written = nothing (out_of c.args.writer.now c.args.out.now) }

pub loop-code-preserved : goal.loop-code-preserved
loop-code-preserved c =
    let i = c.loop-code.invariant in
    record {
      all = simp append_assoc (rw (← c.in-Some.ensures.steps) i.all);
      written = reads (simp (flat_map-append, append-nil)) (next i.written c.if-not-write_token.ensures);
    }

pub returns-then-not-write_token : goal.returns-then-not-write_token
returns-then-not-write_token c =
    let i = c.loop-code.invariant in
    let e : (flat_map token_text c.loop-code.yielded ++ token_text c.in-Some.code) ++ flat_map token_text c.next.new.self ≡ flat_map token_text ((pool_of c.args.pool.now).list c.args.list) = rw (← i.all, c.in-Some.ensures.steps) (simp (flat_map-append, append_assoc)) in
    reads e (more (flat_map token_text c.next.new.self) (next i.written c.if-not-write_token.ensures))
