use Rattle.std.proofs.Common.{◌≡◌, ℕ, ◌+◌, ◌≤◌, true, List, length, sym, ap, ◌∙◌, subst, arith}
use Rattle.std.proofs.lemmas.List.{with_items_is}
use Rattle.sparse.specs.Trees.{listed}
use Rattle.sparse.specs.Chain.{top_nodes, chained, treed}
use Rattle.sparse.specs.Held.{held}
use Rattle.sparse.specs.declared.node.Tip.{Tip}
use Rattle.sparse.proofs.Chains.{bare}
use Rattle.sparse.proofs.nodes.Nodes.new.Goals as goal

pub invariant_of-result : goal.invariant_of-result
invariant_of-result g c =
    let ws = c.chain_up-free.new.tips in
    let E = with_items_is c.truncate.new.self ws (omega arith) in
    let b = bare 18 ws c.min.result 4294967295 (omega arith) in
    let none = ap length b.0 in
    let n = c.truncate.ensures.len in
    let k = c.deref_mut.ensures.len in
    let all : length c.deref_mut.result.now ≡ c.len-loose.result = omega arith in
    let ch = subst (λ (m : ℕ). chained m ws c.chain_up-free.result ≡ true) all c.chain_up-free.ensures in record {
      near = omega arith;
      row = omega arith;
      few = subst (λ (xs : List (Tip _)). c.len-loose.result + length (listed 18 xs 4294967295) ≤ top_nodes) (sym E) (omega arith);
      chain = subst (λ (xs : List (Tip _)). chained c.len-loose.result xs c.chain_up-free.result ≡ true) (sym E) ch;
      tree = subst (λ (xs : List (Tip _)). treed 18 xs 0 c.min.result 4294967295 ≡ true) (sym E) b.1;
    }

pub returns-clause-held : goal.returns-clause-held
unfolding held
returns-clause-held g c =
    let ws = c.chain_up-free.new.tips in
    let E = with_items_is c.truncate.new.self ws (omega arith) in
    let b = bare 18 ws c.min.result 4294967295 (omega arith) in
    ap (λ (xs : List (Tip _)). listed 18 xs 4294967295) E ∙ b.0
