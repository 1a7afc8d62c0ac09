use Rattle.std.proofs.Common.{◌∷◌, sym, ap, ◌∙◌, ⊎_elim, arith}
use Rattle.token_pool.specs.declared.node.Node.{Node}
use Rattle.token_pool.specs.Nodes.{rest_from}
use Rattle.token_pool.proofs.Chains.{read}
use Rattle.token_pool.proofs.Cursors.{rest_more, rest_end, rest_past, rest_other, rest_out}
use Rattle.token_pool.proofs.cursor.read.Goals as goal
use Rattle.token_pool.proofs.cursor.read.Goals.{then-node-cursor-via-then-node-cursor, then-node-cursor-via-else-node-cursor+then-node-cursor-2}

pub returns-then-cursor-eq0 : goal.returns-then-cursor-eq0
returns-then-cursor-eq0 c =
    let ns = c.args.nodes.now in
    let a = c.args.cursor in
    ⊎_elim (rest_end ns a.list a.node a.left) (λ h. rest_past ns a.list a.node a.left h.1) c.then-cursor-eq0.either

pub returns-then-node-cursor : goal.returns-then-node-cursor
returns-then-node-cursor c =
    let ns = c.args.nodes.now in
    let a = c.args.cursor in
    let e = sym (read ns a.node c.if-i-nodes.false) in
    elim c.then-node-cursor.branch [
      | then-node-cursor-via-then-node-cursor w ↦ rest_other ns a.list a.node a.left (λ z. w.if-node-cursor.true (ap (λ (n : Node). n.owner) (sym e) ∙ z))
      | then-node-cursor-via-else-node-cursor+then-node-cursor-2 w ↦ rest_out ns a.list a.node a.left (λ z. w.if-node-cursor-2.true (ap (λ (n : Node). n.left) (sym e) ∙ z))
    ]

pub returns : goal.returns
returns c =
    let ns = c.args.nodes.now in
    let a = c.args.cursor in
    let e = sym (read ns a.node c.if-i-nodes.false) in
    rest_more ns a.list a.node a.left (omega (arith, c.if-cursor-eq0.false)) c.if-i-nodes.false
    (ap (λ (n : Node). n.owner) e ∙ c.if-node-cursor.false) (ap (λ (n : Node). n.left) e ∙ c.if-node-cursor-2.false)
    ∙ ap (λ (n : Node). n.token ∷ rest_from ns a.list n.next n.left) e
