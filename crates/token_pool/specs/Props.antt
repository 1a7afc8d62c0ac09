-- Sound nodes are sound in one way only, so that a ghost field can say that they are.
use Rattle.std.proofs.Common.{ℕ, zero, suc, List}
use Rattle.std.proofs.Props.{props}
use Rattle.token_pool.specs.declared.node.Node.{Node}
use Rattle.token_pool.specs.declared.chain.FreeNodes.{FreeNodes}
use Rattle.token_pool.specs.Nodes.{at, Chain, Sound}

-- a chain is one in one way only
pub Chain-prop : (ns : List Node) (o i k : ℕ) → IsProp (Chain ns o i k)
Chain-prop ns o i zero = Prim.hlevel props
Chain-prop ns o i (suc k) = let rest = Chain-prop ns o (at ns i).next k in Prim.hlevel (props, rest)

-- sound nodes likewise
pub Sound-prop : (ns : List Node) (f : FreeNodes) → IsProp (Sound ns f)
Sound-prop ns f = Prim.hlevel (props, Chain-prop)
