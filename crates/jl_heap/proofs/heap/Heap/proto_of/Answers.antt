use Rattle.jl_heap.proofs.ChainLemmas.{protos_are_older}
use Rattle.jl_heap.proofs.heap.Heap.proto_of.Goals as goal

pub returns-in_err-header-clause-older : goal.returns-in_err-header-clause-older
returns-in_err-header-clause-older c = protos_are_older c.self.inside c.args.self.now c.self.invariant c.self.view_is

pub returns-clause-older : goal.returns-clause-older
returns-clause-older c = protos_are_older c.self.inside c.args.self.now c.self.invariant c.self.view_is
