use Rattle.jl_store.specs.Plain.{code_in}
use Rattle.jl_store.proofs.Loops.{function_done}
use Rattle.jl_store.proofs.store.Store.declare_functions.Goals as goal

pub loop-f-preserved : goal.loop-f-preserved
loop-f-preserved c =
    function_done (code_in c.args.env c.args.strict) c.loop-f.f-index c.args.functions.now c.f-item.result
    c.loop-f.invariant c.loop-f-test.true c.f-item.is c.in_ok-id.ensures.made c.in_ok-declare_function.ensures
