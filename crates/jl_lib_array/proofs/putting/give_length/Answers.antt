use Rattle.std.proofs.lemmas.Result.{IfOk-weaker}
use Rattle.jl_lib_array.proofs.PutLengths.{gives_length}
use Rattle.jl_lib_array.proofs.putting.give_length.Goals as goal

pub returns-clause-refines : goal.returns-clause-refines
returns-clause-refines c =
    IfOk-weaker _ _ _ (λ a refines. gives_length c.args.state.now _ _ c.args.object c.args.length _
    c.in_ok-gives.ensures
    refines) c.put_length.ensures.refines
