use Rattle.std.proofs.lemmas.Result.{IfOk-weaker}
use Rattle.jl_lib_array.proofs.Copied.{copies_element}
use Rattle.jl_lib_array.proofs.copying.step_copy_element.Goals as goal

pub returns-clause-refines : goal.returns-clause-refines
returns-clause-refines c =
    IfOk-weaker _ _ _ (λ a refines. copies_element c.args.state.now _ _ c.args.copying c.args.next _ _ c.args.v
    c.in_ok-index.ensures c.in_ok-k.ensures refines) c.add_then.ensures.refines
