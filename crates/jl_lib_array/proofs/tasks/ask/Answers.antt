use Rattle.std.proofs.Common.{◌++◌, ◌∙◌, ◌∷◌, [], ap, arith}
use Rattle.jl_value.specs.declared.value.Value.TheVariants as value
use Rattle.jl_meaning.specs.FunctionObjects.{whole}
use Rattle.jl_state.proofs.Acts.{works_act}
use Rattle.jl_algorithm.proofs.Called.{falls_called}
use Rattle.jl_lib_array.proofs.Answering.{asks_now}
use Rattle.jl_lib_array.proofs.tasks.ask.Goals as goal

pub returns-clause-refines : goal.returns-clause-refines
returns-clause-refines c =
    works_act _ _ _ _ c.call.ensures _ (asks_now _ _ c.args.walk c.args.task c.args.index c.args.v _ _ _
    c.in_ok-element.ensures c.in_ok-this.ensures
    (c.in_ok-args.ensures
    ∙ ap (λ l. l ++ c.args.v ∷ whole c.args.index ∷ value.Obj c.args.walk.object ∷ []) c.new.ensures)
    c.in_ok-push_builtin.ensures.waits)

pub returns-clause-bounded : goal.returns-clause-bounded
returns-clause-bounded c =
    falls_called _ _ c.call.ensures _ _ _ _ c.in_ok-push_builtin.ensures.pushed (omega arith)
