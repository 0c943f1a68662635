use Rattle.std.proofs.Common.{[], ap, arith, ◌++◌, ◌∙◌, ◌∷◌, List}
use Rattle.jl_value.specs.declared.value.Value.{Value}
use Rattle.jl_algorithm.proofs.Called.{calls_then, falls_called}
use Rattle.jl_algorithm.proofs.putting.call_setter.Goals as goal

pub returns-clause-refines : goal.returns-clause-refines
returns-clause-refines c =
    calls_then _ _ _ _ _ c.args.v c.args.gives _ c.call.ensures
    (c.in_ok-push.ensures.ok ∙ ap (λ (l : List Value). l ++ c.args.v ∷ []) c.new-args.ensures)
    c.in_ok-push_algorithm.ensures.waits

pub returns-clause-bounded : goal.returns-clause-bounded
returns-clause-bounded c = falls_called _ _ c.call.ensures _ _ _ _ c.in_ok-push_algorithm.ensures.pushed (omega arith)
