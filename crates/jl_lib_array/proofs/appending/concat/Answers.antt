use Rattle.std.proofs.Common.{◌++◌, ◌∙◌, ◌∷◌, [], ap, refl, List}
use Rattle.std.proofs.lemmas.Result.{IfOk-weaker}
use Rattle.jl_value.specs.declared.value.Value.{Value}
use Rattle.jl_value.specs.declared.value.Value.TheVariants as value
use Rattle.jl_lib_array.proofs.Appended.{concats}
use Rattle.jl_lib_array.proofs.appending.concat.Goals as goal

pub returns-clause-refines : goal.returns-clause-refines
returns-clause-refines c =
    IfOk-weaker _ _ _ (λ a refines. concats c.args.state.now
    (record c.args.state.now { store = c.new_array.new.self }) _
    _ c.args.object _ c.args.args.now _ _ refl c.in_ok-array.ensures (c.in_ok-push.ensures.ok ∙ ap
    (λ (l : List Value). l ++ value.Obj c.args.object ∷ []) c.new-items.ensures) c.in_ok-items.ensures refines)
    c.append_items.ensures.refines
