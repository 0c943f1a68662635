use Rattle.std.proofs.Common.{◌∙◌, subst, sym}
use Rattle.jl_ast.specs.View.{view_body}
use Rattle.jl_meaning.specs.DeclarationBinding.{declare_global_variables}
use Rattle.jl_store.specs.Answers.{ends_with}
use Rattle.jl_store.specs.BigStep.{BigStep}
use Rattle.jl_scope.proofs.Places.{variables_same}
use Rattle.jl_realm.proofs.Faults.{variables_without_fault}
use Rattle.jl_realm.proofs.declaring.declare_variables.Goals as goal

pub without_fault-requires : goal.without_fault-requires
without_fault-requires c = variables_without_fault c.as_slice.result.now c.in_ok-end.end c.requires c.in_ok-end.ensures

pub returns : goal.returns
returns c =
    let s = c.args.store.now in
    let t = c.declare_global_variables.new.self in
    subst (λ xs. BigStep (declare_global_variables xs) s t (ends_with c.without_fault.result))
    (c.as_slice.ensures.value ∙ c.in_ok-names.ensures ∙ sym (variables_same (λ _. 0) (view_body c.args.body.now)))
    (subst (λ e. BigStep (declare_global_variables c.as_slice.result.now) s t e) (sym c.without_fault.ensures)
    c.in_ok-end.ensures)
