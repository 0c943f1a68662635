use Rattle.std.proofs.Common.{subst}
use Rattle.jl_effects.specs.Running.{Ends}
use Rattle.jl_meaning.specs.DeclarationBinding.{declare_functions, declare_variables}
use Rattle.jl_meaning.specs.Parts.{gives}
use Rattle.jl_store.specs.BigStep.{BigStep}
use Rattle.jl_store.specs.Plain.{code_in, plain_functions}
use Rattle.jl_store.proofs.DeclaredBodies.{body_comes}
use Rattle.jl_store.proofs.store.Store.declare_body.Goals as goal

pub returns : goal.returns
returns c =
    let functions =
    subst (λ fs. BigStep (declare_functions (plain_functions fs) (code_in c.args.env c.args.strict))
    c.bind_parameters.new.self c.declare_functions.new.self (Ends (gives tt)))
    c.items.ensures c.in_ok-declare_functions.ensures in
    let vars =
    subst (λ xs. BigStep (declare_variables c.args.env xs) c.bind_arguments_where.new.self c.declare_variables.new.self
    (Ends (gives tt))) c.as_slice.ensures.value c.in_ok-declare_variables.ensures in
    body_comes c.args.declared.now.variables.items _ _ _ _ _ (code_in c.args.env c.args.strict) _ _ _ _ _
    c.args.body.now
    c.requires c.in_ok-bind_parameters.ensures functions c.in_ok-bind_arguments_where.ensures vars
