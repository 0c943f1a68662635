use Rattle.std.proofs.Common.{subst}
use Rattle.std.proofs.lemmas.Result.{IfOk-weaker}
use Rattle.jl_meaning.specs.DeclarationBinding.{declare_global_functions}
use Rattle.jl_store.specs.Answers.{ends_with}
use Rattle.jl_store.specs.BigStep.{BigStep}
use Rattle.jl_store.specs.Plain.{code_in, plain_functions}
use Rattle.jl_realm.proofs.GlobalSteps.{program_comes, program_thrown}
use Rattle.jl_realm.proofs.Ordinary.{global_stays}
use Rattle.jl_realm.proofs.declaring.declare_program.Goals as goal

pub declare_variables-requires : goal.declare_variables-requires
declare_variables-requires c = global_stays c.in_ok-declare_functions.ensures c.requires

pub returns-in-Gives : goal.returns-in-Gives
returns-in-Gives c =
    let here = code_in 0 c.args.strict in
    let fs = c.items.result.now in
    IfOk-weaker _ _ _ (λ a is. program_comes c.args.body.now fs c.items.ensures here
    (subst (λ b. BigStep (declare_global_functions (plain_functions fs) here) c.args.store.now
    c.declare_functions.new.store (ends_with b)) c.in-Gives.is c.in_ok-declare_functions.ensures) is)
    c.declare_variables.ensures

pub returns-in-Throws : goal.returns-in-Throws
returns-in-Throws c =
    let here = code_in 0 c.args.strict in
    let fs = c.items.result.now in
    program_thrown c.args.body.now fs c.items.ensures here
    (subst (λ a. BigStep (declare_global_functions (plain_functions fs) here) c.args.store.now
    c.declare_functions.new.store (ends_with a)) c.in-Throws.is c.in_ok-declare_functions.ensures)
