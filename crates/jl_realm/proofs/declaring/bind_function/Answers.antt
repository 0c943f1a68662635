use Rattle.std.proofs.Common.{subst, sym}
use Rattle.std.proofs.lemmas.Result.{IfOk-weaker}
use Rattle.jl_meaning.specs.DeclarationBinding.{prepare_global}
use Rattle.jl_meaning.specs.Properties.{get_property}
use Rattle.jl_store.specs.BigStep.{BigStep}
use Rattle.jl_realm.proofs.Faults.{prepare_without_fault, prepared_no_accessor}
use Rattle.jl_realm.proofs.GlobalSteps.{bound, bound_thrown}
use Rattle.jl_realm.proofs.Ordinary.{global_stays}
use Rattle.jl_realm.proofs.declaring.bind_function.Goals as goal

pub without_fault-requires : goal.without_fault-requires
without_fault-requires c =
    prepare_without_fault c.args.name.now (get_property c.args.store.now 1 c.args.name.now) c.in_ok-end.end c.requires
    c.in_ok-end.ensures

pub put_global-requires-clause-global : goal.put_global-requires-clause-global
put_global-requires-clause-global c = global_stays c.in_ok-end.ensures c.requires

pub put_global-requires-clause-no_accessor : goal.put_global-requires-clause-no_accessor
put_global-requires-clause-no_accessor c =
    let s = c.args.store.now in
    let x = c.args.name.now in
    prepared_no_accessor x c.requires
    (subst (λ e. BigStep (prepare_global x (get_property s 1 x)) s c.prepare_global.new.self e) (sym c.in-Gives.ensures)
    c.in_ok-end.ensures)

pub returns-in-Gives : goal.returns-in-Gives
returns-in-Gives c =
    let s = c.args.store.now in
    let x = c.args.name.now in
    IfOk-weaker _ _ _ (λ a is. bound c.args.strict x c.args.f
    (subst (λ e. BigStep (prepare_global x (get_property s 1 x)) s c.prepare_global.new.self e) (sym c.in-Gives.ensures)
    c.in_ok-end.ensures) is) c.put_global.ensures

pub returns-in-Throws : goal.returns-in-Throws
returns-in-Throws c =
    let s = c.args.store.now in
    let x = c.args.name.now in
    bound_thrown c.args.strict x c.args.f
    (subst (λ e. BigStep (prepare_global x (get_property s 1 x)) s c.prepare_global.new.self e)
    (sym c.in-Throws.ensures)
    c.in_ok-end.ensures)
