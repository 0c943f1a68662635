use Rattle.std.proofs.lemmas.Result.{IfOk-weaker}
use Rattle.std.specs.Prelude.{None, Some}
use Rattle.jl_store.specs.Plain.{code_in}
use Rattle.jl_store.proofs.Steps.{comes_to}
use Rattle.jl_store.proofs.Trees.{name_is}
use Rattle.jl_realm.proofs.GlobalSteps.{declared}
use Rattle.jl_realm.proofs.Ordinary.{global_stays}
use Rattle.jl_realm.proofs.declaring.declare_function.Goals as goal

pub bind_function-requires : goal.bind_function-requires
bind_function-requires c = global_stays c.in_ok-id.ensures.made c.requires

pub returns-in-Some : goal.returns-in-Some
returns-in-Some c =
    IfOk-weaker _ _ _ (λ a is.
    declared (code_in 0 c.args.strict) c.args.f.now c.in_ok-id.id (Some c.in-Some.name.text)
    (name_is c.args.f.now (Some c.in-Some.name) c.in-Some.is) c.in_ok-id.ensures.made is) c.bind_function.ensures

pub returns-in-None : goal.returns-in-None
returns-in-None c =
    declared (code_in 0 c.args.strict) c.args.f.now c.in_ok-id.id None (name_is c.args.f.now None c.in-None.is)
    c.in_ok-id.ensures.made comes_to
