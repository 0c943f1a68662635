use Rattle.std.proofs.lemmas.Result.{IfOk-weaker}
use Rattle.std.specs.Prelude.{None, Some}
use Rattle.jl_store.specs.Plain.{plain_function}
use Rattle.jl_store.proofs.MadeFunctions.{expression_comes}
use Rattle.jl_store.proofs.Trees.{name_is}
use Rattle.jl_store.proofs.store.Store.make_function_expression.Goals as goal

pub returns-in_ok-id-in-None : goal.returns-in_ok-id-in-None
returns-in_ok-id-in-None c =
    expression_comes c.args.outer_strict _ (plain_function c.args.f.now) None _ _ _
    (name_is c.args.f.now _ c.in-None.is)
    c.in_ok-id-in-None.ensures.made

pub returns-in-Some : goal.returns-in-Some
returns-in-Some c =
    IfOk-weaker _ _ _ (λ id made. expression_comes c.args.outer_strict c.args.env (plain_function c.args.f.now)
    (Some c.in-Some.name.text) c.args.self.now _ id (name_is c.args.f.now _ c.in-Some.is) made) c.make_named.ensures
