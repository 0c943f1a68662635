use Rattle.std.proofs.Common.{◌∙◌, ap, get_or}
use Rattle.std.specs.Prelude.{option_map}
use Rattle.jl_store.specs.Environments.{bound_to}
use Rattle.jl_store.proofs.EnvironmentSteps.{bound_is}
use Rattle.jl_store.proofs.environments.Environments.binding.Goals as goal

pub returns : goal.returns
returns c =
    let x = c.args.name.now in
    let scope = c.in_ok-scope.scope.now in
    rw (← c.self.view_is) (
    ap (option_map (bound_to x)) c.get-2.ensures.value
    ∙ bound_is c.self.inside.scopes.items c.args.env scope x
    (rw (← c.deref.ensures.value) c.in_ok-scope.ensures.lookup.3.0)
    (c.in_ok-scope.ensures.lookup.1 ∙ ap (λ l. get_or l c.args.env scope) c.deref.ensures.value)
    )
