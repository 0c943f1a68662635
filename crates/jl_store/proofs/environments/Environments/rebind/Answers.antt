use Rattle.std.proofs.Common.{◌<◌, ◌∙◌, ap, arith, length, sym}
use Rattle.std.specs.Option.{option_copied_mut}
use Rattle.jl_store.specs.inner.Inside.{environments_of}
use Rattle.jl_store.proofs.EnvironmentSteps.{put_before, seen_as_before, seen_rebound, unchanged}
use Rattle.jl_store.proofs.environments.Environments.rebind.Goals.{in-Some, in_default}
use Rattle.jl_store.proofs.environments.Environments.rebind.Goals as goal

pub invariant_of-self : goal.invariant_of-self
invariant_of-self c =
    let scopes = c.self.inside.scopes.items in
    let scope = c.index_mut-scope.result.now in
    let is = c.index_mut-scope.ensures.value in
    let within : c.args.env < length scopes = omega (arith, c.len.ensures, c.if-env-len.false) in
    elim c.match-get_mut.branch [
      | in-Some w ↦ rw w.self-inside-is (put_before scopes c.args.env scope _ within is c.self.invariant)
      | in_default w ↦ rw w.self-inside-is (put_before scopes c.args.env scope _ within is c.self.invariant)
    ]

pub returns : goal.returns
returns c =
    let scopes = c.self.inside.scopes.items in
    let scope = c.index_mut-scope.result.now in
    let is = c.index_mut-scope.ensures.value in
    let within : c.args.env < length scopes = omega (arith, c.len.ensures, c.if-env-len.false) in
    rw (← c.self.view_is) (elim c.match-get_mut.branch [
      | in-Some w ↦ rw w.self-inside-is (seen_rebound scopes c.args.env scope c.args.name.now c.args.value
          w.in-Some.bound.now within is c.get_mut.ensures.kept
          (sym c.get_mut.ensures.value ∙ ap option_copied_mut w.in-Some.is))
      | in_default w ↦ rw w.self-inside-is
          (ap environments_of (unchanged scopes c.args.env scope is)
          ∙ seen_as_before scopes c.args.env scope c.args.name.now c.args.value within is
          (sym c.get_mut.ensures.value ∙ ap option_copied_mut w.in_default.is))
    ])
