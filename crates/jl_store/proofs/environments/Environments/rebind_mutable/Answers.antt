use Rattle.std.proofs.Common.{◌<◌, ◌∙◌, ap, arith, length, refl, sym}
use Rattle.std.specs.Option.{option_copied_mut}
use Rattle.jl_store.specs.Environments.{with_rebinding}
use Rattle.jl_store.specs.inner.Inside.{environments_of}
use Rattle.jl_store.proofs.EnvironmentSteps.{put_before, rebinding_found, seen_again, unchanged}
use Rattle.jl_store.proofs.environments.Environments.rebind_mutable.Goals.{in-None, in-Some}
use Rattle.jl_store.proofs.environments.Environments.rebind_mutable.Goals as goal

pub invariant_of-self : goal.invariant_of-self
invariant_of-self c =
    let scopes = c.self.inside.scopes.items in
    let scope = c.index_mut-scope.result.now in
    let is = c.index_mut-scope.ensures.value in
    let within : c.args.env < length scopes = omega (arith, c.len.ensures, c.if-env-len.false) in
    elim c.match-get_mut.branch [
      | in-Some w ↦ rw w.self-inside-is (put_before scopes c.args.env scope _ within is c.self.invariant)
      | in-None w ↦ rw w.self-inside-is (put_before scopes c.args.env scope _ within is c.self.invariant)
    ]

pub returns-clause-found : goal.returns-clause-found
returns-clause-found c =
    let scopes = c.self.inside.scopes.items in
    let scope = c.index_mut-scope.result.now in
    let is = c.index_mut-scope.ensures.value in
    let within : c.args.env < length scopes = omega (arith, c.len.ensures, c.if-env-len.false) in
    rw (← c.self.view_is) (elim c.match-get_mut.branch [
      | in-Some w ↦ rw w.result-is (rebinding_found scopes c.args.env scope c.args.name.now _ _ within is
          (sym c.get_mut.ensures.value ∙ ap option_copied_mut w.in-Some.is) w.rebind.ensures.found)
      | in-None w ↦ rw w.result-is (rebinding_found scopes c.args.env scope c.args.name.now _ _ within is
          (sym c.get_mut.ensures.value ∙ ap option_copied_mut w.in-None.is) refl)
    ])

pub returns-clause-made : goal.returns-clause-made
returns-clause-made c =
    let scopes = c.self.inside.scopes.items in
    let scope = c.index_mut-scope.result.now in
    let is = c.index_mut-scope.ensures.value in
    let within : c.args.env < length scopes = omega (arith, c.len.ensures, c.if-env-len.false) in
    rw (← c.self.view_is) (elim c.match-get_mut.branch [
      | in-Some w ↦ rw (w.self-inside-is, w.result-is)
          (seen_again scopes c.args.env scope c.args.name.now c.args.value
          w.in-Some.bound.now w.rebind.new.self w.in-Some.bound.now.mutable within is c.get_mut.ensures.kept
          (sym c.get_mut.ensures.value ∙ ap option_copied_mut w.in-Some.is) w.rebind.ensures.made
          ∙ ap (λ r. with_rebinding r (environments_of scopes) c.args.env c.args.name.now c.args.value)
          (sym w.rebind.ensures.found))
      | in-None w ↦ rw (w.self-inside-is, w.result-is) (ap environments_of (unchanged scopes c.args.env scope is))
    ])
