use Rattle.std.proofs.Common.{◌<◌, arith, length}
use Rattle.jl_store.proofs.EnvironmentSteps.{is_free, put_before, seen_bound}
use Rattle.jl_store.proofs.environments.Environments.bind.Goals as goal

pub push-requires : goal.push-requires
push-requires c =
    let within : c.args.env < length c.self.inside.scopes.items = omega (arith, c.len.ensures, c.if-env-len.false) in
    is_free c.self.inside.scopes.items c.args.env c.index_mut-scope.result.now c.args.name within
    c.index_mut-scope.ensures.value (rw c.self.view_is c.requires)

pub invariant_of-self : goal.invariant_of-self
invariant_of-self c =
    let within : c.args.env < length c.self.inside.scopes.items = omega (arith, c.len.ensures, c.if-env-len.false) in
    put_before c.self.inside.scopes.items c.args.env c.index_mut-scope.result.now c.push.new.self within
    c.index_mut-scope.ensures.value c.self.invariant

pub returns-clause-made : goal.returns-clause-made
returns-clause-made c =
    let within : c.args.env < length c.self.inside.scopes.items = omega (arith, c.len.ensures, c.if-env-len.false) in
    rw (← c.self.view_is) (seen_bound c.self.inside.scopes.items c.args.env c.index_mut-scope.result.now c.push.new.self
    c.args.name c.args.bound c.push.result within c.index_mut-scope.ensures.value c.push.ensures.ok)
