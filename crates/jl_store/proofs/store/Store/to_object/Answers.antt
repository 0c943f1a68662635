use Rattle.std.proofs.Common.{subst, sym}
use Rattle.jl_meaning.specs.Conversions.{to_object}
use Rattle.jl_effects.specs.Running.{Ends}
use Rattle.jl_meaning.specs.Parts.{throws}
use Rattle.jl_store.proofs.Chains.{error_comes}
use Rattle.jl_store.specs.BigStep.{BigStep}
use Rattle.jl_store.proofs.store.Store.to_object.Goals as goal

pub returns-in_ok-thrown-in-Undefined : goal.returns-in_ok-thrown-in-Undefined
unfolding to_object
returns-in_ok-thrown-in-Undefined c =
    subst (λ v. BigStep (to_object v) c.args.self.now c.throw_type_error.new.self
    (Ends (throws c.in_ok-thrown-in-Undefined.thrown)))
    (sym c.in-Undefined.is) (error_comes c.in_ok-thrown-in-Undefined.ensures)

pub returns-in_ok-thrown-in-Null : goal.returns-in_ok-thrown-in-Null
unfolding to_object
returns-in_ok-thrown-in-Null c =
    subst (λ v. BigStep (to_object v) c.args.self.now c.throw_type_error-in-Null.new.self
    (Ends (throws c.in_ok-thrown-in-Null.thrown)))
    (sym c.in-Null.is) (error_comes c.in_ok-thrown-in-Null.ensures)
