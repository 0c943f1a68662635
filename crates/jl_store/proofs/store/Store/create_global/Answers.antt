use Rattle.std.proofs.Common.{subst, sym}
use Rattle.std.specs.Prelude.{codes}
use Rattle.jl_meaning.specs.Errors.{require}
use Rattle.jl_store.specs.Answers.{finish_of}
use Rattle.jl_store.specs.BigStep.{BigStep}
use Rattle.jl_store.proofs.GlobalNames.{global_done, global_failed, global_thrown}
use Rattle.jl_store.proofs.store.Store.create_global.Goals as goal

pub returns-in_ok-require-in-Gives : goal.returns-in_ok-require-in-Gives
returns-in_ok-require-in-Gives c =
    global_done c.args.name.now c.args.self.now c.define_own_property.new.self c.in_ok-done.field-0
    c.in_ok-done.ensures c.require.new.self c.in-Gives.done (finish_of c.finish.result) c.in-Gives.is
    (subst (λ e. BigStep (require c.in-Gives.done (codes "cannot define")) c.define_own_property.new.self
    c.require.new.self e)
    (sym c.finish.ensures) c.in_ok-require-in-Gives.ensures)

pub returns-in-Throws : goal.returns-in-Throws
returns-in-Throws c =
    global_thrown c.args.name.now c.args.self.now c.define_own_property.new.self c.in_ok-done.field-0
    c.in_ok-done.ensures c.in-Throws.thrown c.in-Throws.is

pub returns-in-Fails : goal.returns-in-Fails
returns-in-Fails c =
    global_failed c.args.name.now c.args.self.now c.define_own_property.new.self c.in_ok-done.field-0
    c.in_ok-done.ensures c.in-Fails.fault c.in-Fails.is
