use Rattle.std.proofs.Common.{drop, subst, ◌+◌}
use Rattle.jl_meaning.specs.DeclarationBinding.{declare_global_variables}
use Rattle.jl_store.specs.Answers.{finish_of}
use Rattle.jl_store.specs.Bindings.{declare_global_variable}
use Rattle.jl_store.specs.BigStep.{BigStep}
use Rattle.jl_store.proofs.Loops.{globals_from, next_done, next_failed, next_thrown}
use Rattle.jl_store.proofs.store.Store.declare_global_variables.Goals as goal

pub returns-in-Throws : goal.returns-in-Throws
returns-in-Throws c =
    next_thrown (declare_global_variables (drop (c.loop-name.name-index + 1) c.args.names.now))
    (globals_from c.loop-name.name-index c.args.names.now c.name-item.result c.loop-name.invariant c.loop-name-test.true
    c.name-item.is)
    (subst (λ end. BigStep (declare_global_variable c.name-item.result) c.loop-name.self
    c.declare_global_variable.new.self
    (finish_of end)) c.in-Throws.is c.in_ok-declare_global_variable.ensures)

pub returns-in-Fails : goal.returns-in-Fails
returns-in-Fails c =
    next_failed (declare_global_variables (drop (c.loop-name.name-index + 1) c.args.names.now))
    (globals_from c.loop-name.name-index c.args.names.now c.name-item.result c.loop-name.invariant c.loop-name-test.true
    c.name-item.is)
    (subst (λ end. BigStep (declare_global_variable c.name-item.result) c.loop-name.self
    c.declare_global_variable.new.self
    (finish_of end)) c.in-Fails.is c.in_ok-declare_global_variable.ensures)

pub loop-name-preserved : goal.loop-name-preserved
loop-name-preserved c =
    next_done
    (globals_from c.loop-name.name-index c.args.names.now c.name-item.result c.loop-name.invariant c.loop-name-test.true
    c.name-item.is)
    (subst (λ end. BigStep (declare_global_variable c.name-item.result) c.loop-name.self
    c.declare_global_variable.new.self
    (finish_of end)) c.in-Gives.is c.in_ok-declare_global_variable.ensures)
