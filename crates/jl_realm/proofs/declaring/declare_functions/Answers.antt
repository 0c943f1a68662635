use Rattle.std.proofs.Common.{drop, subst, ◌+◌}
use Rattle.jl_meaning.specs.DeclarationBinding.{declare_global_functions}
use Rattle.jl_store.specs.Answers.{ends_with}
use Rattle.jl_store.specs.BigStep.{BigStep}
use Rattle.jl_store.specs.Plain.{code_in, plain_function, plain_functions}
use Rattle.jl_store.proofs.Loops.{next_done, next_thrown}
use Rattle.jl_realm.specs.Global.{declare_made}
use Rattle.jl_realm.proofs.GlobalSteps.{functions_from}
use Rattle.jl_realm.proofs.Ordinary.{global_stays}
use Rattle.jl_realm.proofs.declaring.declare_functions.Goals as goal

pub returns-in-Throws : goal.returns-in-Throws
returns-in-Throws c =
    let here = code_in 0 c.args.strict in
    let fs = c.args.functions.now in
    let f = c.f-item.result in
    next_thrown (declare_global_functions (plain_functions (drop (c.loop-f.f-index + 1) fs)) here)
    (functions_from here c.loop-f.f-index fs f c.loop-f.invariant.left c.loop-f-test.true c.f-item.is)
    (subst (λ a. BigStep (declare_made (plain_function f) here) c.loop-f.store c.declare_function.new.store
    (ends_with a))
    c.in-Throws.is c.in_ok-declare_function.ensures)

pub loop-f-preserved : goal.loop-f-preserved
loop-f-preserved c =
    let here = code_in 0 c.args.strict in
    let fs = c.args.functions.now in
    let f = c.f-item.result in
    record {
      left = next_done
          (functions_from here c.loop-f.f-index fs f c.loop-f.invariant.left c.loop-f-test.true c.f-item.is)
          (subst (λ a. BigStep (declare_made (plain_function f) here) c.loop-f.store
          c.declare_function.new.store (ends_with a))
          c.in-Gives.is c.in_ok-declare_function.ensures);
      global = global_stays c.in_ok-declare_function.ensures c.loop-f.invariant.global;
    }
