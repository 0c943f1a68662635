use Rattle.std.proofs.Common.{◌∷◌, [], arith, subst, List}
use Rattle.std.proofs.lemmas.Option.{MatchOption-at_none, MatchOption-at_some}
use Rattle.std.proofs.lemmas.Result.{IfOk-weaker}
use Rattle.jl_value.specs.declared.value.Value.{Value}
use Rattle.jl_state.specs.Trees.{items_left}
use Rattle.jl_state.specs.declared.value_frame.ArgumentUse.TheVariants as arguments_for
use Rattle.jl_call.specs.inner.Taken.{Takes}
use Rattle.jl_call.proofs.Takings.{falls_taken, uses_taken, waits_taken}
use Rattle.jl_call.proofs.closing.start_closing.Goals as goal

pub returns-in-None-clause-refines : goal.returns-in-None-clause-refines
returns-in-None-clause-refines c =
    let s = c.args.state.now in
    let t = c.take_leaves.new.state in
    let values = c.take_leaves.new.values in
    IfOk-weaker _ _ _ (λ a refines. uses_taken s c.args.here [] c.args.args.now t _ a values
    (arguments_for.Close c.args.pending) (subst (λ (l : List Value). Takes s c.args.here l c.args.args.now t values [])
    c.new-values.ensures (MatchOption-at_none _ _ c.in-None.is c.in_ok-next.ensures)) refines) c.close.ensures.refines

pub returns-in-None-clause-bounded : goal.returns-in-None-clause-bounded
returns-in-None-clause-bounded c =
    IfOk-weaker _ _ _ (λ a bounded. falls_taken c.args.state.now c.args.here c.new-values.result c.args.args.now
    c.take_leaves.new.state _ a c.take_leaves.new.values _ 110 134 (omega arith)
    (MatchOption-at_none _ _ c.in-None.is c.in_ok-next.ensures) bounded) c.close.ensures.bounded

pub returns-in-Some-clause-refines : goal.returns-in-Some-clause-refines
returns-in-Some-clause-refines c =
    let s = c.args.state.now in
    let t = c.take_leaves.new.state in
    let values = c.take_leaves.new.values in
    let e = c.in-Some.e.now in
    let others = items_left c.in-Some.rest in
    IfOk-weaker _ _ _ (λ a refines. waits_taken s c.args.here [] c.args.args.now t _ a values
    (arguments_for.Close c.args.pending) e others (subst (λ (l : List Value). Takes s c.args.here l c.args.args.now t
    values (e ∷ others)) c.new-values.ensures (MatchOption-at_some _ _ _ c.in-Some.is c.in_ok-next.ensures)) refines)
    c.evaluate_argument.ensures.refines

pub returns-in-Some-clause-bounded : goal.returns-in-Some-clause-bounded
returns-in-Some-clause-bounded c =
    IfOk-weaker _ _ _ (λ a bounded. falls_taken c.args.state.now c.args.here c.new-values.result c.args.args.now
    c.take_leaves.new.state _ a c.take_leaves.new.values _ 134 134 (omega arith)
    (MatchOption-at_some _ _ _ c.in-Some.is c.in_ok-next.ensures) bounded) c.evaluate_argument.ensures.bounded
