use Rattle.std.proofs.Common.{arith}
use Rattle.std.proofs.lemmas.Option.{MatchOption-at_none, MatchOption-at_some}
use Rattle.std.proofs.lemmas.Result.{IfOk-weaker}
use Rattle.jl_state.specs.Trees.{items_left}
use Rattle.jl_call.proofs.Takings.{falls_taken, uses_taken, waits_taken}
use Rattle.jl_call.proofs.arguments.evaluate_rest.Goals as goal

pub returns-in-None-clause-refines : goal.returns-in-None-clause-refines
returns-in-None-clause-refines c =
    IfOk-weaker _ _ _ (λ a refines. uses_taken c.args.state.now c.args.here c.args.so_far (items_left c.args.rest)
    c.take_leaves.new.state _ a c.take_leaves.new.values c.args.purpose
    (MatchOption-at_none _ _ c.in-None.is c.in_ok-next.ensures) refines) c.use_arguments.ensures.refines

pub returns-in-None-clause-bounded : goal.returns-in-None-clause-bounded
returns-in-None-clause-bounded c =
    IfOk-weaker _ _ _ (λ a bounded. falls_taken c.args.state.now c.args.here c.args.so_far (items_left c.args.rest)
    c.take_leaves.new.state _ a c.take_leaves.new.values _ 110 134 (omega arith)
    (MatchOption-at_none _ _ c.in-None.is c.in_ok-next.ensures) bounded) c.use_arguments.ensures.bounded

pub returns-in-Some-clause-refines : goal.returns-in-Some-clause-refines
returns-in-Some-clause-refines c =
    IfOk-weaker _ _ _ (λ a refines. waits_taken c.args.state.now c.args.here c.args.so_far (items_left c.args.rest)
    c.take_leaves.new.state _ a c.take_leaves.new.values c.args.purpose c.in-Some.e.now (items_left c.in-Some.rest)
    (MatchOption-at_some _ _ _ c.in-Some.is c.in_ok-next.ensures) refines) c.evaluate_argument.ensures.refines

pub returns-in-Some-clause-bounded : goal.returns-in-Some-clause-bounded
returns-in-Some-clause-bounded c =
    IfOk-weaker _ _ _ (λ a bounded. falls_taken c.args.state.now c.args.here c.args.so_far (items_left c.args.rest)
    c.take_leaves.new.state _ a c.take_leaves.new.values _ 134 134 (omega arith)
    (MatchOption-at_some _ _ _ c.in-Some.is c.in_ok-next.ensures) bounded) c.evaluate_argument.ensures.bounded
