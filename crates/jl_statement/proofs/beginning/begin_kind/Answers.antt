use Rattle.jl_ast.proofs.Views.{statement_For, statement_ForIn, statement_If, statement_Switch, statement_Try}
use Rattle.jl_state.specs.Turns.{labels_seen}
use Rattle.jl_statement.proofs.Dispatched.{of_kind}
use Rattle.jl_statement.proofs.Executes.{statements_over}
use Rattle.jl_statement.proofs.Results.{if_ok}
use Rattle.jl_statement.proofs.beginning.begin_kind.Goals as goal

pub returns-in-If-clause-refines : goal.returns-in-If-clause-refines
returns-in-If-clause-refines c =
    if_ok _ _ _ c.begin_if.ensures.refines
    (λ a refines. of_kind c.args.state.now c.args.t.now _ _ (labels_seen c.args.labels) c.args.here _ _ c.in-If.is
    (statement_If c.in-If.test c.in-If.then c.in-If.otherwise c.args.t.now.span) refines)

pub returns-in-For-clause-refines : goal.returns-in-For-clause-refines
returns-in-For-clause-refines c =
    if_ok _ _ _ c.begin_for.ensures.refines
    (λ a refines. of_kind c.args.state.now c.args.t.now _ _ (labels_seen c.args.labels) c.args.here _ _ c.in-For.is
    (statement_For c.in-For.init c.in-For.test c.in-For.update c.in-For.body c.args.t.now.span) refines)

pub returns-in-ForIn-clause-refines : goal.returns-in-ForIn-clause-refines
returns-in-ForIn-clause-refines c =
    if_ok _ _ _ c.evaluate_for-in-ForIn.ensures.refines
    (λ a refines. of_kind c.args.state.now c.args.t.now _ _ (labels_seen c.args.labels) c.args.here _ _ c.in-ForIn.is
    (statement_ForIn c.in-ForIn.is_var c.in-ForIn.name c.in-ForIn.object c.in-ForIn.body c.args.t.now.span) refines)

pub returns-in-Switch-clause-refines : goal.returns-in-Switch-clause-refines
returns-in-Switch-clause-refines c =
    if_ok _ _ _ c.begin_switch.ensures.refines
    (λ a refines. of_kind c.args.state.now c.args.t.now _ _ (labels_seen c.args.labels) c.args.here _ _ c.in-Switch.is
    (statement_Switch c.in-Switch.e c.in-Switch.cases c.args.t.now.span) refines)

pub returns-clause-refines : goal.returns-clause-refines
returns-clause-refines c =
    if_ok _ _ _ c.begin_statements-in-Try.ensures.refines
    (λ a refines. of_kind c.args.state.now c.args.t.now _ _ (labels_seen c.args.labels) c.args.here _ _ c.in-Try.is
    (statement_Try c.in-Try.body c.in-Try.catch c.in-Try.finally c.args.t.now.span)
    (statements_over _ _ _ c.in-Try.body c.args.here _ _ c.in_ok-push_completion-in-Try.ensures.pushed refines))
