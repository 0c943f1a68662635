use Rattle.jl_statement.proofs.Results.{if_ok}
use Rattle.jl_statement.proofs.Selecting.{case_passed, case_selected}
use Rattle.jl_statement.proofs.switches.step_case_test.Goals as goal

pub returns-then-strict_equal-clause-refines : goal.returns-then-strict_equal-clause-refines
returns-then-strict_equal-clause-refines c =
    if_ok _ _ _ c.begin_from.ensures.refines
    (λ a refines. case_selected c.args.state.now c.args.here c.args.value c.args.w
    c.args.index c.args.cases _ _ c.if-strict_equal.ensures refines)

pub returns-clause-refines : goal.returns-clause-refines
returns-clause-refines c =
    if_ok _ _ _ c.select_from.ensures.refines
    (λ a refines. case_passed c.args.state.now c.args.here c.args.value c.args.w
    c.args.index c.args.cases _ _ c.if-strict_equal.ensures refines)
