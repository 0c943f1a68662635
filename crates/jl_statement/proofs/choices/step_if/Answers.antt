use Rattle.jl_statement.proofs.Followed.{decided}
use Rattle.jl_statement.proofs.choices.step_if.Goals as goal

pub returns-then-to_boolean-clause-refines : goal.returns-then-to_boolean-clause-refines
returns-then-to_boolean-clause-refines c =
    decided _ c.args.v _ _ _ _ c.if-to_boolean.ensures c.in_ok-begin_statements.ensures.refines

pub returns-clause-refines : goal.returns-clause-refines
returns-clause-refines c = decided _ c.args.v _ _ _ _ c.if-to_boolean.ensures c.in_ok-begin_branch.ensures.refines
