use Rattle.std.proofs.Common.{◌∙◌, ap}
use Rattle.jl_ast.specs.View.{view_cases}
use Rattle.jl_meaning.specs.forms.Switch.{default_of}
use Rattle.jl_state.specs.Trees.{plain_forest}
use Rattle.jl_statement.proofs.Results.{if_ok}
use Rattle.jl_statement.proofs.Selecting.{selects_default, selects_tested}
use Rattle.jl_statement.proofs.switches.select_from.Goals as goal

pub returns-in-None-clause-refines : goal.returns-in-None-clause-refines
returns-in-None-clause-refines c =
    if_ok _ _ _ c.begin_from.ensures.refines (λ a refines. selects_default c.args.state.now c.args.here c.args.value
    c.args.from c.args.cases.now _ _ _ _ c.next_test.ensures c.in-None.is (c.default_of.ensures
    ∙ ap (λ l. default_of (plain_forest (view_cases l))) c.items.ensures) refines)

pub returns-in-Some-clause-refines : goal.returns-in-Some-clause-refines
returns-in-Some-clause-refines c =
    if_ok _ _ _ c.evaluate_for.ensures.refines (λ a refines. selects_tested c.args.state.now c.args.here c.args.value
    c.args.from c.args.cases.now _ _ _ _ _ c.next_test.ensures c.in-Some.is refines)
