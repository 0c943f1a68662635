use Rattle.std.proofs.Common.{List, subst}
use Rattle.std.proofs.lemmas.Result.{IfOk-weaker}
use Rattle.jl_ast.specs.View.{view_expressions}
use Rattle.jl_value.specs.declared.value.Value.{Value}
use Rattle.jl_meaning.specs.Expressions.{evaluate_all}
use Rattle.jl_meaning.specs.Parts.{◌>>=◌}
use Rattle.jl_state.specs.Rest.{RefinesExpression}
use Rattle.jl_state.specs.Trees.{plain_forest}
use Rattle.jl_state.specs.ValueFrames.{arguments_after}
use Rattle.jl_state.specs.Words.{context_of, table_of}
use Rattle.jl_call.proofs.Literals.{skips_literals}
use Rattle.jl_call.proofs.arguments.start_arguments.Goals as goal

pub returns-clause-refines : goal.returns-clause-refines
returns-clause-refines c =
    let s = c.args.state.now in
    let here = context_of s.calls c.args.here in
    let uses = arguments_after (table_of s.functions) s.calls c.args.purpose c.args.here in
    IfOk-weaker _ _ _ (λ a refines. subst
    (λ (so_far : List Value). RefinesExpression s (evaluate_all (table_of s.functions)
    c.args.from so_far (plain_forest (view_expressions c.args.args.now)) here >>= uses) c.evaluate_rest.new.state a)
    c.new.ensures (skips_literals s c.args.from c.new.result c.args.args.now here uses _ _ refines))
    c.evaluate_rest.ensures.refines
