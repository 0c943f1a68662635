use Rattle.std.proofs.Common.{subst}
use Rattle.std.proofs.lemmas.Result.{IfOk-weaker}
use Rattle.jl_ast.specs.View.{view_expression}
use Rattle.jl_meaning.specs.Expressions.{evaluate}
use Rattle.jl_meaning.specs.Parts.{◌>>=◌}
use Rattle.jl_state.specs.Rest.{RefinesExpression}
use Rattle.jl_state.specs.Trees.{plain}
use Rattle.jl_state.specs.ValueFrames.{value_after}
use Rattle.jl_state.specs.Words.{context_of, table_of}
use Rattle.jl_state.specs.declared.value_frame.Arguments.{Arguments}
use Rattle.jl_state.specs.declared.value_frame.ValueFrame.TheVariants as waiting
use Rattle.jl_call.proofs.waiting.evaluate_argument.Goals as goal

pub returns-clause-refines : goal.returns-clause-refines
returns-clause-refines c =
    let s = c.args.state.now in
    IfOk-weaker _ _ _ (λ a refines. subst (λ (w : Arguments). RefinesExpression s (evaluate (table_of s.functions)
    (plain (view_expression c.args.e.now)) (context_of s.calls c.args.arguments.here)
    >>= value_after (table_of s.functions) s.calls (waiting.Argument w)) c.evaluate.new.self a)
    c.in_ok-waiting.ensures refines) c.evaluate.ensures.refines
