use Rattle.std.proofs.lemmas.Result.{IfOk-weaker}
use Rattle.jl_meaning.specs.Expressions.{evaluate}
use Rattle.jl_meaning.specs.Parts as parts
use Rattle.jl_meaning.specs.Parts.{◌>>=◌}
use Rattle.jl_state.specs.ValueFrames.{value_after}
use Rattle.jl_state.specs.Words.{context_of, table_of}
use Rattle.jl_expression.proofs.ByKind.{of_same}
use Rattle.jl_expression.proofs.boxes.evaluate_boxed.Goals as goal

pub returns-clause-refines : goal.returns-clause-refines
returns-clause-refines c =
    let s = c.args.state.now in
    IfOk-weaker _ _ _ (λ a refines. of_same (λ (x : parts.Expr). evaluate (table_of s.functions) x
    (context_of s.calls c.args.here) >>= value_after (table_of s.functions) s.calls c.args.frame) s c.deref.result.now
    c.args.e.now.value _ _ c.deref.ensures refines) c.evaluate.ensures.refines
