use Rattle.std.proofs.Common.{true}
use Rattle.std.proofs.lemmas.Result.{IfOk-weaker}
use Rattle.jl_value.specs.declared.value.Value.TheVariants as value
use Rattle.jl_meaning.specs.Expressions.{evaluate}
use Rattle.jl_meaning.specs.Parts as parts
use Rattle.jl_meaning.specs.Parts.{◌>>=◌}
use Rattle.jl_state.specs.ValueFrames.{value_after}
use Rattle.jl_state.specs.Words.{context_of, table_of}
use Rattle.jl_state.specs.declared.value_frame.ValueFrame.TheVariants as waiting
use Rattle.jl_expression.proofs.ByKind.{of_same}
use Rattle.jl_expression.proofs.calls.begin_new.Goals as goal

pub returns-clause-refines : goal.returns-clause-refines
returns-clause-refines c =
    let s = c.args.state.now in
    IfOk-weaker _ _ _ (λ a refines. of_same (λ (x : parts.Expr). evaluate (table_of s.functions) x
    (context_of s.calls c.args.here) >>= value_after (table_of s.functions) s.calls (waiting.Callee value.Undefined true
    c.args.args c.args.here)) s c.deref.result.now c.args.constructor.now.value _ _ c.deref.ensures refines)
    c.begin_callee.ensures.refines
