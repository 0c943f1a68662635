-- Statements that go on with the value of an expression.
use Rattle.std.specs.Prelude.{List}
use Rattle.jl_ast.specs.View.{view_expression}
use Rattle.jl_ast.specs.declared.tree.Expr.{Expr}
use Rattle.jl_value.specs.declared.ending.Completion.{Completion}
use Rattle.jl_effects.specs.Effects.{and_then}
use Rattle.jl_meaning.specs.Completions.{on_given}
use Rattle.jl_meaning.specs.Expressions.{evaluate}
use Rattle.jl_meaning.specs.FunctionObjects.{FunctionTable}
use Rattle.jl_meaning.specs.Parts.{Part}
use Rattle.jl_state.specs.StatementFrames.{statement_after}
use Rattle.jl_state.specs.Trees.{plain}
use Rattle.jl_state.specs.Words.{context_of}
use Rattle.jl_state.specs.declared.calls.Call.{Call}
use Rattle.jl_state.specs.declared.frame.Here.{Here}
use Rattle.jl_state.specs.declared.statement_frame.StatementFrame.{StatementFrame}

-- the expression, and then what the frame does with its value
abbrev pub value_then : FunctionTable → List Call → Expr → Here → StatementFrame → Part Completion
value_then table calls e here f =
    and_then (evaluate table (plain (view_expression e)) (context_of calls here))
    (on_given (statement_after table calls f))
