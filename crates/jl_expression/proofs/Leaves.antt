-- Expressions that go on with a value that is there at once.
use Rattle.std.proofs.Common.{◌≡◌, ◌-◌, IfSome, Option, Result, Some}
use Rattle.std.proofs.lemmas.Option.{MatchOption-at_some}
use Rattle.jl_ast.specs.View.{view_expression}
use Rattle.jl_ast.specs.declared.tree.Expr.{Expr}
use Rattle.jl_value.specs.declared.value.Value.{Value}
use Rattle.jl_meaning.specs.Expressions.{evaluate}
use Rattle.jl_meaning.specs.Parts.{◌>>=◌, Answer, Part}
use Rattle.jl_state.specs.Clauses.{Evaluates, Resumes}
use Rattle.jl_state.specs.Steps.{Supplies, Took}
use Rattle.jl_state.specs.Trees.{plain}
use Rattle.jl_state.specs.ValueFrames.{value_after}
use Rattle.jl_state.specs.Words.{context_of, table_of}
use Rattle.jl_state.specs.declared.act.Act.{Act}
use Rattle.jl_state.specs.declared.frame.Here.{Here}
use Rattle.jl_state.specs.declared.state.State.{State}
use Rattle.jl_state.specs.declared.value_frame.ValueFrame.{ValueFrame}
use Rattle.jl_state.proofs.Leaves.{resumes_supplied}

-- the expression has this value at once
abbrev pub IsAtOnce : State → Expr → Here → Value → Type 0
IsAtOnce s e here v =
    (t : State) → Took s t → t ≡ record s { left = s.left - 1 }
    → Supplies s (evaluate (table_of s.functions) (plain (view_expression e)) (context_of s.calls here)) v t

-- what waits for it goes on
pub goes_on : {E : Type 0} {o : Option Value} {v : Value} (s t : State) (e : Expr) (here : Here)
    → IfSome o (IsAtOnce s e here) → o ≡ Some v → Took s t → t ≡ record s { left = s.left - 1 } → (f : ValueFrame)
    (r : Result Act E) (u : State) → Resumes t f v r u
    → Evaluates s (evaluate (table_of s.functions) (plain (view_expression e)) (context_of s.calls here)
    >>= value_after (table_of s.functions) s.calls f) r u
goes_on {E} {o} {v} s t e here at_once is took one f r u refines =
    resumes_supplied s t one (evaluate (table_of s.functions) (plain (view_expression e)) (context_of s.calls here)) v
    (MatchOption-at_some _ (IsAtOnce s e here) v is at_once t took one) f r u refines
