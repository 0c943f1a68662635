-- The second call of a pair.
use Rattle.std.proofs.Common.{◌≡◌, ◌+◌, subst, true, Bool}
use Rattle.jl_ast.specs.declared.ops.BinOp.{BinOp}
use Rattle.jl_value.specs.declared.value.Value.{Value}
use Rattle.jl_heap.specs.Objects.{Name}
use Rattle.jl_op.specs.declared.op.OpId.{OpId}
use Rattle.jl_meaning.specs.Noting.{emits}
use Rattle.jl_meaning.specs.Parts.{give, ◌>>=◌}
use Rattle.jl_meaning.specs.forms.Members.{put_member}
use Rattle.jl_meaning.specs.forms.Operators.{operate}
use Rattle.jl_state.specs.Rest.{RefinesExpression}
use Rattle.jl_state.specs.Steps.{ValueWaits}
use Rattle.jl_state.specs.declared.act.Act.{Act}
use Rattle.jl_state.specs.declared.hook.HookId.{HookId}
use Rattle.jl_state.specs.declared.state.State.{State}
use Rattle.jl_state.specs.declared.value_frame.ValueFrame.TheVariants as waiting

-- what an operator gives is put to a member, with the ids that follow that of the hook
pub assigns : (s t u : State) (a : Act) (id : HookId) (second third : OpId) (strict : Bool) (o : BinOp)
    (base : Value) (x : Name) (held operand : Value) → second ≡ record { 0 = id.id + 1 }
    → third ≡ record { 0 = id.id + 2 } → ValueWaits s (waiting.PutMember true third base x strict) t
    → RefinesExpression t (operate emits second.0 o held operand) u a
    → RefinesExpression s (operate emits (id.id + 1) o held operand >>= λ v.
    put_member emits (id.id + 2) strict base x v >>= λ _. give v) u a
assigns s t u a id second third strict o base x held operand is_second is_third waits refines =
    subst (λ (i : OpId). RefinesExpression s (operate emits i.0 o held operand >>= λ v.
    put_member emits (id.id + 2) strict base x v >>= λ _. give v) u a) is_second
    (subst (λ (i : OpId). RefinesExpression s (operate emits second.0 o held operand >>= λ v.
    put_member emits i.0 strict base x v >>= λ _. give v) u a) is_third
    (waits.gives (operate emits second.0 o held operand) u a refines))
