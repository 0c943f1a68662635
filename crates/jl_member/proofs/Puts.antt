-- Members that are put.
use Rattle.std.proofs.Common.{◌≡◌, false, subst, sym, Bool, ℕ}
use Rattle.jl_value.specs.declared.value.Value.{Value}
use Rattle.jl_heap.specs.Describe.{seen_of}
use Rattle.jl_heap.specs.Objects.{Name}
use Rattle.jl_op.specs.declared.op.Op.{Op}
use Rattle.jl_op.specs.declared.op.Op.TheVariants as op
use Rattle.jl_op.specs.declared.op.OpId.{OpId}
use Rattle.jl_effects.specs.Effects.{Emit}
use Rattle.jl_meaning.specs.Noting.{emits}
use Rattle.jl_meaning.specs.Parts.{give, ◌>>=◌}
use Rattle.jl_meaning.specs.Properties.{found_of, property_of_value}
use Rattle.jl_meaning.specs.Putting.{put}
use Rattle.jl_meaning.specs.forms.Members.{put_member}
use Rattle.jl_state.specs.Rest.{RefinesExpression, RefinesAlgorithm}
use Rattle.jl_state.specs.EmitFrames.{emit_after}
use Rattle.jl_state.specs.Words.{noting}
use Rattle.jl_state.specs.declared.act.Act.{Act}
use Rattle.jl_state.specs.declared.frame.EmitFrame.TheVariants as told
use Rattle.jl_state.specs.declared.state.State.{State}
use Rattle.jl_state.proofs.Chains.{gives_lifted}

-- by the script
pub puts_quietly : (s : State) (emitting : Bool) (id : ℕ) (strict : Bool) (base : Value) (x : Name) (v given : Value)
    (t : State) (a : Act) → emitting ≡ false → RefinesAlgorithm s (put strict base x v >>= λ _. give given) t a
    → RefinesExpression s (put_member (noting emitting) id strict base x v >>= λ _. give given) t a
unfolding put_member
puts_quietly s emitting id strict base x v given t a is refines =
    subst (λ (b : Bool). RefinesExpression s (put_member (noting b) id strict base x v >>= λ _. give given) t a)
    (sym is)
    (record { is = (gives_lifted s (put strict base x v) (λ _. give given) t a refines).is })

-- by a hook
pub emits_and_puts : (s : State) (id : OpId) (o : Op) (strict : Bool) (base : Value) (x : Name) (v given : Value)
    (t : State) (a : Act)
    → o ≡ op.PutField (seen_of s.store.heap base) x (seen_of s.store.heap v)
    (found_of (property_of_value s.store base x))
    → RefinesExpression s (Emit (id, o) (emit_after (told.Put base x v strict given))) t a
    → RefinesExpression s (put_member emits id.0 strict base x v >>= λ _. give given) t a
unfolding put_member
emits_and_puts s id o strict base x v given t a same refines = record {
  is = (subst (λ (p : Op). RefinesExpression s
      (Emit (id, p) (emit_after (told.Put base x v strict given))) t a) same refines).is;
}
