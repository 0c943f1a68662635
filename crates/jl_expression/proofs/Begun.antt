-- Expressions begun.
use Rattle.std.proofs.Common.{◌≡◌, ◌-◌, Bool, false, refl, sym, ap, subst}
use Rattle.std.proofs.lemmas.Bool.{false≢true}
use Rattle.jl_ast.specs.Tree as tree
use Rattle.jl_ast.specs.declared.ops.UnOp.{UnOp}
use Rattle.jl_ast.specs.declared.ops.UnOp.TheVariants as un
use Rattle.jl_value.specs.declared.value.Value.{Value}
use Rattle.jl_op.specs.declared.sign.UnKind.TheVariants as unary
use Rattle.jl_op.specs.UnaryKinds.{unary_kind}
use Rattle.jl_effects.specs.Effects.{Step}
use Rattle.jl_meaning.specs.Expressions.{evaluate, evaluate_typeof}
use Rattle.jl_meaning.specs.FunctionObjects.{FunctionTable}
use Rattle.jl_meaning.specs.Noting.{performs}
use Rattle.jl_meaning.specs.Parts.{◌>>=◌, Answer, Context, Expr, Part}
use Rattle.jl_meaning.specs.forms.Operators.{operate_on}
use Rattle.jl_state.specs.Rest.{RefinesExpression}
use Rattle.jl_state.specs.Steps.{RanOut, Took}
use Rattle.jl_state.specs.Words.{context_of, table_of}
use Rattle.jl_state.specs.declared.act.Act.{Act}
use Rattle.jl_state.specs.declared.act.Act.TheVariants as act
use Rattle.jl_state.specs.declared.frame.Here.{Here}
use Rattle.jl_state.specs.declared.state.State.{State}
use Rattle.jl_expression.specs.inner.Begun.{begin}
use Rattle.jl_expression.specs.inner.Forms.{is_name}

-- an expression takes a step, and begins
stepped : (table : FunctionTable) (e : Expr) (c : Context) → evaluate table e c ≡ Step (begin table e c)
stepped table (tree.unary un.Minus e s) c = refl
stepped table (tree.unary un.Plus e s) c = refl
stepped table (tree.unary un.Not e s) c = refl
stepped table (tree.unary un.Tilde e s) c = refl
stepped table (tree.unary un.Typeof e s) c = refl
stepped table (tree.unary un.Void e s) c = refl
stepped table (tree.unary un.Delete e s) c = refl
stepped table e c = refl

pub begins : (s t u : State) (a : Act) (e : Expr) (here : Here) → Took s t → t ≡ record s { left = s.left - 1 }
    → RefinesExpression t (begin (table_of t.functions) e (context_of t.calls here)) u a
    → RefinesExpression s (evaluate (table_of s.functions) e (context_of s.calls here)) u a
begins s t u a e here took is refines =
    let same : begin (table_of t.functions) e (context_of t.calls here)
    ≡ begin (table_of s.functions) e (context_of s.calls here) =
    ap (λ (v : State). begin (table_of v.functions) e (context_of v.calls here)) is in
    subst (λ p. RefinesExpression s p u a) (sym (stepped (table_of s.functions) e (context_of s.calls here)))
    (took.gives _ u a (subst (λ p. RefinesExpression t p u a) same refines))

pub runs_out : (s t : State) (e : Expr) (here : Here) → RanOut s → t ≡ s
    → RefinesExpression s (evaluate (table_of s.functions) e (context_of s.calls here)) t act.Spent
runs_out s t e here ran_out same =
    subst (λ (u : State). RefinesExpression s (evaluate (table_of s.functions) e (context_of s.calls here)) u act.Spent)
    (sym same)
    (subst (λ p. RefinesExpression s p s act.Spent) (sym (stepped (table_of s.functions) e (context_of s.calls here)))
    (ran_out.gives (begin (table_of s.functions) e (context_of s.calls here))))

-- an operator that is neither `typeof` nor `delete` is one on the value of its operand
pub operand_first : (table : FunctionTable) (o : UnOp) (e : Expr) (c : Context) → (o ≡ un.Typeof → ⊥)
    → (o ≡ un.Delete → ⊥)
    → begin table (tree.unary o e 0) c ≡ (evaluate table e c >>= λ v. operate_on performs 0 (unary_kind o) v)
operand_first table un.Minus e c no_type no_delete = refl
operand_first table un.Plus e c no_type no_delete = refl
operand_first table un.Not e c no_type no_delete = refl
operand_first table un.Tilde e c no_type no_delete = refl
operand_first table un.Typeof e c no_type no_delete = absurd (no_type refl)
operand_first table un.Void e c no_type no_delete = refl
operand_first table un.Delete e c no_type no_delete = absurd (no_delete refl)

-- `typeof` of what is no name
pub types_value : (s : State) (here : Here) (e : Expr) (t : State) (a : Act) → is_name e ≡ false
    → RefinesExpression s (evaluate (table_of s.functions) e (context_of s.calls here)
    >>= λ v. operate_on performs 0 unary.Typeof v) t a
    → RefinesExpression s (evaluate_typeof (table_of s.functions) e
    (evaluate (table_of s.functions) e (context_of s.calls here)) 0 (context_of s.calls here)) t a
types_value s here e t a is refines =
    subst (λ p. RefinesExpression s p t a)
    (typed (table_of s.functions) e (evaluate (table_of s.functions) e (context_of s.calls here))
    (context_of s.calls here) is) refines
  where
    typed : (table : FunctionTable) (f : Expr) (p : Part (Answer Value)) (c : Context) → is_name f ≡ false
        → (p >>= λ v. operate_on performs 0 unary.Typeof v) ≡ evaluate_typeof table f p 0 c
    typed table (tree.name x at) p c other = absurd (false≢true (sym other))
    typed table f p c other = refl

pub ruleset operands = (operand_first)
