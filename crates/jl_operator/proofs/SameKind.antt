-- Operators of one kind, and what their results have in common.
use Rattle.std.proofs.Common.{◌≡◌, refl, sym, subst}
use mathlib.Core.Logic.{◌⊎◌, inl, inr}
use Rattle.jl_ast.specs.declared.ops.BinOp.{BinOp}
use Rattle.jl_ast.specs.declared.ops.BinOp.TheVariants as binary
use Rattle.jl_value.specs.declared.value.Value.{Value}
use Rattle.jl_meaning.specs.Conversions.{number_hint, to_primitive}
use Rattle.jl_meaning.specs.Operators.{binary_result, on_numbers}
use Rattle.jl_meaning.specs.Parts.{◌>>=◌}
use Rattle.jl_state.specs.AlgorithmFrames.{algorithm_after, number_result}
use Rattle.jl_state.specs.declared.algorithm_frame.AlgorithmFrame.TheVariants as algorithm

module _ (F : BinOp → Type 0) (o : BinOp) where
  last : (p : BinOp) → F p → o ≡ p → F o
  last p holds is = subst F (sym is) holds

  next : {B : Type 0} (p : BinOp) → F p → (B → F o) → (o ≡ p) ⊎ B → F o
  next p holds others (inl is) = subst F (sym is) holds
  next p holds others (inr b) = others b

abbrev IsRelation : Value → Value → BinOp → Type 0
IsRelation a b o = (to_primitive number_hint a >>= algorithm_after (algorithm.LeftCompared o b)) ≡ binary_result o a b

pub compares : (a b : Value) (o : BinOp)
    → (o ≡ binary.Less) ⊎ ((o ≡ binary.Greater) ⊎ ((o ≡ binary.LessEq) ⊎ (o ≡ binary.GreaterEq))) → IsRelation a b o
unfolding binary_result
compares a b o =
    next (IsRelation a b) o binary.Less refl
    (next (IsRelation a b) o binary.Greater refl
    (next (IsRelation a b) o binary.LessEq refl
    (last (IsRelation a b) o binary.GreaterEq refl)))

abbrev IsOnNumbers : Value → Value → BinOp → Type 0
IsOnNumbers a b o = on_numbers (number_result o) a b ≡ binary_result o a b

pub computes : (a b : Value) (o : BinOp)
    → (o ≡ binary.Mul) ⊎ ((o ≡ binary.Div) ⊎ ((o ≡ binary.Rem) ⊎ ((o ≡ binary.Sub) ⊎ ((o ≡ binary.Shl) ⊎
    ((o ≡ binary.Sar) ⊎ ((o ≡ binary.Shr) ⊎ ((o ≡ binary.BitAnd) ⊎ ((o ≡ binary.BitXor) ⊎ (o ≡ binary.BitOr)))))))))
    → IsOnNumbers a b o
unfolding binary_result
computes a b o =
    next (IsOnNumbers a b) o binary.Mul refl
    (next (IsOnNumbers a b) o binary.Div refl
    (next (IsOnNumbers a b) o binary.Rem refl
    (next (IsOnNumbers a b) o binary.Sub refl
    (next (IsOnNumbers a b) o binary.Shl refl
    (next (IsOnNumbers a b) o binary.Sar refl
    (next (IsOnNumbers a b) o binary.Shr refl
    (next (IsOnNumbers a b) o binary.BitAnd refl
    (next (IsOnNumbers a b) o binary.BitXor refl
    (last (IsOnNumbers a b) o binary.BitOr refl)))))))))
