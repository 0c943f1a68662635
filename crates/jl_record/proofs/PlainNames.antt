-- Names are words of ASCII characters.
use Rattle.std.proofs.Common.{◌≡◌, ℕ, zero, suc, ◌-◌, Bool, true, ◌&&◌, Some, refl, sym, ap, ◌∙◌, List, [], ◌∷◌}
use Rattle.std.specs.List.{list_all}
use Rattle.std.specs.Prelude.{slice_get}
use Rattle.std.proofs.lemmas.Bool.{and_parts}
use Rattle.jl_analysis.specs.Rules.{rules, name_at, IsRule}
use Rattle.jl_analysis.proofs.RuleNames.{rule_names, named}
use Rattle.jl_ast.specs.declared.ops.BinOp.{BinOp}
use Rattle.jl_ast.specs.declared.ops.BinOp.TheVariants as binary
use Rattle.jl_op.specs.declared.kind.OpKind.{OpKind}
use Rattle.jl_op.specs.declared.kind.OpKind.TheVariants as kinds
use Rattle.jl_op.specs.declared.sign.UnKind.{UnKind}
use Rattle.jl_op.specs.declared.sign.UnKind.TheVariants as unary
use Rattle.jl_op.specs.Kinds.{kind_name}
use Rattle.jl_op.specs.Trace.{binary_sign, unary_sign}
use Rattle.jl_value.specs.declared.object.Class.{Class}
use Rattle.jl_value.specs.declared.object.Class.TheVariants as classes
use Rattle.jl_value.specs.Builtins.{builtins, entry_of, name_of}
use Rattle.jl_value.specs.Texts.{class_name}
use Rattle.jl_value.specs.declared.builtin.Builtin.{Builtin}
use Rattle.jl_value.proofs.Rows.{all_pass}
use Rattle.jl_record.specs.Plain.{is_plain}

pub kind_is_plain : (kind : OpKind) → is_plain (kind_name kind) ≡ true
kind_is_plain kinds.ScriptEnter = refl
kind_is_plain kinds.ScriptExit = refl
kind_is_plain kinds.FunctionEnter = refl
kind_is_plain kinds.FunctionExit = refl
kind_is_plain kinds.Literal = refl
kind_is_plain kinds.ArrayLiteral = refl
kind_is_plain kinds.ObjectLiteral = refl
kind_is_plain kinds.FunctionLiteral = refl
kind_is_plain kinds.Read = refl
kind_is_plain kinds.Write = refl
kind_is_plain kinds.TypeofName = refl
kind_is_plain kinds.GetField = refl
kind_is_plain kinds.PutField = refl
kind_is_plain kinds.DeleteField = refl
kind_is_plain kinds.InvokePre = refl
kind_is_plain kinds.InvokePost = refl
kind_is_plain kinds.Binary = refl
kind_is_plain kinds.Unary = refl
kind_is_plain kinds.Conditional = refl
kind_is_plain kinds.ForIn = refl
kind_is_plain kinds.Return = refl
kind_is_plain kinds.Throw = refl
kind_is_plain kinds.Catch = refl

pub class_is_plain : (class : Class) → is_plain (class_name class) ≡ true
class_is_plain classes.Primitive = refl
class_is_plain classes.Object = refl
class_is_plain classes.Function = refl
class_is_plain classes.Array = refl
class_is_plain classes.String = refl
class_is_plain classes.Number = refl
class_is_plain classes.Boolean = refl
class_is_plain classes.Error = refl
class_is_plain classes.Arguments = refl
class_is_plain classes.Math = refl

pub binary_is_plain : (op : BinOp) → is_plain (binary_sign op) ≡ true
binary_is_plain binary.Mul = refl
binary_is_plain binary.Div = refl
binary_is_plain binary.Rem = refl
binary_is_plain binary.Add = refl
binary_is_plain binary.Sub = refl
binary_is_plain binary.Shl = refl
binary_is_plain binary.Sar = refl
binary_is_plain binary.Shr = refl
binary_is_plain binary.Less = refl
binary_is_plain binary.Greater = refl
binary_is_plain binary.LessEq = refl
binary_is_plain binary.GreaterEq = refl
binary_is_plain binary.InstanceOf = refl
binary_is_plain binary.In = refl
binary_is_plain binary.Equal = refl
binary_is_plain binary.NotEqual = refl
binary_is_plain binary.StrictEqual = refl
binary_is_plain binary.StrictNotEqual = refl
binary_is_plain binary.BitAnd = refl
binary_is_plain binary.BitXor = refl
binary_is_plain binary.BitOr = refl

pub unary_is_plain : (op : UnKind) → is_plain (unary_sign op) ≡ true
unary_is_plain unary.Minus = refl
unary_is_plain unary.Plus = refl
unary_is_plain unary.Not = refl
unary_is_plain unary.Tilde = refl
unary_is_plain unary.Typeof = refl
unary_is_plain unary.Void = refl
unary_is_plain unary.Up = refl
unary_is_plain unary.Down = refl

unfoldable all_plain : List (List ℕ) → Bool
all_plain [] = true
all_plain (x ∷ xs) = is_plain x && all_plain xs

rules_are_plain : all_plain rule_names ≡ true
unfolding all_plain rules
rules_are_plain = refl

plain_at : (xs : List (List ℕ)) (i : ℕ) (x : List ℕ) → all_plain xs ≡ true → slice_get xs i ≡ Some x → is_plain x ≡ true
unfolding all_plain
plain_at [] i x h e = absurd (cc)
plain_at (y ∷ xs) zero x h e = ap is_plain (some_same (sym e)) ∙ (and_parts (is_plain y) (all_plain xs) h).0 where
  some_same : {a b : List ℕ} → Some a ≡ Some b → a ≡ b
  some_same e = cc
plain_at (y ∷ xs) (suc i) x h e = plain_at xs i x (and_parts (is_plain y) (all_plain xs) h).1 e

pub rule_is_plain : (rule : ℕ) (name : List ℕ) → IsRule rule → Some name ≡ name_at rule → is_plain name ≡ true
rule_is_plain rule name is e =
    plain_at rule_names (rule - 1) name rules_are_plain (sym (named rule is.0) ∙ sym e)

names_are_plain : list_all (λ b. is_plain (name_of b)) builtins ≡ true
unfolding builtins entry_of
names_are_plain = refl

pub builtin_is_plain : (b : Builtin) → is_plain (name_of b) ≡ true
builtin_is_plain = all_pass (λ b. is_plain (name_of b)) names_are_plain
