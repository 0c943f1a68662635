-- What the rules on types and values complain about, rules 1 to 10.
use Rattle.std.specs.Prelude.{ℕ, Bool, true, false, List, [], ◌∷◌, not, ◌&&◌, ◌||◌, codes, reverse}
use Rattle.std.specs.List.{list_any}
use Rattle.std.specs.Str.{bytes_eq}
use Rattle.jl_ast.specs.declared.ops.BinOp.{BinOp}
use Rattle.jl_ast.specs.declared.ops.BinOp.TheVariants as binary
use Rattle.jl_op.specs.declared.op.Op.{Op}
use Rattle.jl_op.specs.declared.op.Op.TheVariants as ops
use Rattle.jl_op.specs.declared.sign.UnKind.TheVariants as unary
use Rattle.jl_value.specs.Tests.{is_nothing, is_object, is_undefined}
use Rattle.jl_value.specs.declared.value.Value.{Value}
use Rattle.jl_value.specs.declared.value.Value.TheVariants as values
use Rattle.jl_analysis.specs.Values.{is_number, is_nan, is_text, is_wrapper}
use Rattle.jl_analysis.specs.Values.{are_of_one_type}

-- 1, nan-made: an operator makes NaN of operands none of which is NaN
abbrev pub nan_made : Op → Bool
nan_made (ops.Binary op left right given) = is_nan given.value && not (is_nan left.value) && not (is_nan right.value)
nan_made (ops.Unary op operand given) = is_nan given.value && not (is_nan operand.value)
nan_made _ = false

-- 2, undefined-joined: `+` makes a text of an operand that is undefined (11.6.1)
abbrev pub undefined_joined : Op → Bool
undefined_joined (ops.Binary binary.Add left right given) =
    is_text given.value && (is_undefined left.value || is_undefined right.value)
undefined_joined _ = false

-- 3, object-joined: an operand of `+` is an object
abbrev pub object_joined : Op → Bool
object_joined (ops.Binary binary.Add left right given) = is_object left.value || is_object right.value
object_joined _ = false

-- 4, undefined-key: a property is got, put or deleted under the name `undefined`
abbrev pub undefined_key : Op → Bool
undefined_key (ops.GetField base name value found) = bytes_eq name (codes "undefined")
undefined_key (ops.PutField base name value found) = bytes_eq name (codes "undefined")
undefined_key (ops.DeleteField base name deleted) = bytes_eq name (codes "undefined")
undefined_key _ = false

-- 5, put-on-primitive: a property is put on a value that is no object, which makes no property (8.7.2)
abbrev pub put_on_primitive : Op → Bool
put_on_primitive (ops.PutField base name value found) = not (is_object base.value)
put_on_primitive _ = false

-- 6, wrapped-condition: what is tested is an object that stands for a primitive value, and so is true (9.2)
abbrev pub wrapped_condition : Op → Bool
wrapped_condition (ops.Conditional value) = is_object value.value && is_wrapper value.class
wrapped_condition _ = false

-- the operator is `==` or `!=`
abbrev pub is_loose : BinOp → Bool
is_loose binary.Equal = true
is_loose binary.NotEqual = true
is_loose _ = false

-- 7, loose-equal: `==` or `!=` converts one of its operands, neither of which is undefined or null (11.9.3)
abbrev pub loose_equal : Op → Bool
loose_equal (ops.Binary op left right given) =
    is_loose op && not (is_nothing left.value) && not (is_nothing right.value)
    && not (are_of_one_type left.value right.value)
loose_equal _ = false

-- the operator is `<`, `>`, `<=` or `>=`
abbrev pub is_order : BinOp → Bool
is_order binary.Less = true
is_order binary.Greater = true
is_order binary.LessEq = true
is_order binary.GreaterEq = true
is_order _ = false

-- 8, odd-compare: what is compared are neither two numbers nor two texts (11.8.5)
abbrev pub odd_compare : Op → Bool
odd_compare (ops.Binary op left right given) =
    is_order op && not (is_number left.value && is_number right.value)
    && not (is_text left.value && is_text right.value)
odd_compare _ = false

-- the operator tells whether its operands are equal (11.9)
abbrev pub is_equality : BinOp → Bool
is_equality binary.Equal = true
is_equality binary.NotEqual = true
is_equality binary.StrictEqual = true
is_equality binary.StrictNotEqual = true
is_equality _ = false

-- what `typeof` can give (11.4.3)
abbrev pub type_names : List (List ℕ)
type_names =
    codes "undefined" ∷ codes "object" ∷ codes "boolean" ∷ codes "number" ∷ codes "string" ∷ codes "function" ∷ []

-- the operation is a `typeof`
abbrev pub is_typeof : Op → Bool
is_typeof (ops.TypeofName name given) = true
is_typeof (ops.Unary unary.Typeof operand given) = true
is_typeof _ = false

-- it is a text that `typeof` never gives
abbrev pub is_odd_text : Value → Bool
is_odd_text (values.Text units) = not (list_any (bytes_eq units) type_names)
is_odd_text _ = false

-- the operation is a literal text that `typeof` never gives
abbrev pub is_odd_type_name : Op → Bool
is_odd_type_name (ops.Literal value) = is_odd_text value.value
is_odd_type_name _ = false

-- of operations, the last one first: a `typeof`, and then such a literal
abbrev pub begins_odd : List Op → Bool
begins_odd (literal ∷ kind ∷ earlier) = is_odd_type_name literal && is_typeof kind
begins_odd _ = false

-- 9, typeof-text: an operator that tells equality comes right after a literal text that `typeof` never gives, and that
-- right after a `typeof`
abbrev pub typeof_text : (before : List Op) → Op → Bool
typeof_text before (ops.Binary op left right given) = is_equality op && begins_odd (reverse before)
typeof_text before _ = false

-- the operator works on the bits of its operands (11.7, 11.10)
abbrev pub is_bitwise : BinOp → Bool
is_bitwise binary.BitAnd = true
is_bitwise binary.BitOr = true
is_bitwise binary.BitXor = true
is_bitwise binary.Shl = true
is_bitwise binary.Sar = true
is_bitwise binary.Shr = true
is_bitwise _ = false

-- it is undefined or NaN
abbrev pub has_no_bits : Value → Bool
has_no_bits value = is_undefined value || is_nan value

-- 10, bits-of-nothing: an operator takes the bits of undefined or of NaN, which it has none of (9.5, 9.6)
abbrev pub bits_of_nothing : Op → Bool
bits_of_nothing (ops.Binary op left right given) =
    is_bitwise op && (has_no_bits left.value || has_no_bits right.value)
bits_of_nothing (ops.Unary unary.Tilde operand given) = has_no_bits operand.value
bits_of_nothing _ = false
