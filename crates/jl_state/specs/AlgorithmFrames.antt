-- What an algorithm of the standard does that waits for a value, with the value.
use Rattle.std.specs.Prelude.{[], codes, drop, false, if◌then◌else◌, pos, true, ◌++◌, ◌∷◌, Bool}
use Rattle.std.specs.Prelude.{List, None, Option, Some, ℕ}
use Rattle.jl_num.specs.Arithmetic.{difference_of, negative_of, product_of, quotient_of, remainder_of}
use Rattle.jl_num.specs.Bits.{and_of, complement_of, left_shift_of, or_of, right_shift_of, uint32_of}
use Rattle.jl_num.specs.Bits.{unsigned_right_shift_of}
use Rattle.jl_num.specs.Bits.{xor_of}
use Rattle.jl_num.specs.Number.{Number}
use Rattle.jl_ast.specs.declared.ops.BinOp.{BinOp}
use Rattle.jl_ast.specs.declared.ops.BinOp.TheVariants as binary
use Rattle.jl_value.specs.Tests.{is_object}
use Rattle.jl_value.specs.declared.object.ObjId.{ObjId}
use Rattle.jl_value.specs.declared.value.Value.{Value}
use Rattle.jl_value.specs.declared.value.Value.TheVariants as value
use Rattle.jl_conv.specs.Comparisons.{less_than}
use Rattle.jl_conv.specs.Conversions.{number_of_value, text_of_value, type_text}
use Rattle.jl_heap.specs.Define.{length_name}
use Rattle.jl_heap.specs.Objects.{Name}
use Rattle.jl_heap.specs.declared.property.Change.{Change}
use Rattle.jl_op.specs.declared.sign.UnKind.{UnKind}
use Rattle.jl_op.specs.declared.sign.UnKind.TheVariants as unary
use Rattle.jl_meaning.specs.Conversions.{or_else, primitive_found, primitive_of_method, to_number, to_primitive}
use Rattle.jl_meaning.specs.Conversions.{try_method}
use Rattle.jl_meaning.specs.Conversions.{no_hint, number_hint}
use Rattle.jl_meaning.specs.Defining.{define_with_number, length_within}
use Rattle.jl_meaning.specs.Errors.{require}
use Rattle.jl_meaning.specs.Getting.{get, is_callable}
use Rattle.jl_meaning.specs.Operators.{give_next, give_number, sum_of_primitives}
use Rattle.jl_meaning.specs.Parts.{give, look, or_fault}
use Rattle.jl_meaning.specs.Parts.{◌>>=◌, Algorithm, NumberOutside}
use Rattle.jl_meaning.specs.Properties.{has_property}
use Rattle.jl_meaning.specs.Relations.{give_truth, has_prototype, negate_if, opposite, or_false, primitive_equality}
pub use Rattle.jl_progress.specs.Primitives.{number_of_primitive}
use Rattle.jl_progress.specs.Progress.{progress_after}
use Rattle.jl_state.specs.declared.algorithm_frame.AlgorithmFrame.{AlgorithmFrame}
use Rattle.jl_state.specs.declared.algorithm_frame.AlgorithmFrame.TheVariants as algorithm
use Rattle.jl_state.specs.declared.algorithm_frame.Attributes.{Attributes}
use Rattle.jl_state.specs.declared.algorithm_frame.Hint.{Hint}
use Rattle.jl_state.specs.declared.algorithm_frame.Hint.TheVariants as hint
use Rattle.jl_state.specs.declared.algorithm_frame.AfterDefine.{AfterDefine}
use Rattle.jl_state.specs.declared.algorithm_frame.AfterDefine.TheVariants as written_by

-- the method that a conversion tries first or second (8.12.8)
abbrev pub method_name : Hint → (is_second : Bool) → Name
method_name hint.Text false = codes "toString"
method_name hint.Text true = codes "valueOf"
method_name _ false = codes "valueOf"
method_name _ true = codes "toString"

-- what is tried after a method
abbrev pub after_method : ObjId → Hint → (is_second : Bool) → Option Value → Algorithm Value
after_method object h false tried = do
  found ← or_else (try_method (value.Obj object) (method_name h true)) tried
  primitive_found found
after_method object h true tried = primitive_found tried

-- what an operator makes of two numbers (11.5, 11.6.2, 11.7, 11.10)
abbrev pub number_result : BinOp → Number → Number → Option Number
number_result binary.Mul x y = product_of x y
number_result binary.Div x y = quotient_of x y
number_result binary.Rem x y = Some (remainder_of x y)
number_result binary.Sub x y = difference_of x y
number_result binary.Shl x y = Some (left_shift_of x y)
number_result binary.Sar x y = Some (right_shift_of x y)
number_result binary.Shr x y = Some (unsigned_right_shift_of x y)
number_result binary.BitAnd x y = Some (and_of x y)
number_result binary.BitXor x y = Some (xor_of x y)
number_result binary.BitOr x y = Some (or_of x y)
number_result _ x y = None

-- what a relation makes of two primitive values (11.8.1 to 11.8.5)
abbrev pub compare : BinOp → Value → Value → Algorithm Value
compare binary.Greater x y = do
  r ← or_fault NumberOutside (less_than y x)
  give_truth (or_false r)
compare binary.LessEq x y = do
  r ← or_fault NumberOutside (less_than y x)
  give_truth (opposite r)
compare binary.GreaterEq x y = do
  r ← or_fault NumberOutside (less_than x y)
  give_truth (opposite r)
compare _ x y = do
  r ← or_fault NumberOutside (less_than x y)
  give_truth (or_false r)

-- what an operator makes of a number (11.3, 11.4)
abbrev pub number_operand : UnKind → Number → Algorithm Value
number_operand unary.Minus n = give_number (Some (negative_of n))
number_operand unary.Tilde n = give_number (Some (complement_of n))
number_operand unary.Up n = give_next unary.Up n
number_operand unary.Down n = give_next unary.Down n
number_operand _ n = give_number (Some n)

-- what follows when a property has been defined, or that was rejected
abbrev pub after_define : AfterDefine → Bool → Algorithm Value
after_define (written_by.Put throwing given) done = do
  _ ← require (if throwing then done else true) (codes "cannot write")
  give given
after_define (written_by.Builtin given) done = do
  _ ← require done (codes "cannot define")
  give given
after_define written_by.Literal done = give value.Undefined

-- a data property is asked for with this value
abbrev pub data_change : Attributes → Value → Change
data_change a v = record {
  value = Some v;
  writable = a.writable;
  get = None;
  set = None;
  enumerable = a.enumerable;
  configurable = a.configurable;
}

-- the length of an array is defined, of which both conversions are done
abbrev pub define_length : ObjId → (count : ℕ) → Attributes → AfterDefine → Number → Algorithm Value
define_length array count attributes purpose n = do
  length ← length_within (Some (pos count)) n
  done ← define_with_number array length_name (data_change attributes length)
  after_define purpose done

-- what an algorithm does that waits for a value
abbrev pub algorithm_after : AlgorithmFrame → Value → Algorithm Value
algorithm_after (algorithm.Method object h is_second) method = do
  store ← look
  tried ← primitive_of_method (value.Obj object) method (is_callable store.heap method)
  after_method object h is_second tried
algorithm_after (algorithm.MethodResult object h is_second) v =
    after_method object h is_second (if is_object v then None else Some v)
algorithm_after (algorithm.LeftNumber o right) p = do
  x ← number_of_primitive p
  y ← to_number right
  give_number (number_result o x y)
algorithm_after (algorithm.RightNumber o left) p = do
  y ← number_of_primitive p
  give_number (number_result o left y)
algorithm_after (algorithm.LeftSummand right) x = do
  y ← to_primitive no_hint right
  sum_of_primitives x y
algorithm_after (algorithm.RightSummand left) y = sum_of_primitives left y
algorithm_after (algorithm.LeftCompared o right) x = do
  y ← to_primitive number_hint right
  compare o x y
algorithm_after (algorithm.RightCompared o left) y = compare o left y
algorithm_after (algorithm.EqualTo other is_negative) p = negate_if is_negative (primitive_equality p other)
algorithm_after (algorithm.InstanceOf v) proto = do
  store ← look
  has_prototype store.heap v proto
algorithm_after (algorithm.In object) p = do
  store ← look
  give_truth (has_property store object.0 (text_of_value p))
algorithm_after (algorithm.NumberOperand o) p = do
  n ← number_of_primitive p
  number_operand o n
algorithm_after (algorithm.LengthCount array length attributes purpose) p = do
  first ← number_of_primitive p
  n ← to_number length
  define_length array (uint32_of first) attributes purpose n
algorithm_after (algorithm.LengthNumber array count attributes purpose) p = do
  n ← number_of_primitive p
  define_length array count attributes purpose n
algorithm_after algorithm.TypeOf v = do
  store ← look
  give (value.Text (type_text v (is_callable store.heap v)))
algorithm_after (algorithm.Then v) _ = give v
algorithm_after (algorithm.Builtin p) v = progress_after p v
