-- How values are told of, in the lines of a trace and of an uncaught throw.
use Rattle.std.specs.Prelude.{ℕ, true, false, List, ◌++◌, codes}
use Rattle.jl_num.specs.Digits.{number_text}
use Rattle.jl_text.specs.Quoted.{quote}
use Rattle.jl_value.specs.declared.object.Class.{Class}
use Rattle.jl_value.specs.declared.object.Class.TheVariants as classes
use Rattle.jl_value.specs.declared.value.Value.{Value}
use Rattle.jl_value.specs.declared.value.Value.TheVariants as values

abbrev pub class_name : Class → List ℕ
class_name classes.Primitive = codes "Primitive"
class_name classes.Object = codes "Object"
class_name classes.Function = codes "Function"
class_name classes.Array = codes "Array"
class_name classes.String = codes "String"
class_name classes.Number = codes "Number"
class_name classes.Boolean = codes "Boolean"
class_name classes.Error = codes "Error"
class_name classes.Arguments = codes "Arguments"
class_name classes.Math = codes "Math"

-- a number by its digits, a text between quotes, and an object by its class, which is given
abbrev pub value_text : Value → Class → List ℕ
value_text values.Undefined class = codes "undefined"
value_text values.Null class = codes "null"
value_text (values.Bool true) class = codes "true"
value_text (values.Bool false) class = codes "false"
value_text (values.Num number) class = number_text number 10
value_text (values.Text units) class = quote units
value_text (values.Obj place) class = codes "[" ++ class_name class ++ codes "]"
