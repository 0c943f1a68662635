-- The objects that a run begins with and that are no functions of their own, by their addresses (clause 15).
use Rattle.std.specs.Prelude.{ℕ}
use Rattle.jl_value.specs.declared.object.ObjId.{ObjId}

abbrev at : ℕ → ObjId
at n = record { 0 = n }

abbrev pub object_prototype : ObjId
object_prototype = at 0

abbrev pub global_object : ObjId
global_object = at 1

abbrev pub function_prototype : ObjId
function_prototype = at 2

abbrev pub array_prototype : ObjId
array_prototype = at 3

abbrev pub string_prototype : ObjId
string_prototype = at 4

abbrev pub number_prototype : ObjId
number_prototype = at 5

abbrev pub boolean_prototype : ObjId
boolean_prototype = at 6

abbrev pub error_prototype : ObjId
error_prototype = at 7

abbrev pub eval_error_prototype : ObjId
eval_error_prototype = at 8

abbrev pub range_error_prototype : ObjId
range_error_prototype = at 9

abbrev pub reference_error_prototype : ObjId
reference_error_prototype = at 10

abbrev pub syntax_error_prototype : ObjId
syntax_error_prototype = at 11

abbrev pub type_error_prototype : ObjId
type_error_prototype = at 12

abbrev pub uri_error_prototype : ObjId
uri_error_prototype = at 13

abbrev pub math : ObjId
math = at 14

abbrev pub console : ObjId
console = at 15

-- how many there are
abbrev pub intrinsic_count : ℕ
intrinsic_count = 16
