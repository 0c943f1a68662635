-- The table of builtins (clause 15): what a call of each builtin does.
use Rattle.jl_value.specs.declared.builtin.Builtin.{Builtin}
use Rattle.jl_value.specs.declared.builtin.Builtin.TheVariants as builtin
use Rattle.jl_value.specs.declared.builtin_groups.ArrayBuiltin.{ArrayBuiltin}
use Rattle.jl_value.specs.declared.builtin_groups.ArrayBuiltin.TheVariants as array_builtin
use Rattle.jl_value.specs.declared.value.Value.{Value}
use Rattle.jl_meaning.specs.Parts.{Algorithm, Call}
use Rattle.jl_meaning.specs.builtins.Arguments.{unsupported}
use Rattle.jl_meaning.specs.builtins.Array.{array_concat, array_constructor, array_index_of, array_is_array}
use Rattle.jl_meaning.specs.builtins.Array.{array_join, array_last_index_of, array_slice, array_to_string}
use Rattle.jl_meaning.specs.builtins.ArrayCallbacks.{array_every, array_filter, array_for_each, array_map}
use Rattle.jl_meaning.specs.builtins.ArrayCallbacks.{array_reduce, array_reduce_right, array_some}
use Rattle.jl_meaning.specs.builtins.ArrayChanges.{array_pop, array_push, array_reverse, array_shift, array_sort}
use Rattle.jl_meaning.specs.builtins.ArrayChanges.{array_splice, array_unshift}
use Rattle.jl_meaning.specs.builtins.Boolean.{boolean_algorithm}
use Rattle.jl_meaning.specs.builtins.Error.{error_algorithm}
use Rattle.jl_meaning.specs.builtins.Function.{function_algorithm, FunctionNames}
use Rattle.jl_meaning.specs.builtins.Global.{global_algorithm}
use Rattle.jl_meaning.specs.builtins.Math.{math_algorithm}
use Rattle.jl_meaning.specs.builtins.Number.{number_algorithm}
use Rattle.jl_meaning.specs.builtins.Object.{object_algorithm}
use Rattle.jl_meaning.specs.builtins.String.{string_algorithm, string_method_algorithm}

-- Array and the functions of its prototype: what a call of each does
abbrev pub array_algorithm : ArrayBuiltin → Call → Algorithm Value
array_algorithm array_builtin.Constructor c = array_constructor c
array_algorithm array_builtin.IsArray c = array_is_array c
array_algorithm array_builtin.ToString c = array_to_string c
array_algorithm array_builtin.ToLocaleString c = unsupported (builtin.Array array_builtin.ToLocaleString) c
array_algorithm array_builtin.Concat c = array_concat c
array_algorithm array_builtin.Join c = array_join c
array_algorithm array_builtin.Pop c = array_pop c
array_algorithm array_builtin.Push c = array_push c
array_algorithm array_builtin.Reverse c = array_reverse c
array_algorithm array_builtin.Shift c = array_shift c
array_algorithm array_builtin.Slice c = array_slice c
array_algorithm array_builtin.Sort c = array_sort c
array_algorithm array_builtin.Splice c = array_splice c
array_algorithm array_builtin.Unshift c = array_unshift c
array_algorithm array_builtin.IndexOf c = array_index_of c
array_algorithm array_builtin.LastIndexOf c = array_last_index_of c
array_algorithm array_builtin.Every c = array_every c
array_algorithm array_builtin.Some c = array_some c
array_algorithm array_builtin.ForEach c = array_for_each c
array_algorithm array_builtin.Map c = array_map c
array_algorithm array_builtin.Filter c = array_filter c
array_algorithm array_builtin.Reduce c = array_reduce c
array_algorithm array_builtin.ReduceRight c = array_reduce_right c

-- what a call of a builtin does, for a script whose functions have these names
unfoldable pub builtin_algorithm : FunctionNames → Builtin → Call → Algorithm Value
builtin_algorithm names (builtin.Object b) c = object_algorithm b c
builtin_algorithm names (builtin.Function b) c = function_algorithm names b c
builtin_algorithm names (builtin.Array b) c = array_algorithm b c
builtin_algorithm names (builtin.String b) c = string_algorithm b c
builtin_algorithm names (builtin.StringMethod m) c = string_method_algorithm m c
builtin_algorithm names (builtin.LeftOutStringMethod m) c = unsupported (builtin.LeftOutStringMethod m) c
builtin_algorithm names (builtin.Global b) c = global_algorithm b c
builtin_algorithm names (builtin.Number b) c = number_algorithm b c
builtin_algorithm names (builtin.Boolean b) c = boolean_algorithm b c
builtin_algorithm names (builtin.Error b) c = error_algorithm b c
builtin_algorithm names (builtin.Math b) c = math_algorithm b c
