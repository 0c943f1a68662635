-- The table of builtins: the functions that a script finds when it begins (clause 15), each with its path, its length
-- and the object of which it is a property. What a call of each does is in the definitions of scripts.
use Rattle.std.specs.Prelude.{ℕ, List, Option, None, Some, codes}
use Rattle.jl_value.specs.Intrinsics.{array_prototype, boolean_prototype, console, error_prototype}
use Rattle.jl_value.specs.Intrinsics.{eval_error_prototype}
use Rattle.jl_value.specs.Intrinsics.{function_prototype, global_object, math, number_prototype, object_prototype}
use Rattle.jl_value.specs.Intrinsics.{range_error_prototype, reference_error_prototype, string_prototype}
use Rattle.jl_value.specs.Intrinsics.{syntax_error_prototype, type_error_prototype, uri_error_prototype}
use Rattle.jl_value.specs.declared.builtin.Builtin.{Builtin}
use Rattle.jl_value.specs.declared.builtin.Builtin.TheVariants as builtin
use Rattle.jl_value.specs.declared.builtin.Holder.{Holder}
use Rattle.jl_value.specs.declared.builtin.Holder.TheVariants as holders
use Rattle.jl_value.specs.declared.builtin_table.TheConstants.{BUILTINS}
use Rattle.jl_value.specs.declared.object.ObjId.{ObjId}
use Rattle.jl_value.specs.declared.builtin_groups.ArrayBuiltin.{ArrayBuiltin}
use Rattle.jl_value.specs.declared.builtin_groups.ArrayBuiltin.TheVariants as array_builtin
use Rattle.jl_value.specs.declared.builtin_groups.BooleanBuiltin.{BooleanBuiltin}
use Rattle.jl_value.specs.declared.builtin_groups.BooleanBuiltin.TheVariants as boolean_builtin
use Rattle.jl_value.specs.declared.builtin_groups.ErrorBuiltin.{ErrorBuiltin}
use Rattle.jl_value.specs.declared.builtin_groups.ErrorBuiltin.TheVariants as error_builtin
use Rattle.jl_value.specs.declared.builtin_groups.FunctionBuiltin.{FunctionBuiltin}
use Rattle.jl_value.specs.declared.builtin_groups.FunctionBuiltin.TheVariants as function_builtin
use Rattle.jl_value.specs.declared.builtin_groups.GlobalBuiltin.{GlobalBuiltin}
use Rattle.jl_value.specs.declared.builtin_groups.GlobalBuiltin.TheVariants as global_builtin
use Rattle.jl_value.specs.declared.builtin_groups.LeftOutStringMethod.{LeftOutStringMethod}
use Rattle.jl_value.specs.declared.builtin_groups.LeftOutStringMethod.TheVariants as left_out_string_method
use Rattle.jl_value.specs.declared.builtin_groups.MathBuiltin.{MathBuiltin}
use Rattle.jl_value.specs.declared.builtin_groups.MathBuiltin.TheVariants as math_builtin
use Rattle.jl_value.specs.declared.builtin_groups.NumberBuiltin.{NumberBuiltin}
use Rattle.jl_value.specs.declared.builtin_groups.NumberBuiltin.TheVariants as number_builtin
use Rattle.jl_value.specs.declared.builtin_groups.ObjectBuiltin.{ObjectBuiltin}
use Rattle.jl_value.specs.declared.builtin_groups.ObjectBuiltin.TheVariants as object_builtin
use Rattle.jl_value.specs.declared.builtin_groups.StringBuiltin.{StringBuiltin}
use Rattle.jl_value.specs.declared.builtin_groups.StringBuiltin.TheVariants as string_builtin
use Rattle.jl_value.specs.declared.builtin_groups.StringMethod.{StringMethod}
use Rattle.jl_value.specs.declared.builtin_groups.StringMethod.TheVariants as string_method

-- what a script finds of a builtin before it calls it: the path by which traces, records and faults name it, how many
-- arguments its section names, the object that has it as a property by the last part of its path, and the prototype of
-- what it constructs
pub record Entry : Type 0 where
  pub path : List ℕ
  pub length : ℕ
  pub holder : Holder
  pub prototype : Option ObjId

abbrev pub method : (path : List ℕ) → (length : ℕ) → Holder → Entry
method path length holder = record { path = path; length = length; holder = holder; prototype = None }

-- a constructor is a property of the global object
abbrev pub constructor : (path : List ℕ) → (length : ℕ) → (prototype : ObjId) → Entry
constructor path length prototype =
    record { path = path; length = length; holder = holders.Object global_object; prototype = Some prototype }

-- the constructors that have functions as properties
abbrev on_object : Holder
on_object = holders.Builtin (builtin.Object object_builtin.Constructor)

abbrev on_array : Holder
on_array = holders.Builtin (builtin.Array array_builtin.Constructor)

abbrev on_string : Holder
on_string = holders.Builtin (builtin.String string_builtin.Constructor)

-- a function that is no property by the last part of its path
abbrev pub unheld : (path : List ℕ) → (length : ℕ) → Entry
unheld path length = record { path = path; length = length; holder = holders.Nothing; prototype = None }

-- Object and its prototype (15.2)
abbrev pub object_entry : ObjectBuiltin → Entry
object_entry object_builtin.Constructor = constructor (codes "Object") 1 object_prototype
object_entry object_builtin.GetPrototypeOf = method (codes "Object.getPrototypeOf") 1 on_object
object_entry object_builtin.GetOwnPropertyDescriptor = method (codes "Object.getOwnPropertyDescriptor") 2 on_object
object_entry object_builtin.GetOwnPropertyNames = method (codes "Object.getOwnPropertyNames") 1 on_object
object_entry object_builtin.Create = method (codes "Object.create") 2 on_object
object_entry object_builtin.DefineProperty = method (codes "Object.defineProperty") 3 on_object
object_entry object_builtin.DefineProperties = method (codes "Object.defineProperties") 2 on_object
object_entry object_builtin.Seal = method (codes "Object.seal") 1 on_object
object_entry object_builtin.Freeze = method (codes "Object.freeze") 1 on_object
object_entry object_builtin.PreventExtensions = method (codes "Object.preventExtensions") 1 on_object
object_entry object_builtin.IsSealed = method (codes "Object.isSealed") 1 on_object
object_entry object_builtin.IsFrozen = method (codes "Object.isFrozen") 1 on_object
object_entry object_builtin.IsExtensible = method (codes "Object.isExtensible") 1 on_object
object_entry object_builtin.Keys = method (codes "Object.keys") 1 on_object
object_entry object_builtin.ToString = method (codes "Object.prototype.toString") 0 (holders.Object object_prototype)
object_entry object_builtin.ToLocaleString =
    method (codes "Object.prototype.toLocaleString") 0 (holders.Object object_prototype)
object_entry object_builtin.ValueOf = method (codes "Object.prototype.valueOf") 0 (holders.Object object_prototype)
object_entry object_builtin.HasOwnProperty =
    method (codes "Object.prototype.hasOwnProperty") 1 (holders.Object object_prototype)
object_entry object_builtin.IsPrototypeOf =
    method (codes "Object.prototype.isPrototypeOf") 1 (holders.Object object_prototype)
object_entry object_builtin.PropertyIsEnumerable =
    method (codes "Object.prototype.propertyIsEnumerable") 1 (holders.Object object_prototype)

-- Function and its prototype (15.3), any function that `bind` made (15.3.4.5), and the function that throws a
-- TypeError (13.2.3)
abbrev pub function_entry : FunctionBuiltin → Entry
function_entry function_builtin.Constructor = constructor (codes "Function") 1 function_prototype
function_entry function_builtin.Prototype = unheld (codes "Function.prototype") 0
function_entry function_builtin.ToString =
    method (codes "Function.prototype.toString") 0 (holders.Object function_prototype)
function_entry function_builtin.Apply = method (codes "Function.prototype.apply") 2 (holders.Object function_prototype)
function_entry function_builtin.Call = method (codes "Function.prototype.call") 1 (holders.Object function_prototype)
function_entry function_builtin.Bind = method (codes "Function.prototype.bind") 1 (holders.Object function_prototype)
function_entry function_builtin.Bound = unheld (codes "bound") 0
function_entry function_builtin.Thrower = unheld (codes "thrower") 0

-- Array and its prototype (15.4)
abbrev pub array_entry : ArrayBuiltin → Entry
array_entry array_builtin.Constructor = constructor (codes "Array") 1 array_prototype
array_entry array_builtin.IsArray = method (codes "Array.isArray") 1 on_array
array_entry array_builtin.ToString = method (codes "Array.prototype.toString") 0 (holders.Object array_prototype)
array_entry array_builtin.ToLocaleString =
    method (codes "Array.prototype.toLocaleString") 0 (holders.Object array_prototype)
array_entry array_builtin.Concat = method (codes "Array.prototype.concat") 1 (holders.Object array_prototype)
array_entry array_builtin.Join = method (codes "Array.prototype.join") 1 (holders.Object array_prototype)
array_entry array_builtin.Pop = method (codes "Array.prototype.pop") 0 (holders.Object array_prototype)
array_entry array_builtin.Push = method (codes "Array.prototype.push") 1 (holders.Object array_prototype)
array_entry array_builtin.Reverse = method (codes "Array.prototype.reverse") 0 (holders.Object array_prototype)
array_entry array_builtin.Shift = method (codes "Array.prototype.shift") 0 (holders.Object array_prototype)
array_entry array_builtin.Slice = method (codes "Array.prototype.slice") 2 (holders.Object array_prototype)
array_entry array_builtin.Sort = method (codes "Array.prototype.sort") 1 (holders.Object array_prototype)
array_entry array_builtin.Splice = method (codes "Array.prototype.splice") 2 (holders.Object array_prototype)
array_entry array_builtin.Unshift = method (codes "Array.prototype.unshift") 1 (holders.Object array_prototype)
array_entry array_builtin.IndexOf = method (codes "Array.prototype.indexOf") 1 (holders.Object array_prototype)
array_entry array_builtin.LastIndexOf = method (codes "Array.prototype.lastIndexOf") 1 (holders.Object array_prototype)
array_entry array_builtin.Every = method (codes "Array.prototype.every") 1 (holders.Object array_prototype)
array_entry array_builtin.Some = method (codes "Array.prototype.some") 1 (holders.Object array_prototype)
array_entry array_builtin.ForEach = method (codes "Array.prototype.forEach") 1 (holders.Object array_prototype)
array_entry array_builtin.Map = method (codes "Array.prototype.map") 1 (holders.Object array_prototype)
array_entry array_builtin.Filter = method (codes "Array.prototype.filter") 1 (holders.Object array_prototype)
array_entry array_builtin.Reduce = method (codes "Array.prototype.reduce") 1 (holders.Object array_prototype)
array_entry array_builtin.ReduceRight = method (codes "Array.prototype.reduceRight") 1 (holders.Object array_prototype)

-- String and its prototype (15.5)
abbrev pub string_entry : StringBuiltin → Entry
string_entry string_builtin.Constructor = constructor (codes "String") 1 string_prototype
string_entry string_builtin.FromCharCode = method (codes "String.fromCharCode") 1 on_string
string_entry string_builtin.ToString = method (codes "String.prototype.toString") 0 (holders.Object string_prototype)
string_entry string_builtin.ValueOf = method (codes "String.prototype.valueOf") 0 (holders.Object string_prototype)

-- the functions of the prototype of String that begin with `this` as a string (15.5.4)
abbrev pub string_method_entry : StringMethod → Entry
string_method_entry string_method.CharAt = method (codes "String.prototype.charAt") 1 (holders.Object string_prototype)
string_method_entry string_method.CharCodeAt =
    method (codes "String.prototype.charCodeAt") 1 (holders.Object string_prototype)
string_method_entry string_method.Concat = method (codes "String.prototype.concat") 1 (holders.Object string_prototype)
string_method_entry string_method.IndexOf =
    method (codes "String.prototype.indexOf") 1 (holders.Object string_prototype)
string_method_entry string_method.LastIndexOf =
    method (codes "String.prototype.lastIndexOf") 1 (holders.Object string_prototype)
string_method_entry string_method.Slice = method (codes "String.prototype.slice") 2 (holders.Object string_prototype)
string_method_entry string_method.Split = method (codes "String.prototype.split") 2 (holders.Object string_prototype)
string_method_entry string_method.Substring =
    method (codes "String.prototype.substring") 2 (holders.Object string_prototype)
string_method_entry string_method.ToLowerCase =
    method (codes "String.prototype.toLowerCase") 0 (holders.Object string_prototype)
string_method_entry string_method.ToUpperCase =
    method (codes "String.prototype.toUpperCase") 0 (holders.Object string_prototype)
string_method_entry string_method.Trim = method (codes "String.prototype.trim") 0 (holders.Object string_prototype)

-- those that are left out
abbrev pub left_out_string_method_entry : LeftOutStringMethod → Entry
left_out_string_method_entry left_out_string_method.ToLocaleLowerCase =
    method (codes "String.prototype.toLocaleLowerCase") 0 (holders.Object string_prototype)
left_out_string_method_entry left_out_string_method.ToLocaleUpperCase =
    method (codes "String.prototype.toLocaleUpperCase") 0 (holders.Object string_prototype)
left_out_string_method_entry left_out_string_method.LocaleCompare =
    method (codes "String.prototype.localeCompare") 1 (holders.Object string_prototype)
left_out_string_method_entry left_out_string_method.Replace =
    method (codes "String.prototype.replace") 2 (holders.Object string_prototype)
left_out_string_method_entry left_out_string_method.Match =
    method (codes "String.prototype.match") 1 (holders.Object string_prototype)
left_out_string_method_entry left_out_string_method.Search =
    method (codes "String.prototype.search") 1 (holders.Object string_prototype)

-- printing, and the functions of the global object (15.1.2)
abbrev pub global_entry : GlobalBuiltin → Entry
global_entry global_builtin.Print = method (codes "print") 0 (holders.Object global_object)
global_entry global_builtin.ConsoleLog = method (codes "console.log") 0 (holders.Object console)
global_entry global_builtin.ParseInt = method (codes "parseInt") 2 (holders.Object global_object)
global_entry global_builtin.IsNaN = method (codes "isNaN") 1 (holders.Object global_object)
global_entry global_builtin.IsFinite = method (codes "isFinite") 1 (holders.Object global_object)

-- Number and its prototype (15.7)
abbrev pub number_entry : NumberBuiltin → Entry
number_entry number_builtin.Constructor = constructor (codes "Number") 1 number_prototype
number_entry number_builtin.ToString = method (codes "Number.prototype.toString") 1 (holders.Object number_prototype)
number_entry number_builtin.ValueOf = method (codes "Number.prototype.valueOf") 0 (holders.Object number_prototype)
number_entry number_builtin.ToFixed = method (codes "Number.prototype.toFixed") 1 (holders.Object number_prototype)
number_entry number_builtin.ToExponential =
    method (codes "Number.prototype.toExponential") 1 (holders.Object number_prototype)
number_entry number_builtin.ToPrecision =
    method (codes "Number.prototype.toPrecision") 1 (holders.Object number_prototype)
number_entry number_builtin.ToLocaleString =
    method (codes "Number.prototype.toLocaleString") 0 (holders.Object number_prototype)

-- Boolean and its prototype (15.6)
abbrev pub boolean_entry : BooleanBuiltin → Entry
boolean_entry boolean_builtin.Constructor = constructor (codes "Boolean") 1 boolean_prototype
boolean_entry boolean_builtin.ToString =
    method (codes "Boolean.prototype.toString") 0 (holders.Object boolean_prototype)
boolean_entry boolean_builtin.ValueOf = method (codes "Boolean.prototype.valueOf") 0 (holders.Object boolean_prototype)

-- Error, the native errors and the prototype of errors (15.11)
abbrev pub error_entry : ErrorBuiltin → Entry
error_entry error_builtin.Error = constructor (codes "Error") 1 error_prototype
error_entry error_builtin.EvalError = constructor (codes "EvalError") 1 eval_error_prototype
error_entry error_builtin.RangeError = constructor (codes "RangeError") 1 range_error_prototype
error_entry error_builtin.ReferenceError = constructor (codes "ReferenceError") 1 reference_error_prototype
error_entry error_builtin.SyntaxError = constructor (codes "SyntaxError") 1 syntax_error_prototype
error_entry error_builtin.TypeError = constructor (codes "TypeError") 1 type_error_prototype
error_entry error_builtin.UriError = constructor (codes "URIError") 1 uri_error_prototype
error_entry error_builtin.ToString = method (codes "Error.prototype.toString") 0 (holders.Object error_prototype)

-- Math (15.8.2)
abbrev pub math_entry : MathBuiltin → Entry
math_entry math_builtin.Abs = method (codes "Math.abs") 1 (holders.Object math)
math_entry math_builtin.Ceil = method (codes "Math.ceil") 1 (holders.Object math)
math_entry math_builtin.Floor = method (codes "Math.floor") 1 (holders.Object math)
math_entry math_builtin.Max = method (codes "Math.max") 2 (holders.Object math)
math_entry math_builtin.Min = method (codes "Math.min") 2 (holders.Object math)
math_entry math_builtin.Pow = method (codes "Math.pow") 2 (holders.Object math)
math_entry math_builtin.Round = method (codes "Math.round") 1 (holders.Object math)

unfoldable pub entry_of : Builtin → Entry
entry_of (builtin.Object b) = object_entry b
entry_of (builtin.Function b) = function_entry b
entry_of (builtin.Array b) = array_entry b
entry_of (builtin.String b) = string_entry b
entry_of (builtin.StringMethod m) = string_method_entry m
entry_of (builtin.LeftOutStringMethod m) = left_out_string_method_entry m
entry_of (builtin.Global b) = global_entry b
entry_of (builtin.Number b) = number_entry b
entry_of (builtin.Boolean b) = boolean_entry b
entry_of (builtin.Error b) = error_entry b
entry_of (builtin.Math b) = math_entry b

abbrev pub name_of : Builtin → List ℕ
name_of b = (entry_of b).path

-- all builtins, in the order of the table
unfoldable pub builtins : List Builtin
builtins = BUILTINS
