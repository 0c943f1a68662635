-- What is left of an array literal or an object literal (11.1.4, 11.1.5).
use Rattle.std.specs.Prelude.{ℕ}
use Rattle.jl_ast.specs.Tree as tree
use Rattle.jl_value.specs.declared.object.ObjId.{ObjId}
use Rattle.jl_value.specs.declared.value.Value.{Value}
use Rattle.jl_value.specs.declared.value.Value.TheVariants as value
use Rattle.jl_meaning.specs.Expressions.{equip, fill}
use Rattle.jl_meaning.specs.FunctionObjects.{FunctionTable}
use Rattle.jl_meaning.specs.Parts.{◌>>=◌, Answer, Context, Part}
use Rattle.jl_meaning.specs.forms.Literals.{end_array, literal_of, of_object}

-- the elements of an array literal that are left, and its length (11.1.4)
abbrev pub array_from : FunctionTable → tree.Forest ℕ tree.item → (array : ObjId) → (index : ℕ) → Context
    → Part (Answer Value)
array_from table l array k c = do
  length ← fill table l array k c
  end_array 0 array length

-- the properties of an object literal that are left (11.1.5)
abbrev pub object_from : FunctionTable → tree.Forest ℕ tree.entry → ObjId → Context → Part (Answer Value)
object_from table l object c = do
  _ ← equip table l object c
  literal_of of_object 0 (value.Obj object)
