-- The fields of a property descriptor, by a word for each (8.10.5, steps 3 to 9).
use Rattle.std.specs.Prelude.{codes, suc, zero, None, Option, Some, ℕ}
use Rattle.jl_value.specs.declared.object.ObjId.{ObjId}
use Rattle.jl_value.specs.declared.value.Value.{Value}
use Rattle.jl_value.specs.declared.value.Value.TheVariants as value
use Rattle.jl_conv.specs.Conversions.{truth_of}
use Rattle.jl_heap.specs.Objects.{Name}
use Rattle.jl_heap.specs.declared.property.Change.{Change}
use Rattle.jl_meaning.specs.Parts.{give, ◌>>=◌, Algorithm}
use Rattle.jl_meaning.specs.builtins.Arguments.{need_function}
use Rattle.jl_meaning.specs.builtins.Descriptors.{of_one_kind}
use Rattle.jl_progress.specs.Objects.{change_from_configurable, change_from_enumerable, change_from_get}
use Rattle.jl_progress.specs.Objects.{change_from_set, change_from_value, change_from_writable, fields_after}
use Rattle.jl_progress.specs.declared.object.DescriptorField.{DescriptorField}
use Rattle.jl_progress.specs.declared.object.DescriptorField.TheVariants as field_of

abbrev pub field_name : DescriptorField → Name
field_name field_of.Enumerable = codes "enumerable"
field_name field_of.Configurable = codes "configurable"
field_name field_of.Value = codes "value"
field_name field_of.Writable = codes "writable"
field_name field_of.Get = codes "get"
field_name field_of.Set = codes "set"

-- the field that is read after one, if any is
abbrev pub next_field : DescriptorField → Option DescriptorField
next_field field_of.Enumerable = Some field_of.Configurable
next_field field_of.Configurable = Some field_of.Value
next_field field_of.Value = Some field_of.Writable
next_field field_of.Writable = Some field_of.Get
next_field field_of.Get = Some field_of.Set
next_field field_of.Set = None

-- how many fields there are from one on
abbrev pub fields_from : Option DescriptorField → ℕ
fields_from None = zero
fields_from (Some which) = suc (fields_after which)

-- a getter or a setter: a function, or undefined (8.10.5, steps 7 and 8)
abbrev pub function_or_undefined : Value → Algorithm (Option ObjId)
function_or_undefined value.Undefined = give None
function_or_undefined v = do
  f ← need_function v
  give (Some f)

-- a change with a field that is there
abbrev pub with_field : DescriptorField → Value → Change → Algorithm Change
with_field field_of.Enumerable v change = give (record change { enumerable = Some (truth_of v) })
with_field field_of.Configurable v change = give (record change { configurable = Some (truth_of v) })
with_field field_of.Value v change = give (record change { value = Some v })
with_field field_of.Writable v change = give (record change { writable = Some (truth_of v) })
with_field field_of.Get v change = do
  getter ← function_or_undefined v
  give (record change { get = Some getter })
with_field field_of.Set v change = do
  setter ← function_or_undefined v
  give (record change { set = Some setter })

-- a change without one
abbrev pub without_field : DescriptorField → Change → Change
without_field field_of.Enumerable change = record change { enumerable = None }
without_field field_of.Configurable change = record change { configurable = None }
without_field field_of.Value change = record change { value = None }
without_field field_of.Writable change = record change { writable = None }
without_field field_of.Get change = record change { get = None }
without_field field_of.Set change = record change { set = None }

-- the fields from one on
abbrev pub change_from : Option DescriptorField → (descriptor : ObjId) → Change → Algorithm Change
change_from None descriptor change = of_one_kind change
change_from (Some field_of.Enumerable) descriptor change = change_from_enumerable descriptor change
change_from (Some field_of.Configurable) descriptor change = change_from_configurable descriptor change
change_from (Some field_of.Value) descriptor change = change_from_value descriptor change
change_from (Some field_of.Writable) descriptor change = change_from_writable descriptor change
change_from (Some field_of.Get) descriptor change = change_from_get descriptor change
change_from (Some field_of.Set) descriptor change = change_from_set descriptor change
