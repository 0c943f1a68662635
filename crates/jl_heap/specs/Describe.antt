-- How a value is seen by operations, and the text by which it is told.
use Rattle.std.specs.Prelude.{ℕ, List, [], ◌∷◌, ◌++◌, Option, Some, codes}
use Rattle.jl_text.specs.Quoted.{quoted_after}
use Rattle.jl_value.specs.Texts.{value_text}
use Rattle.jl_value.specs.declared.object.Class.{Class}
use Rattle.jl_value.specs.declared.object.Class.TheVariants as class
use Rattle.jl_value.specs.declared.object.ObjId.{ObjId}
use Rattle.jl_value.specs.declared.value.Seen.{Seen}
use Rattle.jl_value.specs.declared.value.Value.{Value}
use Rattle.jl_value.specs.declared.value.Value.TheVariants as value
use Rattle.jl_heap.specs.Objects.{Objects, object_at, find}
use Rattle.jl_heap.specs.declared.property.Prop.{Prop}
use Rattle.jl_heap.specs.declared.property.Prop.TheVariants.{Plain}

-- the class of the object that a value is
abbrev pub class_of_value : Objects → Value → Class
class_of_value heap (value.Obj id) = (object_at heap id.0).class
class_of_value heap _ = class.Primitive

abbrev pub seen_of : Objects → Value → Seen
seen_of heap v = record { value = v; class = class_of_value heap v }

-- the text that a data property holds, and this one where none was found or it holds no text
abbrev pub text_found : Option (ℕ × Prop) → List ℕ → List ℕ
text_found (Some (_, Plain (value.Text units) _ _ _)) other = units
text_found _ other = other

-- units as they are written between quotes
abbrev pub escape_units : List ℕ → List ℕ
escape_units units = quoted_after 0 units

-- the name of an error, and its message unless that is empty
abbrev pub error_text : List ℕ → List ℕ → List ℕ
error_text name [] = escape_units name
error_text name (u ∷ us) = escape_units name ++ codes ": " ++ escape_units (u ∷ us)

-- an error by its name and its message, and any other object by its class
abbrev pub described_object : Objects → ObjId → Class → List ℕ
described_object heap id class.Error =
    error_text (text_found (find heap id.0 (codes "name")) (codes "Error"))
    (text_found (find heap id.0 (codes "message")) [])
described_object heap id class = value_text (value.Obj id) class

-- a primitive value by its text
abbrev pub description_of : Objects → Value → List ℕ
description_of heap (value.Obj id) = described_object heap id (object_at heap id.0).class
description_of heap v = value_text v class.Primitive
