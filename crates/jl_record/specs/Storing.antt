-- Which operations can be stored: a value that is seen has its class.
use Rattle.std.specs.Prelude.{◌≡◌, List, [], ◌∷◌, ◌++◌}
use Rattle.std.specs.List.{AllByRecursion}
use Rattle.jl_op.specs.Kinds.{kind_of}
use Rattle.jl_op.specs.declared.op.Op.{Op}
use Rattle.jl_record.specs.Facts.{Sort, a_value, some_values, Fact, Facts}
use Rattle.jl_record.specs.Operations.{IsStorable, facts_of, sorts_of}
use Rattle.jl_value.specs.declared.object.Class.{Class}
use Rattle.jl_value.specs.declared.object.Class.TheVariants as classes
use Rattle.jl_value.specs.declared.value.Seen.{Seen}
use Rattle.jl_value.specs.declared.value.Value.{Value}
use Rattle.jl_value.specs.declared.value.Value.TheVariants as values

-- an object may have any class, and any other value has Primitive
abbrev pub IsClassOf : Value → Class → Type 0
IsClassOf (values.Obj place) class = Unit {0}
IsClassOf _ class = class ≡ classes.Primitive

abbrev pub HasItsClass : Seen → Type 0
HasItsClass seen = IsClassOf seen.value seen.class

-- the values in a fact
abbrev pub values_in : (sort : Sort) → Fact sort → List Seen
values_in a_value seen = seen ∷ []
values_in some_values seen = seen
values_in _ fact = []

-- and in facts in a row
abbrev pub values_among : (sorts : List Sort) → Facts sorts → List Seen
values_among [] facts = []
values_among (sort ∷ sorts) facts = values_in sort facts.0 ++ values_among sorts facts.1

-- each value that was seen has its class
abbrev pub HasClasses : Op → Type 0
HasClasses op = AllByRecursion HasItsClass (values_among (sorts_of (kind_of op)) (facts_of op))

-- then it can be stored
abbrev pub CanBeStored : Op → Type 0
CanBeStored op = HasClasses op → IsStorable op
