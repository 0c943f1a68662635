-- What the definitions of this crate come to.
use Rattle.std.specs.List.{list_all}
use Rattle.std.specs.Prelude.{◌≡◌, ◌↔◌, ℕ, Bool, List, Some, IsTrue, true}
use Rattle.jl_value.specs.declared.value.Value.{Value}
use Rattle.jl_value.specs.Builtins.{builtins, name_of}
use Rattle.jl_value.specs.declared.builtin.Builtin.{Builtin}
use Rattle.jl_value.specs.Same.{same_value}
use Rattle.jl_value.specs.Indices.{index_of, IsIndex}

-- what is the same is equal
abbrev pub SameValuesAreEqual : Type 0
SameValuesAreEqual = (a b : Value) → IsTrue (same_value a b) ↔ (a ≡ b)

-- the index of units is the number that they are the digits of, if it is below 2^32 - 1
abbrev pub IndicesAreDigits : Type 0
IndicesAreDigits = (units : List ℕ) (n : ℕ) → (index_of units ≡ Some n) ↔ IsIndex units n

-- no two numbers below 2^32 - 1 have the same digits
abbrev pub OneIndex : Type 0
OneIndex = (units : List ℕ) (m n : ℕ) → IsIndex units m → IsIndex units n → m ≡ n

-- no two builtins have the same path
abbrev pub OneBuiltin : Type 0
OneBuiltin = (a b : Builtin) → name_of a ≡ name_of b → a ≡ b

-- a test that all builtins of the table pass, each builtin passes
abbrev pub AllAreInTheTable : Type 0
AllAreInTheTable = (test : Builtin → Bool) → list_all test builtins ≡ true → (b : Builtin) → test b ≡ true
