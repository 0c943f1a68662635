-- Functions that are called with arguments of a list (15.3.4.3), and their names and texts (15.3.4.2).
use Rattle.std.specs.Option.{unwrap_or}
use Rattle.std.specs.Prelude.{[], codes, slice_index_or, ◌+◌, ◌++◌, ◌-◌, ◌∷◌, List, None, ℕ}
use Rattle.jl_value.specs.declared.object.ObjId.{ObjId}
use Rattle.jl_value.specs.declared.value.Value.{Value}
use Rattle.jl_heap.specs.Objects.{Name}
use Rattle.jl_meaning.specs.Parts.{call, ◌>>=◌, Algorithm}
use Rattle.jl_meaning.specs.builtins.Elements.{get_index, get_length}
use Rattle.jl_meaning.specs.builtins.Function.{append_element, FunctionNames}
use Rattle.jl_meaning.specs.builtins.Turns.{upward}

-- a function is called with the arguments so far and so many elements of a list from an index on
abbrev pub apply_by : (function : ObjId) → (this : Value) → (list : ObjId) → (count from : ℕ) → List Value
    → Algorithm Value
apply_by f this list count from args = do
  all ← upward (append_element list) count from args
  call f this all

-- the element at an index, which is below the length, is got first
abbrev pub apply_element : (function : ObjId) → (this : Value) → (list : ObjId) → List Value → (at length : ℕ)
    → Algorithm Value
apply_element f this list args at length = do
  v ← get_index list at
  apply_by f this list (length - (at + 1)) (at + 1) (args ++ v ∷ [])

-- a function is called with all elements of a list
abbrev pub apply_list : (function : ObjId) → (this : Value) → (list : ObjId) → Algorithm Value
apply_list f this list = do
  n ← get_length list
  apply_by f this list n 0 []

-- the name of a function of the script by its number
abbrev pub script_name : FunctionNames → ℕ → Name
script_name names number = unwrap_or (slice_index_or names number None) []

abbrev pub function_text : Name → List ℕ
function_text name = codes "function " ++ name ++ codes "() { [code] }"
