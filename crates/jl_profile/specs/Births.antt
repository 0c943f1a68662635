-- Where a run makes objects, and which of them it never uses.
use Rattle.std.specs.Prelude.{ℕ, zero, suc, Bool, true, false, not, ◌&&◌, ◌||◌, ◌==◌, List, [], ◌∷◌, ◌++◌}
use Rattle.std.specs.Prelude.{Option, None, Some, map, fold, codes, count_by, sum_by, slice_get, option_map}
use Rattle.std.specs.Prelude.{if◌then◌else◌}
use Rattle.std.specs.BTreeSet.{insert_key}
use Rattle.std.specs.Fmt.{decimal}
use Rattle.std.specs.List.{list_any, flat_map}
use Rattle.std.specs.Ordering.{nat_cmp, ordering_then, is_eq}
use Rattle.std.specs.declared.cmp.Ordering.{Ordering}
use Rattle.jl_text.specs.Places.{LineTable, line_col}
use Rattle.jl_value.specs.declared.value.Value.{Value}
use Rattle.jl_value.specs.declared.value.Value.TheVariants as values
use Rattle.jl_op.specs.declared.kind.OpKind.{OpKind}
use Rattle.jl_op.specs.declared.kind.OpKind.TheVariants as kinds
use Rattle.jl_op.specs.declared.op.Op.{Op}
use Rattle.jl_op.specs.declared.op.Op.TheVariants as ops
use Rattle.jl_op.specs.Map.{MapRow}
use Rattle.jl_op.specs.Operations.{Operation}
use Rattle.jl_profile.specs.declared.births.Births.{Births}
use Rattle.jl_profile.specs.declared.births.Way.{Way}
use Rattle.jl_profile.specs.declared.births.Way.TheVariants as ways
use Rattle.jl_profile.specs.declared.profile.Birth.{Birth}

-- the object that a value is, by its number
abbrev pub object_of : Value → Option ℕ
object_of (values.Obj id) = Some id.0
object_of _ = None

-- the object that an operation uses: it is the base of a property, is called, or is the object of a `for-in`
abbrev pub used_by : Op → Option ℕ
used_by (ops.GetField base name value found) = object_of base.value
used_by (ops.PutField base name value found) = object_of base.value
used_by (ops.DeleteField base name deleted) = object_of base.value
used_by (ops.InvokePre callee target this args by_new) = Some callee.0
used_by (ops.ForIn object) = object_of object.value
used_by _ = None

abbrev pub is_the : (object : ℕ) → Option ℕ → Bool
is_the object None = false
is_the object (Some other) = object == other

abbrev pub uses : (object : ℕ) → Operation → Bool
uses object o = is_the object (used_by o.1)

-- the operation begins a call by `new`
abbrev pub begins_new : Op → Bool
begins_new (ops.InvokePre callee target this args by_new) = by_new
begins_new _ = false

-- a call by `new` began with this id
abbrev pub new_began : List Operation → (id : ℕ) → Bool
new_began before id = list_any (λ o. begins_new o.1 && id == o.0.0) before

-- the end of a call has the id after that of its beginning; so this is the end of a call by `new`
abbrev pub new_ends : List Operation → (id : ℕ) → Bool
new_ends before zero = false
new_ends before (suc id) = new_began before id

-- a way in which an object is made, and the object
abbrev pub Made : Type 0
Made = Way × ℕ

abbrev pub made_in : Way → Option ℕ → Option Made
made_in way object = option_map (λ it. (way, it)) object

abbrev pub new_gave : (by_new : Bool) → Value → Option Made
new_gave true value = made_in ways.New (object_of value)
new_gave false value = None

-- the object that an operation makes, where `by_new` says whether it ends a call by `new`
abbrev pub made_by : (by_new : Bool) → Op → Option Made
made_by by_new (ops.ArrayLiteral obj) = Some (ways.Array, obj.0)
made_by by_new (ops.ObjectLiteral obj) = Some (ways.Object, obj.0)
made_by by_new (ops.FunctionLiteral obj function) = Some (ways.Function, obj.0)
made_by by_new (ops.InvokePost callee given) = new_gave by_new given.value
made_by by_new _ = None

-- the object that an operation makes after these
abbrev pub made_after : (before : List Operation) → Operation → Option Made
made_after before o = made_by (new_ends before o.0.0) o.1

abbrev pub makes : (before : List Operation) → (object : ℕ) → Operation → Bool
makes before object o = is_the object (option_map (λ it. it.1) (made_after before o))

-- one of these operations, which come after those before, makes the object
abbrev pub is_made_after : (before observed : List Operation) → (object : ℕ) → Bool
is_made_after before [] object = false
is_made_after before (o ∷ observed) object = makes before object o || is_made_after (before ++ o ∷ []) observed object

-- an object is born at the first operation that makes it; so it has been born here
abbrev pub is_born : List Operation → (object : ℕ) → Bool
is_born observed object = is_made_after [] observed object

-- an object, and its birth
abbrev pub Born : Type 0
Born = ℕ × Birth

abbrev pub born_of : Option Made → (before : List Operation) → Operation → List Born
born_of None before o = []
born_of (Some made) before o =
    if is_born before made.1 then [] else (made.1, record { id = o.0; way = made.0 }) ∷ []

-- the birth at an operation, if an object is born there
abbrev pub born_at : (before : List Operation) → Operation → List Born
born_at before o = born_of (made_after before o) before o

abbrev pub births_after : (before observed : List Operation) → List Born
births_after before [] = []
births_after before (o ∷ observed) = born_at before o ++ births_after (before ++ o ∷ []) observed

-- all births, in their order
abbrev pub births_among : List Operation → List Born
births_among observed = births_after [] observed

-- a later operation than the one at which the object is born uses it, where these come after those before
abbrev pub used_after : (before observed : List Operation) → (object : ℕ) → Bool
used_after before [] object = false
used_after before (o ∷ observed) object =
    if makes before object o then list_any (uses object) observed else used_after (before ++ o ∷ []) observed object

abbrev pub is_used : List Operation → (object : ℕ) → Bool
is_used observed object = used_after [] observed object

-- a line, a column and a way, by which births are counted
abbrev pub Key : Type 0
Key = ℕ × ℕ × Way

abbrev pub way_number : Way → ℕ
way_number ways.Array = 0
way_number ways.Object = 1
way_number ways.Function = 2
way_number ways.New = 3

abbrev pub by_place : Key → Key → Ordering
by_place a b =
    ordering_then (ordering_then (nat_cmp a.0 b.0) (nat_cmp a.1 b.1)) (nat_cmp (way_number a.2) (way_number b.2))

-- the row of an id, of which the first is 1
abbrev pub row_at : List MapRow → (id : ℕ) → Option MapRow
row_at rows zero = None
row_at rows (suc before) = slice_get rows before

-- a birth with its key, where the id has a place in the source
abbrev pub keyed : LineTable → Option MapRow → Born → List (Key × ℕ)
keyed lines None born = []
keyed lines (Some row) born =
    let place = line_col lines row.1.from in ((place.0, place.1, born.1.way), born.0) ∷ []

abbrev pub keyed_births : LineTable → List MapRow → List Born → List (Key × ℕ)
keyed_births lines rows births = flat_map (λ born. keyed lines (row_at rows born.1.id.0) born) births

-- the keys of births, each once, in order
abbrev pub sorted_keys : List (Key × ℕ) → List Key
sorted_keys births = fold (insert_key by_place) [] (map (λ b. b.0) births)

abbrev pub has_key : Key → Key × ℕ → Bool
has_key key birth = is_eq (by_place birth.0 key)

-- how many births have the key
abbrev pub made_count : List (Key × ℕ) → Key → ℕ
made_count births key = count_by (has_key key) births

-- and how many of them are of objects that are never used
abbrev pub unused_count : (used : ℕ → Bool) → List (Key × ℕ) → Key → ℕ
unused_count used births key = count_by (λ b. has_key key b && not (used b.1)) births

abbrev pub row_of : (used : ℕ → Bool) → List (Key × ℕ) → Key → Births
row_of used births key = record {
  line = key.0;
  column = key.1;
  way = key.2;
  made = made_count births key;
  unused = unused_count used births key;
}

-- a row for each line, column and way with a birth
abbrev pub rows_of : (used : ℕ → Bool) → List (Key × ℕ) → List Births
rows_of used births = map (row_of used births) (sorted_keys births)

-- the rows of these operations
abbrev pub births_in : LineTable → List MapRow → List Operation → List Births
births_in lines rows observed = rows_of (is_used observed) (keyed_births lines rows (births_among observed))

-- the sums of rows
abbrev pub all_made : List Births → ℕ
all_made births = sum_by (λ b. b.made) births

abbrev pub all_unused : List Births → ℕ
all_unused births = sum_by (λ b. b.unused) births

abbrev pub way_text : Way → List ℕ
way_text ways.Array = codes "array"
way_text ways.Object = codes "object"
way_text ways.Function = codes "function"
way_text ways.New = codes "new"

-- `LINE:COLUMN WAY made=N unused=N`
abbrev pub births_bytes : Births → List ℕ
births_bytes b =
    decimal b.line ++ (codes ":" ++ (decimal b.column ++ (codes " " ++ (way_text b.way
    ++ (codes " made=" ++ (decimal b.made ++ (codes " unused=" ++ decimal b.unused)))))))

-- the kinds of operations that are looked at
abbrev pub is_profiled : OpKind → Bool
is_profiled kinds.ArrayLiteral = true
is_profiled kinds.ObjectLiteral = true
is_profiled kinds.FunctionLiteral = true
is_profiled kinds.GetField = true
is_profiled kinds.PutField = true
is_profiled kinds.DeleteField = true
is_profiled kinds.InvokePre = true
is_profiled kinds.InvokePost = true
is_profiled kinds.ForIn = true
is_profiled _ = false
