-- The rows of builtins.
use Rattle.std.proofs.Common.{◌≡◌, ◌∙◌, ◌+◌, ◌≤◌, Bool, List, None, Option, Some, ap, arith, drop, get_or, length, map}
use Rattle.std.proofs.Common.{refl, subst, sym, take, true, zero-add, ℕ}
use Rattle.std.proofs.Math.Dec.{eqb, leb}
use Rattle.std.proofs.Math.ListN.{get_or-map}
use Rattle.std.proofs.lemmas.Bool.{eqb-true, leb-true}
use Rattle.std.proofs.lemmas.List.{get_or-drop, get_or-take}
use Rattle.std.proofs.lemmas.List.Elements.{All-get_or}
use Rattle.std.proofs.lemmas.List.FromFn.{get_or-range_with_len}
use Rattle.std.proofs.lemmas.List.Sums.{AllPass-from_list_all}
use Rattle.std.proofs.lemmas.Option.{get_or_from_slice_get, slice_get_read, slice_get_within}
use Rattle.std.specs.List.{filter_map, list_all, range_with_len}
use Rattle.std.specs.Option.{unwrap_or}
use Rattle.std.specs.Prelude.{◌≢◌, All, position, slice_get}
use Rattle.std.specs.Str.{bytes_eq}
use denote.Enum.Bare.{tag_one, Bare}
use denote.Enum.Declared.{tag_of, variants, Declared}
use denote.Enum.Enum.{tag_below}
use Rattle.jl_value.specs.BuiltinPlaces.{row_of}
use Rattle.jl_value.specs.Builtins.{builtins, entry_of, name_of}
use Rattle.jl_value.specs.contracts.builtin_groups.ArrayBuiltin.{the_type as array_type}
use Rattle.jl_value.specs.contracts.builtin_groups.BooleanBuiltin.{the_type as boolean_type}
use Rattle.jl_value.specs.contracts.builtin_groups.ErrorBuiltin.{the_type as error_type}
use Rattle.jl_value.specs.contracts.builtin_groups.FunctionBuiltin.{the_type as function_type}
use Rattle.jl_value.specs.contracts.builtin_groups.GlobalBuiltin.{the_type as global_type}
use Rattle.jl_value.specs.contracts.builtin_groups.LeftOutStringMethod.{the_type as left_out_string_method_type}
use Rattle.jl_value.specs.contracts.builtin_groups.MathBuiltin.{the_type as math_type}
use Rattle.jl_value.specs.contracts.builtin_groups.NumberBuiltin.{the_type as number_type}
use Rattle.jl_value.specs.contracts.builtin_groups.ObjectBuiltin.{the_type as object_type}
use Rattle.jl_value.specs.contracts.builtin_groups.StringBuiltin.{the_type as string_type}
use Rattle.jl_value.specs.contracts.builtin_groups.StringMethod.{the_type as string_method_type}
use Rattle.jl_value.specs.declared.builtin.Builtin.{Builtin}
use Rattle.jl_value.specs.declared.builtin.Builtin.TheVariants as builtin
use Rattle.jl_value.specs.declared.builtin.TheConstants.{ARRAY, BOOLEAN, ERROR, FUNCTION, GLOBAL}
use Rattle.jl_value.specs.declared.builtin.TheConstants.{LEFT_OUT_STRING_METHOD, MATH, NUMBER, STRING, STRING_METHOD}
use Rattle.jl_value.specs.declared.builtin_groups.ArrayBuiltin.{ArrayBuiltin}
use Rattle.jl_value.specs.declared.builtin_groups.BooleanBuiltin.{BooleanBuiltin}
use Rattle.jl_value.specs.declared.builtin_groups.ErrorBuiltin.{ErrorBuiltin}
use Rattle.jl_value.specs.declared.builtin_groups.FunctionBuiltin.{FunctionBuiltin}
use Rattle.jl_value.specs.declared.builtin_groups.GlobalBuiltin.{GlobalBuiltin}
use Rattle.jl_value.specs.declared.builtin_groups.LeftOutStringMethod.{LeftOutStringMethod}
use Rattle.jl_value.specs.declared.builtin_groups.MathBuiltin.{MathBuiltin}
use Rattle.jl_value.specs.declared.builtin_groups.NumberBuiltin.{NumberBuiltin}
use Rattle.jl_value.specs.declared.builtin_groups.ObjectBuiltin.{ObjectBuiltin}
use Rattle.jl_value.specs.declared.builtin_groups.StringBuiltin.{StringBuiltin}
use Rattle.jl_value.specs.declared.builtin_groups.StringMethod.{StringMethod}

-- A group of builtins stands in the table from a row on, in the order of its constants.
module _ (T : Declared) (bare : Bare T.parts) (inside : T.D → Builtin) (from : ℕ) (group : List T.D) where
  abbrev pub InOrder : Type 0
  InOrder = map (tag_of T) group ≡ range_with_len 0 (length (variants T))

  abbrev pub InTable : Type 0
  InTable = take (length (variants T)) (drop from builtins) ≡ map inside group

  in_group : InOrder → (x : T.D) → get_or group (tag_of T x) x ≡ x
  in_group order x =
      let tag = tag_of T x in
      tag_one T bare (get_or group tag x) x
      (sym (get_or-map (tag_of T) group tag x) ∙ ap (λ l. get_or l tag tag) order
      ∙ get_or-range_with_len 0 (length (variants T)) tag tag (tag_below (variants T) (T.to x)) ∙ zero-add tag)

  pub in_table : leb (from + length (variants T)) (length builtins) ≡ true → InOrder → InTable → (x : T.D)
      → slice_get builtins (from + tag_of T x) ≡ Some (inside x)
  in_table fits order there x =
      let tag = tag_of T x in
      let below = tag_below (variants T) (T.to x) in
      let room = leb-true (from + length (variants T)) (length builtins) fits in
      slice_get_read builtins (length builtins) (from + tag) (inside x) refl (omega (arith, below, room))
      (sym (sym (get_or-drop from builtins tag (inside x))
      ∙ sym (get_or-take (length (variants T)) (drop from builtins) tag (inside x) below)
      ∙ ap (λ l. get_or l tag (inside x)) there ∙ get_or-map inside group tag x ∙ ap inside (in_group order x)))

abbrev object_of : Builtin → Option ObjectBuiltin
object_of (builtin.Object b) = Some b
object_of _ = None

abbrev function_of : Builtin → Option FunctionBuiltin
function_of (builtin.Function b) = Some b
function_of _ = None

abbrev array_of : Builtin → Option ArrayBuiltin
array_of (builtin.Array b) = Some b
array_of _ = None

abbrev string_of : Builtin → Option StringBuiltin
string_of (builtin.String b) = Some b
string_of _ = None

abbrev string_method_of : Builtin → Option StringMethod
string_method_of (builtin.StringMethod b) = Some b
string_method_of _ = None

abbrev left_out_string_method_of : Builtin → Option LeftOutStringMethod
left_out_string_method_of (builtin.LeftOutStringMethod b) = Some b
left_out_string_method_of _ = None

abbrev global_of : Builtin → Option GlobalBuiltin
global_of (builtin.Global b) = Some b
global_of _ = None

abbrev number_of : Builtin → Option NumberBuiltin
number_of (builtin.Number b) = Some b
number_of _ = None

abbrev boolean_of : Builtin → Option BooleanBuiltin
boolean_of (builtin.Boolean b) = Some b
boolean_of _ = None

abbrev error_of : Builtin → Option ErrorBuiltin
error_of (builtin.Error b) = Some b
error_of _ = None

abbrev math_of : Builtin → Option MathBuiltin
math_of (builtin.Math b) = Some b
math_of _ = None

-- the row that the code counts
abbrev counted : Builtin → ℕ
counted (builtin.Object b) = tag_of object_type b
counted (builtin.Function b) = FUNCTION + tag_of function_type b
counted (builtin.Array b) = ARRAY + tag_of array_type b
counted (builtin.String b) = STRING + tag_of string_type b
counted (builtin.StringMethod b) = STRING_METHOD + tag_of string_method_type b
counted (builtin.LeftOutStringMethod b) = LEFT_OUT_STRING_METHOD + tag_of left_out_string_method_type b
counted (builtin.Global b) = GLOBAL + tag_of global_type b
counted (builtin.Number b) = NUMBER + tag_of number_type b
counted (builtin.Boolean b) = BOOLEAN + tag_of boolean_type b
counted (builtin.Error b) = ERROR + tag_of error_type b
counted (builtin.Math b) = MATH + tag_of math_type b

counted_stands : (b : Builtin) → slice_get builtins (counted b) ≡ Some b
unfolding builtins
counted_stands (builtin.Object b) =
    subst (λ row. slice_get builtins row ≡ Some (builtin.Object b)) (zero-add (tag_of object_type b))
    (in_table object_type tt builtin.Object 0 (filter_map object_of builtins) refl refl refl b)
counted_stands (builtin.Function b) =
    in_table function_type tt builtin.Function FUNCTION (filter_map function_of builtins) refl refl refl b
counted_stands (builtin.Array b) =
    in_table array_type tt builtin.Array ARRAY (filter_map array_of builtins) refl refl refl b
counted_stands (builtin.String b) =
    in_table string_type tt builtin.String STRING (filter_map string_of builtins) refl refl refl b
counted_stands (builtin.StringMethod b) =
    in_table string_method_type tt builtin.StringMethod STRING_METHOD (filter_map string_method_of builtins) refl refl
    refl b
counted_stands (builtin.LeftOutStringMethod b) =
    in_table left_out_string_method_type tt builtin.LeftOutStringMethod LEFT_OUT_STRING_METHOD
    (filter_map left_out_string_method_of builtins) refl refl refl b
counted_stands (builtin.Global b) =
    in_table global_type tt builtin.Global GLOBAL (filter_map global_of builtins) refl refl refl b
counted_stands (builtin.Number b) =
    in_table number_type tt builtin.Number NUMBER (filter_map number_of builtins) refl refl refl b
counted_stands (builtin.Boolean b) =
    in_table boolean_type tt builtin.Boolean BOOLEAN (filter_map boolean_of builtins) refl refl refl b
counted_stands (builtin.Error b) =
    in_table error_type tt builtin.Error ERROR (filter_map error_of builtins) refl refl refl b
counted_stands (builtin.Math b) =
    in_table math_type tt builtin.Math MATH (filter_map math_of builtins) refl refl refl b

-- what holds of all in the table holds of each builtin
each : (P : Builtin → Type 0) → All P builtins → (b : Builtin) → P b
each P all b =
    let row = counted b in
    subst P (get_or_from_slice_get builtins row b b (counted_stands b))
    (All-get_or P builtins row b (slice_get_within builtins row b (counted_stands b)) all)

pub all_pass : (test : Builtin → Bool) → list_all test builtins ≡ true → (b : Builtin) → test b ≡ true
all_pass test all = each (λ b. test b ≡ true) (AllPass-from_list_all test builtins all)

counted_alike : list_all (λ b. eqb (counted b) (row_of b)) builtins ≡ true
unfolding builtins row_of entry_of
counted_alike = refl

counted_row : (b : Builtin) → counted b ≡ row_of b
counted_row b =
    eqb-true (counted b) (row_of b) (all_pass (λ c. eqb (counted c) (row_of c)) counted_alike b)

-- each builtin stands in its row
pub stands : (b : Builtin) → slice_get builtins (row_of b) ≡ Some b
stands b = ap (slice_get builtins) (sym (counted_row b)) ∙ counted_stands b

abbrev pub StandsAt : (b : Builtin) (row : ℕ) → Type 0
StandsAt b row = (row ≡ row_of b) × (slice_get builtins row ≡ Some b)

pub object_row : (b : ObjectBuiltin) → StandsAt (builtin.Object b) (tag_of object_type b)
object_row b = (counted_row (builtin.Object b), counted_stands (builtin.Object b))

pub function_row : (b : FunctionBuiltin) → StandsAt (builtin.Function b) (FUNCTION + tag_of function_type b)
function_row b = (counted_row (builtin.Function b), counted_stands (builtin.Function b))

pub array_row : (b : ArrayBuiltin) → StandsAt (builtin.Array b) (ARRAY + tag_of array_type b)
array_row b = (counted_row (builtin.Array b), counted_stands (builtin.Array b))

pub string_row : (b : StringBuiltin) → StandsAt (builtin.String b) (STRING + tag_of string_type b)
string_row b = (counted_row (builtin.String b), counted_stands (builtin.String b))

pub string_method_row : (b : StringMethod)
    → StandsAt (builtin.StringMethod b) (STRING_METHOD + tag_of string_method_type b)
string_method_row b = (counted_row (builtin.StringMethod b), counted_stands (builtin.StringMethod b))

pub left_out_string_method_row : (b : LeftOutStringMethod)
    → StandsAt (builtin.LeftOutStringMethod b) (LEFT_OUT_STRING_METHOD + tag_of left_out_string_method_type b)
left_out_string_method_row b =
    (counted_row (builtin.LeftOutStringMethod b), counted_stands (builtin.LeftOutStringMethod b))

pub global_row : (b : GlobalBuiltin) → StandsAt (builtin.Global b) (GLOBAL + tag_of global_type b)
global_row b = (counted_row (builtin.Global b), counted_stands (builtin.Global b))

pub number_row : (b : NumberBuiltin) → StandsAt (builtin.Number b) (NUMBER + tag_of number_type b)
number_row b = (counted_row (builtin.Number b), counted_stands (builtin.Number b))

pub boolean_row : (b : BooleanBuiltin) → StandsAt (builtin.Boolean b) (BOOLEAN + tag_of boolean_type b)
boolean_row b = (counted_row (builtin.Boolean b), counted_stands (builtin.Boolean b))

pub error_row : (b : ErrorBuiltin) → StandsAt (builtin.Error b) (ERROR + tag_of error_type b)
error_row b = (counted_row (builtin.Error b), counted_stands (builtin.Error b))

pub math_row : (b : MathBuiltin) → StandsAt (builtin.Math b) (MATH + tag_of math_type b)
math_row b = (counted_row (builtin.Math b), counted_stands (builtin.Math b))

pub ruleset rows = (
  object_row,
  function_row,
  array_row,
  string_row,
  string_method_row,
  left_out_string_method_row,
  global_row,
  number_row,
  boolean_row,
  error_row,
  math_row,
)

-- a row depends on the path alone
same_row : (a b : Builtin) → name_of a ≡ name_of b → row_of a ≡ row_of b
unfolding row_of
same_row a b same =
    ap (λ (x : List ℕ). unwrap_or (position (λ (other : Builtin). bytes_eq (name_of other) x) builtins) 0) same

the_same : (a b : Builtin) → Some a ≡ Some b → a ≡ b
the_same a b same = cc

pub one_builtin : (a b : Builtin) → name_of a ≡ name_of b → a ≡ b
one_builtin a b same =
    the_same a b (sym (stands a) ∙ ap (λ n. slice_get builtins n) (same_row a b same) ∙ stands b)

-- where nothing in the table has the path, no builtin has it
pub passed_all : (name : List ℕ) → All (λ b. name_of b ≢ name) builtins → (b : Builtin) → name_of b ≢ name
passed_all name = each (λ b. name_of b ≢ name)
