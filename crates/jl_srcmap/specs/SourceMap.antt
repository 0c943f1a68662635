-- Source maps as JSON (Source Map revision 3, "Proposed Format").
use Rattle.std.specs.Prelude.{◌≡◌, ℕ, ◌&&◌, ◌||◌, ◌==◌, is_some, Bool, true, false, List, [], ◌∷◌, ◌++◌, codes}
use Rattle.std.specs.Prelude.{Option, Some, None}
use Rattle.std.specs.Prelude.{option_and_then, if◌then◌else◌}
use Rattle.std.specs.Str.{IsUtf8}
use Rattle.serde_json.specs.Data.{Data, number, unsigned, string, array, object, Items, no_items, item}
use Rattle.serde_json.specs.Data.{no_members, member}
use Rattle.serde_json.specs.Find.{get, as_array, as_null, as_number, as_str, as_u64}
use Rattle.serde_json.specs.Read.{read}
use Rattle.serde_json.specs.Written.{compact_text}
use Rattle.jl_srcmap.specs.Mappings.{Reads, IsBadAt}
use Rattle.jl_srcmap.specs.declared.refusal.MapRefusal.{MapRefusal}
use Rattle.jl_srcmap.specs.declared.refusal.MapRefusal.TheVariants as refusals
use Rattle.jl_srcmap.specs.declared.segment.Segment.{Segment}

-- the map with this mappings text and one source, the script
abbrev pub source_map : List ℕ → Data
source_map mappings =
    object (member (codes "mappings") (string mappings) (member (codes "names") (array no_items)
    (member (codes "sources") (array (item (string (codes "script.js")) no_items))
    (member (codes "version") (number (unsigned 3)) no_members))))

-- its text, one line
abbrev pub source_map_text : List ℕ → List ℕ
source_map_text mappings = compact_text (source_map mappings) ++ 10 ∷ []

-- the whole number 3
abbrev pub is_three : Option ℕ → Bool
is_three None = false
is_three (Some n) = n == 3

abbrev pub is_text : Data → Bool
is_text d = is_some (as_str d)

abbrev pub is_text_or_null : Data → Bool
is_text_or_null d = is_text d || is_some (as_null d)

abbrev pub all_are : (Data → Bool) → Items → Bool
all_are test no_items = true
all_are test (item d ds) = test d && all_are test ds

-- a list of items that pass the test
abbrev pub is_list_of : (Data → Bool) → Option Items → Bool
is_list_of test None = false
is_list_of test (Some ds) = all_are test ds

-- the names, if there are any, are a list of texts
abbrev pub are_names : Option Data → Bool
are_names None = true
are_names (Some d) = is_list_of is_text (as_array d)

-- the version is 3, the sources are a list of texts and nulls, and there are no names but a list of texts
abbrev pub has_shape : Data → Bool
has_shape d =
    is_three (option_and_then as_u64 (option_and_then as_number (get (codes "version") d)))
    && (is_list_of is_text_or_null (option_and_then as_array (get (codes "sources") d))
    && are_names (get (codes "names") d))

-- the mappings text of a map
abbrev pub mappings_in : Data → Option (List ℕ)
mappings_in d = if has_shape d then option_and_then as_str (get (codes "mappings") d) else None

-- the bytes are the JSON of this value
pub record IsJson (bytes : List ℕ) (d : Data) : Type 0 where
  pub utf8 : IsUtf8 bytes
  pub read : read bytes ≡ Some d

-- the bytes are a map with this mappings text
pub record IsMap (bytes mappings : List ℕ) : Type 0 where
  pub value : Data
  pub json : IsJson bytes value
  pub text : mappings_in value ≡ Some mappings

-- the bytes are a map with these segments
pub record HasSegments (bytes : List ℕ) (ss : List Segment) : Type 0 where
  pub mappings : List ℕ
  pub map : IsMap bytes mappings
  pub read : Reads mappings ss

-- why a mappings text is refused
abbrev pub IsTextRefusal : List ℕ → MapRefusal → Type 0
IsTextRefusal text (refusals.BadSegment at) = IsBadAt text at
IsTextRefusal text refusals.NoMemory = Unit {0}
IsTextRefusal text refusals.MapJson = ⊥
IsTextRefusal text refusals.MapShape = ⊥

-- why bytes are refused, the first cause of these: they are no JSON, that is no map, or its mappings text isn't read
abbrev pub IsRefusal : List ℕ → MapRefusal → Type 0
IsRefusal bytes refusals.MapJson = (d : Data) → ¬ (IsJson bytes d)
IsRefusal bytes refusals.MapShape = (d : Data) × (IsJson bytes d) × (mappings_in d ≡ None)
IsRefusal bytes (refusals.BadSegment at) = (mappings : List ℕ) × (IsMap bytes mappings) × IsBadAt mappings at
IsRefusal bytes refusals.NoMemory = Unit {0}
