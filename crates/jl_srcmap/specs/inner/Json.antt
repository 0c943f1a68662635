-- Why a JSON value is refused, and why bytes are no JSON; for private clauses.
use Rattle.std.specs.Prelude.{◌≡◌, ℕ, List, Some, None}
use Rattle.serde_json.specs.Data.{Data}
use Rattle.serde_json.specs.Errors.{IsMemory}
use Rattle.serde_json.specs.declared.error.Error.{Error}
use Rattle.jl_srcmap.specs.Mappings.{Reads, IsBadAt}
use Rattle.jl_srcmap.specs.SourceMap.{mappings_in}
use Rattle.jl_srcmap.specs.declared.refusal.MapRefusal.{MapRefusal}
use Rattle.jl_srcmap.specs.declared.refusal.MapRefusal.TheVariants as refusals
use Rattle.jl_srcmap.specs.declared.segment.Segment.{Segment}

-- reading stopped for this error
abbrev pub IsJsonRefusal : Error → MapRefusal → Type 0
IsJsonRefusal error refusals.MapJson = ¬ (IsMemory error)
IsJsonRefusal error refusals.NoMemory = Unit {0}
IsJsonRefusal error refusals.MapShape = ⊥
IsJsonRefusal error (refusals.BadSegment at) = ⊥

-- the value is a map with these segments
abbrev pub IsMapOf : Data → List Segment → Type 0
IsMapOf d ss = (mappings : List ℕ) × (mappings_in d ≡ Some mappings) × Reads mappings ss

-- the value is refused
abbrev pub IsValueRefusal : Data → MapRefusal → Type 0
IsValueRefusal d refusals.MapJson = ⊥
IsValueRefusal d refusals.NoMemory = Unit {0}
IsValueRefusal d refusals.MapShape = mappings_in d ≡ None
IsValueRefusal d (refusals.BadSegment at) =
    (mappings : List ℕ) × (mappings_in d ≡ Some mappings) × IsBadAt mappings at
