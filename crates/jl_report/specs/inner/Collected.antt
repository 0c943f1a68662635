-- The numbers of hits, as a report collects them: a map from places and rules.
use Rattle.std.specs.Prelude.{ℕ, ◌≢◌, All, Some, unwrap_or}
use Rattle.std.specs.BTreeMap.{BTreeMap, get, keys}
use Rattle.jl_analysis.specs.Rules.{IsRule}
use Rattle.jl_report.specs.Reports.{Key, by_place}

abbrev pub Collected : Type 0
Collected = BTreeMap Key ℕ

-- the number for this place and rule
abbrev pub number_in : Collected → Key → ℕ
number_in hits k = unwrap_or (get by_place hits k) 0

-- there is no entry without a hit
abbrev pub HasHits : Collected → Type 0
HasHits hits = (k : Key) → get by_place hits k ≢ Some 0

-- each number is of a rule
abbrev pub AreOfRules : Collected → Type 0
AreOfRules hits = All (λ k. IsRule k.2) (keys hits)
