-- Collected numbers, and lines, are of rules.
use Rattle.std.proofs.Common.{◌≡◌, ℕ, suc, Bool, List, [], ◌∷◌, map, All, subst, sym, ap, ◌∙◌, arith}
use Rattle.std.proofs.lemmas.List.Elements.{All-cons, All-filter}
use Rattle.std.proofs.lemmas.Map.Views.{All-keys-insert_entry}
use Rattle.std.specs.BTreeMap.{insert_entry}
use Rattle.std.specs.Map.{keys_of}
use Rattle.std.specs.Prelude.{filter}
use Rattle.jl_analysis.specs.Rules.{IsRule}
use Rattle.jl_report.specs.declared.line.Line.{Line}
use Rattle.jl_report.specs.inner.Collected.{Collected, AreOfRules}
use Rattle.jl_report.specs.Reports.{Key, key, by_place}
use Rattle.jl_report.proofs.Listing.{keys_of-filter}

abbrev OfRule : Key → Type 0
OfRule k = IsRule k.2

pub of_rules_after : (k : Key) (v : ℕ) (before after : Collected) → IsRule k.2 → AreOfRules before
    → after.entries ≡ insert_entry by_place before.entries k v → AreOfRules after
of_rules_after k v before after r h e =
    subst (λ es. All OfRule (keys_of es)) (sym e) (All-keys-insert_entry by_place k v OfRule before.entries h r)

abbrev keys_listed : List Line → List Key
keys_listed lines = keys_of (map (λ x. (key x, x.count)) lines)

lines_of_rules : (lines : List Line) → All OfRule (keys_listed lines) → All (λ x. IsRule x.rule) lines
lines_of_rules [] h = λ i d lt. absurd (omega arith)
lines_of_rules (x ∷ lines) h =
    All-cons (λ x. IsRule x.rule) x lines (h 0 (key x) (omega arith))
    (lines_of_rules lines (λ i d lt. h (suc i) d (omega arith)))

pub of_rules_listed : (lines : List Line) (hits : Collected) (shown : Key → Bool)
    → map (λ x. (key x, x.count)) lines ≡ filter (λ e. shown e.0) hits.entries
    → AreOfRules hits → All (λ x. IsRule x.rule) lines
of_rules_listed lines hits shown e h =
    lines_of_rules lines
    (subst (λ ks. All OfRule ks) (sym (ap keys_of e ∙ keys_of-filter shown hits.entries))
    (All-filter shown OfRule (keys_of hits.entries) h))
