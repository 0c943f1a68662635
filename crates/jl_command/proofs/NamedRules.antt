-- The rule with a name, as the first of the table that has it.
use Rattle.std.proofs.Common.{◌≡◌, ◌∙◌, ◌+◌, ◌-◌, ℕ, zero, suc, Bool, true, false, cond, List, [], ◌∷◌}
use Rattle.std.proofs.Common.{Option, Some, None, arith, refl, sym, ap}
use Rattle.std.specs.Prelude.{slice_get}
use Rattle.std.specs.List.{position_from}
use Rattle.std.specs.Str.{bytes_eq}
use Rattle.std.proofs.lemmas.Slice.Eq.{bytes_eq-Decides}
use Rattle.jl_analysis.proofs.RuleNames.{named, rule_names}
use Rattle.jl_analysis.specs.Laws.{OneName}
use Rattle.jl_analysis.specs.Rules.{IsRule, name_at, rule_with}

-- the name stands there
has_name : (name : List ℕ) (first : ℕ) (names : List (List ℕ)) (rule : ℕ)
    → position_from (bytes_eq name) first names ≡ Some rule
    → (k : ℕ) × (rule ≡ first + k) × (slice_get names k ≡ Some name)
has_name name first [] rule e = absurd (cc)
has_name name first (x ∷ names) rule e = by_test (bytes_eq name x) refl (has_name name (first + 1) names rule)
  where
    by_test : (b : Bool) → bytes_eq name x ≡ b
        → (position_from (bytes_eq name) (first + 1) names ≡ Some rule
        → (k : ℕ) × (rule ≡ (first + 1) + k) × (slice_get names k ≡ Some name))
        → (k : ℕ) × (rule ≡ first + k) × (slice_get (x ∷ names) k ≡ Some name)
    by_test true is later =
        let here : Some first ≡ Some rule =
        sym (ap (λ b. cond b (Some first) (position_from (bytes_eq name) (first + 1) names)) is) ∙ e in
        let same : first ≡ rule = cc in
        (0, omega (arith, same), ap Some (sym ((bytes_eq-Decides name x).0 is)))
    by_test false is later =
        let found = later (sym (ap (λ b. cond b (Some first) (position_from (bytes_eq name) (first + 1) names)) is)
        ∙ e) in
        (suc found.0, omega (arith, found.1), found.2)

-- it stands nowhere
lacks_name : (name : List ℕ) (first : ℕ) (names : List (List ℕ)) → position_from (bytes_eq name) first names ≡ None
    → (k : ℕ) → slice_get names k ≡ Some name → ⊥
lacks_name name first [] e k at = absurd (cc)
lacks_name name first (x ∷ names) e k at =
    by_test (bytes_eq name x) refl k at (λ later j there. lacks_name name (first + 1) names later j there)
  where
    by_test : (b : Bool) → bytes_eq name x ≡ b → (k : ℕ) → slice_get (x ∷ names) k ≡ Some name
        → (position_from (bytes_eq name) (first + 1) names ≡ None → (j : ℕ) → slice_get names j ≡ Some name → ⊥) → ⊥
    by_test true is k at later =
        let none : Some first ≡ None =
        sym (ap (λ b. cond b (Some first) (position_from (bytes_eq name) (first + 1) names)) is) ∙ e in absurd (cc)
    by_test false is zero at later =
        let same : x ≡ name = cc in
        let both : false ≡ true = sym is ∙ (bytes_eq-Decides name x).1 (sym same) in absurd (cc)
    by_test false is (suc k) at later =
        later (sym (ap (λ b. cond b (Some first) (position_from (bytes_eq name) (first + 1) names)) is) ∙ e) k at

rule_has : (name : List ℕ) (rule : ℕ) → rule_with name ≡ Some rule → name_at rule ≡ Some name
rule_has name rule e =
    let found = has_name name 1 rule_names rule e in
    let place : rule - 1 ≡ found.0 = omega (arith, found.1) in
    named rule (omega (arith, found.1)) ∙ ap (slice_get rule_names) place ∙ found.2

rule_lacks : (name : List ℕ) → rule_with name ≡ None → (rule : ℕ) → IsRule rule → name_at rule ≡ Some name → ⊥
rule_lacks name e rule is at = lacks_name name 1 rule_names e (rule - 1) (sym (named rule is.0) ∙ at)

-- the rule with a name is the one that the name finds
pub rule_found : OneName → (name : List ℕ) (rule : ℕ) → IsRule rule → name_at rule ≡ Some name
    → rule_with name ≡ Some rule
rule_found one name rule is at = by_answer (rule_with name) refl
  where
    by_answer : (o : Option ℕ) → rule_with name ≡ o → rule_with name ≡ Some rule
    by_answer (Some other) e = e ∙ ap Some (one other rule name (rule_has name other e) at)
    by_answer None e = absurd (rule_lacks name e rule is at)

pub no_rule_found : (name : List ℕ) → ((rule : ℕ) → name_at rule ≡ Some name → ⊥) → rule_with name ≡ None
no_rule_found name none = by_answer (rule_with name) refl
  where
    by_answer : (o : Option ℕ) → rule_with name ≡ o → rule_with name ≡ None
    by_answer (Some other) e = absurd (none other (rule_has name other e))
    by_answer None e = e
