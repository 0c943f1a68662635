-- Woven parts, wherever they stand.
use Rattle.std.proofs.Common.{◌≡◌, ◌∙◌, ap, subst, sym, ℕ, ◌+◌, IfOk, Err, Ok, Result}
use Rattle.jl_ast.specs.Tree.{Forest, OptionalTree, Sort, Tree}
use Rattle.jl_op.specs.Chosen.{Kinds}
use Rattle.jl_op.specs.Ids.{forest_with_ids, id_count, optional_with_ids, with_ids}
use Rattle.jl_simulation.specs.HookCalls.{Woven}
use Rattle.jl_simulation.specs.Weaving.{weave, woven_forest, woven_optional}
use Rattle.jl_weave.proofs.Weaves.{Weaves, WeavesAll, WeavesIfPresent}

-- what a call gives that is known to be something else
pub given : {A B E : Type 0} (bare : A → B) (r : Result A E) {a b : B} → a ≡ b → IfOk r (λ made. bare made ≡ a) →
    IfOk r (λ made. bare made ≡ b)
given bare (Ok made) e h = h ∙ e
given bare (Err f) e h = tt

module _ (chosen : Kinds) {S : Type 0} where
  -- parts that begin at an id that is known to be another
  pub from : {x : Sort} {t : Tree S x} {made : Woven x} {n next k : ℕ} → n ≡ k → Weaves chosen t n made next →
      Weaves chosen t k made next
  from {t = t} {made = made} {next = next} e w = subst (λ k. Weaves chosen t k made next) e w

  pub all_from : {x : Sort} {l : Forest S x} {made : Forest (Unit {0}) x} {n next k : ℕ} → n ≡ k →
      WeavesAll chosen l n made next → WeavesAll chosen l k made next
  all_from {l = l} {made = made} {next = next} e w = subst (λ k. WeavesAll chosen l k made next) e w

  -- a part, by the id at which it is known to begin
  pub part : {x : Sort} (t : Tree S x) {made : Woven x} {n next k : ℕ} → Weaves chosen t n made next → n ≡ k →
      made ≡ weave chosen (with_ids k t)
  part t w e = w.is ∙ ap (λ k. weave chosen (with_ids k t)) e

  pub parts : {x : Sort} (l : Forest S x) {made : Forest (Unit {0}) x} {n next k : ℕ} →
      WeavesAll chosen l n made next → n ≡ k → made ≡ woven_forest chosen (forest_with_ids k l)
  parts l w e = w.is ∙ ap (λ k. woven_forest chosen (forest_with_ids k l)) e

  pub part_if_present : {x : Sort} (t : OptionalTree S x) {made : OptionalTree (Unit {0}) x} {n next k : ℕ} →
      WeavesIfPresent chosen t n made next → n ≡ k → made ≡ woven_optional chosen (optional_with_ids k t)
  part_if_present t w e = w.is ∙ ap (λ k. woven_optional chosen (optional_with_ids k t)) e

  -- a tree that is known to be another
  pub placed : {x : Sort} {t u : Tree S x} {made : Woven x} {n next : ℕ} → t ≡ u → Weaves chosen u n made next →
      Weaves chosen t n made next
  placed {n = n} e w = record {
    is = w.is ∙ ap (λ t. weave chosen (with_ids n t)) (sym e);
    counted = w.counted ∙ ap (λ t. n + id_count t) (sym e);
  }
