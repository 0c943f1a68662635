-- What global-this remembers is how many functions were entered, and how many were left.
use Rattle.std.proofs.Common.{◌≡◌, ℕ, ◌+◌, ◌-◌, ◌^◌, Bool, true, false, List, [], ◌∷◌, ◌++◌, refl, sym, ap, ◌∙◌}
use Rattle.std.proofs.Common.{arith, min, cond}
use Rattle.std.proofs.lemmas.List.Sums.{fold-append}
use Rattle.std.specs.Prelude.{fold, ◌&&◌}
use Rattle.jl_op.specs.declared.op.Op.{Op}
use Rattle.jl_op.specs.declared.op.Op.TheVariants as ops
use Rattle.jl_analysis.specs.Memories.{Memory, one_more_if, none_entered, entered_and_left}
use Rattle.jl_analysis.specs.Rules.{rules, hit, memory_of}
use Rattle.jl_analysis.specs.UseRules.{enters, leaves, so_many}
use Rattle.jl_analysis.specs.Values.{is_object_at, global_object}
use Rattle.jl_rules_use.specs.inner.Remembered.{is_inside, writes_global}

-- a count that stands still at the end of its type
abbrev stopped : ℕ → ℕ
stopped n = min n (2 ^ 64 - 1)

abbrev two : ℕ → ℕ → Memory
two entered left = (entered, left) ∷ []

stopped-more : (b : Bool) (n : ℕ) → one_more_if b (stopped n) ≡ stopped (n + cond b 1 0)
stopped-more true n = omega arith
stopped-more false n = omega arith

-- how many there are of such, from n on
abbrev count_from : (Op → Bool) → ℕ → List Op → ℕ
count_from is n told = fold (λ a op. a + cond (is op) 1 0) n told

-- counting goes on from any counts
counts_on : (told : List Op) (entered left : ℕ)
    → fold entered_and_left (two (stopped entered) (stopped left)) told
    ≡ two (stopped (count_from enters entered told)) (stopped (count_from leaves left told))
counts_on [] entered left = refl
counts_on (op ∷ told) entered left =
    (ap (λ n. fold entered_and_left (two n (one_more_if (leaves op) (stopped left))) told)
    (stopped-more (enters op) entered)
    ∙ ap (λ n. fold entered_and_left (two (stopped (entered + cond (enters op) 1 0)) n) told)
    (stopped-more (leaves op) left))
    ∙ counts_on told (entered + cond (enters op) 1 0) (left + cond (leaves op) 1 0)

-- the memory of the rule
pub counts_all : (told : List Op) → memory_of 20 told ≡ (so_many enters told, so_many leaves told) ∷ []
unfolding rules memory_of
counts_all told = counts_on told 0 0

-- where the rule hits, by what it remembers
pub global_as_remembered : (told : List Op) (op : Op) (memory : Memory) → memory ≡ memory_of 20 told
    → writes_global memory op ≡ hit 20 told op
unfolding rules hit
global_as_remembered told (ops.PutField base name value found) memory is =
    ap (λ m. is_object_at base.value global_object && is_inside m) (is ∙ counts_all told)
global_as_remembered told _ memory is = refl

-- what it remembers after one more operation
pub counts_more : (told : List Op) (op : Op) (memory later : Memory) → memory ≡ memory_of 20 told
    → later ≡ entered_and_left memory op → later ≡ memory_of 20 (told ++ op ∷ [])
unfolding rules memory_of
counts_more told op memory later is later_is =
    later_is ∙ ap (λ m. entered_and_left m op) is ∙ sym (fold-append entered_and_left none_entered told (op ∷ []))

pub ruleset remembering = (global_as_remembered, counts_more)
