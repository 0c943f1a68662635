use Rattle.std.proofs.Common.{◌≡◌, ℕ, List, IfOk, subst}
use Rattle.jl_text.proofs.HeldLemmas.{both_set}
use Rattle.jl_text.proofs.text.few_of_both.Goals as goal

pub returns : goal.returns
returns c = subst (λ (units : List ℕ). IfOk c.shared.result (λ t. t ≡ units))
    (both_set _ _ _ _ _ _ c.copy_from_slice.ensures.after c.copy_from_slice-2.ensures.after) c.shared.ensures
