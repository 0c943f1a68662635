use Rattle.std.proofs.Common.{sym, ◌∙◌}
use Rattle.jl_store.proofs.Chains.{comes_on, comes_thrown}
use Rattle.jl_store.proofs.Steps.{comes_to}
use Rattle.jl_lib_object.proofs.Ends.{came, came_thrown}
use Rattle.jl_lib_object.proofs.Fields.{function_read, undefined_read}
use Rattle.jl_lib_object.proofs.descriptors.function_or_undefined.Goals as goal

pub returns-then-is_undefined : goal.returns-then-is_undefined
returns-then-is_undefined c = undefined_read _ _ (sym c.is_undefined.ensures ∙ c.if-is_undefined.true)

pub returns-in-Gives : goal.returns-in-Gives
returns-in-Gives c =
    function_read _ _ _ _ (sym c.is_undefined.ensures ∙ c.if-is_undefined.false)
    (comes_on _ (came _ _ _ _ c.in_ok-f.ensures _ c.in-Gives.is) comes_to)

pub returns-in-Throws : goal.returns-in-Throws
returns-in-Throws c =
    function_read _ _ _ _ (sym c.is_undefined.ensures ∙ c.if-is_undefined.false)
    (comes_thrown _ (came_thrown _ _ _ _ c.in_ok-f.ensures _ c.in-Throws.is))
