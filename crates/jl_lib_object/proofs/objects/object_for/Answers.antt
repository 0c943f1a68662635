use Rattle.std.proofs.Common.{sym, ◌∙◌}
use Rattle.jl_lib_object.proofs.Classes.{object_converted, object_new}
use Rattle.jl_lib_object.proofs.objects.object_for.Goals as goal

pub returns-then-is_nothing : goal.returns-then-is_nothing
returns-then-is_nothing c =
    object_new _ _ _ _ (sym c.is_nothing.ensures ∙ c.if-is_nothing.true) c.in_ok-id.ensures

pub returns : goal.returns
returns c =
    object_converted _ _ _ _ (sym c.is_nothing.ensures ∙ c.if-is_nothing.false) c.in_ok-answer.ensures
