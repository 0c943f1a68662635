use Rattle.std.proofs.Common.{sym, ◌∙◌}
use Rattle.jl_member.proofs.Keys.{key_at_once}
use Rattle.jl_member.proofs.members.name_of_primitive.Goals as goal

pub returns : goal.returns
returns c =
    key_at_once c.args.key.now _ (sym c.is_object.ensures ∙ c.if-is_object.false) c.in_ok-primitive_to_text.ensures
