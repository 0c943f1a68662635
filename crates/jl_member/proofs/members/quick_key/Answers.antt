use Rattle.std.proofs.Common.{sym, ◌∙◌}
use Rattle.std.proofs.lemmas.Option.{IfSome_then}
use Rattle.std.proofs.lemmas.Result.{IfOk-weaker}
use Rattle.jl_member.proofs.Keys.{lets_through, name_at_once}
use Rattle.jl_member.proofs.members.quick_key.Goals as goal

pub returns : goal.returns
returns c =
    IfOk-weaker _ _ _ (λ found named. IfSome_then found named (λ name is. name_at_once c.args.base.now c.args.key.now
    name (lets_through c.args.base.now (sym c.is_nothing.ensures ∙ c.if-is_nothing.false)) is))
    c.name_of_primitive.ensures
