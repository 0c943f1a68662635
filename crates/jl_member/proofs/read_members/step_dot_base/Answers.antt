use Rattle.std.proofs.Common.{sym, ◌∙◌}
use Rattle.std.proofs.lemmas.Result.{IfOk-weaker}
use Rattle.jl_value.specs.declared.value.Value.TheVariants as value
use Rattle.jl_member.proofs.Gets.{reads_at_once}
use Rattle.jl_member.proofs.Keys.{lets_through, text_at_once}
use Rattle.jl_member.proofs.read_members.step_dot_base.Goals as goal

pub returns-clause-refines : goal.returns-clause-refines
returns-clause-refines c =
    IfOk-weaker _ _ _ (λ a refines. reads_at_once c.args.state.now _ _ c.args.v (value.Text c.args.key.now) _ _ _
    c.by_script.ensures.performs c.by_script.ensures.first (text_at_once c.args.v c.args.key.now _
    (lets_through c.args.v (sym c.is_nothing.ensures ∙ c.if-is_nothing.false)) c.in_ok-name.ensures) refines)
    c.get_member.ensures.refines
