use Rattle.std.proofs.Common.{sym, ◌∙◌}
use Rattle.std.proofs.lemmas.Result.{IfOk-weaker}
use Rattle.jl_meaning.specs.forms.Names.{update_name}
use Rattle.jl_state.specs.ValueFrames.{value_after}
use Rattle.jl_state.specs.Words.{table_of}
use Rattle.jl_state.specs.declared.value_frame.ValueFrame.TheVariants as waiting
use Rattle.jl_member.proofs.Names.{bound_then, misuses, updates_name}
use Rattle.jl_member.proofs.updated_names.update_name.Goals as goal

pub returns-then-is_hooks-clause-refines : goal.returns-then-is_hooks-clause-refines
unfolding update_name
returns-then-is_hooks-clause-refines c =
    misuses c.args.state.now c.args.name.now _ (sym c.is_hooks.ensures ∙ c.if-is_hooks.true)

pub returns-in-InEnvironment-clause-refines : goal.returns-in-InEnvironment-clause-refines
returns-in-InEnvironment-clause-refines c =
    let s = c.args.state.now in
    let r = c.identifier_reference-reference.result in
    IfOk-weaker _ _ _ (λ a refines. updates_name s c.args.here c.args.name r c.args.up c.args.prefix _ _
    (sym c.is_hooks.ensures ∙ c.if-is_hooks.false) c.identifier_reference-reference.ensures
    (bound_then s c.args.name.now r c.in-InEnvironment.env _ (λ q. value_after (table_of s.functions) s.calls
    (waiting.UpdateName c.args.name q c.args.up c.args.prefix c.args.here.strict)) _ _ c.in-InEnvironment.is
    c.in_ok-v.ensures refines)) c.step_update_name.ensures.refines

pub returns-clause-refines : goal.returns-clause-refines
returns-clause-refines c =
    IfOk-weaker _ _ _ (λ a refines. updates_name c.args.state.now c.args.here c.args.name
    c.identifier_reference-reference.result c.args.up c.args.prefix _ _ (sym c.is_hooks.ensures ∙ c.if-is_hooks.false)
    c.identifier_reference-reference.ensures (c.in_ok-push_value.ensures.waits.works _ _ _ refines))
    c.get_value.ensures.refines
