use Rattle.std.proofs.Common.{refl}
use Rattle.std.proofs.lemmas.Result.{IfOk-weaker}
use Rattle.jl_state.specs.ValueFrames.{key_after}
use Rattle.jl_state.specs.Words.{table_of}
use Rattle.jl_state.specs.declared.value_frame.MemberUse.TheVariants as key_for
use Rattle.jl_member.proofs.Keys.{named_at_once}
use Rattle.jl_member.proofs.MemberUpdates.{updates_named}
use Rattle.jl_member.proofs.updated_members.update_member.Goals as goal

pub returns-in-Some-clause-refines : goal.returns-in-Some-clause-refines
returns-in-Some-clause-refines c =
    IfOk-weaker _ _ _ (λ a refines. updates_named c.args.state.now c.args.noted c.args.strict c.args.up c.args.prefix
    c.args.base c.args.base c.args.key _ _ refl (named_at_once c.args.state.now c.args.base c.args.key c.in-Some.name
    (key_after (table_of c.args.state.now.functions) c.args.state.now.calls (key_for.Update c.args.noted c.args.base
    c.args.up c.args.prefix c.args.strict)) _ _ (rw c.in-Some.is at c.in_ok-found.ensures) refines))
    c.update_by_key.ensures.refines

pub returns-clause-refines : goal.returns-clause-refines
returns-clause-refines c =
    IfOk-weaker _ _ _ (λ a refines. updates_named c.args.state.now c.args.noted c.args.strict c.args.up c.args.prefix
    c.args.base _ c.args.key _ _ c.in_ok-share-in-None.ensures refines) c.member_name.ensures.refines
