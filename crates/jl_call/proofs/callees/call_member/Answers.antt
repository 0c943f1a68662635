use Rattle.std.proofs.Common.{refl}
use Rattle.std.proofs.lemmas.Option.{MatchOption-at_some}
use Rattle.std.proofs.lemmas.Result.{IfOk-weaker}
use Rattle.jl_state.specs.ValueFrames.{key_after}
use Rattle.jl_state.specs.Words.{table_of}
use Rattle.jl_state.specs.declared.value_frame.MemberUse.TheVariants as key_for
use Rattle.jl_member.proofs.Keys.{named_at_once}
use Rattle.jl_call.proofs.Methods.{calls_member}
use Rattle.jl_call.proofs.callees.call_member.Goals as goal

pub returns-in-Some-clause-refines : goal.returns-in-Some-clause-refines
returns-in-Some-clause-refines c =
    let s = c.args.state.now in
    IfOk-weaker _ _ _ (λ a refines. calls_member s _ a c.args.args c.args.here c.args.base c.args.base c.args.key refl
    (named_at_once s c.args.base c.args.key c.in-Some.name (key_after (table_of s.functions) s.calls
    (key_for.Call c.args.base c.args.args c.args.here)) _ a
    (MatchOption-at_some _ _ _ c.in-Some.is c.in_ok-name.ensures) refines)) c.call_by_key.ensures.refines

pub returns-clause-refines : goal.returns-clause-refines
returns-clause-refines c =
    IfOk-weaker _ _ _ (λ a refines. calls_member c.args.state.now _ _ c.args.args c.args.here c.args.base
    c.in_ok-object.object c.args.key c.in_ok-object.ensures refines) c.member_name.ensures.refines
