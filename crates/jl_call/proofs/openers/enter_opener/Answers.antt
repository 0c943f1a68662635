use Rattle.std.proofs.lemmas.Result.{IfOk-weaker}
use Rattle.jl_call.proofs.Pairs.{prepares_assign, prepares_call, prepares_method, prepares_new, prepares_put}
use Rattle.jl_call.proofs.openers.enter_opener.Goals as goal

pub returns-in-Put-clause-refines : goal.returns-in-Put-clause-refines
returns-in-Put-clause-refines c =
    IfOk-weaker _ _ _ (λ a refines. prepares_put c.args.state.now _ _ c.args.id c.args.opener c.args.values.now
    c.args.second c.args.here c.in_ok-base.base c.in_ok-base.ensures c.in-Put.is refines) c.name_member.ensures.refines

pub returns-in-Assign-clause-refines : goal.returns-in-Assign-clause-refines
returns-in-Assign-clause-refines c =
    IfOk-weaker _ _ _ (λ a refines. prepares_assign c.args.state.now _ _ c.args.id c.args.opener c.args.values.now
    c.args.second c.args.here c.in_ok-base.base c.in_ok-base.ensures c.in-Assign.op c.in-Assign.is refines)
    c.name_member-in-Assign.ensures.refines

pub returns-in-Method-clause-refines : goal.returns-in-Method-clause-refines
returns-in-Method-clause-refines c =
    IfOk-weaker _ _ _ (λ a refines. prepares_method c.args.state.now _ _ c.args.id c.args.opener c.args.values.now
    c.args.second c.args.here c.in_ok-base.base c.in_ok-base.ensures c.in-Method.is refines)
    c.name_member-in-Method.ensures.refines

pub returns-in-Call-clause-refines : goal.returns-in-Call-clause-refines
returns-in-Call-clause-refines c =
    IfOk-weaker _ _ _ (λ a refines. prepares_call c.args.state.now _ _ c.args.id c.args.opener c.args.values.now
    c.args.second c.args.here c.in_ok-base.base c.in_ok-base.ensures c.call.result c.call.ensures c.in-Call.is refines)
    c.start_closing.ensures.refines

pub returns-in-New-clause-refines : goal.returns-in-New-clause-refines
returns-in-New-clause-refines c =
    IfOk-weaker _ _ _ (λ a refines. prepares_new c.args.state.now _ _ c.args.id c.args.opener c.args.values.now
    c.args.second c.args.here c.in_ok-base.base c.in_ok-base.ensures c.call-in-New.result c.call-in-New.ensures
    c.in-New.is refines) c.start_closing-in-New.ensures.refines
