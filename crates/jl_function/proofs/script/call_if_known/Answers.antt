use Rattle.std.proofs.lemmas.Result.{IfOk-weaker}
use Rattle.jl_state.specs.Words.{call_of, function_of}
use Rattle.jl_function.proofs.Entries.{calls_known, calls_script, context_is, found_at, throws_this}
use Rattle.jl_function.proofs.script.call_if_known.Goals as goal

pub returns-in-Throws-clause-refines : goal.returns-in-Throws-clause-refines
returns-in-Throws-clause-refines c =
    let s = c.args.state.now in
    let at = c.in-Some.ensures.lookup in
    calls_known s c.args.number c.args.env (call_of c.args.call.now) c.in-Some.f.now _ _
    (found_at s.functions c.items.result.now c.args.number c.in-Some.f.now c.items.ensures at.3.0 at.1)
    (throws_this s c.this_within.new.store (function_of c.in-Some.f.now) c.args.env (call_of c.args.call.now)
    c.in-Throws.thrown c.in_ok-this.field-0 c.in_ok-this.ensures c.in-Throws.is)

pub returns-clause-refines : goal.returns-clause-refines
returns-clause-refines c =
    let s = c.args.state.now in
    let at = c.in-Some.ensures.lookup in
    IfOk-weaker _ _ _ (λ a refines. calls_known s c.args.number c.args.env (call_of c.args.call.now) c.in-Some.f.now _ _
    (found_at s.functions c.items.result.now c.args.number c.in-Some.f.now c.items.ensures at.3.0 at.1)
    (calls_script s c.this_within.new.store c.enter_function.new.store (function_of c.in-Some.f.now) c.args.env
    c.in_ok-inside.inside (call_of c.args.call.now) c.in-Gives.this _ _ _ c.in_ok-this.field-0 c.in_ok-this.ensures
    c.in-Gives.is (c.in_ok-inside.ensures c.in-Gives.this)
    (context_is c.in-Some.f.now c.in_ok-inside.inside c.in-Gives.this c.args.call.now c.len.result s.calls
    c.len.ensures) refines)) c.run_body.ensures.refines
