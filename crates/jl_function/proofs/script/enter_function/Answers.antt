use Rattle.std.proofs.Common.{ap, sym, ◌∙◌}
use Rattle.jl_store.specs.Plain.{names_of}
use Rattle.jl_store.proofs.Trees.{body_is_plain, params_are}
use Rattle.jl_state.specs.Words.{call_of, function_of}
use Rattle.jl_function.proofs.Entries.{enters}
use Rattle.jl_function.proofs.script.enter_function.Goals as goal

pub returns : goal.returns
returns c = λ this.
    enters _ _ _ (function_of c.args.f.now) _ _ _ _ _ (call_of c.args.call.now) this c.in_ok-inside.ensures.next
    c.in_ok-inside.ensures.made (body_is_plain c.args.f.now.function.now)
    (params_are c.args.f.now.function.now ∙ ap names_of (sym c.items.ensures)) c.items-2.ensures
    c.in_ok-declare_body.ensures
