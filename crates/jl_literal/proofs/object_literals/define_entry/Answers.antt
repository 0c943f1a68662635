use Rattle.std.proofs.lemmas.Result.{IfOk-weaker}
use Rattle.jl_literal.proofs.Entries.{entry_defined}
use Rattle.jl_literal.proofs.object_literals.define_entry.Goals as goal

pub returns-clause-refines : goal.returns-clause-refines
returns-clause-refines c =
    IfOk-weaker _ _ _ (λ a refines. entry_defined c.args.state.now _ _ _ c.args.object c.args.key.now c.args.change
    c.args.rest c.args.here c.in_ok-push_value.ensures.waits refines) c.define_own_property.ensures.refines
