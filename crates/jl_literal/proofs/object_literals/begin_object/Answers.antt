use Rattle.std.proofs.Common.{refl}
use Rattle.std.proofs.lemmas.Result.{IfOk-weaker}
use Rattle.jl_literal.proofs.Entries.{object_begun}
use Rattle.jl_literal.proofs.object_literals.begin_object.Goals as goal

pub returns-clause-refines : goal.returns-clause-refines
returns-clause-refines c =
    IfOk-weaker _ _ _ (λ a refines. object_begun c.args.state.now
    (record c.args.state.now { store = c.new_plain_object.new.self }) refl c.in_ok-object.object c.args.entries.now
    c.args.here _ _ c.in_ok-object.ensures refines) c.equip.ensures.refines
