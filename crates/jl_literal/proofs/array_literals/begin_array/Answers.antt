use Rattle.std.proofs.Common.{refl}
use Rattle.std.proofs.lemmas.Result.{IfOk-weaker}
use Rattle.jl_literal.proofs.Elements.{array_begun}
use Rattle.jl_literal.proofs.array_literals.begin_array.Goals as goal

pub returns-clause-refines : goal.returns-clause-refines
returns-clause-refines c =
    IfOk-weaker _ _ _ (λ a refines. array_begun c.args.state.now
    (record c.args.state.now { store = c.new_array.new.self }) refl c.in_ok-array.array c.args.items.now c.args.here _ _
    c.in_ok-array.ensures refines) c.fill.ensures.refines
