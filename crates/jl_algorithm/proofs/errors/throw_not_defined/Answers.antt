use Rattle.std.proofs.Common.{◌++◌, ◌∙◌, ap}
use Rattle.std.proofs.lemmas.Result.{IfOk-weaker}
use Rattle.jl_algorithm.proofs.Throwing.{throws_message}
use Rattle.jl_algorithm.proofs.errors.throw_not_defined.Goals as goal

pub returns-in-Ok-clause-refines : goal.returns-in-Ok-clause-refines
returns-in-Ok-clause-refines c =
    IfOk-weaker _ _ _ (λ a refines. throws_message c.args.state.now c.args.name.now _ _ _
    (c.in-Ok.ensures.made ∙ ap (λ ending. c.args.name.now ++ ending) c.in_ok-ending.ensures)
    (λ more. let differ = c.in-Ok.ensures.long.1 (rw c.in_ok-ending.ensures more) in absurd cc) refines)
    c.throw_error.ensures.refines
