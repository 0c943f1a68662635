use Rattle.std.proofs.Common.{drop, refl}
use Rattle.std.proofs.lemmas.Result.{IfOk-weaker}
use Rattle.jl_lib_object.proofs.Restrictions.{tests_one}
use Rattle.jl_lib_object.proofs.integrity.test_one.Goals as goal

pub returns-clause-refines : goal.returns-clause-refines
returns-clause-refines c =
    IfOk-weaker _ _ _ (λ a refines. (c.if-not-spend.ensures.took refl).works _ _ _ (tests_one _ _ _ _ _ _ _
    (drop c.args.from c.args.names) _ _ c.is_kept-kept.ensures c.both.ensures refines)) c.go_on.ensures.refines
