use Rattle.std.proofs.lemmas.Result.{IfOk-weaker}
use Rattle.jl_meaning.specs.builtins.Descriptors.{own_names}
use Rattle.jl_lib_object.specs.inner.Parts.{restrict_and_give}
use Rattle.jl_lib_object.proofs.Ends.{goes_on, throws_on, works_seen}
use Rattle.jl_lib_object.proofs.integrity.redefine_all.Goals as goal

pub returns-in-Throws-clause-refines : goal.returns-in-Throws-clause-refines
returns-in-Throws-clause-refines c = throws_on _ _ _ _ _ c.in_ok-thrown.ensures _ c.in-Throws.is

pub returns-in-Gives-clause-refines : goal.returns-in-Gives-clause-refines
returns-in-Gives-clause-refines c =
    IfOk-weaker _ _ _ (λ a refines. goes_on _ _ _ _ _ c.in_ok-thrown.ensures _ _ _ c.in-Gives.is
    (works_seen _ (λ store. restrict_and_give c.args.integrity c.in-Gives.object
    (own_names store c.in-Gives.object.0)) _ _ refines)) c.restrict_all.ensures.refines
