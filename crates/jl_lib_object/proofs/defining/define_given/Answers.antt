use Rattle.std.proofs.Common.{sym, ◌∙◌}
use Rattle.std.proofs.lemmas.Result.{IfOk-weaker}
use Rattle.jl_lib_object.proofs.Definitions.{none_given, some_given}
use Rattle.jl_lib_object.proofs.defining.define_given.Goals as goal

pub returns-then-is_undefined-clause-refines : goal.returns-then-is_undefined-clause-refines
returns-then-is_undefined-clause-refines c = none_given _ _ _ (sym c.is_undefined.ensures ∙ c.if-is_undefined.true)

pub returns-clause-refines : goal.returns-clause-refines
returns-clause-refines c =
    IfOk-weaker _ _ _ (λ a refines. some_given c.args.state.now c.args.object _ _ _
    (sym c.is_undefined.ensures ∙ c.if-is_undefined.false) refines) c.define_all.ensures.refines
