use Rattle.std.proofs.lemmas.Result.{IfOk-weaker}
use Rattle.jl_meaning.specs.Parts.{◌>>=◌}
use Rattle.jl_meaning.specs.builtins.Arguments.{argument}
use Rattle.jl_meaning.specs.builtins.Object.{need_prototype}
use Rattle.jl_state.specs.Words.{call_of}
use Rattle.jl_lib_object.specs.inner.Parts.{create_with}
use Rattle.jl_lib_object.proofs.Ends.{goes_on, throws_on, works_of}
use Rattle.jl_lib_object.proofs.defining.object_create.Goals as goal

pub returns-in-Throws-clause-refines : goal.returns-in-Throws-clause-refines
returns-in-Throws-clause-refines c =
    works_of _ (λ v. need_prototype v >>= λ proto. create_with proto (argument (call_of c.args.call.now) 1)) _ _ _ _
    c.in_ok-proto.ensures
    (throws_on _ _ _ _ _ c.in_ok-thrown.ensures _ c.in-Throws.is)

pub returns-clause-refines : goal.returns-clause-refines
returns-clause-refines c =
    IfOk-weaker _ _ _ (λ a refines. works_of _ (λ v. need_prototype v >>= λ proto. create_with proto
    (argument (call_of c.args.call.now) 1)) _ _ _ _ c.in_ok-proto.ensures (goes_on _ _ _ _ _ c.in_ok-thrown.ensures _ _
    _ c.in-Gives.is (works_of _ (λ v. create_with c.in-Gives.proto v) _ _ _ _ c.in_ok-properties.ensures refines)))
    c.create_with.ensures.refines
