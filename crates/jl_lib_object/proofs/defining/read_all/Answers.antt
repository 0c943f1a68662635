use Rattle.std.proofs.lemmas.Result.{IfOk-weaker}
use Rattle.jl_meaning.specs.Parts.{◌>>=◌}
use Rattle.jl_meaning.specs.builtins.Descriptors.{enumerable_names}
use Rattle.jl_meaning.specs.builtins.Object.{changes_of}
use Rattle.jl_lib_object.specs.inner.Parts.{define_and_give}
use Rattle.jl_lib_object.proofs.Ends.{works_of}
use Rattle.jl_lib_object.proofs.Ranks.{falls_none}
use Rattle.jl_lib_object.proofs.defining.read_all.Goals as goal

pub returns-clause-refines : goal.returns-clause-refines
returns-clause-refines c =
    IfOk-weaker _ _ _ (λ a refines. works_of _ (λ l. changes_of c.args.descriptors l
    (enumerable_names c.args.state.now.store c.args.descriptors.0) >>= define_and_give c.args.object) _ _ _ _
    c.new-changes.ensures (works_of _ (λ l. changes_of c.args.descriptors c.new-changes.result l >>= define_and_give
    c.args.object) _ _ _ _ c.in_ok-names.ensures refines)) c.read_changes.ensures.refines

pub returns-clause-bounded : goal.returns-clause-bounded
returns-clause-bounded c =
    IfOk-weaker _ _ _ (λ a bounded. falls_none _ _ _ _ c.new-changes.ensures bounded) c.read_changes.ensures.bounded
