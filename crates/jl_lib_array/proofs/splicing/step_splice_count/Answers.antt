use Rattle.std.proofs.Common.{drop, sym, ◌-◌, ◌∙◌}
use Rattle.std.proofs.lemmas.Result.{IfOk-weaker}
use Rattle.jl_meaning.specs.Conversions.{integer_of}
use Rattle.jl_meaning.specs.builtins.ArrayChanges.{splice_at}
use Rattle.jl_meaning.specs.builtins.Elements.{clamp}
use Rattle.jl_builtin.proofs.Waits.{number_outside}
use Rattle.jl_lib_array.proofs.Spliced.{splices_at}
use Rattle.jl_lib_array.proofs.splicing.step_splice_count.Goals as goal

pub returns-in_default-clause-refines : goal.returns-in_default-clause-refines
returns-in_default-clause-refines c =
    number_outside _ c.args.p.now _
    (λ n. splice_at c.args.object c.args.array c.args.length c.args.start
    (clamp (integer_of n) (c.args.length - c.args.start)) (drop 2 c.args.args.now))
    c.number_of_primitive.ensures c.in_default.is

pub returns-clause-refines : goal.returns-clause-refines
returns-clause-refines c =
    IfOk-weaker _ _ _ (λ a refines. splices_at _ _ _ c.args.object c.args.array c.args.length c.args.args.now
    c.args.p.now
    c.in-Some.n c.args.start _ _ _ (sym c.in-Some.is ∙ c.number_of_primitive.ensures) c.saturating_sub.ensures
    c.clamp-removed.ensures c.in_ok-items.ensures refines) c.copy_removed.ensures.refines
