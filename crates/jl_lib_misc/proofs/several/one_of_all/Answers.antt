use Rattle.std.proofs.Common.{subst, sym}
use Rattle.std.proofs.lemmas.Result.{IfOk-weaker}
use Rattle.jl_meaning.specs.builtins.Math.{one_of_all}
use Rattle.jl_progress.specs.Numbers.{pick_of}
use Rattle.jl_state.specs.Rest.{RefinesAlgorithm}
use Rattle.jl_builtin.proofs.FoundItems.{none_from, some_from}
use Rattle.jl_lib_misc.proofs.several.one_of_all.Goals as goal

pub returns-in-None-clause-refines : goal.returns-in-None-clause-refines
returns-in-None-clause-refines c =
    subst (λ l. RefinesAlgorithm c.args.state.now (one_of_all (pick_of c.args.extreme) c.args.so_far l) c.args.state.now
    c.give_extreme.result)
    (sym (none_from c.args.from c.items.result.now c.args.args c.in_ok-value_from.field-0 c.items.ensures
    c.in_ok-value_from.ensures.found c.in-None.is)) (c.give_extreme.ensures.refines c.args.state.now)

pub returns-clause-refines : goal.returns-clause-refines
returns-clause-refines c =
    IfOk-weaker _ _ _ (λ a refines. subst (λ l. RefinesAlgorithm c.args.state.now
    (one_of_all (pick_of c.args.extreme) c.args.so_far l) c.convert_next.new.state a) (sym (some_from c.args.from
    c.in-Some.next c.items.result.now c.args.args c.in-Some.v c.in_ok-value_from.field-0 c.items.ensures
    c.in_ok-value_from.ensures.found c.in-Some.is)) refines) c.convert_next.ensures.refines
