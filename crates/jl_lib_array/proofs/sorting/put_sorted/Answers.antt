use Rattle.std.proofs.Common.{ap, map, ◌∙◌}
use Rattle.std.proofs.lemmas.Result.{IfOk-weaker}
use Rattle.jl_meaning.specs.builtins.ArrayChanges.{KeyedValue}
use Rattle.jl_lib_array.proofs.Read.{sorts}
use Rattle.jl_lib_array.proofs.sorting.put_sorted.Goals as goal

pub returns-clause-refines : goal.returns-clause-refines
returns-clause-refines c =
    IfOk-weaker _ _ _ (λ a refines. sorts _ _ _ (record
    { object = c.args.object; length = c.args.length; left = 0; k = 0 }) c.args.read _ _ c.in_ok-sorted.ensures
    (c.in_ok-values.ensures ∙ ap (map (λ (x : KeyedValue). x.1)) c.items.ensures) refines) c.begin_turn.ensures.refines
