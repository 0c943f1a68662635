use Rattle.std.proofs.Common.{refl, List}
use Rattle.std.proofs.lemmas.Result.{IfOk-weaker}
use Rattle.jl_value.specs.declared.value.Value.{Value}
use Rattle.jl_meaning.specs.builtins.Array.{array_by}
use Rattle.jl_state.specs.Words.{call_of}
use Rattle.jl_lib_array.proofs.Asked.{every_is, filter_is, for_each_is, index_of_is, last_index_of_is, map_is}
use Rattle.jl_lib_array.proofs.Asked.{reduce_is, reduce_right_is, some_is}
use Rattle.jl_lib_array.proofs.CallCases.{works_at}
use Rattle.jl_lib_array.proofs.Starts.{starts}
use Rattle.jl_lib_array.proofs.starting.start.Goals as goal

pub returns-in-Constructor-clause-refines : goal.returns-in-Constructor-clause-refines
returns-in-Constructor-clause-refines c =
    starts _ _ _ (call_of c.args.call) c.args.builtin _ _ c.in-Constructor.is refl (IfOk-weaker _ _ _ (λ a refines.
    works_at _ _ _ (λ (l : List Value). array_by l) _ _ c.items.ensures refines) c.array_constructor.ensures.refines)

pub returns-in-IndexOf-clause-refines : goal.returns-in-IndexOf-clause-refines
returns-in-IndexOf-clause-refines c =
    starts _ _ _ (call_of c.args.call) c.args.builtin _ _ c.in-IndexOf.is (index_of_is (call_of c.args.call))
    c.start_search.ensures.refines

pub returns-in-LastIndexOf-clause-refines : goal.returns-in-LastIndexOf-clause-refines
returns-in-LastIndexOf-clause-refines c =
    starts _ _ _ (call_of c.args.call) c.args.builtin _ _ c.in-LastIndexOf.is (last_index_of_is (call_of c.args.call))
    c.start_search-in-LastIndexOf.ensures.refines

pub returns-in-Every-clause-refines : goal.returns-in-Every-clause-refines
returns-in-Every-clause-refines c =
    starts _ _ _ (call_of c.args.call) c.args.builtin _ _ c.in-Every.is (every_is (call_of c.args.call))
    c.start_walk.ensures.refines

pub returns-in-Some-clause-refines : goal.returns-in-Some-clause-refines
returns-in-Some-clause-refines c =
    starts _ _ _ (call_of c.args.call) c.args.builtin _ _ c.in-Some.is (some_is (call_of c.args.call))
    c.start_walk-in-Some.ensures.refines

pub returns-in-ForEach-clause-refines : goal.returns-in-ForEach-clause-refines
returns-in-ForEach-clause-refines c =
    starts _ _ _ (call_of c.args.call) c.args.builtin _ _ c.in-ForEach.is (for_each_is (call_of c.args.call))
    c.start_walk-in-ForEach.ensures.refines

pub returns-in-Map-clause-refines : goal.returns-in-Map-clause-refines
returns-in-Map-clause-refines c =
    starts _ _ _ (call_of c.args.call) c.args.builtin _ _ c.in-Map.is (map_is (call_of c.args.call))
    c.start_walk-in-Map.ensures.refines

pub returns-in-Filter-clause-refines : goal.returns-in-Filter-clause-refines
returns-in-Filter-clause-refines c =
    starts _ _ _ (call_of c.args.call) c.args.builtin _ _ c.in-Filter.is (filter_is (call_of c.args.call))
    c.start_walk-in-Filter.ensures.refines

pub returns-in-Reduce-clause-refines : goal.returns-in-Reduce-clause-refines
returns-in-Reduce-clause-refines c =
    starts _ _ _ (call_of c.args.call) c.args.builtin _ _ c.in-Reduce.is (reduce_is (call_of c.args.call))
    c.start_reduction.ensures.refines

pub returns-clause-refines : goal.returns-clause-refines
returns-clause-refines c =
    starts _ _ _ (call_of c.args.call) c.args.builtin _ _ c.in-ReduceRight.is (reduce_right_is (call_of c.args.call))
    c.start_reduction-in-ReduceRight.ensures.refines
