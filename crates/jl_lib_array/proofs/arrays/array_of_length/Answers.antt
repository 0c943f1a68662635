use Rattle.std.proofs.Common.{refl}
use Rattle.jl_value.specs.declared.value.Value.TheVariants as value
use Rattle.jl_store.proofs.PropertyChanges.{one_kind_value, primitive_given}
use Rattle.jl_lib_array.proofs.NewArrays.{length_failed, length_given, length_thrown}
use Rattle.jl_lib_array.proofs.arrays.array_of_length.Goals as goal

pub define_own_property-requires-clause-one_kind : goal.define_own_property-requires-clause-one_kind
define_own_property-requires-clause-one_kind c =
    one_kind_value _ _ c.value_change-change.ensures

pub define_own_property-requires-clause-primitive : goal.define_own_property-requires-clause-primitive
define_own_property-requires-clause-primitive c =
    primitive_given c.new_array.new.self.heap c.in_ok-array.array.0 c.in_ok-name.name (value.Num c.args.length) _ _ refl
    refl c.value_change-change.ensures

pub returns-in-Gives : goal.returns-in-Gives
returns-in-Gives c =
    length_given _ _ _ c.in_ok-array.array c.args.length _ _ c.in_ok-array.ensures c.in_ok-name.ensures
    c.value_change-change.ensures _ c.in_ok-answer.ensures _ c.in-Gives.is

pub returns-in-Throws : goal.returns-in-Throws
returns-in-Throws c =
    length_thrown _ _ _ c.in_ok-array.array c.args.length _ _ c.in_ok-array.ensures c.in_ok-name.ensures
    c.value_change-change.ensures _ c.in_ok-answer.ensures _ c.in-Throws.is

pub returns : goal.returns
returns c =
    length_failed _ _ _ c.in_ok-array.array c.args.length _ _ c.in_ok-array.ensures c.in_ok-name.ensures
    c.value_change-change.ensures _ c.in_ok-answer.ensures _ c.in-Fails.is
