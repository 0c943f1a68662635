use Rattle.std.proofs.Common.{subst, sym}
use Rattle.jl_store.specs.Answers.{ends_with}
use Rattle.jl_store.specs.BigStep.{BigStep}
use Rattle.jl_lib_object.specs.inner.Fields.{with_field}
use Rattle.jl_lib_object.proofs.Fields.{configurable_given, enumerable_given, value_got, writable_given}
use Rattle.jl_lib_object.proofs.descriptors.with_field.Goals as goal

pub returns-in-Enumerable : goal.returns-in-Enumerable
returns-in-Enumerable c = enumerable_given _ _ _ _ _ c.in-Enumerable.is c.to_boolean.ensures

pub returns-in-Configurable : goal.returns-in-Configurable
returns-in-Configurable c = configurable_given _ _ _ _ _ c.in-Configurable.is c.to_boolean-in-Configurable.ensures

pub returns-in-Value : goal.returns-in-Value
returns-in-Value c = value_got _ _ _ _ c.in-Value.is

pub returns-in-Writable : goal.returns-in-Writable
returns-in-Writable c = writable_given _ _ _ _ _ c.in-Writable.is c.to_boolean-in-Writable.ensures

pub returns-in_ok-answer-in-Get : goal.returns-in_ok-answer-in-Get
returns-in_ok-answer-in-Get c =
    subst (λ w. BigStep (with_field w c.args.v c.args.change) c.args.store.now c.with_getter.new.store
    (ends_with c.in_ok-answer-in-Get.answer)) (sym c.in-Get.is) c.in_ok-answer-in-Get.ensures

pub returns-in_ok-answer-in-Set : goal.returns-in_ok-answer-in-Set
returns-in_ok-answer-in-Set c =
    subst (λ w. BigStep (with_field w c.args.v c.args.change) c.args.store.now c.with_setter.new.store
    (ends_with c.in_ok-answer-in-Set.answer)) (sym c.in-Set.is) c.in_ok-answer-in-Set.ensures
