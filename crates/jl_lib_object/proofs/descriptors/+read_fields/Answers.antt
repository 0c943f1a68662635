use Rattle.std.proofs.Common.{arith}
use Rattle.std.proofs.lemmas.Result.{IfOk-weaker}
use Rattle.jl_lib_object.proofs.Fields.{field_absent, field_there, none_left}
use Rattle.jl_lib_object.proofs.Ranks.{falls_absent, falls_read_all, falls_there, less_left}
use Rattle.jl_lib_object.proofs.descriptors.+read_fields.Goals as goal

pub returns-then-branch-clause-refines : goal.returns-then-branch-clause-refines
returns-then-branch-clause-refines t c =
    IfOk-weaker _ _ _ (λ a refines. field_there c.args.descriptor c.args.change c.args.purpose _ c.in-Some.field _ _ _ _
    c.in-Some.is c.in_ok-has_field.ensures c.if-branch.true refines) c.get_field.ensures.refines

pub returns-clause-refines : goal.returns-clause-refines
returns-clause-refines t c =
    IfOk-weaker _ _ _ (λ a refines. field_absent c.args.descriptor c.args.change c.args.purpose _ c.in-Some.field _ _ _
    _
    _ _ c.in-Some.is c.in_ok-has_field.ensures c.if-branch.false c.without_field-change.ensures c.next_field.ensures
    refines) c.read_fields.ensures.refines

pub read_fields-requires : goal.read_fields-requires
read_fields-requires t c =
    omega (arith, less_left c.in-Some.field c.args.next c.next_field.result c.in-Some.is c.next_field.ensures)

pub returns-in_default-clause-refines : goal.returns-in_default-clause-refines
returns-in_default-clause-refines t c =
    IfOk-weaker _ _ _ (λ a refines. none_left _ _ c.args.descriptor c.args.change c.args.purpose _ _ c.in_default.is
    refines) c.take_change.ensures.refines

pub returns-in_default-clause-bounded : goal.returns-in_default-clause-bounded
returns-in_default-clause-bounded t c =
    IfOk-weaker _ _ _ (λ a bounded. falls_read_all _ _ _ c.args.purpose c.args.next bounded)
    c.take_change.ensures.bounded

pub returns-then-branch-clause-bounded : goal.returns-then-branch-clause-bounded
returns-then-branch-clause-bounded t c =
    IfOk-weaker _ _ _ (λ a bounded. falls_there _ _ _ c.in-Some.field c.args.purpose c.args.descriptor c.args.change _
    c.in-Some.is bounded) c.get_field.ensures.bounded

pub returns-clause-bounded : goal.returns-clause-bounded
returns-clause-bounded t c =
    IfOk-weaker _ _ _ (λ a bounded. falls_absent _ _ _ c.in-Some.field c.args.purpose _ _ c.in-Some.is
    c.next_field.ensures bounded) c.read_fields.ensures.bounded
