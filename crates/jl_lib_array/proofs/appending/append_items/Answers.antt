use Rattle.std.proofs.Common.{drop, refl}
use Rattle.std.proofs.lemmas.Result.{IfOk-weaker}
use Rattle.jl_builtin.proofs.FoundItems.{none_from, some_from}
use Rattle.jl_lib_array.proofs.Turns.{appends_end, appends_spent, appends_take}
use Rattle.jl_lib_array.proofs.appending.append_items.Goals as goal

pub returns-in-None-clause-refines : goal.returns-in-None-clause-refines
returns-in-None-clause-refines c =
    appends_end c.args.state.now c.args.array c.args.next (drop c.args.from c.args.values)
    (none_from c.args.from c.items.result.now c.args.values c.in_ok-value_from.field-0 c.items.ensures
    c.in_ok-value_from.ensures.found c.in-None.is)

pub returns-then-not-spend-clause-refines : goal.returns-then-not-spend-clause-refines
returns-then-not-spend-clause-refines c =
    appends_spent c.args.state.now c.args.array c.args.next _ (drop c.args.from c.args.values)
    (drop c.in-Some.after c.args.values) c.in-Some.v
    (some_from c.args.from c.in-Some.after c.items.result.now c.args.values c.in-Some.v c.in_ok-value_from.field-0
    c.items.ensures c.in_ok-value_from.ensures.found c.in-Some.is)
    (c.if-not-spend.ensures.same refl) (c.if-not-spend.ensures.ran_out refl)

pub returns-clause-refines : goal.returns-clause-refines
returns-clause-refines c =
    IfOk-weaker _ _ _ (λ a refines. appends_take c.args.state.now c.args.array c.args.next _ _ _
    (drop c.args.from c.args.values) (drop c.in-Some.after c.args.values) c.in-Some.v (some_from c.args.from
    c.in-Some.after c.items.result.now c.args.values c.in-Some.v c.in_ok-value_from.field-0 c.items.ensures
    c.in_ok-value_from.ensures.found c.in-Some.is)
    (c.if-not-spend.ensures.took refl) refines) c.append_item.ensures.refines
