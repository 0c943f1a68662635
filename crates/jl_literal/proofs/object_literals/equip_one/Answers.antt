use Rattle.std.proofs.Common.{refl}
use Rattle.std.proofs.lemmas.Result.{IfOk-weaker}
use Rattle.jl_literal.proofs.Entries.{getter_first, setter_first, value_entry}
use Rattle.jl_literal.proofs.object_literals.equip_one.Goals as goal

pub returns-in-Value-clause-refines : goal.returns-in-Value-clause-refines
returns-in-Value-clause-refines c =
    IfOk-weaker _ _ _ (λ a refines. value_entry c.args.state.now _ _ c.args.object _ _ c.args.rest c.args.here
    c.args.entry.now c.in-Value.is refines) c.equip_value.ensures.refines

pub returns-in_ok-getter-in-Get-clause-refines : goal.returns-in_ok-getter-in-Get-clause-refines
returns-in_ok-getter-in-Get-clause-refines c =
    IfOk-weaker _ _ _ (λ a refines. getter_first c.args.state.now
    (record c.args.state.now { store = c.make_function.new.self }) refl c.args.object _ _ c.args.rest c.args.here _ _ _
    _ c.in_ok-getter-in-Get.ensures.made c.args.entry.now c.in-Get.is c.accessor_change-change.ensures refines)
    c.define_entry.ensures.refines

pub returns-in_ok-setter-in-Set-clause-refines : goal.returns-in_ok-setter-in-Set-clause-refines
returns-in_ok-setter-in-Set-clause-refines c =
    IfOk-weaker _ _ _ (λ a refines. setter_first c.args.state.now
    (record c.args.state.now { store = c.make_function-in-Set.new.self }) refl c.args.object _ _ c.args.rest c.args.here
    _ _ _ _ c.in_ok-setter-in-Set.ensures.made c.args.entry.now c.in-Set.is c.accessor_change-change-in-Set.ensures
    refines) c.define_entry-in-Set.ensures.refines
