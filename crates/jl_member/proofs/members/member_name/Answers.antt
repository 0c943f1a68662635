use Rattle.std.proofs.Common.{◌+◌, arith, ℕ}
use Rattle.std.proofs.lemmas.Result.{IfOk-weaker}
use Rattle.jl_state.specs.Rank.{rank_key, RankedBelow}
use Rattle.jl_state.specs.ValueFrames.{key_after}
use Rattle.jl_state.specs.Words.{table_of}
use Rattle.jl_state.specs.declared.act.Act.{Act}
use Rattle.jl_state.specs.declared.state.State.{State}
use Rattle.jl_member.proofs.Keys.{names, refuses_null, refuses_undefined}
use Rattle.jl_member.proofs.members.member_name.Goals as goal

-- to throw takes less than any key
falls_thrown : (s t : State) (a : Act) (n : ℕ) → RankedBelow s 3 t a → RankedBelow s (n + 20) t a
falls_thrown s t a n bounded =
    record { left = bounded.left; lower = λ same. omega (arith, bounded.lower same) }

pub returns-in-Undefined-clause-refines : goal.returns-in-Undefined-clause-refines
returns-in-Undefined-clause-refines c =
    IfOk-weaker _ _ _ (λ a refines. refuses_undefined c.args.state.now c.args.base.now c.args.key (key_after
    (table_of c.args.state.now.functions) c.args.state.now.calls c.args.purpose) _ _ c.in-Undefined.is refines)
    c.throw_native.ensures.refines

pub returns-in-Null-clause-refines : goal.returns-in-Null-clause-refines
returns-in-Null-clause-refines c =
    IfOk-weaker _ _ _ (λ a refines. refuses_null c.args.state.now c.args.base.now c.args.key (key_after
    (table_of c.args.state.now.functions) c.args.state.now.calls c.args.purpose) _ _ c.in-Null.is refines)
    c.throw_native-in-Null.ensures.refines

pub returns-clause-refines : goal.returns-clause-refines
returns-clause-refines c =
    IfOk-weaker _ _ _ (λ a refines. names c.args.state.now c.args.base.now c.args.key (key_after
    (table_of c.args.state.now.functions) c.args.state.now.calls c.args.purpose) _ _ c.in-Bool.is refines)
    c.convert_key.ensures.refines

pub returns-in-Undefined-clause-bounded : goal.returns-in-Undefined-clause-bounded
returns-in-Undefined-clause-bounded c =
    IfOk-weaker _ _ _ (λ a bounded. falls_thrown c.args.state.now _ a (rank_key c.args.purpose) bounded)
    c.throw_native.ensures.bounded

pub returns-in-Null-clause-bounded : goal.returns-in-Null-clause-bounded
returns-in-Null-clause-bounded c =
    IfOk-weaker _ _ _ (λ a bounded. falls_thrown c.args.state.now _ a (rank_key c.args.purpose) bounded)
    c.throw_native-in-Null.ensures.bounded
