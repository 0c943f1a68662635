use Rattle.std.proofs.Common.{◌<◌, ◌≤◌, List, get_or, length, rules, subst}
use Rattle.std.proofs.lemmas.List.{take_all}
use Rattle.std.proofs.lemmas.List.Elements.{All-more}
use Rattle.std.specs.Prelude.{◌≢◌, All}
use Rattle.jl_value.specs.Builtins.{builtins, name_of}
use Rattle.jl_value.specs.declared.builtin.Builtin.{Builtin}
use Rattle.jl_value.specs.declared.builtin.Builtin.TheVariants.{Object}
use Rattle.jl_value.specs.declared.builtin_groups.ObjectBuiltin.TheVariants.{Constructor}
use Rattle.jl_value.proofs.Rows.{passed_all}
use Rattle.jl_value.proofs.builtin.Builtin.named.Goals as goal

pub loop-builtin-preserved : goal.loop-builtin-preserved
loop-builtin-preserved c =
    let row = c.loop-builtin.builtin-index in
    let first = Object Constructor in
    let within : row < length builtins = subst (λ (bs : List Builtin). row < length bs) c.all-builtin-items.ensures
    c.loop-builtin-test.true in
    let other : name_of (get_or builtins row first) ≢ c.args.name.now = search rules in
    All-more (λ b. name_of b ≢ c.args.name.now) builtins row first within c.loop-builtin.invariant other

pub returns-clause-none : goal.returns-clause-none
returns-clause-none c =
    passed_all c.args.name.now
    (subst (λ (bs : List Builtin). All (λ b. name_of b ≢ c.args.name.now) bs)
    (take_all c.loop-builtin.builtin-index builtins
    (subst (λ (bs : List Builtin). length bs ≤ c.loop-builtin.builtin-index) c.all-builtin-items.ensures
    c.loop-builtin-test.false)) c.loop-builtin.invariant)
