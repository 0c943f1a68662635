use Rattle.jl_value.specs.declared.builtin.Builtin.{Builtin}
use Rattle.jl_value.specs.declared.builtin.Builtin.TheVariants.{Object}
use Rattle.jl_value.specs.declared.builtin_groups.ObjectBuiltin.TheVariants.{Constructor}
use Rattle.jl_realm.proofs.Taken.{items_left, next_left, next_ready}
use Rattle.jl_realm.proofs.initial.add_functions.Goals as goal

-- what stands for a builtin past the end
abbrev none : Builtin
none = Object Constructor

pub add_if_held-requires : goal.add_if_held-requires
add_if_held-requires c =
    next_ready
    (items_left c.loop-builtin.builtin-index c.args.builtins.now none c.loop-builtin-test.true c.loop-builtin.invariant)

pub loop-builtin-preserved : goal.loop-builtin-preserved
loop-builtin-preserved c =
    next_left
    (items_left c.loop-builtin.builtin-index c.args.builtins.now none c.loop-builtin-test.true c.loop-builtin.invariant)
    c.add_if_held.new.store c.in_ok-add_if_held.ensures
