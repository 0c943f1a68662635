use Rattle.jl_value.specs.declared.builtin.Builtin.{Builtin}
use Rattle.jl_value.specs.declared.builtin.Builtin.TheVariants.{Object}
use Rattle.jl_value.specs.declared.builtin_groups.ObjectBuiltin.TheVariants.{Constructor}
use Rattle.jl_realm.proofs.Taken.{items_left, next_left, next_ready}
use Rattle.jl_realm.proofs.initial.make_functions.Goals as goal

-- what stands for a builtin past the end
abbrev none : Builtin
none = Object Constructor

pub make_if_there-requires : goal.make_if_there-requires
make_if_there-requires c =
    next_ready
    (items_left c.loop-builtin.builtin-index c.args.builtins.now none c.loop-builtin-test.true c.loop-builtin.invariant)

pub loop-builtin-preserved : goal.loop-builtin-preserved
loop-builtin-preserved c =
    next_left
    (items_left c.loop-builtin.builtin-index c.args.builtins.now none c.loop-builtin-test.true c.loop-builtin.invariant)
    c.make_if_there.new.store c.in_ok-make_if_there.ensures
