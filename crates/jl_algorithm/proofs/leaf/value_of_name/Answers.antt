use Rattle.std.proofs.Common.{sym, ◌∙◌}
use Rattle.jl_algorithm.proofs.Leaves.{name_of_hooks}
use Rattle.jl_algorithm.proofs.leaf.value_of_name.Goals as goal

pub returns-then-is_hooks : goal.returns-then-is_hooks
returns-then-is_hooks c =
    name_of_hooks c.args.state.now.store c.args.env c.args.name.now (sym c.is_hooks.ensures ∙ c.if-is_hooks.true)
