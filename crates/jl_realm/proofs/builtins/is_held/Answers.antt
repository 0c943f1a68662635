use Rattle.std.proofs.Common.{◌∙◌, sym}
use Rattle.jl_realm.proofs.Placed.{constructor_placed}
use Rattle.jl_realm.proofs.builtins.is_held.Goals as goal

pub place-requires : goal.place-requires
place-requires c =
    constructor_placed c.args.builtin c.in-Builtin.constructor (sym c.holder.ensures ∙ c.in-Builtin.is)
