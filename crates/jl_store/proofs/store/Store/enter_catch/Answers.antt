use Rattle.std.proofs.Common.{refl}
use Rattle.jl_store.proofs.MadeFunctions.{catch_comes, nothing_bound}
use Rattle.jl_store.proofs.store.Store.enter_catch.Goals as goal

pub new_binding-requires : goal.new_binding-requires
new_binding-requires c =
    nothing_bound c.args.self.now c.new_environment.new.self c.new_environment.new.self _ _ c.args.name.now
    c.in_ok-inside.ensures.next c.in_ok-inside.ensures.made refl

pub returns : goal.returns
returns c =
    catch_comes c.args.env c.in_ok-inside.inside c.args.name.now c.args.value c.args.self.now
    c.new_environment.new.self c.new_binding.new.self c.in_ok-inside.ensures.next c.in_ok-inside.ensures.made
    c.in_ok-new_binding.ensures.made
