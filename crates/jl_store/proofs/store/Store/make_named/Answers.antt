use Rattle.jl_store.specs.Plain.{plain_function}
use Rattle.jl_store.proofs.MadeFunctions.{named_comes, nothing_bound}
use Rattle.jl_store.proofs.store.Store.make_named.Goals as goal

pub new_binding-requires : goal.new_binding-requires
new_binding-requires c =
    nothing_bound c.args.self.now c.new_environment.new.self c.make_function.new.self _ _ c.args.name.now
    c.in_ok-inside.ensures.next c.in_ok-inside.ensures.made c.in_ok-id.ensures.rest

pub returns : goal.returns
returns c =
    named_comes c.args.outer_strict _ _ (plain_function c.args.f.now) c.args.name.now c.args.self.now
    c.new_environment.new.self c.make_function.new.self _ _ c.in_ok-inside.ensures.next c.in_ok-inside.ensures.made
    c.in_ok-id.ensures.made c.in_ok-new_binding.ensures.made
