use Rattle.std.proofs.Common.{subst, sym}
use Rattle.jl_realm.specs.Global.{HasGlobalObject}
use Rattle.jl_realm.proofs.Beginning.{first_ready, functions_ready, realm_global, steps_come_to}
use Rattle.jl_realm.proofs.initial.initial_store.Goals as goal

pub take_all-requires-clause-ready : goal.take_all-requires-clause-ready
take_all-requires-clause-ready c =
    first_ready c.in_ok-store.store c.in_ok-store.ensures.0 c.in_ok-store.ensures.1 c.all-builtins.result.now
    c.all-builtins.ensures

pub make_functions-requires : goal.make_functions-requires
make_functions-requires c =
    functions_ready c.in_ok-store.store c.in_ok-store.ensures.0 c.in_ok-store.ensures.1 c.all-builtins.result.now
    c.all-builtins.ensures c.take_all.new.store c.in_ok-take_all.ensures

pub returns-clause-realm : goal.returns-clause-realm
returns-clause-realm c =
    steps_come_to c.in_ok-store.store c.in_ok-store.ensures.0 c.in_ok-store.ensures.1 c.all-builtins.result.now
    c.all-builtins.ensures c.take_all.new.store c.make_functions.new.store c.in_ok-take_all.ensures
    c.in_ok-make_functions.ensures

pub returns-clause-global : goal.returns-clause-global
returns-clause-global c =
    subst HasGlobalObject
    (sym (steps_come_to c.in_ok-store.store c.in_ok-store.ensures.0 c.in_ok-store.ensures.1 c.all-builtins.result.now
    c.all-builtins.ensures c.take_all.new.store c.make_functions.new.store c.in_ok-take_all.ensures
    c.in_ok-make_functions.ensures))
    realm_global
