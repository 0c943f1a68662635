use Rattle.std.proofs.Common.{refl}
use Rattle.std.proofs.lemmas.Result.{IfOk-weaker}
use Rattle.jl_value.specs.declared.object.Class.TheVariants as class
use Rattle.jl_heap.specs.declared.inner.Inner.TheVariants as inner
use Rattle.jl_meaning.specs.Parts.{new_object, ◌>>=◌}
use Rattle.jl_meaning.specs.builtins.Arguments.{give_object, unless_undefined}
use Rattle.jl_meaning.specs.builtins.Object.{define_all}
use Rattle.jl_state.proofs.Stores.{works_comes}
use Rattle.jl_lib_object.proofs.defining.create_with.Goals as goal

pub returns-clause-refines : goal.returns-clause-refines
returns-clause-refines c =
    IfOk-weaker _ _ _ (λ a refines. works_comes c.args.state.now
    (record c.args.state.now { store = c.new_object.new.store }) refl
    (new_object class.Object c.args.proto inner.Nothing) c.in_ok-object.object (λ id. unless_undefined tt
    (define_all id) c.args.properties.now >>= λ _. give_object id) _ _ c.in_ok-object.ensures refines)
    c.define_given.ensures.refines
