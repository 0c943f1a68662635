use Rattle.std.proofs.Common.{refl, true}
use Rattle.std.proofs.lemmas.Result.{IfOk-weaker}
use Rattle.jl_heap.specs.Objects.{object_at}
use Rattle.jl_meaning.specs.Properties.{can_put, get_property}
use Rattle.jl_meaning.specs.Putting.{put_if}
use Rattle.jl_state.proofs.Stores.{works_comes}
use Rattle.jl_state.specs.AlgorithmFrames.{after_define}
use Rattle.jl_state.specs.declared.algorithm_frame.AfterDefine.TheVariants.{Put}
use Rattle.jl_algorithm.proofs.putting.put_on_object.Goals as goal

pub returns-in-Ok-clause-refines : goal.returns-in-Ok-clause-refines
returns-in-Ok-clause-refines c =
    let s = c.args.state.now in
    let property = get_property s.store c.args.id.0 c.args.name.now in
    let able = can_put (object_at s.store.heap c.args.id.0).extensible property in
    IfOk-weaker _ _ _ (λ a refines.
    works_comes s (record s { store = c.set_value.new.self }) refl
    (put_if able c.args.id c.args.name.now c.args.v property) true (after_define (Put c.args.throwing c.args.gives)) _ _
    (rw c.in-Ok.is at c.set_value.ensures.done) refines)
    c.after_define.ensures.refines
