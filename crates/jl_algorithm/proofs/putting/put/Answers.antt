use Rattle.std.proofs.lemmas.Result.{IfOk-weaker}
use Rattle.jl_algorithm.proofs.Puts.{no_object, puts_object, puts_primitive}
use Rattle.jl_algorithm.proofs.putting.put.Goals as goal

pub returns-in-Obj-clause-refines : goal.returns-in-Obj-clause-refines
returns-in-Obj-clause-refines c =
    IfOk-weaker _ _ _ (λ a refines. puts_object c.args.state.now c.args.throwing c.args.base _ c.args.name.now c.args.v
    c.args.gives _ _ c.in-Obj.is refines) c.put_on_object.ensures.refines

pub returns-in_default : goal.returns-in_default
returns-in_default c = record {
  refines = IfOk-weaker _ _ _ (λ a refines. puts_primitive c.args.state.now c.args.throwing c.args.base c.args.name.now
      c.args.v c.args.gives _ _ (no_object c.args.base c.in_default.not-Obj) refines)
      c.put_on_primitive.ensures.refines;
  bounded = c.put_on_primitive.ensures.bounded;
}
