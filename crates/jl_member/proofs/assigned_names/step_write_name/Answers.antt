use Rattle.std.proofs.lemmas.Result.{IfOk-weaker}
use Rattle.jl_heap.specs.Describe.{seen_of}
use Rattle.jl_op.specs.declared.op.Op.TheVariants as op
use Rattle.jl_store.specs.LookUps.{reference_seen}
use Rattle.jl_member.proofs.Names.{writes}
use Rattle.jl_member.proofs.assigned_names.step_write_name.Goals as goal

pub returns-clause-refines : goal.returns-clause-refines
returns-clause-refines c =
    IfOk-weaker _ _ _ (λ a refines. writes c.args.state.now (λ store.
    (c.args.id, op.Write c.args.name.now (seen_of store.heap c.args.v))) c.args.strict c.args.name.now c.args.v c.args.v
    _ (reference_seen c.args.reference) _ _ c.in_ok-given.ensures refines) c.put_value.ensures.refines
