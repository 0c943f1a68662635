use Rattle.std.proofs.Common.{sym, ◌∙◌}
use Rattle.std.proofs.lemmas.Result.{IfOk-weaker}
use Rattle.jl_algorithm.proofs.Defined.{bad_length, defines_length}
use Rattle.jl_algorithm.proofs.lengths.define_length.Goals as goal

pub returns-then-not-is_count-clause-refines : goal.returns-then-not-is_count-clause-refines
returns-then-not-is_count-clause-refines c =
    IfOk-weaker _ _ _ (λ a refines. bad_length c.args.state.now c.args.array c.args.count c.args.attributes
    c.args.purpose
    c.args.n _ _ (sym c.is_count.ensures ∙ c.if-not-is_count.true) refines) c.throw_native.ensures.refines

pub returns-clause-refines : goal.returns-clause-refines
returns-clause-refines c =
    IfOk-weaker _ _ _ (λ a refines. defines_length c.args.state.now c.args.array c.in_ok-name.name c.args.count
    c.args.attributes c.args.purpose c.args.n _ _ (sym c.is_count.ensures ∙ c.if-not-is_count.false)
    c.in_ok-name.ensures refines) c.define_now.ensures.refines
