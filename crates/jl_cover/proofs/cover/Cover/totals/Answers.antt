use Rattle.std.proofs.Common.{ap, ◌∙◌}
use Rattle.jl_op.specs.declared.kind.OpKind.TheVariants as kinds
use Rattle.jl_cover.specs.Coverage.{covered_count}
use Rattle.jl_cover.proofs.Observing.{lacks_is}
use Rattle.jl_cover.proofs.cover.Cover.totals.Goals as goal

pub returns : goal.returns
returns c = λ observed is.
    let same = lacks_is c.args.self.now observed is in
    λ j. record {
      entered = (c.covered.ensures ∙ ap (λ l. covered_count c.args.map.now l kinds.FunctionEnter) same) j;
      functions = c.rows_of.ensures j;
      decided = (c.covered-2.ensures ∙ ap (λ l. covered_count c.args.map.now l kinds.Conditional) same) j;
      conditions = c.rows_of-2.ensures j;
    }
