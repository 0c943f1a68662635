use Rattle.jl_store.proofs.Trees.{declares_plain}
use Rattle.jl_store.proofs.declarations.Declared.of.Goals as goal

pub returns : goal.returns
returns c = declares_plain c.args.body.now _ _ c.in_ok-variables.ensures c.mentions_arguments-mentions_arguments.ensures
