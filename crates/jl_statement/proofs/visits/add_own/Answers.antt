use Rattle.std.proofs.Common.{ap, ◌∙◌}
use Rattle.jl_heap.specs.Objects.{names_of}
use Rattle.jl_statement.proofs.Gathered.{own_added}
use Rattle.jl_statement.proofs.visits.add_own.Goals as goal

pub returns : goal.returns
returns c =
    own_added c.args.store.now.heap c.args.id.0 _ _ _ _ _ c.in_ok-add_units.ensures c.in_ok-add_properties.ensures
    c.unit_count.ensures
    (c.items.ensures ∙ c.in_ok-names.ensures.names ∙ ap (λ h. names_of h c.args.id.0) c.heap.ensures)
