-- What a coverage knows is what its operations tell.
use Rattle.std.proofs.Common.{◌≡◌, nat_eq, List}
use Rattle.indexmap.specs.IndexSet.{contains}
use Rattle.jl_op.specs.Operations.{Operation}
use Rattle.jl_cover.specs.declared.cover.Cover.{Cover}
use Rattle.jl_cover.specs.Coverage.{gap_after, gap_of}
use Rattle.jl_cover.specs.inner.Observed.{IsCoverOf, lacks_by}

-- so it knows what each row lacks
pub lacks_is : (c : Cover) (observed : List Operation)
    → IsCoverOf (contains nat_eq c.reached) (contains nat_eq c.trues) (contains nat_eq c.falses) observed
    → lacks_by c ≡ gap_after observed
lacks_is c observed is = λ j id kind. gap_of kind (is.all id j) (is.true_ones id j) (is.false_ones id j)
