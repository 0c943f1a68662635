-- What a coverage keeps of the operations that it observed.
use Rattle.std.specs.Prelude.{◌≡◌, ℕ, Bool, List, nat_eq}
use Rattle.indexmap.specs.IndexSet.{contains}
use Rattle.jl_op.specs.Operations.{Operation}
use Rattle.jl_cover.specs.Coverage.{Lacks, gap_of, was_reached, was_true, was_false}
use Rattle.jl_cover.specs.declared.cover.Cover.{Cover}

-- it knows, by id, what was reached, and which conditions were true and false
pub record IsCoverOf (reached trues falses : ℕ → Bool) (observed : List Operation) : Type 0 where
  pub all : (id : ℕ) → reached id ≡ was_reached observed id
  pub true_ones : (id : ℕ) → trues id ≡ was_true observed id
  pub false_ones : (id : ℕ) → falses id ≡ was_false observed id

-- what rows lack, by what is known
abbrev pub lacks_by : Cover → Lacks
lacks_by c id kind =
    gap_of kind (contains nat_eq c.reached id) (contains nat_eq c.trues id) (contains nat_eq c.falses id)
