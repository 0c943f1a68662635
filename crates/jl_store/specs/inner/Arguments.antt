-- Parts of an arguments object while it is made.
use Rattle.std.specs.Prelude.{[], suc, zero, ◌++◌, ◌∷◌, List, None, Option, ℕ}
use Rattle.jl_heap.specs.Define.{length_name}
use Rattle.jl_heap.specs.Objects.{Name}
use Rattle.jl_meaning.specs.forms.Literals.{index_name}

-- so many indices that are mapped to no parameter
abbrev pub no_mappings : ℕ → List (Option Name)
no_mappings zero = []
no_mappings (suc n) = None ∷ no_mappings n

-- `length`, and the names of so many indices
abbrev pub names_with : ℕ → List Name
names_with zero = length_name ∷ []
names_with (suc n) = names_with n ++ index_name n ∷ []
