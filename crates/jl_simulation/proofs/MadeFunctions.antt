-- A woven function is made like the function: it has the same number, name and parameters, and is as strict.
use Rattle.std.proofs.Common.{◌≡◌, ℕ, List, [], ◌∷◌, None, Some, ap, refl}
use Rattle.std.specs.Prelude.{map}
use Rattle.jl_ast.specs.Tree as tree
use Rattle.jl_op.specs.Chosen.{Kinds}
use Rattle.jl_op.specs.Ids.{ident_with_id, with_ids}
use Rattle.jl_meaning.specs.Parts.{Func}
use Rattle.jl_meaning.proofs.MadeFunctions.{MadeAlike}
use Rattle.jl_simulation.specs.HookCalls.{without_id}
use Rattle.jl_simulation.specs.Weaving.{weave}

pub params_same : (n : ℕ) (l : List (tree.Ident ℕ))
    → map (λ (x : tree.Ident ℕ). x.text) l
    ≡ map (λ (x : tree.Ident ℕ). x.text) (map (λ y. ident_with_id y n) (map without_id l))
params_same n [] = refl
params_same n (x ∷ l) = ap (λ names. x.text ∷ names) (params_same n l)

pub made_alike : (chosen : Kinds) (n : ℕ) (f : Func) → MadeAlike f (with_ids n (weave chosen f))
made_alike chosen n (tree.function m None params (tree.body strict fs l) s) =
    record { number = refl; name = refl; params = params_same n params; strict = λ outer. refl }
made_alike chosen n (tree.function m (Some x) params (tree.body strict fs l) s) =
    record { number = refl; name = refl; params = params_same n params; strict = λ outer. refl }
