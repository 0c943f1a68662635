-- A function with no ids is made like the function: it has the same number, name and parameters, and is as strict.
use Rattle.std.proofs.Common.{◌≡◌, List, [], ◌∷◌, None, Some, ap, refl}
use Rattle.std.specs.Prelude.{map, ℕ}
use Rattle.jl_ast.specs.Tree as tree
use Rattle.jl_meaning.specs.Parts.{Func}
use Rattle.jl_meaning.proofs.MadeFunctions.{MadeAlike}
use Rattle.jl_quiet.proofs.Bare.{bare, without_id}

pub params_same : (l : List (tree.Ident ℕ))
    → map (λ (x : tree.Ident ℕ). x.text) l ≡ map (λ (x : tree.Ident ℕ). x.text) (map without_id l)
params_same [] = refl
params_same (x ∷ l) = ap (λ names. x.text ∷ names) (params_same l)

pub made_alike : (f : Func) → MadeAlike f (bare f)
made_alike (tree.function m None params (tree.body strict fs l) s) =
    record { number = refl; name = refl; params = params_same params; strict = λ outer. refl }
made_alike (tree.function m (Some x) params (tree.body strict fs l) s) =
    record { number = refl; name = refl; params = params_same params; strict = λ outer. refl }
