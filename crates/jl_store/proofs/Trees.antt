-- Trees without places.
use Rattle.std.proofs.Common.{Bool, sym, ◌≡◌, ◌∙◌, ℕ, List, [], ◌∷◌, map, ap, refl}
use Rattle.std.specs.Prelude.{option_map, None, Option, Some}
use Rattle.jl_ast.specs.Spans.{ident, map_forest, map_tree}
use Rattle.jl_ast.specs.Tree as tree
use Rattle.jl_ast.specs.View.{view_body, view_ident, view_statements}
use Rattle.jl_ast.specs.declared.tree.Body.{Body, out-Body}
use Rattle.jl_ast.specs.declared.tree.Function.{Function, out-Function}
use Rattle.jl_ast.specs.declared.tree.Ident.{Ident}
use Rattle.jl_scope.specs.Hoisting.{variables}
use Rattle.jl_scope.specs.Mentions.{mentions}
use Rattle.jl_scope.specs.Names.{arguments_name}
use Rattle.jl_heap.specs.Objects.{Name}
use Rattle.jl_store.specs.Declarations.{Declares}
use Rattle.jl_scope.proofs.Places.{mentions_same, variables_same}
use Rattle.jl_ast.proofs.Views.{body_is, function_is}
use Rattle.jl_meaning.specs.FunctionObjects.{function_body, function_name, function_params}
use Rattle.jl_store.specs.Plain.{names_of, plain_code, plain_function, plain_functions}

abbrev no_place : {S : Type 0} → tree.Ident S → tree.Ident ℕ
no_place x = ident (λ s. 0) x

-- a function without places, by its parts
pub plain_is : (f : Function) → plain_function f
    ≡ tree.function (out-Function f).number (option_map no_place (option_map view_ident (out-Function f).name))
    (map no_place (map view_ident (out-Function f).params)) (plain_code (out-Function f).body) 0
plain_is f = ap (map_tree (λ s. 0)) (function_is f)

pub body_plain : (b : Body) → plain_code b
    ≡ tree.body (out-Body b).strict (plain_functions (out-Body b).functions)
    (map_forest (λ s. 0) (view_statements (out-Body b).statements))
body_plain b = ap (map_tree (λ s. 0)) (body_is b)

texts : (xs : List Ident) → map (λ (x : tree.Ident ℕ). x.text) (map no_place (map view_ident xs)) ≡ names_of xs
texts [] = refl
texts (x ∷ xs) = ap (λ l. x.text ∷ l) (texts xs)

-- the names of its parameters
pub params_are : (f : Function) → function_params (plain_function f) ≡ names_of (out-Function f).params
params_are f = ap function_params (plain_is f) ∙ texts (out-Function f).params

pub body_is_plain : (f : Function) → function_body (plain_function f) ≡ plain_code (out-Function f).body
body_is_plain f = ap function_body (plain_is f)

name_of : (o : Option Ident) → option_map (λ (x : tree.Ident ℕ). x.text) (option_map no_place (option_map view_ident o))
    ≡ option_map (λ (x : Ident). x.text) o
name_of None = refl
name_of (Some x) = refl

-- the name of a function
pub name_is : (f : Function) (o : Option Ident) → (out-Function f).name ≡ o
    → function_name (plain_function f) ≡ option_map (λ (x : Ident). x.text) o
name_is f o is =
    ap function_name (plain_is f) ∙ name_of (out-Function f).name ∙ ap (option_map (λ (x : Ident). x.text)) is

-- what a body declares, without places and with them
pub declares_plain : (b : Body) (names : List Name) (mentioned : Bool) → names ≡ variables (view_body b)
    → mentioned ≡ mentions arguments_name (view_body b) → Declares (plain_code b) names mentioned
declares_plain b names mentioned are is = record {
  are_variables = are ∙ sym (variables_same (λ s. 0) (view_body b));
  is_mentioned = is ∙ sym (mentions_same (λ s. 0) arguments_name (view_body b));
}
