-- What a body declares (10.5): its variables, and its functions. Functions inside it declare nothing for it.
-- S is what says where a node stands.
use Rattle.std.specs.Prelude.{Bool, ◌||◌, List, [], ◌∷◌, ◌++◌, map, Option, Some, None, if◌then◌else◌}
use Rattle.jl_ast.specs.Tree.{Text, Ident, Sort, Tree, Forest, OptionalTree, func, code, function, body, var, block}
use Rattle.jl_ast.specs.Tree.{if_else}
use Rattle.jl_ast.specs.Tree.{do_while, while, for, for_in, labelled, switch, try, init_var, declarator, case}
use Rattle.jl_ast.specs.Tree.{branch_of, catch, end, more, absent, present}
use Rattle.jl_scope.specs.Names.{with_names}

-- the names of the variables that are declared, in the order of the text (12.2, 12.6)
abbrev mutual
  pub declared_in : {S : Type 0} {x : Sort} → Tree S x → List Text
  declared_in (body strict fs l) = declared_in_forest l
  declared_in (var l at) = declared_in_forest l
  declared_in (block l at) = declared_in_forest l
  declared_in (if_else c a b at) = declared_in_forest a ++ declared_in_optional b
  declared_in (do_while l c at) = declared_in_forest l
  declared_in (while c l at) = declared_in_forest l
  declared_in (for i c u l at) = declared_in i ++ declared_in_forest l
  declared_in (for_in is_var x o l at) = (if is_var then x.text ∷ [] else []) ++ declared_in_forest l
  declared_in (labelled x t at) = declared_in t
  declared_in (switch e l at) = declared_in_forest l
  declared_in (try l h f at) = declared_in_forest l ++ declared_in_optional h ++ declared_in_optional f
  declared_in (init_var l) = declared_in_forest l
  declared_in (declarator x e) = x.text ∷ []
  declared_in (case e l) = declared_in_forest l
  declared_in (branch_of l) = declared_in_forest l
  declared_in (catch x l) = declared_in_forest l
  declared_in _ = []

  pub declared_in_forest : {S : Type 0} {x : Sort} → Forest S x → List Text
  declared_in_forest end = []
  declared_in_forest (more t l) = declared_in t ++ declared_in_forest l

  pub declared_in_optional : {S : Type 0} {x : Sort} → OptionalTree S x → List Text
  declared_in_optional absent = []
  declared_in_optional (present t) = declared_in t

-- the variables of a body in the order of their first declarations, each once
abbrev pub variables : {S : Type 0} → Tree S code → List Text
variables b = with_names [] (declared_in b)

abbrev pub name_texts : {S : Type 0} → Option (Ident S) → List Text
name_texts None = []
name_texts (Some x) = x.text ∷ []

-- the names of declared functions
abbrev pub function_names : {S : Type 0} → Forest S func → List Text
function_names end = []
function_names (more (function number name params b at) l) = name_texts name ++ function_names l

-- what a body binds: its functions and its variables
abbrev pub bound_by_body : {S : Type 0} → Tree S code → List Text
bound_by_body (body strict fs l) = function_names fs ++ declared_in_forest l

-- what a function binds: its name, its parameters, and what its body does. That it binds `arguments` too is left out,
-- since only names of the global object are looked for.
abbrev pub bound_by_function : {S : Type 0} → Option (Ident S) → List (Ident S) → Tree S code → List Text
bound_by_function {S = S} name params b = name_texts name ++ map (λ (x : Ident S). x.text) params ++ bound_by_body b

-- whether a body is strict code (10.1.1), in code that is strict or not
abbrev pub strict_in : {S : Type 0} → Bool → Tree S code → Bool
strict_in outer (body strict fs l) = outer || strict
