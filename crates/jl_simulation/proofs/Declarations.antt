-- What is declared: woven bodies bind what the bodies do, and a woven function is entered like the function.
use Rattle.std.proofs.Common.{◌≡◌, ℕ, ◌+◌, Bool, false, bytes_eq, refl, sym}
use Rattle.jl_ast.specs.Tree as tree
use Rattle.jl_ast.specs.Tree.{Forest}
use Rattle.jl_scope.specs.Hoisting.{variables}
use Rattle.jl_scope.specs.Names.{arguments_name, hooks_name}
use Rattle.jl_value.specs.declared.value.Value.{Value}
use Rattle.jl_op.specs.Chosen.{Kinds}
use Rattle.jl_op.specs.Ids.{forest_with_ids, id_count, with_ids}
use Rattle.jl_meaning.specs.DeclarationBinding.{declare_functions, declare_global_functions, declare_program}
use Rattle.jl_meaning.specs.FunctionObjects.{ScriptFunction}
use Rattle.jl_meaning.specs.Parts.{Call, Code, Context, Func}
use Rattle.jl_meaning.specs.forms.Functions.{enter_function}
use Rattle.jl_meaning.proofs.Declarations as meant
use Rattle.jl_meaning.proofs.Declarations.{body_declared, one_more, one_more_global, DeclaredAlike}
use Rattle.jl_simulation.specs.Weaving.{weave, woven_body, woven_forest}
use Rattle.jl_simulation.proofs.MadeFunctions.{made_alike}
use Rattle.jl_simulation.proofs.Mentions.{body_same, body_variables}

pub arguments_other : bytes_eq arguments_name hooks_name ≡ false
unfolding arguments_name hooks_name
arguments_other = refl

abbrev pub function_of : Func → (strict : Bool) → ScriptFunction
function_of f strict = record { func = f; strict = strict }

module _ (chosen : Kinds) where
  functions_same : (l : Forest ℕ tree.func) (n : ℕ) (c : Context)
      → declare_functions l c ≡ declare_functions (forest_with_ids n (woven_forest chosen l)) c
  functions_same tree.end n c = refl
  functions_same (tree.more f l) n c =
      one_more (made_alike chosen n f) l (forest_with_ids (n + id_count (weave chosen f)) (woven_forest chosen l)) c
      (functions_same l (n + id_count (weave chosen f)) c)

  global_functions_same : (l : Forest ℕ tree.func) (n : ℕ) (c : Context)
      → declare_global_functions l c ≡ declare_global_functions (forest_with_ids n (woven_forest chosen l)) c
  global_functions_same tree.end n c = refl
  global_functions_same (tree.more f l) n c =
      one_more_global (made_alike chosen n f) l
      (forest_with_ids (n + id_count (weave chosen f)) (woven_forest chosen l)) c
      (global_functions_same l (n + id_count (weave chosen f)) c)

  declared_alike : (b : Code) (id n : ℕ) → DeclaredAlike b (with_ids n (woven_body chosen id b))
  declared_alike (tree.body strict fs l) id n =
      body_declared strict strict fs (forest_with_ids n (woven_forest chosen fs)) l _ (functions_same fs n)
      (sym (body_same chosen arguments_name arguments_other (tree.body strict fs l) id n))
      (sym (body_variables chosen (tree.body strict fs l) id n))

  -- a woven function is entered like the function
  pub enter_same : (f : Func) (strict : Bool) (n env : ℕ) (this : Value) (call : Call)
      → enter_function (function_of f strict) env this call
      ≡ enter_function (function_of (with_ids n (weave chosen f)) strict) env this call
  enter_same (tree.function m x ps b s) strict n env this call =
      meant.enter_same (made_alike chosen n (tree.function m x ps b s)) (declared_alike b s (n + 2)) strict env this
      call

  -- what the program declares
  pub program_same : (strict : Bool) (fs : Forest ℕ tree.func) (l l' : Forest ℕ tree.stmt) (n : ℕ) (c : Context)
      → variables (tree.body strict fs l) ≡ variables (tree.body strict (forest_with_ids n (woven_forest chosen fs)) l')
      → declare_program (tree.body strict fs l) c
      ≡ declare_program (tree.body strict (forest_with_ids n (woven_forest chosen fs)) l') c
  program_same strict fs l l' n c names =
      meant.program_same strict strict fs (forest_with_ids n (woven_forest chosen fs)) l l' c
      (global_functions_same fs n c) names
