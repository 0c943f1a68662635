-- Functions that are the same but for their places are made and entered in the same way, and declare the same.
use Rattle.std.proofs.Common.{◌≡◌, ◌∙◌, ℕ, Bool, List, [], ◌∷◌, None, Some, ap, refl, sym}
use Rattle.std.specs.Prelude.{map}
use Rattle.jl_ast.specs.Spans.{ident, map_forest, map_tree}
use Rattle.jl_ast.specs.Tree as tree
use Rattle.jl_ast.specs.Tree.{Forest}
use Rattle.jl_scope.specs.Names.{arguments_name}
use Rattle.jl_scope.proofs.Places.{mentions_same, variables_same}
use Rattle.jl_value.specs.declared.value.Value.{Value}
use Rattle.jl_meaning.specs.DeclarationBinding.{declare_functions, declare_global_functions, declare_program}
use Rattle.jl_meaning.specs.FunctionObjects.{ScriptFunction}
use Rattle.jl_meaning.specs.Parts.{Call, Code, Context, Func}
use Rattle.jl_meaning.specs.forms.Functions.{enter_function}
use Rattle.jl_meaning.proofs.Declarations as meant
use Rattle.jl_meaning.proofs.Declarations.{body_declared, one_more, one_more_global, DeclaredAlike}
use Rattle.jl_meaning.proofs.MadeFunctions.{MadeAlike}

abbrev pub map_function : (ℕ → ℕ) → ScriptFunction → ScriptFunction
map_function f x = record { func = map_tree f x.func; strict = x.strict }

module _ (f g : ℕ → ℕ) where
  pub params_same : (l : List (tree.Ident ℕ))
      → map (λ (x : tree.Ident ℕ). x.text) (map (ident f) l) ≡ map (λ (x : tree.Ident ℕ). x.text) (map (ident g) l)
  params_same [] = refl
  params_same (x ∷ l) = ap (λ names. x.text ∷ names) (params_same l)

  pub made_same : (x : Func) → MadeAlike (map_tree f x) (map_tree g x)
  made_same (tree.function m None params (tree.body strict fs l) s) =
      record { number = refl; name = refl; params = params_same params; strict = λ outer. refl }
  made_same (tree.function m (Some x) params (tree.body strict fs l) s) =
      record { number = refl; name = refl; params = params_same params; strict = λ outer. refl }

  functions_same : (l : Forest ℕ tree.func) (c : Context)
      → declare_functions (map_forest f l) c ≡ declare_functions (map_forest g l) c
  functions_same tree.end c = refl
  functions_same (tree.more x l) c = one_more (made_same x) (map_forest f l) (map_forest g l) c (functions_same l c)

  global_functions_same : (l : Forest ℕ tree.func) (c : Context)
      → declare_global_functions (map_forest f l) c ≡ declare_global_functions (map_forest g l) c
  global_functions_same tree.end c = refl
  global_functions_same (tree.more x l) c =
      one_more_global (made_same x) (map_forest f l) (map_forest g l) c (global_functions_same l c)

  declared_same : (b : Code) → DeclaredAlike (map_tree f b) (map_tree g b)
  declared_same (tree.body strict fs l) =
      let b : Code = tree.body strict fs l in
      body_declared strict strict (map_forest f fs) (map_forest g fs) (map_forest f l) (map_forest g l)
      (functions_same fs) (mentions_same f arguments_name b ∙ sym (mentions_same g arguments_name b))
      (variables_same f b ∙ sym (variables_same g b))

  -- a function is entered
  pub enter_same : (x : Func) (strict : Bool) (env : ℕ) (this : Value) (call : Call)
      → enter_function (map_function f (record { func = x; strict = strict })) env this call
      ≡ enter_function (map_function g (record { func = x; strict = strict })) env this call
  enter_same (tree.function m x ps b s) strict env this call =
      meant.enter_same (made_same (tree.function m x ps b s)) (declared_same b) strict env this call

  -- what a program declares
  pub program_same : (b : Code) (c : Context) → declare_program (map_tree f b) c ≡ declare_program (map_tree g b) c
  program_same (tree.body strict fs l) c =
      let b : Code = tree.body strict fs l in
      meant.program_same strict strict (map_forest f fs) (map_forest g fs) (map_forest f l) (map_forest g l) c
      (global_functions_same fs c) (variables_same f b ∙ sym (variables_same g b))
