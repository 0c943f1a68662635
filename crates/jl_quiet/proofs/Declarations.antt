-- What is declared: bodies with no ids bind what the bodies do, and a function with no ids is entered like the
-- function.
use Rattle.std.proofs.Common.{◌≡◌, ℕ, Bool, refl, sym}
use Rattle.jl_ast.specs.Tree as tree
use Rattle.jl_ast.specs.Tree.{Forest}
use Rattle.jl_scope.specs.Names.{arguments_name}
use Rattle.jl_scope.proofs.Places.{mentions_same, variables_same}
use Rattle.jl_value.specs.declared.value.Value.{Value}
use Rattle.jl_meaning.specs.DeclarationBinding.{declare_functions, declare_global_functions, declare_program}
use Rattle.jl_meaning.specs.Parts.{Call, Code, Context, Func}
use Rattle.jl_meaning.specs.forms.Functions.{enter_function}
use Rattle.jl_meaning.proofs.Declarations as meant
use Rattle.jl_meaning.proofs.Declarations.{body_declared, one_more, one_more_global, DeclaredAlike}
use Rattle.jl_quiet.proofs.Bare.{bare, bare_forest}
use Rattle.jl_quiet.proofs.MadeFunctions.{made_alike}
use Rattle.jl_quiet.proofs.Tables.{bare_function}

functions_same : (l : Forest ℕ tree.func) (c : Context) → declare_functions l c ≡ declare_functions (bare_forest l) c
functions_same tree.end c = refl
functions_same (tree.more f l) c = one_more (made_alike f) l (bare_forest l) c (functions_same l c)

global_functions_same : (l : Forest ℕ tree.func) (c : Context)
    → declare_global_functions l c ≡ declare_global_functions (bare_forest l) c
global_functions_same tree.end c = refl
global_functions_same (tree.more f l) c =
    one_more_global (made_alike f) l (bare_forest l) c (global_functions_same l c)

declared_alike : (b : Code) → DeclaredAlike b (bare b)
declared_alike (tree.body strict fs l) =
    body_declared strict strict fs (bare_forest fs) l (bare_forest l) (functions_same fs)
    (sym (mentions_same (λ s. 0) arguments_name (tree.body strict fs l)))
    (sym (variables_same (λ s. 0) (tree.body strict fs l)))

-- a function with no ids is entered like the function
pub enter_same : (f : Func) (strict : Bool) (env : ℕ) (this : Value) (call : Call)
    → enter_function (record { func = f; strict = strict }) env this call
    ≡ enter_function (bare_function (record { func = f; strict = strict })) env this call
enter_same (tree.function m x ps b s) strict env this call =
    meant.enter_same (made_alike (tree.function m x ps b s)) (declared_alike b) strict env this call

-- what the program declares
pub program_same : (b : Code) (c : Context) → declare_program b c ≡ declare_program (bare b) c
program_same (tree.body strict fs l) c =
    meant.program_same strict strict fs (bare_forest fs) l (bare_forest l) c (global_functions_same fs c)
    (sym (variables_same (λ s. 0) (tree.body strict fs l)))
