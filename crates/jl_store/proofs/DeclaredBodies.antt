-- The declarations of a body, one after another.
use Rattle.std.proofs.Common.{ℕ, Bool, List, subst, sym}
use Rattle.jl_ast.specs.Tree as tree
use Rattle.jl_ast.specs.Tree.{Forest}
use Rattle.jl_ast.specs.declared.tree.Body.{Body, out-Body}
use Rattle.jl_value.specs.declared.object.ObjId.{ObjId}
use Rattle.jl_value.specs.declared.value.Value.{Value}
use Rattle.jl_heap.specs.Objects.{Name}
use Rattle.jl_effects.specs.Running.{Ends}
use Rattle.jl_meaning.specs.DeclarationBinding.{bind_parameters, declare_body, declare_functions, declare_variables}
use Rattle.jl_meaning.specs.Parts.{gives, Context}
use Rattle.jl_meaning.specs.Store.{Store}
use Rattle.jl_store.specs.BigStep.{BigStep}
use Rattle.jl_store.specs.Declarations.{bind_arguments_where, Declares}
use Rattle.jl_store.specs.Plain.{plain_code, plain_functions}
use Rattle.jl_store.proofs.Chains.{comes_after}
use Rattle.jl_store.proofs.Trees.{body_plain}

module _ (names : List Name) (mentioned strict : Bool) (callee : ObjId) (params : List Name) (args : List Value)
    (c : Context) (s t u v w : Store) where
  tree_comes : (st : Bool) (fs : Forest ℕ tree.func) (l : Forest ℕ tree.stmt)
      → Declares (tree.body st fs l) names mentioned → BigStep (bind_parameters c.env params args) s t (Ends (gives tt))
      → BigStep (declare_functions fs c) t u (Ends (gives tt))
      → BigStep (bind_arguments_where mentioned strict callee c.env params args) u v (Ends (gives tt))
      → BigStep (declare_variables c.env names) v w (Ends (gives tt))
      → BigStep (declare_body (tree.body st fs l) strict callee params args c) s w (Ends (gives tt))
  unfolding declare_body
  tree_comes st fs l declares bound functions arguments vars =
      comes_after bound (comes_after functions (comes_after
      (subst (λ m. BigStep (bind_arguments_where m strict callee c.env params args) u v (Ends (gives tt)))
      declares.is_mentioned arguments)
      (subst (λ l. BigStep (declare_variables c.env l) v w (Ends (gives tt))) declares.are_variables vars)))

  pub body_comes : (b : Body) → Declares (plain_code b) names mentioned
      → BigStep (bind_parameters c.env params args) s t (Ends (gives tt))
      → BigStep (declare_functions (plain_functions (out-Body b).functions) c) t u (Ends (gives tt))
      → BigStep (bind_arguments_where mentioned strict callee c.env params args) u v (Ends (gives tt))
      → BigStep (declare_variables c.env names) v w (Ends (gives tt))
      → BigStep (declare_body (plain_code b) strict callee params args c) s w (Ends (gives tt))
  body_comes b declares bound functions arguments vars =
      subst (λ code. BigStep (declare_body code strict callee params args c) s w (Ends (gives tt))) (sym (body_plain b))
      (tree_comes _ _ _ (subst (λ code. Declares code names mentioned) (body_plain b) declares) bound functions
      arguments
      vars)
