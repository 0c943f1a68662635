-- Object literals, property by property.
use Rattle.std.proofs.Common.{◌≡◌, ◌∙◌, ◌∷◌, [], List, None, Some, sym, ap, subst, ℕ}
use Rattle.jl_ast.specs.View.{view_entries, view_entry, view_expression}
use Rattle.jl_ast.specs.declared.tree.Entry.{Entry}
use Rattle.jl_ast.specs.declared.tree.Entry as entry
use Rattle.jl_ast.specs.declared.tree.Expr.{Expr}
use Rattle.jl_ast.specs.declared.tree.Function.{Function}
use Rattle.jl_ast.specs.declared.tree.Ident.{Ident}
use Rattle.jl_ast.proofs.Views.{entry_Get, entry_Set, entry_Value}
use Rattle.jl_effects.specs.Running.{Ends}
use Rattle.jl_value.specs.declared.object.ObjId.{ObjId}
use Rattle.jl_value.specs.declared.value.Value.{Value}
use Rattle.jl_value.specs.declared.value.Value.TheVariants as value
use Rattle.jl_heap.specs.Objects.{Name}
use Rattle.jl_heap.specs.declared.property.Change.{Change}
use Rattle.jl_meaning.specs.Defining.{define_own_property, plain_change}
use Rattle.jl_meaning.specs.Expressions.{equip, equip_one, evaluate}
use Rattle.jl_meaning.specs.FunctionObjects.{FunctionTable}
use Rattle.jl_meaning.specs.Parts.{gives, lift, ◌>>=◌, Context}
use Rattle.jl_meaning.specs.Parts as parts
use Rattle.jl_meaning.specs.FunctionObjects.{make_function}
use Rattle.jl_meaning.specs.forms.Literals.{accessor_change, define_entry, literal_of, new_plain_object, of_object}
use Rattle.jl_store.specs.BigStep.{BigStep}
use Rattle.jl_store.specs.Plain.{plain_function}
use Rattle.jl_state.specs.AlgorithmFrames.{after_define}
use Rattle.jl_state.specs.Rest.{RefinesExpression, RefinesAlgorithm}
use Rattle.jl_state.specs.Steps.{Supplies, ValueWaits}
use Rattle.jl_state.specs.Trees.{items_left, plain, plain_forest}
use Rattle.jl_state.specs.Words.{context_of, table_of}
use Rattle.jl_state.specs.declared.act.Act.{Act}
use Rattle.jl_state.specs.declared.algorithm_frame.AfterDefine.TheVariants as written_by
use Rattle.jl_state.specs.declared.frame.Here.{Here}
use Rattle.jl_state.specs.declared.remaining.Remaining.{Remaining}
use Rattle.jl_state.specs.declared.state.State.{State}
use Rattle.jl_state.specs.declared.value_frame.ValueFrame.TheVariants as waiting
use Rattle.jl_state.proofs.Stores.{gives_comes, IsStored}
use Rattle.jl_literal.specs.Filling.{object_from}
use Rattle.jl_literal.proofs.Chains.{lifted_then}
use Rattle.jl_meaning.proofs.Binds.{bind_assoc}

-- the properties that are left, by the first of them
module _ (s t : State) (a : Act) (l : List Entry) (object : ObjId) (here : Here) where
  abbrev equipped : List Entry → parts.Part (parts.Answer Value)
  equipped m = object_from (table_of s.functions) (plain_forest (view_entries m)) object (context_of s.calls here)

  pub object_ends : l ≡ [] → RefinesExpression s (literal_of of_object 0 (value.Obj object)) t a
      → RefinesExpression s (equipped l) t a
  object_ends is refines = subst (λ (m : List Entry). RefinesExpression s (equipped m) t a) (sym is) refines

  pub object_goes_on : (x : Entry) (m : List Entry) → l ≡ x ∷ m
      → RefinesExpression s (equip_one (table_of s.functions) (plain (view_entry x)) object (context_of s.calls here)
      >>= λ _. equipped m) t a → RefinesExpression s (equipped l) t a
  object_goes_on x m is refines =
      subst (λ (m : List Entry). RefinesExpression s (equipped m) t a) (sym is)
      (subst (λ p. RefinesExpression s p t a)
      (sym (bind_assoc (equip_one (table_of s.functions) (plain (view_entry x)) object (context_of s.calls here))
      (λ _. equip (table_of s.functions) (plain_forest (view_entries m)) object (context_of s.calls here))
      (λ _. literal_of of_object 0 (value.Obj object)))) refines)

-- a value is evaluated, then the property is defined, and then those that are left
pub value_first : (table : FunctionTable) (e : parts.Expr) (object : ObjId) (x : Name) (c : Context)
    (q : parts.Part (parts.Answer Value))
    → (evaluate table e c >>= λ v. define_entry object x (plain_change v) >>= λ _. q)
    ≡ (evaluate table e c >>= (λ v. define_entry object x (plain_change v)) >>= λ _. q)
value_first table e object x c q =
    sym (bind_assoc (evaluate table e c) (λ v. define_entry object x (plain_change v)) (λ _. q))

-- an object literal begins with its properties
pub object_begun : (s t : State) → IsStored s t → (object : ObjId) (entries : List Entry) (here : Here) (u : State)
    (a : Act) → BigStep new_plain_object s.store t.store (Ends (gives object))
    → RefinesExpression t (object_from (table_of t.functions) (plain_forest (view_entries entries)) object
    (context_of t.calls here)) u a
    → RefinesExpression s (lift new_plain_object >>= λ object. object_from (table_of s.functions)
    (plain_forest (view_entries entries))
    object (context_of s.calls here)) u a
object_begun s t stored object entries here u a comes refines =
    gives_comes s t stored new_plain_object object (equipping s) u a comes
    (subst (λ p. RefinesExpression t p u a) (ap (λ (w : State). equipping w object) stored) refines)
  where
    equipping : State → ObjId → parts.Part (parts.Answer Value)
    equipping w o = object_from (table_of w.functions) (plain_forest (view_entries entries)) o (context_of w.calls here)

-- a function is made, then the property is defined, and then those that are left
module _ (s t : State) (stored : IsStored s t) (object : ObjId) (x : Ident) (f : Function) (rest : Remaining Entry)
    (here : Here) (made : ObjId) (change : Change) (u : State) (a : Act)
    (comes : BigStep (make_function here.strict here.env (plain_function f)) s.store t.store (Ends (gives made))) where
  abbrev left : State → parts.Part (parts.Answer Value)
  left w = object_from (table_of w.functions) (plain_forest (view_entries (items_left rest))) object
      (context_of w.calls here)

  accessor_first : (defined : ObjId → Change) → change ≡ defined made
      → RefinesExpression t (define_entry object x.text change >>= λ _. left t) u a
      → RefinesExpression s (lift (make_function here.strict here.env (plain_function f))
      >>= (λ g. define_entry object x.text (defined g)) >>= λ _. left s) u a
  accessor_first defined is refines =
      subst (λ p. RefinesExpression s p u a)
      (sym (bind_assoc (lift (make_function here.strict here.env (plain_function f)))
      (λ g. define_entry object x.text (defined g)) (λ _. left s)))
      (gives_comes s t stored (make_function here.strict here.env (plain_function f)) made
      (λ g. define_entry object x.text (defined g) >>= λ _. left s) u a comes
      (subst (λ c. RefinesExpression t (define_entry object x.text c >>= λ _. left s) u a) is
      (subst (λ p. RefinesExpression t (define_entry object x.text change >>= λ _. p) u a) (ap left stored) refines)))

  pub getter_first : (e : Entry) → e ≡ entry.Get x f → change ≡ accessor_change (Some (Some made)) None
      → RefinesExpression t (define_entry object x.text change >>= λ _. left t) u a
      → RefinesExpression s (equip_one (table_of s.functions) (plain (view_entry e)) object (context_of s.calls here)
      >>= λ _. left s) u a
  getter_first e of_it is refines =
      subst (λ p. RefinesExpression s (equip_one (table_of s.functions) p object (context_of s.calls here) >>=
      λ _. left s) u a)
      (sym (ap (λ d. plain (view_entry d)) of_it ∙ ap plain (entry_Get x f)))
      (accessor_first (λ g. accessor_change (Some (Some g)) None) is refines)

  pub setter_first : (e : Entry) → e ≡ entry.Set x f → change ≡ accessor_change None (Some (Some made))
      → RefinesExpression t (define_entry object x.text change >>= λ _. left t) u a
      → RefinesExpression s (equip_one (table_of s.functions) (plain (view_entry e)) object (context_of s.calls here)
      >>= λ _. left s) u a
  setter_first e of_it is refines =
      subst (λ p. RefinesExpression s (equip_one (table_of s.functions) p object (context_of s.calls here) >>=
      λ _. left s) u a)
      (sym (ap (λ d. plain (view_entry d)) of_it ∙ ap plain (entry_Set x f)))
      (accessor_first (λ g. accessor_change None (Some (Some g))) is refines)

-- a value is evaluated, for which the property waits
module _ (s u : State) (a : Act) (object : ObjId) (x : Ident) (e : Expr) (rest : Remaining Entry) (here : Here) where
  abbrev others : parts.Part (parts.Answer Value)
  others =
      object_from (table_of s.functions) (plain_forest (view_entries (items_left rest))) object
      (context_of s.calls here)

  pub value_entry : (d : Entry) → d ≡ entry.Value x e
      → RefinesExpression s (evaluate (table_of s.functions) (plain (view_expression e)) (context_of s.calls here)
      >>= λ v. define_entry object x.text (plain_change v) >>= λ _. others) u a
      → RefinesExpression s (equip_one (table_of s.functions) (plain (view_entry d)) object (context_of s.calls here)
      >>= λ _. others) u a
  value_entry d of_it refines =
      subst (λ p. RefinesExpression s (equip_one (table_of s.functions) p object (context_of s.calls here) >>=
      λ _. others) u a)
      (sym (ap (λ d. plain (view_entry d)) of_it ∙ ap plain (entry_Value x e)))
      (subst (λ p. RefinesExpression s p u a)
      (value_first (table_of s.functions) (plain (view_expression e)) object x.text (context_of s.calls here) others)
      refines)

-- where it has a value at once, no frame waits
pub leaf_entry : (s t u : State) (a : Act) (object : ObjId) (x : Name) (e : Expr) (rest : Remaining Entry) (here : Here)
    (v : Value) (change : Change) (n : ℕ) → t ≡ record s { left = n } → change ≡ plain_change v
    → Supplies s (evaluate (table_of s.functions) (plain (view_expression e)) (context_of s.calls here)) v t
    → RefinesExpression t (define_entry object x change >>= λ _. object_from (table_of t.functions)
    (plain_forest (view_entries (items_left rest))) object (context_of t.calls here)) u a
    → RefinesExpression s (evaluate (table_of s.functions) (plain (view_expression e)) (context_of s.calls here)
    >>= λ w. define_entry object x (plain_change w) >>= λ _. object_from (table_of s.functions)
    (plain_forest (view_entries (items_left rest))) object (context_of s.calls here)) u a
leaf_entry s t u a object x e rest here v change n same is supplied refines =
    supplied.gives (λ w. define_entry object x (plain_change w) >>= λ _. others s) u a
    (subst (λ c. RefinesExpression t (define_entry object x c >>= λ _. others s) u a) is
    (subst (λ p. RefinesExpression t (define_entry object x change >>= λ _. p) u a) (ap others same) refines))
  where
    others : State → parts.Part (parts.Answer Value)
    others w = object_from (table_of w.functions) (plain_forest (view_entries (items_left rest))) object
        (context_of w.calls here)

pub entry_defined : (s t u : State) (a : Act) (object : ObjId) (x : Name) (change : Change) (rest : Remaining Entry)
    (here : Here) → ValueWaits s (waiting.Entries object rest here) t
    → RefinesAlgorithm t (define_own_property object x change >>= after_define written_by.Literal) u a
    → RefinesExpression s (define_entry object x change >>= λ _. object_from (table_of s.functions)
    (plain_forest (view_entries (items_left rest))) object (context_of s.calls here)) u a
unfolding define_entry
entry_defined s t u a object x change rest here waits refines =
    subst (λ p. RefinesExpression s p u a)
    (lifted_then (define_own_property object x change) value.Undefined (object_from (table_of s.functions)
    (plain_forest (view_entries (items_left rest))) object (context_of s.calls here)))
    (waits.works _ u a refines)
