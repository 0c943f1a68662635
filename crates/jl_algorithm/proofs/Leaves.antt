-- Values that are there at once: whatever waits for them goes on without a frame.
use Rattle.std.proofs.Common.{◌≡◌, ◌-◌, ◌<◌, ap, if◌then◌else◌, refl, subst, sym, false, true, Bool}
use Rattle.std.proofs.Common.{Err, IfOk, IfSome, None, Ok, Option, Result, Some, ℕ}
use Rattle.jl_text.specs.declared.span.Span.{Span}
use Rattle.jl_ast.specs.Tree.{Tree}
use Rattle.jl_ast.specs.Tree as tree
use Rattle.jl_ast.specs.View.{view_expression}
use Rattle.jl_ast.specs.declared.tree.Expr.{Expr}
use Rattle.jl_value.specs.declared.ending.Fault.TheVariants.{Misuse}
use Rattle.jl_value.specs.declared.value.Value.{Value}
use Rattle.jl_value.specs.declared.value.Value.TheVariants as value
use Rattle.jl_heap.specs.Describe.{seen_of}
use Rattle.jl_heap.specs.Objects.{Name}
use Rattle.jl_heap.specs.declared.property.Prop.TheVariants.{Accessor, Plain}
use Rattle.jl_op.specs.declared.op.Op.{Op}
use Rattle.jl_op.specs.declared.op.Op.TheVariants as op
use Rattle.jl_effects.specs.Effects.{Fail, Look, Perform}
use Rattle.jl_effects.specs.Running.{Ends}
use Rattle.jl_meaning.specs.Expressions.{evaluate, this_of}
use Rattle.jl_meaning.specs.Getting.{get, value_of_property}
use Rattle.jl_meaning.specs.Intrinsics.{global_object}
use Rattle.jl_meaning.specs.Noting.{performs}
use Rattle.jl_meaning.specs.Parts.{give, gives, lift, ◌>>=◌, Answer, Context, Part}
use Rattle.jl_meaning.specs.Properties.{get_property, property_of_value, Property}
use Rattle.jl_meaning.specs.References.{get_name, get_value, identifier_reference, in_environment}
use Rattle.jl_meaning.specs.References.{on_global_object, unresolvable, Reference}
use Rattle.jl_meaning.specs.Store.{Store}
use Rattle.jl_meaning.specs.forms.Literals.{literal}
use Rattle.jl_meaning.specs.forms.Names.{is_hooks, read_name}
use Rattle.jl_store.specs.BigStep.{BigStep}
use Rattle.jl_store.specs.LookUps.{value_held, value_referred}
use Rattle.jl_state.specs.Steps.{Supplies, Took}
use Rattle.jl_state.specs.Trees.{plain}
use Rattle.jl_state.specs.Words.{context_of, table_of}
use Rattle.jl_state.specs.declared.frame.Here.{Here}
use Rattle.jl_state.specs.declared.state.State.{State}
use Rattle.jl_state.proofs.Leaves.{supplies_comes, supplies_given, supplies_literal, supplies_noted, supplies_step}
use Rattle.jl_algorithm.specs.inner.Leaves.{value_at_once, value_of_name}

-- names

same_value : (v w : Value) → Some v ≡ Some w → v ≡ w
same_value v w e = cc

comes_held : (store : Store) (this v : Value) (property : Option Property) → value_held property ≡ Some v
    → BigStep (value_of_property this property) store store (Ends (gives v))
comes_held store this v None e = absurd (let differ = e in cc)
comes_held store this v (Some (own, Accessor get set _ _)) e = absurd (let differ = e in cc)
comes_held store this v (Some (own, Plain w _ _ _)) e =
    record { refines = (ap (λ (x : Value). Ends (gives x)) (same_value w v e), refl) }

comes_referred : (store : Store) (x : Name) (v : Value) (r : Reference) → value_referred store x r ≡ Some v
    → BigStep (get_value x r) store store (Ends (gives v))
unfolding get_value get property_of_value
comes_referred store x v (in_environment env) e =
    record { refines = (ap (λ (w : Value). Ends (gives w)) (same_value _ v e), refl) }
comes_referred store x v on_global_object e =
    record { refines = (comes_held store (value.Obj global_object) v (get_property store global_object.0 x) e).refines }
comes_referred store x v unresolvable e = absurd (let differ = e in cc)

comes_named : (store : Store) (env : ℕ) (x : Name) (v : Value)
    → value_referred store x (identifier_reference store env x) ≡ Some v
    → BigStep (get_name env x) store store (Ends (gives v))
unfolding get_name
comes_named store env x v e =
    record { refines = (comes_referred store x v (identifier_reference store env x) e).refines }

supplies_name : (s : State) (c : Context) (x : Name) (v : Value) → value_of_name s.store c.env x ≡ Some v
    → Supplies s (read_name 0 c x) v s
unfolding read_name
supplies_name s c x v e = by (is_hooks x) e
  where
    read : Part (Answer Value)
    read = lift (get_name c.env x) >>= λ w. Look (λ store. Perform (record { 0 = 0 }, op.Read x (seen_of store.heap w))
        (give w))

    by : (b : Bool)
        → (if b then None else value_referred s.store x (identifier_reference s.store c.env x)) ≡ Some v
        → Supplies s (if b then Fail Misuse else read) v s
    by true e = absurd (let differ = e in cc)
    by false e =
        supplies_noted (λ store w. (record { 0 = 0 }, op.Read x (seen_of store.heap w))) s (lift (get_name c.env x)) v
        (supplies_comes s (get_name c.env x) v (comes_named s.store c.env x v e))

-- expressions

abbrev literal_of : State → Value → Op
literal_of s v = op.Literal (seen_of s.store.heap v)

supplies_expression : (s t : State) (e : Tree Span tree.expr) (here : Here) (v : Value) → Took s t
    → value_at_once t.store (context_of s.calls here) (plain e) ≡ Some v
    → Supplies s (evaluate (table_of s.functions) (plain e) (context_of s.calls here)) v t
supplies_expression s t (tree.this at) here v took e =
    supplies_step s t (give (this_of (context_of s.calls here))) v took
    (subst (λ w. Supplies t (give (this_of (context_of s.calls here))) w t) (same_value _ v e)
    (supplies_given t (this_of (context_of s.calls here))))
supplies_expression s t (tree.name x at) here v took e =
    supplies_step s t (read_name 0 (context_of s.calls here) x) v took
    (supplies_name t (context_of s.calls here) x v e)
supplies_expression s t (tree.number m at) here v took e =
    supplies_step s t (literal performs 0 (value.Num m)) v took
    (subst (λ w. Supplies t (literal performs 0 (value.Num m)) w t) (same_value _ v e)
    (supplies_literal t (value.Num m) (literal_of t (value.Num m)) refl))
supplies_expression s t (tree.string text at) here v took e =
    supplies_step s t (literal performs 0 (value.Text text)) v took
    (subst (λ w. Supplies t (literal performs 0 (value.Text text)) w t) (same_value _ v e)
    (supplies_literal t (value.Text text) (literal_of t (value.Text text)) refl))
supplies_expression s t (tree.boolean b at) here v took e =
    supplies_step s t (literal performs 0 (value.Bool b)) v took
    (subst (λ w. Supplies t (literal performs 0 (value.Bool b)) w t) (same_value _ v e)
    (supplies_literal t (value.Bool b) (literal_of t (value.Bool b)) refl))
supplies_expression s t (tree.null at) here v took e =
    supplies_step s t (literal performs 0 value.Null) v took
    (subst (λ w. Supplies t (literal performs 0 value.Null) w t) (same_value _ v e)
    (supplies_literal t value.Null (literal_of t value.Null) refl))
supplies_expression s t e here v took none = absurd (let differ = none in cc)

pub supplies_leaf : {E : Type 0} (s : State) (e : Expr) (here : Here) (r : Result (Option Value) E)
    → IfOk r (λ o. IfSome o (λ v. value_at_once s.store (context_of s.calls here) (plain (view_expression e)) ≡ Some v))
    → IfOk r (λ o. IfSome o (λ v. (t : State) → Took s t → t ≡ record s { left = s.left - 1 }
    → Supplies s (evaluate (table_of s.functions) (plain (view_expression e)) (context_of s.calls here)) v t))
supplies_leaf s e here (Err none) is = tt
supplies_leaf s e here (Ok None) is = tt
supplies_leaf s e here (Ok (Some v)) is = λ t took same.
    supplies_expression s t (view_expression e) here v took
    (subst (λ (w : Store). value_at_once w (context_of s.calls here) (plain (view_expression e)) ≡ Some v)
    (sym (ap (λ (u : State). u.store) same)) is)

pub leaf_left : {E : Type 0} (n : ℕ) (r : Result (Option Value) E) → 0 < n → IfOk r (λ o. IfSome o (λ v. 0 < n))
leaf_left n (Err none) more = tt
leaf_left n (Ok None) more = tt
leaf_left n (Ok (Some v)) more = more

-- the value of a name that is no hook's, by what it refers to

pub name_of_hooks : (store : Store) (env : ℕ) (x : Name) → is_hooks x ≡ true → None ≡ value_of_name store env x
name_of_hooks store env x is =
    subst (λ b. None ≡ (if b then None else value_referred store x (identifier_reference store env x))) (sym is) refl
