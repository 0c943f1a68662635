-- What woven trees are not: what is no name is woven to none, what is no member to none, and what is called as it
-- stands
-- is no first call of a pair.
use Rattle.std.proofs.Common.{◌≡◌, ℕ, ◌+◌, List, [], Bool, true, false, Option, Some, None, codes, refl, sym, ap, subst}
use Rattle.std.specs.Prelude.{if◌then◌else◌}
use Rattle.jl_ast.specs.Tree as tree
use Rattle.jl_ast.specs.Tree.{Text, Tree}
use Rattle.jl_ast.specs.declared.ops.BinOp.{BinOp}
use Rattle.jl_ast.specs.declared.ops.UnOp.TheVariants as un
use Rattle.jl_value.specs.declared.value.Value.{Value}
use Rattle.jl_value.specs.declared.value.Value.TheVariants as value
use Rattle.jl_op.specs.Chosen.{Kinds}
use Rattle.jl_op.specs.Ids.{id_count, forest_with_ids, with_ids}
use Rattle.jl_op.specs.declared.kind.OpKind.TheVariants as kind
use Rattle.jl_op.specs.declared.sign.UnKind.TheVariants as unary
use Rattle.jl_effects.specs.Effects.{Step}
use Rattle.jl_meaning.specs.Expressions.{evaluate, evaluate_all}
use Rattle.jl_meaning.specs.FunctionObjects.{FunctionTable}
use Rattle.jl_meaning.specs.Noting.{performs}
use Rattle.jl_meaning.specs.Parts.{Answer, Context, Expr, Exprs, Part, ◌>>=◌, give}
use Rattle.jl_meaning.specs.forms.Calls.{call_value}
use Rattle.jl_meaning.specs.forms.HookCalls.{count, form_named, form_of, form_of_member, hook, hooks, no_hook, opener}
use Rattle.jl_meaning.specs.forms.HookCalls.{openers, shape_named, CalleeForm, Hook, Shape}
use Rattle.jl_meaning.specs.forms.Hooks.{call_of_call, Arguments}
use Rattle.jl_meaning.specs.forms.Operators.{operate_on}
use Rattle.jl_simulation.specs.HookCalls as weaving
use Rattle.jl_simulation.specs.Weaving as rewriting
use Rattle.jl_simulation.specs.Weaving.{weave, woven_callee}
use Rattle.jl_simulation.specs.inner.Fit.{Fits}
use Rattle.jl_simulation.proofs.HookNames.{hook_form, form_B, form_I, form_R, form_T, form_U, form_Y, form_Z}

abbrev pub IsNoName : {S : Type 0} → Tree S tree.expr → Type 0
IsNoName (tree.name x s) = ⊥
IsNoName _ = Unit {0}

abbrev pub IsNoMember : {S : Type 0} → Tree S tree.expr → Type 0
IsNoMember (tree.dot o k s) = ⊥
IsNoMember (tree.index o k s) = ⊥
IsNoMember _ = Unit {0}

-- no name and no member
abbrev pub IsOther : {S : Type 0} → Tree S tree.expr → Type 0
IsOther (tree.name x s) = ⊥
IsOther (tree.dot o k s) = ⊥
IsOther (tree.index o k s) = ⊥
IsOther _ = Unit {0}

no_name : (e : weaving.Expr) → IsOther e → IsNoName e
no_name (tree.name x s) h = absurd h
no_name _ h = tt

no_member : (e : weaving.Expr) → IsOther e → IsNoMember e
no_member (tree.dot o k s) h = absurd h
no_member (tree.index o k s) h = absurd h
no_member _ h = tt

-- IDS LEAVE FORMS AS THEY ARE
other_with_ids : (j : ℕ) (e : weaving.Expr) → IsOther e → IsOther (with_ids j e)
other_with_ids j (tree.name x s) h = absurd h
other_with_ids j (tree.dot o k s) h = absurd h
other_with_ids j (tree.index o k s) h = absurd h
other_with_ids j (tree.unary un.Delete e s) h = tt
other_with_ids j (tree.unary o e s) h = tt
other_with_ids j _ h = tt

no_name_with_ids : (j : ℕ) (e : weaving.Expr) → IsNoName e → IsNoName (with_ids j e)
no_name_with_ids j (tree.name x s) h = absurd h
no_name_with_ids j (tree.unary un.Delete e s) h = tt
no_name_with_ids j (tree.unary o e s) h = tt
no_name_with_ids j _ h = tt

no_member_with_ids : (j : ℕ) (e : weaving.Expr) → IsNoMember e → IsNoMember (with_ids j e)
no_member_with_ids j (tree.dot o k s) h = absurd h
no_member_with_ids j (tree.index o k s) h = absurd h
no_member_with_ids j (tree.unary un.Delete e s) h = tt
no_member_with_ids j (tree.unary o e s) h = tt
no_member_with_ids j _ h = tt

-- WEAVING LEAVES WHAT IS NO NAME AND NO MEMBER
-- of both ways, which a choice may take
way : (P : weaving.Expr → Type 0) (b : Bool) (x y : weaving.Expr) → P x → P y → P (if b then x else y)
way P true x y p q = p
way P false x y p q = q

module _ (chosen : Kinds) where
  typeof_other : (id : ℕ) (e : Expr) (w : weaving.Expr) → IsOther (rewriting.woven_typeof chosen id e w)
  typeof_other id (tree.name x s) w = way IsOther (chosen kind.TypeofName) _ _ tt tt
  typeof_other id _ w = way IsOther (chosen kind.Unary) _ _ tt tt

  delete_other : (id : ℕ) (e : Expr) (w : weaving.Expr) → IsOther (rewriting.woven_delete chosen e w id)
  delete_other id (tree.name x s) w = tt
  delete_other id (tree.dot o k s) w = way IsOther (chosen kind.DeleteField) _ _ tt tt
  delete_other id (tree.index o k s) w = way IsOther (chosen kind.DeleteField) _ _ tt tt
  delete_other id _ w = tt

  update_other : (id : ℕ) (up prefix : Bool) (t : Tree ℕ tree.target)
      → IsOther (weaving.before_update up prefix (rewriting.woven_update chosen up t id))
  update_other id true false t = tt
  update_other id false false t = tt
  update_other id up true (tree.to_name x) = tt
  update_other id up true (tree.to_dot o k s) = tt
  update_other id up true (tree.to_index o k s) = tt

  assign_other : (id : ℕ) (o : Option BinOp) (t : Tree ℕ tree.target) (w : weaving.Expr)
      → IsOther (rewriting.woven_assignment chosen o t w id)
  assign_other id None (tree.to_name x) w = tt
  assign_other id (Some q) (tree.to_name x) w = tt
  assign_other id None (tree.to_dot o k s) w = tt
  assign_other id (Some q) (tree.to_dot o k s) w = tt
  assign_other id None (tree.to_index o k s) w = tt
  assign_other id (Some q) (tree.to_index o k s) w = tt

  woven_other : (e : Expr) → IsOther e → IsOther (weave chosen e)
  woven_other (tree.name x s) h = absurd h
  woven_other (tree.dot o k s) h = absurd h
  woven_other (tree.index o k s) h = absurd h
  woven_other (tree.number m s) h = way IsOther (chosen kind.Literal) _ _ tt tt
  woven_other (tree.string m s) h = way IsOther (chosen kind.Literal) _ _ tt tt
  woven_other (tree.boolean m s) h = way IsOther (chosen kind.Literal) _ _ tt tt
  woven_other (tree.null s) h = way IsOther (chosen kind.Literal) _ _ tt tt
  woven_other (tree.array l s) h = way IsOther (chosen kind.ArrayLiteral) _ _ tt tt
  woven_other (tree.object l s) h = way IsOther (chosen kind.ObjectLiteral) _ _ tt tt
  woven_other (tree.function_expression l s) h = way IsOther (chosen kind.FunctionLiteral) _ _ tt tt
  woven_other (tree.new f l s) h = way IsOther (rewriting.calls chosen) _ _ tt tt
  woven_other (tree.unary un.Typeof e s) h = typeof_other s e (weave chosen e)
  woven_other (tree.unary un.Delete e s) h = delete_other s e (weave chosen e)
  woven_other (tree.unary o e s) h = way IsOther (chosen kind.Unary) _ _ tt tt
  woven_other (tree.update up prefix t s) h =
      way IsOther (rewriting.computes chosen t kind.Unary) _ _ (update_other s up prefix t) tt
  woven_other (tree.binary o a b s) h = way IsOther (chosen kind.Binary) _ _ tt tt
  woven_other (tree.assign o t e s) h =
      way IsOther (rewriting.assigns chosen o t) _ _ (assign_other s o t (weave chosen e)) tt
  woven_other _ h = tt

  woven_no_name : (e : Expr) → IsNoName e → IsNoName (weave chosen e)
  woven_no_name (tree.name x s) h = absurd h
  woven_no_name (tree.dot o k s) h = way IsNoName (chosen kind.GetField) _ _ tt tt
  woven_no_name (tree.index o k s) h = way IsNoName (chosen kind.GetField) _ _ tt tt
  woven_no_name e h = no_name (weave chosen e) (woven_other e tt)

  pub woven_no_member : (e : Expr) → IsNoMember e → IsNoMember (weave chosen e)
  woven_no_member (tree.dot o k s) h = absurd h
  woven_no_member (tree.index o k s) h = absurd h
  woven_no_member (tree.name x s) h = way IsNoMember (chosen kind.Read) _ _ tt tt
  woven_no_member e h = no_member (weave chosen e) (woven_other e tt)

  -- what `typeof` and `delete` of what is no name, or no member either, do
  pub typeof_as_is : (table : FunctionTable) (c : Context) (e : Expr) → IsNoName e → (j : ℕ)
      → evaluate table (with_ids j (tree.unary un.Typeof (weave chosen e) tt)) c
      ≡ Step (evaluate table (with_ids (j + 1) (weave chosen e)) c >>= (λ v. operate_on performs j unary.Typeof v))
  typeof_as_is table c e h j =
      at (with_ids (j + 1) (weave chosen e)) (no_name_with_ids (j + 1) (weave chosen e) (woven_no_name e h))
    where
      at : (e : Expr) → IsNoName e
          → evaluate table (tree.unary un.Typeof e j) c
          ≡ Step (evaluate table e c >>= (λ v. operate_on performs j unary.Typeof v))
      at (tree.name x s) h = absurd h
      at _ h = refl

  pub delete_as_is : (table : FunctionTable) (c : Context) (e : Expr) → IsOther e → (j : ℕ)
      → evaluate table (with_ids j (tree.unary un.Delete (weave chosen e) tt)) c
      ≡ Step (evaluate table (with_ids j (weave chosen e)) c >>= (λ _. give (value.Bool true)))
  delete_as_is table c e h j =
      at (with_ids j (weave chosen e)) (other_with_ids j (weave chosen e) (woven_other e h))
    where
      at : (e : Expr) → IsOther e
          → evaluate table (tree.unary un.Delete e j) c ≡ Step (evaluate table e c >>= (λ _. give (value.Bool true)))
      at (tree.name x s) h = absurd h
      at (tree.dot o k s) h = absurd h
      at (tree.index o k s) h = absurd h
      at _ h = refl

  -- the ids of a call of what is no member
  pub call_with_ids : (f : Expr) → IsNoMember f → (j : ℕ) (l : weaving.Exprs)
      → with_ids j (tree.call (weave chosen f) l tt)
      ≡ tree.call (with_ids (j + 2) (weave chosen f)) (forest_with_ids (j + 2 + id_count (weave chosen f)) l) (j + 0)
  call_with_ids f h j l = at (weave chosen f) (woven_no_member f h)
    where
      at : (g : weaving.Expr) → IsNoMember g
          → with_ids j (tree.call g l tt)
          ≡ tree.call (with_ids (j + 2) g) (forest_with_ids (j + 2 + id_count g) l) (j + 0)
      at (tree.dot o k s) h = absurd h
      at (tree.index o k s) h = absurd h
      at _ h = refl

-- CALLEES
-- a member of what is no name is no hook, and neither is what is no member
form_of_no_name : (e : Expr) → IsNoName e → (k : Text) → form_of_member e k ≡ no_hook
form_of_no_name (tree.name x s) h k = absurd h
form_of_no_name _ h k = refl

form_of_no_member : (e : Expr) → IsNoMember e → form_of e ≡ no_hook
form_of_no_member (tree.dot o k s) h = absurd h
form_of_no_member (tree.index o k s) h = absurd h
form_of_no_member _ h = refl

-- a member of an expression of the script is no hook
pub member_no_hook : (o : Expr) → Fits o → (k : Text) → form_of_member o k ≡ no_hook
member_no_hook (tree.name x s) p k =
    ap (λ b. if b then form_named (shape_named k hooks) (shape_named k openers) else no_hook) p.0
member_no_hook _ p k = refl

pub callee_no_hook : (f : Expr) → Fits f → form_of f ≡ no_hook
callee_no_hook (tree.dot o k s) p = member_no_hook o p.0 k
callee_no_hook _ p = refl

-- and neither is one of a woven expression
pub woven_member_no_hook : (chosen : Kinds) (o : Expr) → Fits o → (k : Text) (m : ℕ)
    → form_of_member (with_ids m (weave chosen o)) k ≡ no_hook
woven_member_no_hook chosen (tree.name x s) p k m =
    way (λ e. form_of_member (with_ids m e) k ≡ no_hook) (chosen kind.Read) (weaving.read s x) (weaving.name_of x) refl
    (ap (λ b. if b then form_named (shape_named k hooks) (shape_named k openers) else no_hook) p.0)
woven_member_no_hook chosen o p k m =
    form_of_no_name (with_ids m (weave chosen o)) (no_name_with_ids m (weave chosen o) (woven_no_name chosen o tt)) k

-- no call of a hook that is the first of a pair
abbrev IsNoOpener : CalleeForm → Type 0
IsNoOpener (opener shape) = ⊥
IsNoOpener _ = Unit {0}

abbrev pub IsNoFirst : weaving.Expr → Type 0
IsNoFirst (tree.call (tree.dot o k s) l t) = (m : ℕ) → IsNoOpener (form_of_member (with_ids m o) k)
IsNoFirst _ = Unit {0}

-- a hook that gives a value is none
hook_no_first : (k : Text) (shape : Shape Hook) → hook_form k ≡ hook shape → (m : ℕ) → IsNoOpener (hook_form k)
hook_no_first k shape is m = subst IsNoOpener (sym is) tt

called_no_first : (g : weaving.Expr) → IsNoMember g → (l : weaving.Exprs) → IsNoFirst (tree.call g l tt)
called_no_first (tree.dot o k s) h l = absurd h
called_no_first (tree.index o k s) h l = absurd h
called_no_first _ h l = tt

module _ (chosen : Kinds) where
  callee_no_first : (f : Expr) → Fits f → (id : ℕ) (l : weaving.Exprs)
      → IsNoFirst (tree.call (woven_callee chosen f (weave chosen f) id) l tt)
  callee_no_first (tree.dot o k s) p id l =
      way (λ e. IsNoFirst (tree.call e l tt)) (rewriting.calls_member chosen) _ (tree.dot (weave chosen o) k tt) tt
      (λ m. subst IsNoOpener (sym (woven_member_no_hook chosen o p.0 k m)) tt)
  callee_no_first (tree.index o k s) p id l =
      way (λ e. IsNoFirst (tree.call e l tt)) (rewriting.calls_member chosen) _ _ tt tt
  callee_no_first f p id l =
      way (λ e. IsNoFirst (tree.call e l tt)) (rewriting.calls chosen) _ (weave chosen f) tt
      (called_no_first (weave chosen f) (woven_no_member chosen f tt) l)

  typeof_no_first : (id : ℕ) (e : Expr) (w : weaving.Expr) → IsNoFirst (rewriting.woven_typeof chosen id e w)
  typeof_no_first id (tree.name x s) w =
      way IsNoFirst (chosen kind.TypeofName) _ _ (hook_no_first (codes "Y") _ form_Y) tt
  typeof_no_first id _ w = way IsNoFirst (chosen kind.Unary) _ _ (hook_no_first (codes "U") _ form_U) tt

  delete_no_first : (id : ℕ) (e : Expr) (w : weaving.Expr) → IsNoFirst (rewriting.woven_delete chosen e w id)
  delete_no_first id (tree.name x s) w = tt
  delete_no_first id (tree.dot o k s) w =
      way IsNoFirst (chosen kind.DeleteField) _ _ (hook_no_first (codes "Z") _ form_Z) tt
  delete_no_first id (tree.index o k s) w =
      way IsNoFirst (chosen kind.DeleteField) _ _ (hook_no_first (codes "Z") _ form_Z) tt
  delete_no_first id _ w = tt

  update_no_first : (id : ℕ) (up prefix : Bool) (t : Tree ℕ tree.target)
      → IsNoFirst (weaving.before_update up prefix (rewriting.woven_update chosen up t id))
  update_no_first id true false t = tt
  update_no_first id false false t = tt
  update_no_first id up true (tree.to_name x) = tt
  update_no_first id up true (tree.to_dot o k s) = hook_no_first (codes "I") _ form_I
  update_no_first id up true (tree.to_index o k s) = hook_no_first (codes "I") _ form_I

  assign_no_first : (id : ℕ) (o : Option BinOp) (t : Tree ℕ tree.target) (w : weaving.Expr)
      → IsNoFirst (rewriting.woven_assignment chosen o t w id)
  assign_no_first id None (tree.to_name x) w = tt
  assign_no_first id (Some q) (tree.to_name x) w = tt
  assign_no_first id None (tree.to_dot o k s) w = tt
  assign_no_first id (Some q) (tree.to_dot o k s) w = tt
  assign_no_first id None (tree.to_index o k s) w = tt
  assign_no_first id (Some q) (tree.to_index o k s) w = tt

  pub woven_no_first : (f : Expr) → Fits f → IsNoMember f → IsNoFirst (weave chosen f)
  woven_no_first (tree.dot o k s) p h = absurd h
  woven_no_first (tree.index o k s) p h = absurd h
  woven_no_first (tree.name x s) p h = way IsNoFirst (chosen kind.Read) _ _ (hook_no_first (codes "R") _ form_R) tt
  woven_no_first (tree.number m s) p h =
      way IsNoFirst (chosen kind.Literal) _ _ (hook_no_first (codes "T") _ form_T) tt
  woven_no_first (tree.string m s) p h =
      way IsNoFirst (chosen kind.Literal) _ _ (hook_no_first (codes "T") _ form_T) tt
  woven_no_first (tree.boolean m s) p h =
      way IsNoFirst (chosen kind.Literal) _ _ (hook_no_first (codes "T") _ form_T) tt
  woven_no_first (tree.null s) p h =
      way IsNoFirst (chosen kind.Literal) _ _ (hook_no_first (codes "T") _ form_T) tt
  woven_no_first (tree.array l s) p h =
      way IsNoFirst (chosen kind.ArrayLiteral) _ _ (hook_no_first (codes "T") _ form_T) tt
  woven_no_first (tree.object l s) p h =
      way IsNoFirst (chosen kind.ObjectLiteral) _ _ (hook_no_first (codes "T") _ form_T) tt
  woven_no_first (tree.function_expression l s) p h =
      way IsNoFirst (chosen kind.FunctionLiteral) _ _ (hook_no_first (codes "T") _ form_T) tt
  woven_no_first (tree.call f l s) p h = callee_no_first f p.0 s _
  woven_no_first (tree.new f l s) p h = way IsNoFirst (rewriting.calls chosen) _ _ tt tt
  woven_no_first (tree.unary un.Typeof e s) p h = typeof_no_first s e (weave chosen e)
  woven_no_first (tree.unary un.Delete e s) p h = delete_no_first s e (weave chosen e)
  woven_no_first (tree.unary o e s) p h =
      way IsNoFirst (chosen kind.Unary) _ _ (hook_no_first (codes "U") _ form_U) tt
  woven_no_first (tree.update up prefix t s) p h =
      way IsNoFirst (rewriting.computes chosen t kind.Unary) _ _ (update_no_first s up prefix t) tt
  woven_no_first (tree.binary o a b s) p h =
      way IsNoFirst (chosen kind.Binary) _ _ (hook_no_first (codes "B") _ form_B) tt
  woven_no_first (tree.assign o t e s) p h =
      way IsNoFirst (rewriting.assigns chosen o t) _ _ (assign_no_first s o t (weave chosen e)) tt
  woven_no_first _ p h = tt

-- a call of such a callee is a call of its value
module _ (table : FunctionTable) (c : Context) where
  abbrev CalledAsIs : weaving.Expr → (j : ℕ) → weaving.Exprs → Type 0
  CalledAsIs g j l =
      evaluate table (with_ids j (tree.call g l tt)) c
      ≡ Step (call_value table (j + 0) (evaluate table (with_ids (j + 2) g) c)
      (evaluate_all table 0 [] (forest_with_ids (j + 2 + id_count g) l) c))

  -- what is no first call of a pair is called otherwise
  otherwise : (form : CalleeForm) → IsNoOpener form → (inner : Exprs) (first : Arguments) (n : ℕ)
      (second : Part (Answer (List Value))) (p : Part (Answer Value))
      → call_of_call table c form inner first n second p ≡ p
  otherwise (opener shape) h inner first n second p = absurd h
  otherwise (hook shape) h inner first n second p = refl
  otherwise no_hook h inner first n second p = refl

  pub called_as_is : (g : weaving.Expr) → IsNoMember g → IsNoFirst g → (j : ℕ) (l : weaving.Exprs) → CalledAsIs g j l
  called_as_is (tree.dot o k s) h i j l = absurd h
  called_as_is (tree.index o k s) h i j l = absurd h
  called_as_is (tree.call (tree.dot o k s) l' t) h i j l =
      ap Step (otherwise (form_of_member (with_ids (j + 2 + 3) o) k) (i (j + 2 + 3)) _ _ _ _ _)
  called_as_is (tree.call (tree.index o k s) l' t) h i j l = refl
  called_as_is (tree.call f l' t) h i j l =
      let inner : Exprs = forest_with_ids (j + 2 + 2 + id_count f) l' in
      let outer : Exprs = forest_with_ids (j + 2 + id_count (tree.call f l' t)) l in
      let values : Part (Answer (List Value)) = evaluate_all table 0 [] outer c in
      ap Step (otherwise (form_of (with_ids (j + 2 + 2) f)) (subst IsNoOpener
      (sym (form_of_no_member (with_ids (j + 2 + 2) f) (no_member_with_ids (j + 2 + 2) f tt))) tt) inner
      (λ literals. evaluate_all table literals [] inner c) (count outer) values
      (call_value table (j + 0) (evaluate table (with_ids (j + 2) (tree.call f l' t)) c) values))
  called_as_is (tree.unary un.Delete e s) h i j l = refl
  called_as_is (tree.unary o e s) h i j l = refl
  called_as_is _ h i j l = refl
