-- Names of members, and what is done with them.
use Rattle.std.proofs.Common.{◌≡◌, ◌∙◌, ◌⊎◌, ◌+◌, inl, inr, codes, refl, subst, sym, ap, Bool, None, Option, Some, ℕ}
use Rattle.std.proofs.Common.{false, if◌then◌else◌}
use Rattle.std.specs.Borrow.{Bor}
use Rattle.std.specs.Global.{Global}
use Rattle.std.specs.declared.boxed.Box.{Box}
use Rattle.jl_num.specs.Number.{Number}
use Rattle.jl_ast.specs.View.{view_expression}
use Rattle.jl_ast.specs.declared.ops.BinOp.{BinOp}
use Rattle.jl_ast.specs.declared.tree.Expr.{Expr}
use Rattle.jl_value.specs.Tests.{is_nothing, is_object}
use Rattle.jl_value.specs.declared.error_kind.ErrorKind.TheVariants.{TypeError}
use Rattle.jl_value.specs.declared.object.ObjId.{ObjId}
use Rattle.jl_value.specs.declared.value.Value.{Value}
use Rattle.jl_value.specs.declared.value.Value.TheVariants as value
use Rattle.jl_conv.specs.Conversions.{text_of_value}
use Rattle.jl_heap.specs.Objects.{Name}
use Rattle.jl_op.specs.declared.sign.UnKind.{UnKind}
use Rattle.jl_meaning.specs.Conversions.{check_object_coercible, string_hint, to_primitive, to_string}
use Rattle.jl_meaning.specs.Errors.{throw_error}
use Rattle.jl_meaning.specs.Expressions.{evaluate}
use Rattle.jl_meaning.specs.Noting.{Noting}
use Rattle.jl_meaning.specs.Parts.{give, lift, ◌>>=◌, Algorithm, Answer, Part}
use Rattle.jl_meaning.specs.forms.Members.{assign_member, get_member, member_name, put_member, update_member}
use Rattle.jl_meaning.specs.forms.Operators.{update}
use Rattle.jl_state.specs.Rest.{RefinesExpression, RefinesAlgorithm}
use Rattle.jl_state.specs.Steps.{ValueWaits}
use Rattle.jl_state.specs.Trees.{plain}
use Rattle.jl_state.specs.ValueFrames.{key_after}
use Rattle.jl_state.specs.Words.{context_of, table_of}
use Rattle.jl_state.specs.declared.act.Act.{Act}
use Rattle.jl_state.specs.declared.frame.Here.{Here}
use Rattle.jl_state.specs.declared.state.State.{State}
use Rattle.jl_state.specs.declared.value_frame.MemberUse.{MemberUse}
use Rattle.jl_state.specs.declared.value_frame.MemberUse.TheVariants as key_for
use Rattle.jl_state.specs.declared.value_frame.ValueFrame.TheVariants as waiting
use Rattle.jl_meaning.proofs.Binds.{bind_assoc, bind_same, lift_bind}

-- a key is converted for a frame
pub converts_key : (s t u : State) (boxed purpose : MemberUse) (key : Value) (a : Act) → boxed ≡ purpose
    → ValueWaits s (waiting.Key boxed) t → RefinesAlgorithm t (to_primitive string_hint key) u a
    → RefinesExpression s (lift (to_string key) >>= key_after (table_of s.functions) s.calls purpose) u a
unfolding to_string
converts_key s t u boxed purpose key a is waits refines =
    subst (λ (p : MemberUse). RefinesExpression s (lift (to_string key) >>= key_after (table_of s.functions) s.calls
    p) u a) is
    (subst (λ q. RefinesExpression s q u a) (sym same) (waits.works (to_primitive string_hint key) u a refines))
  where
    after : Name → Part (Answer Value)
    after x = key_after (table_of s.functions) s.calls boxed x

    same : (lift (to_string key) >>= after) ≡ (lift (to_primitive string_hint key) >>= λ p. after (text_of_value p))
    same =
        ap (λ q. q >>= after) (lift_bind (to_primitive string_hint key) (λ p. give (text_of_value p)))
        ∙ bind_assoc (lift (to_primitive string_hint key)) (λ p. give (text_of_value p)) after

-- what has no members
pub refuses : (s : State) (message : Name) (q : Algorithm Name) (k : Name → Part (Answer Value)) (t : State) (a : Act)
    → RefinesAlgorithm s (throw_error TypeError message) t a
    → RefinesExpression s (lift (throw_error TypeError message >>= λ (_ : Unit {0}). q) >>= k) t a
unfolding throw_error
refuses s message q k t a refines = record { is = refines.is }

pub refuses_undefined : (s : State) (base key : Value) (k : Name → Part (Answer Value)) (t : State) (a : Act)
    → base ≡ value.Undefined → RefinesAlgorithm s (throw_error TypeError (codes "no property of undefined")) t a
    → RefinesExpression s (lift (member_name base key) >>= k) t a
unfolding check_object_coercible
refuses_undefined s base key k t a is refines =
    subst (λ (b : Value). RefinesExpression s (lift (member_name b key) >>= k) t a) (sym is)
    (refuses s (codes "no property of undefined") (to_string key) k t a refines)

pub refuses_null : (s : State) (base key : Value) (k : Name → Part (Answer Value)) (t : State) (a : Act)
    → base ≡ value.Null → RefinesAlgorithm s (throw_error TypeError (codes "no property of null")) t a
    → RefinesExpression s (lift (member_name base key) >>= k) t a
unfolding check_object_coercible
refuses_null s base key k t a is refines =
    subst (λ (b : Value). RefinesExpression s (lift (member_name b key) >>= k) t a) (sym is)
    (refuses s (codes "no property of null") (to_string key) k t a refines)

-- what has some
abbrev pub HasMembers : Value → Type 0
HasMembers v = ((b : Bool) × (v ≡ value.Bool b)) ⊎ (((n : Number) × (v ≡ value.Num n))
    ⊎ (((x : Name) × (v ≡ value.Text x)) ⊎ ((id : ObjId) × (v ≡ value.Obj id))))

coerces : (v : Value) → HasMembers v → check_object_coercible v ≡ give tt
unfolding check_object_coercible
coerces v (inl e) = ap check_object_coercible e.1
coerces v (inr (inl e)) = ap check_object_coercible e.1
coerces v (inr (inr (inl e))) = ap check_object_coercible e.1
coerces v (inr (inr (inr e))) = ap check_object_coercible e.1

pub names : (s : State) (base key : Value) (k : Name → Part (Answer Value)) (t : State) (a : Act) → HasMembers base
    → RefinesExpression s (lift (to_string key) >>= k) t a → RefinesExpression s (lift (member_name base key) >>= k) t a
names s base key k t a has refines =
    subst (λ (p : Algorithm (Unit {0})). RefinesExpression s (lift (p >>= λ _. to_string key) >>= k) t a)
    (sym (coerces base has))
    refines

-- a name that is there at once

abbrev given : Name → Algorithm Name
given x = give x

pub key_at_once : (key : Value) (x : Name) → is_object key ≡ false → x ≡ text_of_value key → to_string key ≡ give x
unfolding to_string to_primitive
key_at_once value.Undefined x is same = ap given (sym same)
key_at_once value.Null x is same = ap given (sym same)
key_at_once (value.Bool b) x is same = ap given (sym same)
key_at_once (value.Num n) x is same = ap given (sym same)
key_at_once (value.Text t) x is same = ap given (sym same)
key_at_once (value.Obj id) x is same = absurd (let differ = is in cc)

pub lets_through : (v : Value) → is_nothing v ≡ false → check_object_coercible v ≡ give tt
unfolding check_object_coercible
lets_through value.Undefined some = absurd (let differ = some in cc)
lets_through value.Null some = absurd (let differ = some in cc)
lets_through (value.Bool b) some = refl
lets_through (value.Num n) some = refl
lets_through (value.Text t) some = refl
lets_through (value.Obj id) some = refl

pub name_at_once : (base key : Value) (x : Name) → check_object_coercible base ≡ give tt → to_string key ≡ give x
    → member_name base key ≡ give x
name_at_once base key x has is = ap (λ (p : Algorithm (Unit {0})). p >>= λ _. to_string key) has ∙ is

pub text_at_once : (base : Value) (x y : Name) → check_object_coercible base ≡ give tt → y ≡ x
    → member_name base (value.Text x) ≡ give y
text_at_once base x y has same = name_at_once base (value.Text x) y has (key_at_once (value.Text x) y refl same)

pub named_at_once : (s : State) (base key : Value) (x : Name) (k : Name → Part (Answer Value)) (t : State) (a : Act)
    → member_name base key ≡ give x → RefinesExpression s (k x) t a
    → RefinesExpression s (lift (member_name base key) >>= k) t a
named_at_once s base key x k t a is refines =
    subst (λ (p : Algorithm Name). RefinesExpression s (lift p >>= k) t a) (sym is) refines

-- what is done with the name

abbrev value_in : State → Bor (Box Expr Global) → Here → Part (Answer Value)
value_in s e here = evaluate (table_of s.functions) (plain (view_expression e.now.value)) (context_of s.calls here)

pub assigns_member : (s : State) (base held key : Value) (o : Option BinOp) (e : Bor (Box Expr Global)) (here : Here)
    (t : State) (a : Act) → held ≡ base
    → RefinesExpression s (lift (member_name base key)
    >>= key_after (table_of s.functions) s.calls (key_for.Assign held o e here)) t a
    → RefinesExpression s (assign_member 0 (context_of s.calls here) base key o (value_in s e here)) t a
assigns_member s base held key o e here t a same refines =
    by o (subst (λ (b : Value). RefinesExpression s (lift (member_name base key)
    >>= key_after (table_of s.functions) s.calls (key_for.Assign b o e here)) t a) same refines)
  where
    by : (p : Option BinOp) → RefinesExpression s (lift (member_name base key)
        >>= key_after (table_of s.functions) s.calls (key_for.Assign base p e here)) t a
        → RefinesExpression s (assign_member 0 (context_of s.calls here) base key p (value_in s e here)) t a
    by None l = l
    by (Some p) l = l

-- an update of a member, of which one of the two values is given
module _ (how : Noting) (id : ℕ) (strict : Bool) (o : UnKind) (base key : Value) (prefix : Bool) where
  abbrev chosen : Number × Value → Part (Answer Value)
  chosen v = give (if prefix then v.1 else value.Num v.0)

  abbrev put_so : Name → Number × Value → Part (Answer (Number × Value))
  put_so x v = do
    _ ← put_member how (id + 2) strict base x v.1
    give v

  abbrev updated : Name → Value → Part (Answer (Number × Value))
  updated x held = do
    v ← update how (id + 1) o held
    put_so x v

  abbrev named : Name → Part (Answer (Number × Value))
  named x = do
    held ← get_member how id base x
    updated x held

  abbrev pub after_update : Name → Number × Value → Part (Answer Value)
  after_update x v = do
    _ ← put_member how (id + 2) strict base x v.1
    give (if prefix then v.1 else value.Num v.0)

  abbrev pub after_name : Name → Part (Answer Value)
  after_name x = do
    held ← get_member how id base x
    v ← update how (id + 1) o held
    after_update x v

  on_update : (x : Name) (held : Value) → (updated x held >>= chosen)
      ≡ (update how (id + 1) o held >>= after_update x)
  on_update x held =
      bind_assoc (update how (id + 1) o held) (put_so x) chosen
      ∙ bind_same (update how (id + 1) o held) (λ v. put_so x v >>= chosen) (after_update x)
      (λ v. bind_assoc (put_member how (id + 2) strict base x v.1) (λ _. give v) chosen)

  on_name : (x : Name) → (named x >>= chosen) ≡ after_name x
  on_name x =
      bind_assoc (get_member how id base x) (updated x) chosen
      ∙ bind_same (get_member how id base x) (λ held. updated x held >>= chosen)
      (λ held. update how (id + 1) o held >>= after_update x) (on_update x)

  pub update_member_then : (update_member how id strict o base key >>= chosen)
      ≡ (lift (member_name base key) >>= after_name)
  unfolding update_member
  update_member_then =
      bind_assoc (lift (member_name base key)) named chosen
      ∙ bind_same (lift (member_name base key)) (λ x. named x >>= chosen) after_name on_name
