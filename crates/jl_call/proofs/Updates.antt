-- Hooks of operators on one operand.
use Rattle.std.proofs.Common.{◌≡◌, ◌∙◌, refl, sym, ap, subst, Bool, None, Option, Some, ℕ}
use mathlib.Core.Logic.{◌⊎◌, inl, inr}
use mathlib.Core.Path.{fun_ext}
use Rattle.jl_num.specs.Number.{Number}
use Rattle.jl_value.specs.declared.ending.Fault.TheVariants as fault
use Rattle.jl_value.specs.declared.value.Value.{Value}
use Rattle.jl_value.specs.declared.value.Value.TheVariants as value
use Rattle.jl_heap.specs.Describe.{seen_of}
use Rattle.jl_op.specs.declared.op.Op.TheVariants as op
use Rattle.jl_op.specs.declared.sign.UnKind.{UnKind}
use Rattle.jl_op.specs.declared.sign.UnKind.TheVariants as unary
use Rattle.jl_op.specs.UnaryKinds.{update_kind}
use Rattle.jl_meaning.specs.Conversions.{number_hint, to_number, to_primitive}
use Rattle.jl_meaning.specs.Noting.{emits, note}
use Rattle.jl_meaning.specs.Operators.{give_next, give_number}
use Rattle.jl_meaning.specs.Parts.{give, lift, or_fault, ◌>>=◌, Answer, NumberOutside, Part}
use Rattle.jl_meaning.specs.forms.Hooks.{hooked_unary, hooked_update}
use Rattle.jl_meaning.specs.forms.Operators.{operate_on, update}
use Rattle.jl_state.specs.AlgorithmFrames.{number_of_primitive}
use Rattle.jl_state.specs.Rest.{RefinesExpression, RefinesAlgorithm}
use Rattle.jl_state.specs.Steps.{ValueWaits}
use Rattle.jl_state.specs.declared.act.Act.{Act}
use Rattle.jl_state.specs.declared.act.Act.TheVariants as act
use Rattle.jl_state.specs.declared.hook.HookId.{HookId}
use Rattle.jl_state.specs.declared.state.State.{State}
use Rattle.jl_state.specs.declared.value_frame.ValueFrame.TheVariants as waiting
use Rattle.jl_meaning.proofs.Binds.{bind_assoc, lift_bind}

-- operators other than `++` and `--`

module _ (F : UnKind → Type 0) (o : UnKind) where
  last : (p : UnKind) → F p → o ≡ p → F o
  last p holds is = subst F (sym is) holds

  next : {B : Type 0} (p : UnKind) → F p → (B → F o) → (o ≡ p) ⊎ B → F o
  next p holds others (inl is) = subst F (sym is) holds
  next p holds others (inr b) = others b

abbrev IsOperated : ℕ → Value → UnKind → Type 0
IsOperated id v o = operate_on emits id o v ≡ hooked_unary id o v

operated : (id : ℕ) (v : Value) (o : UnKind)
    → (o ≡ unary.Minus) ⊎ ((o ≡ unary.Plus) ⊎ ((o ≡ unary.Not) ⊎ ((o ≡ unary.Tilde) ⊎ ((o ≡ unary.Typeof)
    ⊎ (o ≡ unary.Void)))))
    → IsOperated id v o
operated id v o =
    next (IsOperated id v) o unary.Minus refl
    (next (IsOperated id v) o unary.Plus refl
    (next (IsOperated id v) o unary.Not refl
    (next (IsOperated id v) o unary.Tilde refl
    (next (IsOperated id v) o unary.Typeof refl
    (last (IsOperated id v) o unary.Void refl)))))

pub operates_hooked : (s t : State) (a : Act) (id : ℕ) (v : Value) (o : UnKind)
    → (o ≡ unary.Minus) ⊎ ((o ≡ unary.Plus) ⊎ ((o ≡ unary.Not) ⊎ ((o ≡ unary.Tilde) ⊎ ((o ≡ unary.Typeof)
    ⊎ (o ≡ unary.Void)))))
    → RefinesExpression s (operate_on emits id o v) t a → RefinesExpression s (hooked_unary id o v) t a
operates_hooked s t a id v o is refines = subst (λ q. RefinesExpression s q t a) (operated id v o is) refines

-- `++` and `--`

module _ (id : ℕ) (o : UnKind) (held : Value) where
  abbrev noted : Value → Part (Answer Value)
  noted w = note emits id (λ heap. op.Unary o (seen_of heap held) (seen_of heap w)) >>= λ _. give w

  abbrev next_noted : Number → Part (Answer Value)
  next_noted n = lift (give_next o n) >>= noted

  abbrev noted_with : Number → Value → Part (Answer (Number × Value))
  noted_with n w = note emits id (λ heap. op.Unary o (seen_of heap held) (seen_of heap w)) >>= λ _. give (n, w)

  abbrev noted_both : Number → Part (Answer (Number × Value))
  noted_both n = lift (give_next o n) >>= noted_with n

  abbrev new_value : Number × Value → Part (Answer Value)
  new_value r = give r.1

  one_of_both : (n : Number) → next_noted n ≡ (noted_both n >>= new_value)
  one_of_both n = sym (bind_assoc (lift (give_next o n)) (noted_with n) new_value)

  updated : (lift (to_primitive number_hint held) >>= λ p. lift (number_of_primitive p) >>= next_noted)
      ≡ hooked_update id o held
  unfolding to_number update
  updated =
      sym (bind_assoc (lift (to_primitive number_hint held)) (λ p. lift (number_of_primitive p)) next_noted)
      ∙ ap (λ (q : Part (Answer Number)). q >>= next_noted)
      (sym (lift_bind (to_primitive number_hint held) number_of_primitive))
      ∙ ap (λ (k : Number → Part (Answer Value)). lift (to_number held) >>= k) (fun_ext one_of_both)
      ∙ sym (bind_assoc (lift (to_number held)) noted_both new_value)

-- the operand of a hook is converted first
pub updates_hooked : (s t u : State) (a : Act) (id : HookId) (up : Bool) (held v : Value) → held ≡ v
    → ValueWaits s (waiting.UpdateOperandPrimitive id up held) t → RefinesAlgorithm t (to_primitive number_hint v) u a
    → RefinesExpression s (hooked_update id.id (update_kind up) v) u a
updates_hooked s t u a id up held v same waits refines =
    subst (λ (w : Value). RefinesExpression s (hooked_update id.id (update_kind up) w) u a) same
    (subst (λ q. RefinesExpression s q u a) (updated id.id (update_kind up) held)
    (waits.works (to_primitive number_hint held) u a
    (subst (λ (w : Value). RefinesAlgorithm t (to_primitive number_hint w) u a) (sym same) refines)))

module _ (s t : State) (a : Act) (k : Number → Part (Answer Value)) (o : Option Number) where
  -- a number that there is, and one that there isn't
  pub number_there : (n : Number) → Some n ≡ o → RefinesExpression s (k n) t a
      → RefinesExpression s (lift (or_fault NumberOutside o) >>= k) t a
  number_there n is refines =
      subst (λ (q : Option Number). RefinesExpression s (lift (or_fault NumberOutside q) >>= k) t a) is refines

  pub number_outside : None ≡ o → RefinesExpression s (lift (or_fault NumberOutside o) >>= k) s
      (act.Fault fault.NumberOutside)
  number_outside is =
      subst (λ (q : Option Number). RefinesExpression s (lift (or_fault NumberOutside q) >>= k) s
      (act.Fault fault.NumberOutside))
      is
      (record { is = λ kept told. refl })

module _ (s t : State) (a : Act) (k : Value → Part (Answer Value)) (o : Option Number) where
  -- the same of a number that is given as a value
  pub value_there : (n : Number) → Some n ≡ o → RefinesExpression s (k (value.Num n)) t a
      → RefinesExpression s (lift (give_number o) >>= k) t a
  value_there n is refines = subst (λ (q : Option Number). RefinesExpression s
      (lift (give_number q) >>= k) t a) is refines

  pub value_outside : None ≡ o → RefinesExpression s (lift (give_number o) >>= k) s (act.Fault fault.NumberOutside)
  value_outside is =
      subst (λ (q : Option Number). RefinesExpression s (lift (give_number q) >>= k) s
      (act.Fault fault.NumberOutside)) is
      (record { is = λ kept told. refl })
