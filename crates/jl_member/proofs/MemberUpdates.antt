-- `++` and `--` of members.
use Rattle.std.proofs.Common.{◌≡◌, ◌∙◌, ◌+◌, false, Bool, Option, Some, if◌then◌else◌, ap, subst, sym, ℕ}
use Rattle.jl_num.specs.Number.{Number}
use Rattle.jl_value.specs.declared.value.Value.{Value}
use Rattle.jl_value.specs.declared.value.Value.TheVariants as value
use Rattle.jl_heap.specs.Describe.{seen_of}
use Rattle.jl_heap.specs.Objects.{Name, Objects}
use Rattle.jl_op.specs.declared.op.Op.{Op}
use Rattle.jl_op.specs.declared.op.Op.TheVariants as op
use Rattle.jl_op.specs.declared.op.OpId.{OpId}
use Rattle.jl_op.specs.UnaryKinds.{update_kind}
use Rattle.jl_meaning.specs.Conversions.{number_hint, to_primitive}
use Rattle.jl_meaning.specs.Noting.{note, performs}
use Rattle.jl_meaning.specs.Parts.{give, lift, ◌>>=◌, Answer, Context, Part}
use Rattle.jl_meaning.specs.forms.Members.{get_member, member_name, put_member, update_expression, update_member}
use Rattle.jl_state.specs.Rest.{RefinesExpression, RefinesAlgorithm}
use Rattle.jl_state.specs.Steps.{ValueWaits}
use Rattle.jl_state.specs.ValueFrames.{key_after, value_after}
use Rattle.jl_state.specs.Words.{noting, table_of}
use Rattle.jl_state.specs.declared.act.Act.{Act}
use Rattle.jl_state.specs.declared.state.State.{State}
use Rattle.jl_state.specs.declared.value_frame.MemberUse.TheVariants as key_for
use Rattle.jl_state.specs.declared.value_frame.Noted.{Noted}
use Rattle.jl_state.specs.declared.value_frame.ValueFrame.TheVariants as waiting
use Rattle.jl_member.specs.inner.Nexts.{next_of}
use Rattle.jl_member.proofs.Keys.{update_member_then}
use Rattle.jl_member.proofs.Updates.{finds_next, update_number, update_waits}

abbrev chosen : Bool → Number × Value → Part (Answer Value)
chosen prefix v = give (if prefix then v.1 else value.Num v.0)

-- the name is found first
pub updates_named : (s : State) (noted : Noted) (strict up prefix : Bool) (base held key : Value) (t : State) (a : Act)
    → held ≡ base
    → RefinesExpression s (lift (member_name base key)
    >>= key_after (table_of s.functions) s.calls (key_for.Update noted held up prefix strict)) t a
    → RefinesExpression s (update_member (noting noted.emits) noted.id.id strict
    (update_kind up) base key >>= chosen prefix) t a
updates_named s noted strict up prefix base held key t a same refines =
    subst (λ q. RefinesExpression s q t a)
    (sym (update_member_then (noting noted.emits) noted.id.id strict (update_kind up) base key prefix))
    (subst (λ (b : Value). RefinesExpression s (lift (member_name base key)
    >>= key_after (table_of s.functions) s.calls (key_for.Update noted b up prefix strict)) t a) same refines)

-- as an expression of the script
pub updates_so : (s : State) (c : Context) (emitting : Bool) (id : ℕ) (up prefix : Bool) (base key : Value) (t : State)
    (a : Act) → emitting ≡ false → id ≡ 0
    → RefinesExpression s (update_member (noting emitting) id c.strict (update_kind up) base key >>= chosen prefix) t a
    → RefinesExpression s (update_expression 0 c base key up prefix) t a
unfolding update_expression
updates_so s c emitting id up prefix base key t a is first refines =
    subst (λ (b : Bool). RefinesExpression s
    (update_member (noting b) 0 c.strict (update_kind up) base key >>= chosen prefix) t a)
    is
    (subst (λ (n : ℕ). RefinesExpression s
    (update_member (noting emitting) n c.strict (update_kind up) base key >>= chosen prefix)
    t a) first refines)

-- the value of the member is got first
pub updates_got : (s : State) (noted : Noted) (base held : Value) (x named : Name) (up prefix strict : Bool) (t : State)
    (a : Act) → held ≡ base → named ≡ x
    → RefinesExpression s (get_member (noting noted.emits) noted.id.id base x
    >>= value_after (table_of s.functions) s.calls (waiting.UpdateMember noted held named up prefix strict)) t a
    → RefinesExpression s (key_after (table_of s.functions) s.calls (key_for.Update noted base up prefix strict) x) t a
updates_got s noted base held x named up prefix strict t a same_base same_name refines =
    subst (λ (b : Value). RefinesExpression s (get_member (noting noted.emits) noted.id.id base x
    >>= value_after (table_of s.functions) s.calls (waiting.UpdateMember noted b x up prefix strict)) t a) same_base
    (subst (λ (y : Name). RefinesExpression s (get_member (noting noted.emits) noted.id.id base x
    >>= value_after (table_of s.functions) s.calls (waiting.UpdateMember noted held y up prefix strict)) t a) same_name
    refines)

-- what is put to a member after the number that it held
module _ (s : State) (noted : Noted) (base : Value) (x : Name) (up prefix strict : Bool) where
  abbrev after_update : Number × Value → Part (Answer Value)
  after_update w = do
    _ ← put_member (noting noted.emits) (noted.id.id + 2) strict base x w.1
    give (if prefix then w.1 else value.Num w.0)

  abbrev after_next : (held : Value) → Number → Value → Part (Answer Value)
  after_next held n w = do
    _ ← note (noting noted.emits) (noted.id.id + 1)
        (λ heap. op.Unary (update_kind up) (seen_of heap held) (seen_of heap w))
    after_update (n, w)

  pub converts_member : (t u : State) (held v : Value) (a : Act) → held ≡ v
      → ValueWaits s (waiting.UpdateMemberPrimitive noted base x up prefix strict held) t
      → RefinesAlgorithm t (to_primitive number_hint v) u a
      → RefinesExpression s (value_after (table_of s.functions) s.calls
      (waiting.UpdateMember noted base x up prefix strict) v) u a
  converts_member t u held v a same waits refines =
      update_waits s t u (noting noted.emits) (noted.id.id + 1) (update_kind up) v after_update
      (waiting.UpdateMemberPrimitive noted base x up prefix strict held) a
      (λ p. ap (λ (h : Value). value_after (table_of s.functions) s.calls
      (waiting.UpdateMemberPrimitive noted base x up prefix strict h) p) same) waits refines

  -- a number is a primitive value
  pub converts_number : (u : State) (held v : Value) (n : Number) (a : Act) → v ≡ value.Num n → held ≡ value.Num n
      → RefinesExpression s (value_after (table_of s.functions) s.calls
      (waiting.UpdateMemberPrimitive noted base x up prefix strict held) v) u a
      → RefinesExpression s (value_after (table_of s.functions) s.calls
      (waiting.UpdateMember noted base x up prefix strict) v) u a
  converts_number u held v n a is same refines =
      update_number s (noting noted.emits) (noted.id.id + 1) (update_kind up) v n after_update u a is
      (subst (λ (h : Value). RefinesExpression s (value_after (table_of s.functions) s.calls
      (waiting.UpdateMemberPrimitive noted base x up prefix strict h) v) u a) (same ∙ sym is) refines)

  pub puts_next : (held p : Value) (found : Option (Number × Number)) (n m : Number) (given : Value) (t : State)
      (a : Act) → found ≡ next_of (update_kind up) p → found ≡ Some (n, m)
      → given ≡ (if prefix then value.Num m else value.Num n)
      → RefinesExpression s (note (noting noted.emits) (noted.id.id + 1)
      (λ heap. op.Unary (update_kind up) (seen_of heap held) (seen_of heap (value.Num m)))
      >>= λ _. put_member (noting noted.emits) (noted.id.id + 2) strict base x (value.Num m) >>= λ _. give given) t a
      → RefinesExpression s (value_after (table_of s.functions) s.calls
      (waiting.UpdateMemberPrimitive noted base x up prefix strict held) p) t a
  puts_next held p found n m given t a same is so refines =
      finds_next s (update_kind up) p found n m (after_next held) t a same is
      (subst (λ (g : Value). RefinesExpression s (note (noting noted.emits) (noted.id.id + 1)
      (λ heap. op.Unary (update_kind up) (seen_of heap held) (seen_of heap (value.Num m)))
      >>= λ _. put_member (noting noted.emits) (noted.id.id + 2) strict base x (value.Num m) >>= λ _. give g) t a) so
      refines)

-- an operation of the script's own before the put
pub puts_next_quietly : (s : State) (emitting : Bool) (n : ℕ) (f : Objects → Op) (id : OpId) (strict : Bool)
    (base : Value) (x : Name) (v given : Value) (t : State) (a : Act) → emitting ≡ false → id ≡ record { 0 = n + 2 }
    → RefinesExpression s (put_member performs id.0 strict base x v >>= λ _. give given) t a
    → RefinesExpression s (note (noting emitting) (n + 1) f
    >>= λ _. put_member (noting emitting) (n + 2) strict base x v >>= λ _. give given) t a
puts_next_quietly s emitting n f id strict base x v given t a is third refines =
    subst (λ (b : Bool). RefinesExpression s (note (noting b) (n + 1) f
    >>= λ _. put_member (noting b) (n + 2) strict base x v >>= λ _. give given) t a) (sym is)
    (record {
      is = (subst (λ (i : OpId). RefinesExpression s
          (put_member performs i.0 strict base x v >>= λ _. give given) t a) third
          refines).is;
    })
