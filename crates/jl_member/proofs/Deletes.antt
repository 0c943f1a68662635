-- Members that are deleted.
use Rattle.std.proofs.Common.{◌≡◌, false, true, refl, subst, sym, Bool, ℕ}
use Rattle.jl_value.specs.declared.ending.Completion.TheVariants as completion
use Rattle.jl_value.specs.declared.value.Value.{Value}
use Rattle.jl_value.specs.declared.value.Value.TheVariants as value
use Rattle.jl_heap.specs.Describe.{seen_of}
use Rattle.jl_heap.specs.Objects.{Name, Objects}
use Rattle.jl_op.specs.declared.op.Op.{Op}
use Rattle.jl_op.specs.declared.op.Op.TheVariants as op
use Rattle.jl_op.specs.declared.op.OpId.{OpId}
use Rattle.jl_effects.specs.Effects.{Emit}
use Rattle.jl_meaning.specs.Noting.{note, performs}
use Rattle.jl_meaning.specs.Parts.{give, lift, ◌>>=◌, Answer, Part}
use Rattle.jl_meaning.specs.Putting.{delete}
use Rattle.jl_meaning.specs.forms.Members.{delete_member, member_name}
use Rattle.jl_store.specs.Answers.{ends_with}
use Rattle.jl_store.specs.BigStep.{BigStep}
use Rattle.jl_store.specs.declared.answer.Answer.{Answer as Answered}
use Rattle.jl_store.specs.declared.answer.Answer.TheVariants as answering
use Rattle.jl_state.specs.Rest.{RefinesExpression}
use Rattle.jl_state.specs.ValueFrames.{key_after}
use Rattle.jl_state.specs.Words.{noting, table_of}
use Rattle.jl_state.specs.declared.act.Act.{Act}
use Rattle.jl_state.specs.declared.act.Act.TheVariants as act
use Rattle.jl_state.specs.declared.state.State.{State}
use Rattle.jl_state.specs.declared.value_frame.MemberUse.TheVariants as key_for
use Rattle.jl_state.specs.declared.value_frame.Noted.{Noted}
use Rattle.jl_state.proofs.Stores.{gives_comes, gives_thrown, IsStored}

-- the name is found first
pub deletes_named : (s : State) (noted : Noted) (strict : Bool) (base held key : Value) (t : State) (a : Act)
    → held ≡ base
    → RefinesExpression s (lift (member_name base key)
    >>= key_after (table_of s.functions) s.calls (key_for.Delete noted held strict)) t a
    → RefinesExpression s (delete_member (noting noted.emits) noted.id.id strict base key) t a
unfolding delete_member
deletes_named s noted strict base held key t a same refines =
    subst (λ (b : Value). RefinesExpression s (lift (member_name base key)
    >>= key_after (table_of s.functions) s.calls (key_for.Delete noted b strict)) t a) same refines

-- by the script
pub deletes_so : (s : State) (emitting : Bool) (id : ℕ) (strict : Bool) (base key : Value) (t : State) (a : Act)
    → emitting ≡ false → id ≡ 0 → RefinesExpression s (delete_member (noting emitting) id strict base key) t a
    → RefinesExpression s (delete_member performs 0 strict base key) t a
deletes_so s emitting id strict base key t a is first refines =
    subst (λ (b : Bool). RefinesExpression s (delete_member (noting b) 0 strict base key) t a) is
    (subst (λ (n : ℕ). RefinesExpression s (delete_member (noting emitting) n strict base key) t a) first refines)

-- what is given after an operation that is noted

pub gives_unnoted : (s : State) (emitting : Bool) (n : ℕ) (f : Objects → Op) (v : Value) → emitting ≡ false
    → RefinesExpression s (note (noting emitting) n f >>= λ _. give v) s (act.Give v)
gives_unnoted s emitting n f v is =
    subst (λ (b : Bool). RefinesExpression s (note (noting b) n f >>= λ _. give v) s (act.Give v)) (sym is)
    (record { is = λ kept told. refl })

pub gives_emitted : (s : State) (emitting : Bool) (n : ℕ) (f : Objects → Op) (v : Value) (id : OpId) (o : Op)
    (t : State) (a : Act) → emitting ≡ true → id ≡ record { 0 = n } → o ≡ f s.store.heap
    → RefinesExpression s (Emit (id, o) (give v)) t a
    → RefinesExpression s (note (noting emitting) n f >>= λ _. give v) t a
gives_emitted s emitting n f v id o t a is first same refines =
    subst (λ (b : Bool). RefinesExpression s (note (noting b) n f >>= λ _. give v) t a) (sym is)
    (record { is = emitted.is })
  where
    emitted : RefinesExpression s (Emit (record { 0 = n }, f s.store.heap) (give v)) t a
    emitted =
        subst (λ (i : OpId). RefinesExpression s (Emit (i, f s.store.heap) (give v)) t a) first
        (subst (λ (p : Op). RefinesExpression s (Emit (id, p) (give v)) t a) same refines)

-- what follows a deletion

module _ (s t : State) (noted : Noted) (base : Value) (strict : Bool) (x : Name) (answer : Answered Bool)
    (stored : IsStored s t) (comes : BigStep (delete strict base x) s.store t.store (ends_with answer)) where
  abbrev after_delete : Bool → Part (Answer Value)
  after_delete free = do
    _ ← note (noting noted.emits) noted.id.id (λ heap. op.DeleteField (seen_of heap base) x free)
    give (value.Bool free)

  pub deletes : (free : Bool) (u : State) (a : Act) → answer ≡ answering.Gives free
      → RefinesExpression t (after_delete free) u a
      → RefinesExpression s (key_after (table_of s.functions) s.calls (key_for.Delete noted base strict) x) u a
  deletes free u a is refines =
      gives_comes s t stored (delete strict base x) free after_delete u a
      (subst (λ b. BigStep (delete strict base x) s.store t.store (ends_with b)) is comes) refines

  pub throws_deleting : (thrown : Value) → answer ≡ answering.Throws thrown
      → RefinesExpression s (key_after (table_of s.functions) s.calls (key_for.Delete noted base strict) x) t
      (act.Complete (completion.Throw thrown))
  throws_deleting thrown is =
      gives_thrown s t stored (delete strict base x) thrown after_delete
      (subst (λ b. BigStep (delete strict base x) s.store t.store (ends_with b)) is comes)
