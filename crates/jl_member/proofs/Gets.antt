-- Members that are got.
use Rattle.std.proofs.Common.{◌≡◌, false, refl, subst, sym, Bool, ℕ}
use Rattle.jl_value.specs.declared.value.Value.{Value}
use Rattle.jl_heap.specs.Describe.{seen_of}
use Rattle.jl_heap.specs.Objects.{Name}
use Rattle.jl_op.specs.declared.found.Found.{Found}
use Rattle.jl_op.specs.declared.op.Op.TheVariants as op
use Rattle.jl_op.specs.declared.op.OpId.{OpId}
use Rattle.jl_meaning.specs.Getting.{get}
use Rattle.jl_meaning.specs.Noting.{emits, performs}
use Rattle.jl_meaning.specs.Parts.{give, lift, ◌>>=◌, Answer, Part}
use Rattle.jl_meaning.specs.Properties.{found_of, property_of_value}
use Rattle.jl_meaning.specs.forms.Members.{get_member, member_name, read_member}
use Rattle.jl_state.specs.Rest.{RefinesExpression, RefinesAlgorithm}
use Rattle.jl_state.specs.ValueFrames.{value_after}
use Rattle.jl_state.specs.Words.{noting, table_of}
use Rattle.jl_state.specs.declared.act.Act.{Act}
use Rattle.jl_state.specs.declared.state.State.{State}
use Rattle.jl_state.specs.declared.value_frame.ValueFrame.TheVariants as waiting
use Rattle.jl_state.proofs.Steps.{gives_noted, gives_works}
use Rattle.jl_member.proofs.Keys.{named_at_once}

-- by the script
pub gets_quietly : (s : State) (emitting : Bool) (id : ℕ) (base : Value) (x : Name) (t : State) (a : Act)
    → emitting ≡ false → RefinesAlgorithm s (get base x) t a
    → RefinesExpression s (get_member (noting emitting) id base x) t a
unfolding get_member
gets_quietly s emitting id base x t a is refines =
    subst (λ (b : Bool). RefinesExpression s (get_member (noting b) id base x) t a) (sym is) (record {
      is = (gives_noted s
          (λ store v. (
            record { 0 = id },
            op.GetField (seen_of store.heap base) x (seen_of store.heap v)
                (found_of (property_of_value s.store base x)),
          )) (lift (get base x)) t a (gives_works s (get base x) t a refines)).is;
    })

-- by a hook

module _ (s : State) (id : OpId) (base : Value) (x : Name) (t : State) (a : Act) where
  abbrev Emitted : Value → Name → Found → Type 0
  Emitted told named found = RefinesExpression s
      (lift (get base x) >>= value_after (table_of s.functions) s.calls (waiting.EmitGet id told named found)) t a

  emitted : Emitted base x (found_of (property_of_value s.store base x))
      → RefinesExpression s (get_member emits id.0 base x) t a
  unfolding get_member
  emitted refines = record { is = refines.is }

  pub gets_and_emits : (told : Value) (named : Name) (found : Found) → told ≡ base → named ≡ x
      → found ≡ found_of (property_of_value s.store base x) → Emitted told named found
      → RefinesExpression s (get_member emits id.0 base x) t a
  gets_and_emits told named found same_base same_name is refines =
      emitted
      (subst (λ (b : Value). Emitted b x (found_of (property_of_value s.store base x))) same_base
      (subst (λ (y : Name). Emitted told y (found_of (property_of_value s.store base x))) same_name
      (subst (λ (f : Found). Emitted told named f) is refines)))

-- the member that a script gets, by the words of any noting
pub gets_so : (s : State) (emitting : Bool) (id : ℕ) (base : Value) (x : Name)
    (k : Value → Part (Answer Value)) (t : State) (a : Act) → emitting ≡ false → id ≡ 0
    → RefinesExpression s (get_member (noting emitting) id base x >>= k) t a
    → RefinesExpression s (get_member performs 0 base x >>= k) t a
gets_so s emitting id base x k t a is first refines =
    subst (λ (b : Bool). RefinesExpression s (get_member (noting b) 0 base x >>= k) t a) is
    (subst (λ (n : ℕ). RefinesExpression s (get_member (noting emitting) n base x >>= k) t a) first refines)

pub reads_member : (s : State) (emitting : Bool) (id : ℕ) (base held key : Value) (t : State) (a : Act)
    → emitting ≡ false → id ≡ 0 → held ≡ base
    → RefinesExpression s (lift (member_name base key) >>= λ x. get_member (noting emitting) id held x) t a
    → RefinesExpression s (read_member 0 base key) t a
unfolding read_member
reads_member s emitting id base held key t a is first same refines =
    subst (λ (b : Bool). RefinesExpression s
    (lift (member_name base key) >>= λ x. get_member (noting b) 0 base x) t a) is
    (subst (λ (n : ℕ). RefinesExpression s
    (lift (member_name base key) >>= λ x. get_member (noting emitting) n base x) t a) first
    (subst (λ (b : Value). RefinesExpression s
    (lift (member_name base key) >>= λ x. get_member (noting emitting) id b x) t a) same
    refines))

-- the name is there at once
pub reads_at_once : (s : State) (emitting : Bool) (id : ℕ) (base key : Value) (x : Name) (t : State) (a : Act)
    → emitting ≡ false → id ≡ 0 → member_name base key ≡ give x
    → RefinesExpression s (get_member (noting emitting) id base x) t a
    → RefinesExpression s (read_member 0 base key) t a
reads_at_once s emitting id base key x t a is first named refines =
    reads_member s emitting id base base key t a is first refl
    (named_at_once s base key x (λ y. get_member (noting emitting) id base y) t a named refines)
