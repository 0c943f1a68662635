-- Operations of the call that is running, and none where there is none.
use Rattle.std.proofs.Common.{◌≡◌, ◌∷◌, [], refl, sym, subst, List, Option, ℕ}
use Rattle.std.specs.Option.{option_map}
use Rattle.jl_value.specs.declared.ending.Fault.TheVariants.{Misuse}
use Rattle.jl_value.specs.declared.value.Value.{Value}
use Rattle.jl_op.specs.declared.op.Op.{Op}
use Rattle.jl_effects.specs.Effects.{Emit, Look}
use Rattle.jl_meaning.specs.Noting.{emits, note_or_misuse}
use Rattle.jl_meaning.specs.Parts.{give, Running}
use Rattle.jl_meaning.specs.Store.{Store}
use Rattle.jl_state.specs.Rest.{RefinesExpression}
use Rattle.jl_state.specs.Words.{running}
use Rattle.jl_state.specs.declared.act.Act.{Act}
use Rattle.jl_state.specs.declared.act.Act.TheVariants as act
use Rattle.jl_state.specs.declared.calls.Call.{Call}
use Rattle.jl_state.specs.declared.state.State.{State}

abbrev running_of : Call → Running
running_of c = record { function = c.function; this = c.this; args = c.args; by_new = c.by_new }

module _ (s t : State) (a : Act) (id : ℕ) (v : Value) (calls : List Call) where
  -- a call is running
  pub notes_call : (f : Running → Op) (c : Call) (others : List Call) → calls ≡ c ∷ others
      → RefinesExpression s (Emit (record { 0 = id }, f (running_of c)) (give v)) t a
      → RefinesExpression s (note_or_misuse emits id v (option_map f (running calls))) t a
  notes_call f c others is refines =
      subst (λ (l : List Call). RefinesExpression s (note_or_misuse emits id v (option_map f (running l))) t a)
      (sym is) refines

  -- none is
  pub notes_no_call : (f : Running → Op) → calls ≡ []
      → RefinesExpression s (note_or_misuse emits id v (option_map f (running calls))) s (act.Fault Misuse)
  notes_no_call f is =
      subst (λ (l : List Call). RefinesExpression s (note_or_misuse emits id v (option_map f (running l))) s
      (act.Fault Misuse))
      (sym is)
      (record { is = λ kept told. refl })

-- the same after a look at the store
pub notes_seen : (s t : State) (a : Act) (id : ℕ) (v : Value) (o : Option Running) (f : Store → Running → Op)
    → RefinesExpression s (note_or_misuse emits id v (option_map (f s.store) o)) t a
    → RefinesExpression s (Look (λ store. note_or_misuse emits id v (option_map (f store) o))) t a
notes_seen s t a id v o f refines = record { is = refines.is }

pub ruleset entries = (notes_call, notes_no_call, notes_seen)
