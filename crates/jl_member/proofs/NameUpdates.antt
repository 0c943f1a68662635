-- `++` and `--` of names, when their frames are handed a value.
use Rattle.std.proofs.Common.{◌≡◌, ◌∙◌, Bool, Option, Some, if◌then◌else◌, ap, subst, sym}
use Rattle.std.specs.Borrow.{Bor}
use Rattle.jl_num.specs.Number.{Number}
use Rattle.jl_value.specs.declared.value.Value.{Value}
use Rattle.jl_value.specs.declared.value.Value.TheVariants as value
use Rattle.jl_heap.specs.Describe.{seen_of}
use Rattle.jl_heap.specs.Objects.{Name}
use Rattle.jl_op.specs.declared.op.Op.TheVariants as op
use Rattle.jl_op.specs.UnaryKinds.{update_kind}
use Rattle.jl_meaning.specs.Conversions.{number_hint, to_primitive}
use Rattle.jl_meaning.specs.Noting.{note, note_value, performs}
use Rattle.jl_meaning.specs.Parts.{give, lift, ◌>>=◌, Answer, Part}
use Rattle.jl_meaning.specs.References.{put_value}
use Rattle.jl_meaning.specs.forms.Operators.{update}
use Rattle.jl_store.specs.LookUps.{reference_seen}
use Rattle.jl_store.specs.declared.names.Reference.{Reference as Resolved}
use Rattle.jl_state.specs.Rest.{RefinesExpression, RefinesAlgorithm}
use Rattle.jl_state.specs.Steps.{ValueWaits}
use Rattle.jl_state.specs.ValueFrames.{value_after}
use Rattle.jl_state.specs.Words.{table_of}
use Rattle.jl_state.specs.declared.act.Act.{Act}
use Rattle.jl_state.specs.declared.state.State.{State}
use Rattle.jl_state.specs.declared.value_frame.ValueFrame.TheVariants as waiting
use Rattle.jl_member.specs.inner.Nexts.{next_of}
use Rattle.jl_member.proofs.Names.{writes}
use Rattle.jl_member.proofs.Quiet.{performed}
use Rattle.jl_member.proofs.Updates.{finds_next, update_number, update_waits}

module _ (s : State) (x : Bor Name) (r : Resolved) (up prefix strict : Bool) where
  abbrev after_update : Number × Value → Part (Answer Value)
  after_update w = do
    _ ← note_value performs 2 (op.Write x.now) w.1
    _ ← lift (put_value strict x.now w.1 (reference_seen r))
    give (if prefix then w.1 else value.Num w.0)

  abbrev after_next : (held : Value) → Number → Value → Part (Answer Value)
  after_next held n w = do
    _ ← note performs 1 (λ heap. op.Unary (update_kind up) (seen_of heap held) (seen_of heap w))
    after_update (n, w)

  pub converts_name : (t u : State) (held v : Value) (a : Act) → held ≡ v
      → ValueWaits s (waiting.UpdateNamePrimitive x r up prefix strict held) t
      → RefinesAlgorithm t (to_primitive number_hint v) u a
      → RefinesExpression s (value_after (table_of s.functions) s.calls (waiting.UpdateName x r up prefix strict) v) u a
  converts_name t u held v a same waits refines =
      performed s (λ store. (record { 0 = 0 }, op.Read x.now (seen_of store.heap v)))
      (update performs 1 (update_kind up) v >>= after_update) u a
      (update_waits s t u performs 1 (update_kind up) v after_update
      (waiting.UpdateNamePrimitive x r up prefix strict held) a
      (λ p. ap (λ (h : Value). value_after (table_of s.functions) s.calls
      (waiting.UpdateNamePrimitive x r up prefix strict h) p) same) waits refines)

  -- a number is a primitive value
  pub converts_number : (u : State) (held v : Value) (n : Number) (a : Act) → v ≡ value.Num n → held ≡ value.Num n
      → RefinesExpression s (value_after (table_of s.functions) s.calls
      (waiting.UpdateNamePrimitive x r up prefix strict held) v)
      u a → RefinesExpression s (value_after (table_of s.functions) s.calls
      (waiting.UpdateName x r up prefix strict) v) u a
  converts_number u held v n a is same refines =
      performed s (λ store. (record { 0 = 0 }, op.Read x.now (seen_of store.heap v)))
      (update performs 1 (update_kind up) v >>= after_update) u a
      (update_number s performs 1 (update_kind up) v n after_update u a is
      (subst (λ (h : Value). RefinesExpression s (value_after (table_of s.functions) s.calls
      (waiting.UpdateNamePrimitive x r up prefix strict h) v) u a) (same ∙ sym is) refines))

  pub writes_next : (held p : Value) (found : Option (Number × Number)) (n m : Number) (given : Value) (t : State)
      (a : Act) → found ≡ next_of (update_kind up) p → found ≡ Some (n, m)
      → given ≡ (if prefix then value.Num m else value.Num n)
      → RefinesAlgorithm s (put_value strict x.now (value.Num m) (reference_seen r) >>= λ _. give given) t a
      → RefinesExpression s (value_after (table_of s.functions) s.calls
      (waiting.UpdateNamePrimitive x r up prefix strict held) p)
      t a
  writes_next held p found n m given t a same is chosen refines =
      finds_next s (update_kind up) p found n m (after_next held) t a same is
      (performed s (λ store. (
        record { 0 = 1 },
        op.Unary (update_kind up) (seen_of store.heap held) (seen_of store.heap (value.Num m)),
      )) (after_update (n, value.Num m)) t a
      (writes s (λ store. (record { 0 = 2 }, op.Write x.now (seen_of store.heap (value.Num m)))) strict x.now
      (value.Num m) (if prefix then value.Num m else value.Num n) given (reference_seen r) t a chosen refines))
