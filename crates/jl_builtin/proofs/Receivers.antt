-- What `this` stands for.
use Rattle.std.proofs.Common.{◌≡◌, ◌∙◌, ap, codes, sym, None, Option, Some}
use Rattle.jl_value.specs.declared.error_kind.ErrorKind.TheVariants.{TypeError}
use Rattle.jl_value.specs.declared.value.Value.{Value}
use Rattle.jl_effects.specs.Effects.{Look}
use Rattle.jl_meaning.specs.Errors.{throw_type_error}
use Rattle.jl_meaning.specs.Parts.{◌>>=◌, Algorithm}
use Rattle.jl_meaning.specs.Store.{Store}
use Rattle.jl_meaning.specs.builtins.Arguments.{need_receiver}
use Rattle.jl_state.specs.Rest.{RefinesAlgorithm}
use Rattle.jl_state.specs.declared.act.Act.{Act}
use Rattle.jl_state.specs.declared.state.State.{State}
use Rattle.jl_state.proofs.Steps.{looks}
use Rattle.jl_algorithm.proofs.Throwing.{works_left_out}

module _ {A : Type 0} (s : State) (find : Store → Option A) (found : Option A) (k : A → Algorithm Value) (t : State)
    (a : Act) (is : found ≡ find s.store) where
  -- it is what is asked for
  pub receives : (x : A) → found ≡ Some x → RefinesAlgorithm s (k x) t a
      → RefinesAlgorithm s (Look (λ store. need_receiver (find store) >>= k)) t a
  receives x there refines =
      looks s (λ store. need_receiver (find store) >>= k) (k x) t a (ap (λ o. need_receiver o >>= k) (sym there ∙ is))
      refines

  -- or a TypeError is thrown
  pub refuses : found ≡ None → RefinesAlgorithm s (throw_type_error (codes "wrong receiver")) t a
      → RefinesAlgorithm s (Look (λ store. need_receiver (find store) >>= k)) t a
  refuses none refines =
      looks s (λ store. need_receiver (find store) >>= k) (throw_type_error (codes "wrong receiver") >>= k) t a
      (ap (λ o. need_receiver o >>= k) (sym none ∙ is))
      (works_left_out s TypeError (codes "wrong receiver") k t a refines)
