-- A length that is put, and then given.
use Rattle.std.proofs.Common.{◌≡◌, refl, subst, false, true, Bool, None, Some, ℕ, pos}
use Rattle.std.specs.Prelude.{if◌then◌else◌}
use Rattle.jl_num.specs.Number.{is_number}
use Rattle.jl_value.specs.declared.object.ObjId.{ObjId}
use Rattle.jl_value.specs.declared.value.Value.{Value}
use Rattle.jl_value.specs.declared.value.Value.TheVariants as value
use Rattle.jl_heap.specs.Define.{length_name}
use Rattle.jl_meaning.specs.FunctionObjects.{whole}
use Rattle.jl_meaning.specs.Operators.{give_number}
use Rattle.jl_meaning.specs.Parts.{give, ◌>>=◌, Algorithm}
use Rattle.jl_meaning.specs.Putting.{put}
use Rattle.jl_meaning.specs.builtins.Elements.{give_length, put_length}
use Rattle.jl_state.specs.Rest.{RefinesAlgorithm}
use Rattle.jl_state.specs.declared.act.Act.{Act}
use Rattle.jl_state.specs.declared.state.State.{State}

-- a length that is no number of a script ends the run before it is given
given_whole : (o : ObjId) (n : ℕ) → (put_length o n >>= λ _. give (whole n)) ≡ give_length o n
given_whole o n = by (is_number (pos n))
  where
    count : Bool → Algorithm Value
    count b = give_number (if b then Some (Some (pos n)) else None)

    by : (b : Bool)
        → (count b >>= (λ v. put true (value.Obj o) length_name v) >>= λ _. give (whole n))
        ≡ (count b >>= (λ v. put true (value.Obj o) length_name v) >>= λ _. count b)
    by true = refl
    by false = refl

pub gives_length : (s t : State) (a : Act) (o : ObjId) (n : ℕ) (v : Value) → v ≡ whole n
    → RefinesAlgorithm s (put_length o n >>= λ _. give v) t a → RefinesAlgorithm s (give_length o n) t a
gives_length s t a o n v is refines =
    subst (λ p. RefinesAlgorithm s p t a) (given_whole o n)
    (subst (λ w. RefinesAlgorithm s (put_length o n >>= λ _. give w) t a) is refines)
