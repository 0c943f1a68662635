-- Lines that are printed.
use Rattle.std.proofs.Common.{◌≡◌, ◌∷◌, ◌++◌, ◌+◌, ◌∙◌, [], ap, arith, drop, length, refl, subst, sym, false, true}
use Rattle.std.proofs.Common.{Bool, List, ℕ}
use Rattle.std.specs.Prelude.{if◌then◌else◌, nat_le}
use Rattle.jl_text.specs.Encoding.{bytes_of}
use Rattle.jl_value.specs.declared.ending.Fault.TheVariants.{OutputTooLong}
use Rattle.jl_value.specs.declared.value.Value.{Value}
use Rattle.jl_value.specs.declared.value.Value.TheVariants as value
use Rattle.jl_op.specs.Operations.{Operation}
use Rattle.jl_effects.specs.Effects.{and_then, Print, Step}
use Rattle.jl_effects.specs.Running.{Fails, Over}
use Rattle.jl_meaning.specs.Conversions.{string_hint, to_primitive, to_string}
use Rattle.jl_meaning.specs.Mean.{language}
use Rattle.jl_meaning.specs.Parts.{give, lift, ◌>>=◌, Algorithm}
use Rattle.jl_meaning.specs.builtins.Global.{print_line, print_others}
use Rattle.jl_progress.specs.Globals.{line_with}
use Rattle.jl_progress.specs.Progress.{progress_after}
use Rattle.jl_progress.specs.declared.global.GlobalProgress.TheVariants as global
use Rattle.jl_progress.specs.declared.progress.Progress.TheVariants as progress
use Rattle.jl_state.specs.Rest.{as_value, continuation_of, run_in, run_state, RefinesAlgorithm}
use Rattle.jl_state.specs.Steps.{Took}
use Rattle.jl_state.specs.declared.act.Act.{Act}
use Rattle.jl_state.specs.declared.act.Act.TheVariants as act
use Rattle.jl_state.specs.declared.state.State.{State}
use Rattle.jl_builtin.proofs.Conversions.{as_string}

-- a line with its end, after what was printed

ended : (bytes : List ℕ) → length (bytes ++ 10 ∷ []) ≡ length bytes + 1
ended [] = refl
ended (b ∷ bytes) = omega (arith, ended bytes)

longer : (out bytes : List ℕ) → length (out ++ bytes ++ 10 ∷ []) ≡ length out + (length bytes + 1)
longer [] bytes = omega (arith, ended bytes)
longer (o ∷ out) bytes = omega (arith, longer out bytes)

module _ (s : State) (bytes : List ℕ) where
  abbrev printed_state : State
  printed_state = record s { output = s.output ++ bytes ++ 10 ∷ [] }

  room_is : (b : Bool) → b ≡ nat_le (length s.output + (length bytes + 1)) 16777216
      → nat_le (length (s.output ++ bytes ++ 10 ∷ [])) 16777216 ≡ b
  room_is b is = ap (λ n. nat_le n 16777216) (longer s.output bytes) ∙ sym is

  -- what a run comes to from the print on, where there is room or not
  printed : (room : Bool) → nat_le (length (s.output ++ bytes ++ 10 ∷ [])) 16777216 ≡ room → (p : Algorithm Value)
      (kept : Operation → Bool) (told : List Operation)
      → run_in kept told s (and_then (as_value (lift (Print bytes p))) (continuation_of s))
      ≡ (if room then run_in kept told printed_state (and_then (as_value (lift p)) (continuation_of s))
      else Over (Fails OutputTooLong) s.left (run_state told s))
  unfolding language
  printed room is p kept told =
      ap (λ (b : Bool). if b then run_in kept told printed_state (and_then (as_value (lift p)) (continuation_of s))
      else Over (Fails OutputTooLong) s.left (run_state told s)) is

-- a line is printed, and then undefined given
pub prints : (s : State) (units bytes line out : List ℕ) (n m : ℕ) (room : Bool) → bytes ≡ bytes_of units
    → n ≡ length s.output → m ≡ length bytes → room ≡ nat_le (n + (m + 1)) 16777216 → room ≡ true → line ≡ bytes
    → out ≡ s.output ++ line ++ 10 ∷ []
    → RefinesAlgorithm s (print_line units) (record s { output = out }) (act.Give value.Undefined)
prints s units bytes line out n m room is before more able there same made =
    subst (λ b. RefinesAlgorithm s (Print b (give value.Undefined)) (record s { output = out })
    (act.Give value.Undefined)) is
    (subst (λ o. RefinesAlgorithm s (Print bytes (give value.Undefined)) (record s { output = o })
    (act.Give value.Undefined))
    (sym (made ∙ ap (λ l. s.output ++ l ++ 10 ∷ []) same))
    (record {
      is = λ kept told. sym (printed s bytes true (room_is s bytes true fits) (give value.Undefined) kept told);
    }))
  where
    fits : true ≡ nat_le (length s.output + (length bytes + 1)) 16777216
    fits = sym there ∙ able ∙ ap (λ k. nat_le (k + (m + 1)) 16777216) before
        ∙ ap (λ k. nat_le (length s.output + (k + 1)) 16777216) more

-- or the run ends, where there is no room for it
pub no_room : (s : State) (units bytes : List ℕ) (n m : ℕ) (room : Bool) → bytes ≡ bytes_of units
    → n ≡ length s.output → m ≡ length bytes → room ≡ nat_le (n + (m + 1)) 16777216 → room ≡ false
    → RefinesAlgorithm s (print_line units) s (act.Fault OutputTooLong)
no_room s units bytes n m room is before more able none =
    subst (λ b. RefinesAlgorithm s (Print b (give value.Undefined)) s (act.Fault OutputTooLong)) is
    (record {
      is = λ kept told. sym (printed s bytes false (room_is s bytes false full) (give value.Undefined) kept told);
    })
  where
    full : false ≡ nat_le (length s.output + (length bytes + 1)) 16777216
    full = sym none ∙ able ∙ ap (λ k. nat_le (k + (m + 1)) 16777216) before
        ∙ ap (λ k. nat_le (length s.output + (k + 1)) 16777216) more

-- an argument is converted, after a step
pub converts_argument : (s t : State) (line : List ℕ) (is_first : Bool) (v : Value) (args : List Value) (from : ℕ)
    (u : State) (a : Act) → Took s t
    → RefinesAlgorithm t (to_primitive string_hint v
    >>= progress_after (progress.Global (global.Print line is_first args from))) u a
    → RefinesAlgorithm s (Step (to_string v >>= λ units. print_others (line_with line is_first units)
    (drop from args))) u a
converts_argument s t line is_first v args from u a took refines =
    took.works (to_string v >>= λ units. print_others (line_with line is_first units) (drop from args)) u a
    (as_string t u a v (progress_after (progress.Global (global.Print line is_first args from)))
    (λ units. print_others (line_with line is_first units) (drop from args)) (λ p. refl) refines)
