-- `reverse`: two elements that change places.
use Rattle.std.proofs.Common.{◌≡◌, ◌∙◌, ◌+◌, ◌-◌, ap, false, refl, subst, sym, true, Bool, None, Option}
use Rattle.std.proofs.Common.{Some, ℕ}
use mathlib.Core.Path.{fun_ext}
use Rattle.std.specs.Prelude.{if◌then◌else◌}
use Rattle.jl_value.specs.declared.object.ObjId.{ObjId}
use Rattle.jl_value.specs.declared.value.Value.{Value}
use Rattle.jl_value.specs.declared.value.Value.TheVariants as value
use Rattle.jl_meaning.specs.Parts.{look, ◌>>=◌, Algorithm}
use Rattle.jl_meaning.specs.builtins.Arguments.{give_object}
use Rattle.jl_meaning.specs.builtins.ArrayChanges.{exchange, reverse_turn}
use Rattle.jl_meaning.specs.builtins.Elements.{delete_index, get_index, has_index, put_index, put_or_delete}
use Rattle.jl_progress.specs.Arrays.{array_after, reverse_others, upper_of}
use Rattle.jl_progress.specs.declared.array.ArrayProgress.{ArrayProgress}
use Rattle.jl_progress.specs.declared.array.ArrayProgress.TheVariants as array
use Rattle.jl_progress.specs.declared.array.Reversing.{Reversing}
use Rattle.jl_state.specs.Rest.{RefinesAlgorithm}
use Rattle.jl_state.specs.Steps.{RanOut, Took}
use Rattle.jl_state.specs.declared.act.Act.{Act}
use Rattle.jl_state.specs.declared.act.Act.TheVariants as act
use Rattle.jl_state.specs.declared.state.State.{State}
use Rattle.jl_meaning.proofs.Binds.{bind_assoc}
use Rattle.jl_state.proofs.Chains.{works_assoc}
use Rattle.jl_lib_array.proofs.Turns.{upward_ends, upward_spent, upward_takes}

module _ (o : ObjId) (lower upper : ℕ) (k : Unit {0} → Algorithm Value) where
  abbrev looked : Value → Value → Algorithm (Unit {0})
  looked low high = do
    store ← look
    exchange o lower upper low high (has_index store o lower) (has_index store o upper)

  -- a turn gets the lower element, then the upper one
  turn_is : (reverse_turn o lower upper >>= k)
      ≡ (get_index o lower >>= λ low. get_index o upper >>= λ high. looked low high >>= k)
  turn_is =
      bind_assoc (get_index o lower) (λ low. get_index o upper >>= looked low) k
      ∙ ap (λ (f : Value → Algorithm Value). get_index o lower >>= f)
      (fun_ext (λ low. bind_assoc (get_index o upper) (looked low) k))

-- a turn that was begun gets the lower element
pub reverses : (s t : State) (a : Act) (r : Reversing) (lower left : ℕ)
    → RefinesAlgorithm s (get_index r.object lower >>= array_after (array.ReverseLower (record {
      object = r.object;
      length = r.length;
      lower = lower;
      left = left;
    }))) t a
    → RefinesAlgorithm s (reverse_turn r.object lower (r.length - lower - 1) >>= λ _. reverse_others r left
    (lower + 1)) t a
reverses s t a r lower left refines =
    subst (λ p. RefinesAlgorithm s p t a)
    (sym (turn_is r.object lower (r.length - lower - 1) (λ _. reverse_others r left (lower + 1)))) refines

-- what is there of the two

module _ (s t : State) (a : Act) (r : Reversing) (low high : Value) (has_low has_high : Bool)
    (is_low : has_low ≡ has_index s.store r.object r.lower)
    (is_high : has_high ≡ has_index s.store r.object (upper_of r))
  where
    abbrev rest : Unit {0} → Algorithm Value
    rest _ = reverse_others r r.left (r.lower + 1)

    exchanges : RefinesAlgorithm s (exchange r.object r.lower (upper_of r) low high has_low has_high >>= rest) t a
        → RefinesAlgorithm s (array_after (array.ReverseUpper r low) high) t a
    exchanges refines =
        let found =
        subst (λ b. RefinesAlgorithm s (exchange r.object r.lower (upper_of r) low high
        (has_index s.store r.object r.lower) b
        >>= rest) t a) is_high
        (subst (λ b. RefinesAlgorithm s (exchange r.object r.lower
        (upper_of r) low high b has_high >>= rest) t a) is_low
        refines)
        in record { is = found.is }

    pub upper_there : has_high ≡ true → (kept : Option Value) → kept ≡ (if has_low then Some low else None)
        → RefinesAlgorithm s (put_index r.object r.lower high >>= λ _. put_or_delete r.object
        (upper_of r) kept >>= rest) t a
        → RefinesAlgorithm s (array_after (array.ReverseUpper r low) high) t a
    upper_there there kept is refines =
        exchanges
        (subst (λ b. RefinesAlgorithm s (exchange r.object r.lower (upper_of r) low high has_low b >>= rest) t a)
        (sym there)
        (subst (λ p. RefinesAlgorithm s p t a) (by has_low)
        (subst (λ (l : Option Value). RefinesAlgorithm s (put_index r.object r.lower high
        >>= λ _. put_or_delete r.object (upper_of r) l >>= rest) t a) is refines)))
      where
        by : (b : Bool)
            → (put_index r.object r.lower high
            >>= λ _. put_or_delete r.object (upper_of r) (if b then Some low else None) >>= rest)
            ≡ (exchange r.object r.lower (upper_of r) low high b true >>= rest)
        by true = sym (bind_assoc (put_index r.object r.lower high) (λ _. put_index r.object (upper_of r) low) rest)
        by false = sym (bind_assoc (put_index r.object r.lower high) (λ _. delete_index r.object (upper_of r)) rest)

    pub lower_there : has_high ≡ false → has_low ≡ true
        → RefinesAlgorithm s (delete_index r.object r.lower >>= λ _. put_index r.object (upper_of r) low >>= rest) t a
        → RefinesAlgorithm s (array_after (array.ReverseUpper r low) high) t a
    lower_there missing there refines =
        exchanges
        (subst (λ b. RefinesAlgorithm s (exchange r.object r.lower (upper_of r) low high has_low b >>= rest) t a)
        (sym missing)
        (subst (λ b. RefinesAlgorithm s (exchange r.object r.lower (upper_of r) low high b false >>= rest) t a)
        (sym there)
        (works_assoc s (delete_index r.object r.lower) (λ _. put_index r.object (upper_of r) low) rest t a refines)))

    pub none_there : has_high ≡ false → has_low ≡ false → (after : ArrayProgress)
        → array_after after value.Undefined ≡ rest tt → RefinesAlgorithm s (array_after after value.Undefined) t a
        → RefinesAlgorithm s (array_after (array.ReverseUpper r low) high) t a
    none_there missing none after is refines =
        exchanges
        (subst (λ b. RefinesAlgorithm s (exchange r.object r.lower (upper_of r) low high has_low b >>= rest) t a)
        (sym missing)
        (subst (λ b. RefinesAlgorithm s (exchange r.object r.lower (upper_of r) low high b false >>= rest) t a)
        (sym none)
        (subst (λ p. RefinesAlgorithm s p t a) is refines)))

-- turns in which two elements change places

module _ (s u : State) (a : Act) (r : Reversing) where
  abbrev turn : ℕ → Unit {0} → Algorithm (Unit {0})
  turn k _ = reverse_turn r.object k (r.length - k - 1)

  abbrev given : Unit {0} → Algorithm Value
  given _ = give_object r.object

  pub reverses_end : r.left ≡ 0
      → RefinesAlgorithm s (reverse_others r r.left r.lower) s (act.Give (value.Obj r.object))
  reverses_end none =
      upward_ends s s (act.Give (value.Obj r.object)) turn given r.left r.lower tt none
      (record { is = λ kept told. refl })

  pub reverses_spent : (r.left ≡ 0 → ⊥) → u ≡ s → RanOut s
      → RefinesAlgorithm s (reverse_others r r.left r.lower) u act.Spent
  reverses_spent some same spent = upward_spent s u a turn given r.left r.lower tt some same spent

  pub reverses_take : (t : State) → (r.left ≡ 0 → ⊥) → Took s t
      → RefinesAlgorithm t (get_index r.object r.lower >>= array_after
      (array.ReverseLower (record r { left = r.left - 1 }))) u a
      → RefinesAlgorithm s (reverse_others r r.left r.lower) u a
  reverses_take t some took refines =
      upward_takes s u a turn given t r.left r.lower tt some took (reverses t u a r r.lower (r.left - 1) refines)

-- the lower element has been got, and the upper one is
pub gets_upper : (s t : State) (a : Act) (r : Reversing) (low : Value) (upper : ℕ) → upper ≡ upper_of r
    → RefinesAlgorithm s (get_index r.object upper >>= array_after (array.ReverseUpper r low)) t a
    → RefinesAlgorithm s (array_after (array.ReverseLower r) low) t a
gets_upper s t a r low upper is refines =
    subst (λ i. RefinesAlgorithm s (get_index r.object i >>= array_after (array.ReverseUpper r low)) t a) is refines

-- the turn after this one, once the upper index has got its element, or lost it

module _ (s t : State) (a : Act) (r : Reversing) where
  abbrev next_turns : Unit {0} → Algorithm Value
  next_turns _ = reverse_others r r.left (r.lower + 1)

  pub puts_above : (low : Value) (upper : ℕ) (after : ArrayProgress) → upper ≡ upper_of r
      → array_after after value.Undefined ≡ reverse_others r r.left (r.lower + 1)
      → RefinesAlgorithm s (put_index r.object upper low >>= λ _. array_after after value.Undefined) t a
      → RefinesAlgorithm s (put_index r.object (upper_of r) low >>= λ _. reverse_others r r.left (r.lower + 1)) t a
  puts_above low upper after is turn refines =
      subst (λ i. RefinesAlgorithm s (put_index r.object i low >>= next_turns) t a) is
      (subst (λ p. RefinesAlgorithm s (put_index r.object upper low >>= λ _. p) t a) turn refines)

  pub puts_exchanged : (kept : Option Value) (low : Value) → kept ≡ Some low
      → RefinesAlgorithm s (put_index r.object (upper_of r) low >>= λ _. reverse_others r r.left (r.lower + 1)) t a
      → RefinesAlgorithm s (array_after (array.ReverseExchange r kept) value.Undefined) t a
  puts_exchanged kept low is refines =
      subst (λ (l : Option Value). RefinesAlgorithm s (array_after (array.ReverseExchange r l) value.Undefined) t a)
      (sym is) refines

  pub deletes_exchanged : (kept : Option Value) (upper : ℕ) (after : ArrayProgress) → kept ≡ None
      → upper ≡ upper_of r → array_after after value.Undefined ≡ reverse_others r r.left (r.lower + 1)
      → RefinesAlgorithm s (delete_index r.object upper >>= λ _. array_after after value.Undefined) t a
      → RefinesAlgorithm s (array_after (array.ReverseExchange r kept) value.Undefined) t a
  deletes_exchanged kept upper after none is turn refines =
      subst (λ (l : Option Value). RefinesAlgorithm s (array_after (array.ReverseExchange r l) value.Undefined) t a)
      (sym none)
      (subst (λ i. RefinesAlgorithm s (delete_index r.object i >>= next_turns) t a) is
      (subst (λ p. RefinesAlgorithm s (delete_index r.object upper >>= λ _. p) t a) turn refines))
