-- How a run that follows another stands to it, effect by effect.
use Rattle.std.proofs.Common.{◌≡◌, ℕ, zero, suc, ◌+◌, ◌<◌, ◌≤◌, List, [], ◌∷◌, ◌++◌, Bool, true, false}
use Rattle.std.proofs.Common.{sym, ap, ◌∙◌, subst, ⊎_elim, filter, arith}
use Rattle.std.specs.Prelude.{if◌then◌else◌}
use Rattle.std.proofs.lemmas.Bool.{cases_lt}
use Rattle.std.proofs.lemmas.List.Elements.{filter-append}
use Rattle.jl_effects.specs.Effects.{Part}
use Rattle.jl_effects.specs.Running.{RunState, Finish, Ends, Fails, Outcome, Over, Spent}
use Rattle.jl_effects.specs.Running.{Language, keeping, step, run, state_of, outcome_then}
use Rattle.jl_effects.specs.Growing.{IsPrefix, GoesOn}
use Rattle.jl_effects.specs.Matching.{plus, IsWithin}
use Rattle.jl_effects.specs.Following.{Runs, retold, IsEnd, is_end, IsCut, is_cut, EndsLike, Follows, IsAny}
use Rattle.jl_effects.proofs.Growth.{prefix_on, goes_same}

prefix_kept : {O : Type 0} (kept : O → Bool) (a b : List O) → IsPrefix a b → IsPrefix (filter kept a) (filter kept b)
prefix_kept kept a b p = (filter kept p.0, sym (filter-append kept a p.0) ∙ ap (filter kept) p.1)

-- what a spent run may have done beside another that began alike: nothing so far, and no less as the other goes on
pub record IsPrefixed {S O : Type 0} (kept : O → Bool) (IsPart : RunState S O → RunState S O → Type 0) : Type 0 where
  pub begins : (v v' : RunState S O) (own : List O) → GoesOn v v' → IsPart v' (retold kept v own)
  pub goes : (v v' w : RunState S O) → GoesOn v v' → IsPart v w → IsPart v' w

pub any_prefixed : {S O : Type 0} (kept : O → Bool) → IsPrefixed {S = S} kept IsAny
any_prefixed kept = record { begins = λ v v' own g. tt; goes = λ v v' w g h. tt }

pub within_prefixed : {S O : Type 0} (kept : O → Bool) → IsPrefixed {S = S} kept (IsWithin kept)
within_prefixed kept = record {
  begins = λ v v' own g. record { output = g.output; hooks = prefix_kept kept v.operations v'.operations g.operations };
  goes = λ v v' w g h. record {
    output = prefix_on w.output v.output v'.output h.output g.output;
    hooks = prefix_on w.hooks (filter kept v.operations) (filter kept v'.operations) h.hooks
        (prefix_kept kept v.operations v'.operations g.operations);
  };
}

module _ {S F O A : Type 0} (kept : O → Bool) (IsPart : RunState S O → RunState S O → Type 0) where
  -- an end of both
  pub over_at : (c n : ℕ) (v : RunState S O) (e : Finish F A)
      → Follows kept IsPart c n (Over e n v) (λ own b. Over e b (retold kept v own))
  over_at c n v e = record {
    steps = 0;
    takes = omega arith;
    no_fewer = omega arith;
    not_many_more = omega arith;
    over = λ own b le. is_end (omega arith);
    short = λ own b lt. absurd (omega arith);
  }

  -- more to spare
  pub spare_at : (c d n : ℕ) (second : Runs S F O A) (r : Outcome S F O A) → c ≤ d → Follows kept IsPart c n r second
      → Follows kept IsPart d n r second
  spare_at c d n second (Over e left v) le f = record {
    steps = f.steps;
    takes = f.takes;
    no_fewer = f.no_fewer;
    not_many_more = let h = f.not_many_more in omega arith;
    over = f.over;
    short = f.short;
  }
  spare_at c d n second (Spent v) le f = f

  -- an operation of the second's own
  pub own_at : (c n : ℕ) (o : O) (second : Runs S F O A) (r : Outcome S F O A) → Follows kept IsPart c n r second
      → Follows kept IsPart c n r (λ own b. second (own ++ o ∷ []) b)
  own_at c n o second (Over e left v) f = record {
    steps = f.steps;
    takes = f.takes;
    no_fewer = f.no_fewer;
    not_many_more = f.not_many_more;
    over = λ own b. f.over (own ++ o ∷ []) b;
    short = λ own b. f.short (own ++ o ∷ []) b;
  }
  own_at c n o second (Spent v) f = λ own b. f (own ++ o ∷ []) b

  -- a test that goes the same way for both
  pub test_at : (c n : ℕ) (t : Bool) (r r' : Outcome S F O A) (second second' : Runs S F O A)
      → Follows kept IsPart c n r second
      → Follows kept IsPart c n r' second'
      → Follows kept IsPart c n (if t then r else r') (λ own b. if t then second own b else second' own b)
  test_at c n true r r' second second' f g = f
  test_at c n false r r' second second' f g = g

  -- the same runs
  pub same_at : (c n : ℕ) (second second' : Runs S F O A) (r : Outcome S F O A)
      → ((own : List O) (b : ℕ) → second' own b ≡ second own b) → Follows kept IsPart c n r second
      → Follows kept IsPart c n r second'
  same_at c n second second' (Over e left v) is f = record {
    steps = f.steps;
    takes = f.takes;
    no_fewer = f.no_fewer;
    not_many_more = f.not_many_more;
    over = λ own b le. subst (IsEnd kept e v f.steps b) (sym (is own b)) (f.over own b le);
    short = λ own b lt. subst (IsCut IsPart v) (sym (is own b)) (f.short own b lt);
  }
  same_at c n second second' (Spent v) is f = λ own b le. subst (IsCut IsPart v) (sym (is own b)) (f own b le)

-- Steps.
module _ {S C F J R O A : Type 0} (l : Language S C F) (kept : O → Bool)
    (IsPart : RunState S O → RunState S O → Type 0) (prefixed : IsPrefixed kept IsPart) (second : J
    → Part S C F J R O R) where
  later : (e : Finish F A) (v : RunState S O) (s b : ℕ) (r : Outcome S F O A) → IsEnd kept e v s b r
      → IsEnd kept e v (suc s) (suc b) r
  later e v s b _ (is_end h) = is_end (omega arith)

  module _ (v0 : RunState S O) (q : Part S C F J R O A) where
    step_over : (e : Finish F A) (v : RunState S O) (s : ℕ)
        → ((own : List O) (b : ℕ) → s ≤ b → IsEnd kept e v s b (run l (keeping kept) second b q (retold kept v0 own)))
        → (own : List O) (b : ℕ) → suc s ≤ b
        → IsEnd kept e v (suc s) b (step l (keeping kept) second b q (retold kept v0 own))
    step_over e v s f own zero le = absurd (omega arith)
    step_over e v s f own (suc b) le = later e v s b _ (f own b (omega arith))

    step_short : (v : RunState S O) (n : ℕ) → GoesOn v0 v
        → ((own : List O) (b : ℕ) → b < n → IsCut IsPart v (run l (keeping kept) second b q (retold kept v0 own)))
        → (own : List O) (b : ℕ) → b < suc n → IsCut IsPart v (step l (keeping kept) second b q (retold kept v0 own))
    step_short v n g f own zero lt = is_cut (prefixed.begins v0 v own g)
    step_short v n g f own (suc b) lt = f own b (omega arith)

    step_cut : (v : RunState S O) (n m : ℕ) → n ≤ suc m → GoesOn v0 v
        → ((own : List O) (b : ℕ) → b ≤ m → IsCut IsPart v (run l (keeping kept) second b q (retold kept v0 own)))
        → (own : List O) (b : ℕ) → b ≤ n → IsCut IsPart v (step l (keeping kept) second b q (retold kept v0 own))
    step_cut v n m le g f own zero h = is_cut (prefixed.begins v0 v own g)
    step_cut v n m le g f own (suc b) h = f own b (omega arith)

    -- a step that both take
    pub both_at : (c n : ℕ) (r : Outcome S F O A) → GoesOn v0 (state_of r)
        → Follows kept IsPart (plus 31 c) n r (λ own b. run l (keeping kept) second b q (retold kept v0 own))
        → Follows kept IsPart c (suc n) r (λ own b. step l (keeping kept) second b q (retold kept v0 own))
    both_at c n (Over e left v) g f = record {
      steps = suc f.steps;
      takes = let h = f.takes in omega arith;
      no_fewer = let h = f.no_fewer in omega arith;
      not_many_more = let h = f.not_many_more in omega arith;
      over = step_over e v f.steps f.over;
      short = step_short v f.steps g f.short;
    }
    both_at c n (Spent v) g f = step_cut v (suc n) n (omega arith) g f

    -- a step of the second alone
    pub extra_at : (c n : ℕ) (r : Outcome S F O A) → GoesOn v0 (state_of r)
        → Follows kept IsPart c n r (λ own b. run l (keeping kept) second b q (retold kept v0 own))
        → Follows kept IsPart (suc c) n r (λ own b. step l (keeping kept) second b q (retold kept v0 own))
    extra_at c n (Over e left v) g f = record {
      steps = suc f.steps;
      takes = f.takes;
      no_fewer = let h = f.no_fewer in omega arith;
      not_many_more = let h = f.not_many_more in omega arith;
      over = step_over e v f.steps f.over;
      short = step_short v f.steps g f.short;
    }
    extra_at c n (Spent v) g f = step_cut v n n (omega arith) g f

    -- no step is left to both
    pub none_at : (c : ℕ)
        → Follows kept IsPart c 0 (Spent v0) (λ own b. step l (keeping kept) second b q (retold kept v0 own))
    none_at c = λ own b le. none own b le
      where
        none : (own : List O) (b : ℕ) → b ≤ 0 → IsCut IsPart v0 (step l (keeping kept) second b q (retold kept v0 own))
        none own zero le = is_cut (prefixed.begins v0 v0 own (goes_same v0))
        none own (suc b) le = absurd (omega arith)

-- One part after another.

later_by : {S F O B : Type 0} (kept : O → Bool) (s t b left : ℕ) (e : Finish F B) (v : RunState S O)
    → s + left ≡ b → (r : Outcome S F O B)
    → IsEnd kept e v t left r → IsEnd kept e v (s + t) b r
later_by kept s t b left e v h _ (is_end k) = is_end (omega arith)

module _ {S F O A B : Type 0} (kept : O → Bool) (IsPart : RunState S O → RunState S O → Type 0)
    (prefixed : IsPrefixed kept IsPart) where
  cut_on : (v v' : RunState S O) (g : A → ℕ → RunState S O → Outcome S F O B) → GoesOn v v' → (r : Outcome S F O A)
      → IsCut IsPart v r → IsCut IsPart v' (outcome_then r g)
  cut_on v v' g go _ (is_cut {w = w} h) = is_cut (prefixed.goes v v' w go h)

  fault_on : (x : F) (v : RunState S O) (s b : ℕ) (g : A → ℕ → RunState S O → Outcome S F O B) (r : Outcome S F O A)
      → IsEnd kept (Fails x) v s b r → IsEnd kept (Fails x) v s b (outcome_then r g)
  fault_on x v s b g _ (is_end h) = is_end h

  module _ (c n : ℕ) (a : A) (m : ℕ) (u : RunState S O) (q : Runs S F O A) (g : A → ℕ → RunState S O → Outcome S F O B)
      (f : EndsLike kept IsPart c n (Ends a) m u q) where
    end_then : (e : Finish F B) (v : RunState S O) (t : ℕ)
        → ((own : List O) (b : ℕ) → t ≤ b → IsEnd kept e v t b (g a b (retold kept u own))) → (b : ℕ)
        → f.steps + t ≤ b → (r : Outcome S F O A) → IsEnd kept (Ends a) u f.steps b r
        → IsEnd kept e v (f.steps + t) b (outcome_then r g)
    end_then e v t over b le _ (is_end {own = own} {left = left} h) =
        later_by kept f.steps t b left e v h _ (over own left (omega arith))

    cut_then : (v : RunState S O) (t : ℕ)
        → ((own : List O) (b : ℕ) → b < t → IsCut IsPart v (g a b (retold kept u own))) → (b : ℕ)
        → b < f.steps + t → (r : Outcome S F O A) → IsEnd kept (Ends a) u f.steps b r
        → IsCut IsPart v (outcome_then r g)
    cut_then v t short b lt _ (is_end {own = own} {left = left} h) = short own left (omega arith)

    after_at : (r : Outcome S F O B) → GoesOn u (state_of r)
        → Follows kept IsPart 0 m r (λ own b. g a b (retold kept u own))
        → Follows kept IsPart c n r (λ own b. outcome_then (q own b) g)
    after_at (Over e left v) go s = record {
      steps = f.steps + s.steps;
      takes = let h = f.takes in let k = s.takes in omega arith;
      no_fewer = let h = f.no_fewer in let k = s.no_fewer in omega arith;
      not_many_more = let h = f.not_many_more in let k = s.not_many_more in omega arith;
      over = λ own b le. end_then e v s.steps s.over b le (q own b) (f.over own b (omega arith));
      short = λ own b lt. ⊎_elim
          (λ l. cut_on u v g go (q own b) (f.short own b l))
          (λ l. cut_then v s.steps s.short b lt (q own b) (f.over own b l)) (cases_lt b f.steps);
    }
    after_at (Spent v) go s = λ own b le. ⊎_elim
        (λ l. cut_on u v g go (q own b) (f.short own b l))
        (λ l. let h = f.no_fewer in
        cut_then v (suc m) (λ own b lt. s own b (omega arith)) b (omega arith) (q own b) (f.over own b l))
        (cases_lt b f.steps)

  pub then_at : (c n : ℕ) (q : Runs S F O A) (f g : A → ℕ → RunState S O → Outcome S F O B)
      → ((a : A) (m : ℕ) (v : RunState S O) → GoesOn v (state_of (f a m v)))
      → ((a : A) (m : ℕ) (v : RunState S O) → Follows kept IsPart 0 m (f a m v) (λ own b. g a b (retold kept v own)))
      → (r : Outcome S F O A) → Follows kept IsPart c n r q
      → Follows kept IsPart c n (outcome_then r f) (λ own b. outcome_then (q own b) g)
  then_at c n q f g go h (Over (Ends a) left v) k = after_at c n a left v q g k (f a left v) (go a left v) (h a left v)
  then_at c n q f g go h (Over (Fails x) left v) k = record {
    steps = k.steps;
    takes = k.takes;
    no_fewer = k.no_fewer;
    not_many_more = k.not_many_more;
    over = λ own b le. fault_on x v k.steps b g (q own b) (k.over own b le);
    short = λ own b lt. cut_on v v g (goes_same v) (q own b) (k.short own b lt);
  }
  then_at c n q f g go h (Spent v) k = λ own b le. cut_on v v g (goes_same v) (q own b) (k own b le)
