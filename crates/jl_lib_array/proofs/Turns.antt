-- Turns of loops: what is left where a step is taken, where none is left, and after the last turn.
use Rattle.std.proofs.Common.{◌≡◌, ◌+◌, ◌-◌, ◌∷◌, [], arith, refl, subst, suc, sym, zero, List, ℕ}
use Rattle.jl_value.specs.declared.object.ObjId.{ObjId}
use Rattle.jl_value.specs.declared.value.Value.{Value}
use Rattle.jl_value.specs.declared.value.Value.TheVariants as value
use Rattle.jl_meaning.specs.Parts.{give, ◌>>=◌, Algorithm}
use Rattle.jl_meaning.specs.builtins.Arguments.{give_object}
use Rattle.jl_meaning.specs.builtins.Array.{append, append_all}
use Rattle.jl_meaning.specs.builtins.Elements.{put_all, put_index}
use Rattle.jl_meaning.specs.builtins.Turns.{downward, upward}
use Rattle.jl_progress.specs.Arrays.{after_putting, array_after, put_others}
use Rattle.jl_progress.specs.declared.array.AfterPutting.{AfterPutting}
use Rattle.jl_progress.specs.declared.array.ArrayProgress.{ArrayProgress}
use Rattle.jl_progress.specs.declared.progress.Progress.TheVariants as progress
use Rattle.jl_state.specs.Rest.{RefinesAlgorithm}
use Rattle.jl_state.specs.Steps.{AlgorithmWaits, RanOut, Took}
use Rattle.jl_state.specs.declared.act.Act.{Act}
use Rattle.jl_state.specs.declared.act.Act.TheVariants as act
use Rattle.jl_state.specs.declared.algorithm_frame.AlgorithmFrame.TheVariants as algorithm
use Rattle.jl_state.specs.declared.state.State.{State}
use Rattle.jl_meaning.proofs.Binds.{bind_assoc}
use Rattle.jl_state.proofs.Chains.{works_assoc}

pub one_more : (n : ℕ) → (n ≡ 0 → ⊥) → suc (n - 1) ≡ n
one_more zero some = absurd (some refl)
one_more (suc n) some = omega arith

-- something is done, and then a turn begins
pub then_turn : {A : Type 0} (s t u : State) (a : Act) (q : Algorithm A) (p : ArrayProgress)
    → AlgorithmWaits s (algorithm.Builtin (progress.Array p)) t
    → RefinesAlgorithm t (q >>= λ _. give value.Undefined) u a
    → RefinesAlgorithm s (q >>= λ _. array_after p value.Undefined) u a
then_turn s t u a q p waits refines =
    subst (λ r. RefinesAlgorithm s r u a) (bind_assoc q (λ _. give value.Undefined) (array_after p))
    (waits.works (q >>= λ _. give value.Undefined) u a refines)

module _ {A : Type 0} (s u : State) (a : Act) (turn : ℕ → A → Algorithm A) (l : A → Algorithm Value) where
  -- turns up

  pub upward_ends : (left k : ℕ) (x : A) → left ≡ 0 → RefinesAlgorithm s (l x) u a
      → RefinesAlgorithm s (upward turn left k x >>= l) u a
  upward_ends left k x none refines = subst (λ n. RefinesAlgorithm s (upward turn n k x >>= l) u a) (sym none) refines

  pub upward_takes : (t : State) (left k : ℕ) (x : A) → (left ≡ 0 → ⊥) → Took s t
      → RefinesAlgorithm t (turn k x >>= λ b. upward turn (left - 1) (k + 1) b >>= l) u a
      → RefinesAlgorithm s (upward turn left k x >>= l) u a
  upward_takes t left k x some took refines =
      subst (λ n. RefinesAlgorithm s (upward turn n k x >>= l) u a) (one_more left some)
      (took.works (turn k x >>= (λ b. upward turn (left - 1) (k + 1) b) >>= l) u a
      (works_assoc t (turn k x) (λ b. upward turn (left - 1) (k + 1) b) l u a refines))

  pub upward_spent : (left k : ℕ) (x : A) → (left ≡ 0 → ⊥) → u ≡ s → RanOut s
      → RefinesAlgorithm s (upward turn left k x >>= l) u act.Spent
  upward_spent zero k x some same spent = absurd (some refl)
  upward_spent (suc left) k x some same spent =
      subst (λ w. RefinesAlgorithm s (upward turn (suc left) k x >>= l) w act.Spent) (sym same)
      (spent.works (turn k x >>= (λ b. upward turn left (k + 1) b) >>= l))

  -- turns down

  pub downward_ends : (left : ℕ) (x : A) → left ≡ 0 → RefinesAlgorithm s (l x) u a
      → RefinesAlgorithm s (downward turn left x >>= l) u a
  downward_ends left x none refines = subst (λ n. RefinesAlgorithm s (downward turn n x >>= l) u a) (sym none) refines

  pub downward_takes : (t : State) (left : ℕ) (x : A) → (left ≡ 0 → ⊥) → Took s t
      → RefinesAlgorithm t (turn (left - 1) x >>= λ b. downward turn (left - 1) b >>= l) u a
      → RefinesAlgorithm s (downward turn left x >>= l) u a
  downward_takes t left x some took refines =
      subst (λ n. RefinesAlgorithm s (downward turn n x >>= l) u a) (one_more left some)
      (took.works (turn (left - 1) x >>= (λ b. downward turn (left - 1) b) >>= l) u a
      (works_assoc t (turn (left - 1) x) (λ b. downward turn (left - 1) b) l u a refines))

  pub downward_spent : (left : ℕ) (x : A) → (left ≡ 0 → ⊥) → u ≡ s → RanOut s
      → RefinesAlgorithm s (downward turn left x >>= l) u act.Spent
  downward_spent zero x some same spent = absurd (some refl)
  downward_spent (suc left) x some same spent =
      subst (λ w. RefinesAlgorithm s (downward turn (suc left) x >>= l) w act.Spent) (sym same)
      (spent.works (turn left x >>= (λ b. downward turn left b) >>= l))

-- values that are put
module _ (s u : State) (a : Act) (o : ObjId) (index : ℕ) (next : AfterPutting) where
  pub puts_end : (values : List Value) → values ≡ [] → RefinesAlgorithm s (after_putting o next index) u a
      → RefinesAlgorithm s (put_others o index values next) u a
  puts_end values none refines = subst (λ l. RefinesAlgorithm s (put_others o index l next) u a) (sym none) refines

  pub puts_take : (t : State) (values rest : List Value) (v : Value) → values ≡ v ∷ rest → Took s t
      → RefinesAlgorithm t (put_index o index v >>= λ _. put_others o (index + 1) rest next) u a
      → RefinesAlgorithm s (put_others o index values next) u a
  puts_take t values rest v is took refines =
      subst (λ l. RefinesAlgorithm s (put_others o index l next) u a) (sym is)
      (took.works (put_index o index v >>= (λ _. put_all o (index + 1) rest) >>= after_putting o next) u a
      (works_assoc t (put_index o index v) (λ _. put_all o (index + 1) rest) (after_putting o next) u a refines))

pub puts_spent : (s u : State) (o : ObjId) (index : ℕ) (next : AfterPutting) (values rest : List Value) (v : Value)
    → values ≡ v ∷ rest → u ≡ s → RanOut s → RefinesAlgorithm s (put_others o index values next) u act.Spent
puts_spent s u o index next values rest v is same spent =
    subst (λ l. RefinesAlgorithm s (put_others o index l next) u act.Spent) (sym is)
    (subst (λ w. RefinesAlgorithm s (put_others o index (v ∷ rest) next) w act.Spent) (sym same)
    (spent.works (put_index o index v >>= (λ _. put_all o (index + 1) rest) >>= after_putting o next)))

-- items that are appended
module _ (s : State) (array : ObjId) (n : ℕ) where
  abbrev given_array : Unit {0} → Algorithm Value
  given_array _ = give_object array

  pub appends_end : (items : List Value) → items ≡ [] → RefinesAlgorithm s (append_all array n items >>= given_array) s
      (act.Give (value.Obj array))
  appends_end items none =
      subst (λ l. RefinesAlgorithm s (append_all array n l >>= given_array) s (act.Give (value.Obj array))) (sym none)
      (record { is = λ kept told. refl })

  pub appends_take : (t u : State) (a : Act) (items rest : List Value) (v : Value) → items ≡ v ∷ rest → Took s t
      → RefinesAlgorithm t (append array n v >>= λ m. append_all array m rest >>= given_array) u a
      → RefinesAlgorithm s (append_all array n items >>= given_array) u a
  appends_take t u a items rest v is took refines =
      subst (λ l. RefinesAlgorithm s (append_all array n l >>= given_array) u a) (sym is)
      (took.works (append array n v >>= (λ m. append_all array m rest) >>= given_array) u a
      (works_assoc t (append array n v) (λ m. append_all array m rest) given_array u a refines))

  pub appends_spent : (u : State) (items rest : List Value) (v : Value) → items ≡ v ∷ rest → u ≡ s → RanOut s
      → RefinesAlgorithm s (append_all array n items >>= given_array) u act.Spent
  appends_spent u items rest v is same spent =
      subst (λ l. RefinesAlgorithm s (append_all array n l >>= given_array) u act.Spent) (sym is)
      (subst (λ w. RefinesAlgorithm s (append_all array n (v ∷ rest) >>= given_array) w act.Spent) (sym same)
      (spent.works (append array n v >>= (λ m. append_all array m rest) >>= given_array)))
