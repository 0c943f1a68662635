-- Elements that are moved: `shift`, `unshift` and `splice` as moves from one index on to another.
use Rattle.std.proofs.Common.{◌≡◌, ◌∙◌, ◌+◌, ◌-◌, ◌<◌, ◌≤◌, ap, arith, false, length, refl, subst, suc, sym, true}
use Rattle.std.proofs.Common.{zero, List, ℕ}
use mathlib.Core.Path.{fun_ext}
use Rattle.std.specs.Prelude.{if◌then◌else◌, nat_lt, Bool}
use Rattle.std.proofs.lemmas.Bool.{le-ltb, lt-ltb}
use Rattle.jl_value.specs.declared.object.ObjId.{ObjId}
use Rattle.jl_value.specs.declared.value.Value.{Value}
use Rattle.jl_effects.specs.Effects.{Step}
use Rattle.jl_meaning.specs.Parts.{give, ◌>>=◌, Algorithm}
use Rattle.jl_meaning.specs.builtins.ArrayChanges.{give_nothing, pop_last, shift_first}
use Rattle.jl_meaning.specs.builtins.Elements.{delete_index, get_index, has_index, move_element, put_index}
use Rattle.jl_meaning.specs.builtins.Elements.{put_or_delete}
use Rattle.jl_meaning.specs.builtins.Turns.{downward, upward}
use Rattle.jl_progress.specs.Arrays.{after_moving, array_after, delete_end, length_spliced, move_down, move_up}
use Rattle.jl_progress.specs.Arrays.{put_items}
use Rattle.jl_progress.specs.Arrays.{put_others}
use Rattle.jl_progress.specs.Arrays.{splice_others, with_length, without_last}
use Rattle.jl_progress.specs.declared.array.AfterMoving.{AfterMoving}
use Rattle.jl_progress.specs.declared.array.AfterMoving.TheVariants as moved
use Rattle.jl_progress.specs.declared.array.AfterPutting.TheVariants as put
use Rattle.jl_progress.specs.declared.array.ArrayProgress.TheVariants as array
use Rattle.jl_progress.specs.declared.array.LengthFunction.TheVariants as for_length
use Rattle.jl_progress.specs.declared.array.Moving.{Moving}
use Rattle.jl_progress.specs.declared.array.Splicing.{Splicing}
use Rattle.jl_state.specs.Rest.{RefinesAlgorithm}
use Rattle.jl_state.specs.Steps.{RanOut, Took}
use Rattle.jl_state.specs.declared.act.Act.{Act}
use Rattle.jl_state.specs.declared.act.Act.TheVariants as act
use Rattle.jl_state.specs.declared.state.State.{State}
use Rattle.jl_state.proofs.Chains.{works_assoc}
use Rattle.jl_lib_array.specs.inner.Functions.{close_gap, open_gap}
use Rattle.jl_lib_array.proofs.Found.{element_missing, element_there}
use Rattle.jl_lib_array.proofs.Turns.{downward_ends, downward_spent, downward_takes, one_more, upward_ends}
use Rattle.jl_lib_array.proofs.Turns.{upward_spent}
use Rattle.jl_lib_array.proofs.Turns.{upward_takes}

-- pop and shift of what has elements, and of what has none

pub pops_none : (s t : State) (a : Act) (o : ObjId) (n : ℕ) → n ≡ 0 → RefinesAlgorithm s (give_nothing o) t a
    → RefinesAlgorithm s (pop_last o n) t a
pops_none s t a o n none refines = subst (λ m. RefinesAlgorithm s (pop_last o m) t a) (sym none) refines

pub pops_some : (s t : State) (a : Act) (o : ObjId) (n : ℕ) → (n ≡ 0 → ⊥)
    → RefinesAlgorithm s (get_index o (n - 1) >>= array_after (array.PopElement o (n - 1))) t a
    → RefinesAlgorithm s (pop_last o n) t a
pops_some s t a o n some refines = subst (λ m. RefinesAlgorithm s (pop_last o m) t a) (one_more n some) refines

pub shifts_none : (s t : State) (a : Act) (o : ObjId) (n : ℕ) → n ≡ 0 → RefinesAlgorithm s (give_nothing o) t a
    → RefinesAlgorithm s (shift_first o n) t a
shifts_none s t a o n none refines = subst (λ m. RefinesAlgorithm s (shift_first o m) t a) (sym none) refines

pub shifts_some : (s t : State) (a : Act) (o : ObjId) (n : ℕ) → (n ≡ 0 → ⊥)
    → RefinesAlgorithm s (get_index o 0 >>= array_after (array.ShiftFirst o (n - 1))) t a
    → RefinesAlgorithm s (shift_first o n) t a
shifts_some s t a o n some refines = subst (λ m. RefinesAlgorithm s (shift_first o m) t a) (one_more n some) refines

-- each element but the first goes to the index before

before : (k : ℕ) → k + 0 ≡ k + 1 - 1
before k = omega arith

closer : (o : ObjId) (left k : ℕ)
    → upward (λ i _. move_element o (i + 1) (i + 0)) left k tt
    ≡ upward (λ i _. move_element o i (i - 1)) left (k + 1) tt
closer o zero k = refl
closer o (suc left) k =
    ap (λ (p : Algorithm (Unit {0})). Step (p >>= λ _. upward (λ i _. move_element o (i + 1) (i + 0)) left (k + 1) tt))
    (ap (move_element o (k + 1)) (before k))
    ∙ ap (λ (p : Algorithm (Unit {0})). Step (move_element o (k + 1) (k + 1 - 1) >>= λ _. p)) (closer o left (k + 1))

pub shifts : (s t : State) (a : Act) (o : ObjId) (last : ℕ) (first : Value)
    → RefinesAlgorithm s (move_up (record { object = o; from = 1; to = 0; left = last }) last 0
    >>= λ _. without_last o last first) t a
    → RefinesAlgorithm s (array_after (array.ShiftFirst o last) first) t a
shifts s t a o last first refines =
    subst (λ (p : Algorithm (Unit {0})). RefinesAlgorithm s (p >>= λ _. without_last o last first) t a)
    (closer o last 0) refines

-- unshift: each element goes up by as many as come

from_zero : (k : ℕ) → 0 + k ≡ k
from_zero k = omega arith

after : (n k : ℕ) → n + k ≡ k + n
after n k = omega arith

added : (o : ObjId) (n left : ℕ)
    → downward (λ k _. move_element o (0 + k) (n + k)) left tt ≡ downward (λ k _. move_element o k (k + n)) left tt
added o n left =
    ap (λ (f : ℕ → Unit {0} → Algorithm (Unit {0})). downward f left tt) (fun_ext (λ k. fun_ext (λ _. one k)))
  where
    one : (k : ℕ) → move_element o (0 + k) (n + k) ≡ move_element o k (k + n)
    one k = ap (λ i. move_element o i (n + k)) (from_zero k) ∙ ap (move_element o k) (after n k)

pub unshifts : (s t : State) (a : Act) (o : ObjId) (args : List Value) (len n m : ℕ) → n ≡ length args
    → m ≡ len + n
    → RefinesAlgorithm s (move_down (record { object = o; from = 0; to = n; left = len }) len
    >>= λ _. put_others o 0 args (put.Unshift m)) t a
    → RefinesAlgorithm s (with_length for_length.Unshift o args len) t a
unshifts s t a o args len n m as_many sum refines =
    subst (λ (p : Algorithm (Unit {0})). RefinesAlgorithm s
    (p >>= λ _. put_others o 0 args (put.Unshift (len + length args))) t a)
    (added o (length args) len)
    (subst (λ i. RefinesAlgorithm s (downward (λ k _. move_element o (0 + k) (i + k)) len tt
    >>= λ _. put_others o 0 args (put.Unshift (len + i))) t a) as_many
    (subst (λ i. RefinesAlgorithm s (downward (λ k _. move_element o (0 + k) (n + k)) len tt
    >>= λ _. put_others o 0 args (put.Unshift i)) t a) sum refines))

-- splice: room is made, or a gap closed

module _ (s t : State) (a : Act) (x : Splicing) (n : ℕ) (as_many : n ≡ length x.items) where
  abbrev closing : Algorithm (Unit {0})
  closing = close_gap x

  abbrev opening : Algorithm (Unit {0})
  opening = open_gap x

  pub splice_closes : n < x.removed → RefinesAlgorithm s (close_gap x >>= λ _. put_items x) t a
      → RefinesAlgorithm s (splice_others x) t a
  splice_closes fewer refines =
      subst (λ (b : Bool). RefinesAlgorithm s ((if b then closing
      else (if nat_lt x.removed (length x.items) then opening else give tt)) >>= λ _. put_items x) t a)
      (sym (lt-ltb (length x.items) x.removed (subst (λ m. m < x.removed) as_many fewer))) refines

  pub splice_opens : x.removed ≤ n → x.removed < n → RefinesAlgorithm s (open_gap x >>= λ _. put_items x) t a
      → RefinesAlgorithm s (splice_others x) t a
  splice_opens no_fewer more refines =
      subst (λ (b : Bool). RefinesAlgorithm s ((if b then closing
      else (if nat_lt x.removed (length x.items) then opening else give tt)) >>= λ _. put_items x) t a)
      (sym (le-ltb (length x.items) x.removed (subst (λ m. x.removed ≤ m) as_many no_fewer)))
      (subst (λ (b : Bool). RefinesAlgorithm s ((if b then opening else give tt) >>= λ _. put_items x) t a)
      (sym (lt-ltb x.removed (length x.items) (subst (λ m. x.removed < m) as_many more))) refines)

  pub splice_stays : x.removed ≤ n → n ≤ x.removed → RefinesAlgorithm s (put_items x) t a
      → RefinesAlgorithm s (splice_others x) t a
  splice_stays no_fewer no_more refines =
      subst (λ (b : Bool). RefinesAlgorithm s ((if b then closing
      else (if nat_lt x.removed (length x.items) then opening else give tt)) >>= λ _. put_items x) t a)
      (sym (le-ltb (length x.items) x.removed (subst (λ m. x.removed ≤ m) as_many no_fewer)))
      (subst (λ (b : Bool). RefinesAlgorithm s ((if b then opening else give tt) >>= λ _. put_items x) t a)
      (sym (le-ltb x.removed (length x.items) (subst (λ m. m ≤ x.removed) as_many no_more))) refines)

-- the gap is closed from the first element after it up, and opened from the last one down

pub closes : (s t : State) (a : Act) (x : Splicing) (n left : ℕ) → n ≡ length x.items
    → left ≡ x.length - x.removed - x.start
    → RefinesAlgorithm s (move_up (record { object = x.object; from = x.removed; to = n; left = left }) left x.start
    >>= λ _. after_moving x.object (moved.Delete x)) t a
    → RefinesAlgorithm s (close_gap x >>= λ _. put_items x) t a
closes s t a x n left as_many as_left refines =
    works_assoc s
    (upward (λ k _. move_element x.object (k + x.removed) (k + length x.items)) (x.length - x.removed - x.start)
    x.start tt)
    (λ _. downward (λ k _. delete_index x.object (length_spliced x + k)) (x.removed - length x.items) tt)
    (λ _. put_items x) t a
    (subst (λ l. RefinesAlgorithm s (upward
    (λ k _. move_element x.object (k + x.removed) (k + length x.items)) l x.start tt
    >>= λ _. after_moving x.object (moved.Delete x)) t a) as_left
    (subst (λ m. RefinesAlgorithm s (upward (λ k _. move_element x.object (k + x.removed) (k + m)) left x.start tt
    >>= λ _. after_moving x.object (moved.Delete x)) t a) as_many refines))

within : (start n k : ℕ) → start + n + k ≡ start + k + n
within start n k = omega arith

above : (o : ObjId) (start removed n left : ℕ)
    → downward (λ k _. move_element o (start + removed + k) (start + n + k)) left tt
    ≡ downward (λ k _. move_element o (start + k + removed) (start + k + n)) left tt
above o start removed n left =
    ap (λ (f : ℕ → Unit {0} → Algorithm (Unit {0})). downward f left tt) (fun_ext (λ k. fun_ext (λ _. one k)))
  where
    one : (k : ℕ)
        → move_element o (start + removed + k) (start + n + k) ≡ move_element o (start + k + removed) (start + k + n)
    one k =
        ap (λ i. move_element o i (start + n + k)) (within start removed k)
        ∙ ap (move_element o (start + k + removed)) (within start n k)

pub opens : (s t : State) (a : Act) (x : Splicing) (from to left : ℕ) → from ≡ x.start + x.removed
    → to ≡ x.start + length x.items → left ≡ x.length - x.removed - x.start
    → RefinesAlgorithm s (move_down (record { object = x.object; from = from; to = to; left = left }) left
    >>= λ _. put_items x) t a
    → RefinesAlgorithm s (open_gap x >>= λ _. put_items x) t a
opens s t a x from to left is_from is_to as_left refines =
    subst (λ (p : Algorithm (Unit {0})). RefinesAlgorithm s (p >>= λ _. put_items x) t a)
    (above x.object x.start x.removed (length x.items) (x.length - x.removed - x.start))
    (subst (λ l. RefinesAlgorithm s (turns (x.start + x.removed) (x.start + length x.items) l) t a) as_left
    (subst (λ i. RefinesAlgorithm s (turns (x.start + x.removed) i left) t a) is_to
    (subst (λ i. RefinesAlgorithm s (turns i to left) t a) is_from refines)))
  where
    turns : ℕ → ℕ → ℕ → Algorithm Value
    turns i j l = downward (λ k _. move_element x.object (i + k) (j + k)) l tt >>= λ _. put_items x

-- turns in which an element is moved

module _ (s u : State) (a : Act) (m : Moving) (next : AfterMoving) where
  abbrev then_next : Unit {0} → Algorithm Value
  then_next _ = after_moving m.object next

  abbrev turn_up : ℕ → Unit {0} → Algorithm (Unit {0})
  turn_up k _ = move_element m.object (k + m.from) (k + m.to)

  abbrev others_up : (left k : ℕ) → Algorithm Value
  others_up left k = move_up m left k >>= then_next

  abbrev turn_down : ℕ → Unit {0} → Algorithm (Unit {0})
  turn_down k _ = move_element m.object (m.from + k) (m.to + k)

  abbrev others_down : (left : ℕ) → Algorithm Value
  others_down left = move_down m left >>= then_next

  pub moves_up_end : (k : ℕ) → m.left ≡ 0 → RefinesAlgorithm s (after_moving m.object next) u a
      → RefinesAlgorithm s (others_up m.left k) u a
  moves_up_end k none refines = upward_ends s u a turn_up then_next m.left k tt none refines

  pub moves_up_spent : (k : ℕ) → (m.left ≡ 0 → ⊥) → u ≡ s → RanOut s
      → RefinesAlgorithm s (others_up m.left k) u act.Spent
  moves_up_spent k some same spent = upward_spent s u a turn_up then_next m.left k tt some same spent

  pub moves_up_take : (t : State) (k : ℕ) → (m.left ≡ 0 → ⊥) → Took s t
      → RefinesAlgorithm t (move_element m.object (k + m.from) (k + m.to) >>= λ _. others_up (m.left - 1) (k + 1)) u a
      → RefinesAlgorithm s (others_up m.left k) u a
  moves_up_take t k some took refines = upward_takes s u a turn_up then_next t m.left k tt some took refines

  pub moves_down_end : m.left ≡ 0 → RefinesAlgorithm s (after_moving m.object next) u a
      → RefinesAlgorithm s (others_down m.left) u a
  moves_down_end none refines = downward_ends s u a turn_down then_next m.left tt none refines

  pub moves_down_spent : (m.left ≡ 0 → ⊥) → u ≡ s → RanOut s → RefinesAlgorithm s (others_down m.left) u act.Spent
  moves_down_spent some same spent = downward_spent s u a turn_down then_next m.left tt some same spent

  pub moves_down_take : (t : State) → (m.left ≡ 0 → ⊥) → Took s t
      → RefinesAlgorithm t (move_element m.object (m.from + (m.left - 1)) (m.to + (m.left - 1)) >>= λ _. others_down
      (m.left - 1))
      u a
      → RefinesAlgorithm s (others_down m.left) u a
  moves_down_take t some took refines = downward_takes s u a turn_down then_next t m.left tt some took refines

  -- an element that is there is got, and then put

  pub moves_up_there : (k i : ℕ) (b : Bool) → i ≡ k + m.from → b ≡ has_index s.store m.object i → b ≡ true
      → RefinesAlgorithm s (get_index m.object i >>= array_after (array.MoveUpElement m k next)) u a
      → RefinesAlgorithm s (move_element m.object (k + m.from) (k + m.to) >>= λ _. others_up m.left (k + 1)) u a
  moves_up_there k i b is found there refines =
      subst (λ j. RefinesAlgorithm s (move_element m.object j (k + m.to) >>= λ _. others_up m.left (k + 1)) u a) is
      (element_there s u a m.object i (put_or_delete m.object (k + m.to)) (λ _. others_up m.left (k + 1)) b found there
      refines)

  pub moves_up_element : (k to after : ℕ) (v : Value) → to ≡ k + m.to → after ≡ k + 1
      → RefinesAlgorithm s (put_index m.object to v >>= λ _. others_up m.left after) u a
      → RefinesAlgorithm s (array_after (array.MoveUpElement m k next) v) u a
  moves_up_element k to after v is more refines =
      subst (λ j. RefinesAlgorithm s (put_index m.object j v >>= λ _. others_up m.left (k + 1)) u a) is
      (subst (λ j. RefinesAlgorithm s (put_index m.object to v >>= λ _. others_up m.left j) u a) more refines)

  pub moves_down_there : (i : ℕ) (b : Bool) → i ≡ m.from + m.left → b ≡ has_index s.store m.object i → b ≡ true
      → RefinesAlgorithm s (get_index m.object i >>= array_after (array.MoveDownElement m next)) u a
      → RefinesAlgorithm s (move_element m.object (m.from + m.left) (m.to + m.left) >>= λ _. others_down m.left) u a
  moves_down_there i b is found there refines =
      subst (λ j. RefinesAlgorithm s (move_element m.object j (m.to + m.left) >>= λ _. others_down m.left) u a) is
      (element_there s u a m.object i (put_or_delete m.object (m.to + m.left)) (λ _. others_down m.left) b found there
      refines)

  pub moves_down_element : (to : ℕ) (v : Value) → to ≡ m.to + m.left
      → RefinesAlgorithm s (put_index m.object to v >>= λ _. others_down m.left) u a
      → RefinesAlgorithm s (array_after (array.MoveDownElement m next) v) u a
  moves_down_element to v is refines =
      subst (λ j. RefinesAlgorithm s (put_index m.object j v >>= λ _. others_down m.left) u a) is refines

  -- where there is none, the other is deleted

  pub moves_up_missing : (k i to after : ℕ) (b : Bool) → i ≡ k + m.from → b ≡ has_index s.store m.object i
      → b ≡ false → to ≡ k + m.to → after ≡ k + 1
      → RefinesAlgorithm s (delete_index m.object to >>= λ _. others_up m.left after) u a
      → RefinesAlgorithm s (move_element m.object (k + m.from) (k + m.to) >>= λ _. others_up m.left (k + 1)) u a
  moves_up_missing k i to after b is found missing is_to more refines =
      subst (λ j. RefinesAlgorithm s (move_element m.object j (k + m.to) >>= λ _. others_up m.left (k + 1)) u a) is
      (element_missing s u a m.object i (put_or_delete m.object (k + m.to)) (λ _. others_up m.left (k + 1)) b found
      missing
      (subst (λ j. RefinesAlgorithm s (delete_index m.object j >>= λ _. others_up m.left (k + 1)) u a) is_to
      (subst (λ j. RefinesAlgorithm s (delete_index m.object to >>= λ _. others_up m.left j) u a) more refines)))

  pub moves_down_missing : (i to : ℕ) (b : Bool) → i ≡ m.from + m.left → b ≡ has_index s.store m.object i
      → b ≡ false → to ≡ m.to + m.left → RefinesAlgorithm s (delete_index m.object to >>= λ _. others_down m.left) u a
      → RefinesAlgorithm s (move_element m.object (m.from + m.left) (m.to + m.left) >>= λ _. others_down m.left) u a
  moves_down_missing i to b is found missing is_to refines =
      subst (λ j. RefinesAlgorithm s (move_element m.object j (m.to + m.left) >>= λ _. others_down m.left) u a) is
      (element_missing s u a m.object i (put_or_delete m.object (m.to + m.left)) (λ _. others_down m.left) b found
      missing (subst (λ j. RefinesAlgorithm s (delete_index m.object j >>= λ _. others_down m.left) u a) is_to refines))

-- what follows when all have been moved

module _ (s t : State) (a : Act) (o : ObjId) (next : AfterMoving) where
  abbrev follows : AfterMoving → Type 0
  follows n = RefinesAlgorithm s (after_moving o n) t a

  pub moved_shift : (first : Value) (last : ℕ) → next ≡ moved.Shift first last
      → RefinesAlgorithm s (without_last o last first) t a → RefinesAlgorithm s (after_moving o next) t a
  moved_shift first last is refines = subst follows (sym is) refines

  pub moved_delete : (x : Splicing) (n left : ℕ) → next ≡ moved.Delete x → n ≡ length x.items → left ≡ x.removed - n
      → RefinesAlgorithm s (delete_end x left) t a → RefinesAlgorithm s (after_moving o next) t a
  moved_delete x n left is as_many as_left refines =
      subst follows (sym is)
      (subst (λ m. RefinesAlgorithm s (delete_end x (x.removed - m)) t a) as_many
      (subst (λ m. RefinesAlgorithm s (delete_end x m) t a) as_left refines))

  pub moved_put : (x : Splicing) → next ≡ moved.Put x → RefinesAlgorithm s (put_items x) t a
      → RefinesAlgorithm s (after_moving o next) t a
  moved_put x is refines = subst follows (sym is) refines

  pub moved_unshift : (args : List Value) (len : ℕ) → next ≡ moved.Unshift args len
      → RefinesAlgorithm s (put_others o 0 args (put.Unshift len)) t a → RefinesAlgorithm s (after_moving o next) t a
  moved_unshift args len is refines = subst follows (sym is) refines
