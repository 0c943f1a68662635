-- `join`: lines that are within the length of a string.
use Rattle.std.proofs.Common.{◌≡◌, ◌∙◌, ◌+◌, ◌++◌, ◌-◌, ◌≤◌, [], ap, codes, false, length, not, refl, subst}
use Rattle.std.proofs.Common.{suc, sym, true}
use Rattle.std.proofs.Common.{zero, Bool, List, ℕ}
use mathlib.Core.Path.{fun_ext}
use Rattle.std.specs.Prelude.{if◌then◌else◌, nat_lt, slice_index_or}
use Rattle.std.proofs.lemmas.Bool.{le-ltb}
use Rattle.std.proofs.lemmas.List.{length-append}
use Rattle.jl_value.specs.Tests.{is_nothing, is_undefined}
use Rattle.jl_value.specs.declared.ending.Fault.TheVariants as fault
use Rattle.jl_value.specs.declared.object.ObjId.{ObjId}
use Rattle.jl_value.specs.declared.value.Value.{Value}
use Rattle.jl_value.specs.declared.value.Value.TheVariants as value
use Rattle.jl_conv.specs.Conversions.{text_of_value}
use Rattle.jl_effects.specs.Effects.{Fail, Step}
use Rattle.jl_meaning.specs.Conversions.{string_hint, to_primitive, to_string}
use Rattle.jl_meaning.specs.Errors.{string_limit, string_within}
use Rattle.jl_meaning.specs.Parts.{give, ◌>>=◌, Algorithm, StringTooLong}
use Rattle.jl_meaning.specs.builtins.Arguments.{give_string}
use Rattle.jl_meaning.specs.builtins.Array.{element_string, join_elements, join_turn, separator_of, string_or_empty}
use Rattle.jl_meaning.specs.builtins.Elements.{get_index}
use Rattle.jl_meaning.specs.builtins.Turns.{upward}
use Rattle.jl_progress.specs.Arrays.{array_after, join_first, join_others, with_length}
use Rattle.jl_progress.specs.declared.array.ArrayProgress.TheVariants as array
use Rattle.jl_progress.specs.declared.array.Joining.{Joining}
use Rattle.jl_progress.specs.declared.array.LengthFunction.TheVariants as for_length
use Rattle.jl_state.specs.Rest.{RefinesAlgorithm}
use Rattle.jl_state.specs.Steps.{RanOut, Took}
use Rattle.jl_state.specs.declared.act.Act.{Act}
use Rattle.jl_state.specs.declared.act.Act.TheVariants as act
use Rattle.jl_state.specs.declared.state.State.{State}
use Rattle.jl_meaning.proofs.Binds.{bind_assoc}
use Rattle.jl_builtin.proofs.Conversions.{string_converts}
use Rattle.jl_lib_array.proofs.Turns.{one_more, upward_ends, upward_spent, upward_takes}

-- a string that is short enough
abbrev pub IsWithin : List ℕ → Type 0
IsWithin line = nat_lt string_limit (length line) ≡ false

within_gives : {A : Type 0} (line : List ℕ) (k : List ℕ → Algorithm A) → IsWithin line
    → k line ≡ (string_within line >>= k)
within_gives line k short = ap (λ b. (if b then Fail StringTooLong else give line) >>= k) (sym short)

-- what follows a string that is short enough may rely on it
within_alike : (line : List ℕ) (k l : List ℕ → Algorithm Value) → ((x : List ℕ) → IsWithin x → k x ≡ l x)
    → (string_within line >>= k) ≡ (string_within line >>= l)
within_alike line k l alike = by (nat_lt string_limit (length line)) refl
  where
    by : (b : Bool) → nat_lt string_limit (length line) ≡ b
        → ((if b then Fail StringTooLong else give line) >>= k)
        ≡ ((if b then Fail StringTooLong else give line) >>= l)
    by true e = refl
    by false e = alike line e

module _ (o : ObjId) (separator : List ℕ) where
  -- a turn of which the string is gone on with
  apart : (i : ℕ) (line : List ℕ) (k : List ℕ → Algorithm Value)
      → (join_turn o separator i line >>= k)
      ≡ (string_within (line ++ separator) >>= λ x. element_string o i >>= λ y. string_within (x ++ y) >>= k)
  apart i line k =
      bind_assoc (string_within (line ++ separator))
      (λ x. element_string o i >>= λ y. string_within (x ++ y)) k
      ∙ ap (λ (f : List ℕ → Algorithm Value). string_within (line ++ separator) >>= f)
      (fun_ext (λ x. bind_assoc (element_string o i) (λ y. string_within (x ++ y)) k))

  turn_alike : (i : ℕ) (line : List ℕ) (k l : List ℕ → Algorithm Value)
      → ((x : List ℕ) → IsWithin x → k x ≡ l x)
      → (join_turn o separator i line >>= k) ≡ (join_turn o separator i line >>= l)
  turn_alike i line k l alike =
      apart i line k
      ∙ ap (λ (f : List ℕ → Algorithm Value). string_within (line ++ separator) >>= f)
      (fun_ext (λ x. ap (λ (f : List ℕ → Algorithm Value). element_string o i >>= f)
      (fun_ext (λ y. within_alike (x ++ y) k l alike))))
      ∙ sym (apart i line l)

  -- a line that is short enough stays so
  stays_within : (left k : ℕ) (line : List ℕ) → IsWithin line
      → (upward (join_turn o separator) left k line >>= give_string)
      ≡ (upward (join_turn o separator) left k line >>= λ x. string_within x >>= give_string)
  stays_within zero k line short = within_gives line give_string short
  stays_within (suc left) k line short =
      ap Step (bind_assoc (join_turn o separator k line) (upward (join_turn o separator) left (k + 1)) give_string
      ∙ turn_alike k line (λ x. upward (join_turn o separator) left (k + 1) x >>= give_string)
      (λ x. upward (join_turn o separator) left (k + 1) x >>= λ y. string_within y >>= give_string)
      (λ x within. stays_within left (k + 1) x within)
      ∙ sym (bind_assoc (join_turn o separator k line) (upward (join_turn o separator) left (k + 1))
      (λ y. string_within y >>= give_string)))

pub joins_first : (s t : State) (a : Act) (j : Joining) (first line empty units : List ℕ) → empty ≡ []
    → units ≡ first → line ≡ empty ++ units → length first ≤ 1048576 → RefinesAlgorithm s (join_others j line) t a
    → RefinesAlgorithm s (join_first j first) t a
joins_first s t a j first line empty units none same is short refines =
    subst (λ p. RefinesAlgorithm s p t a)
    (sym (stays_within j.object j.separator j.left j.k first (le-ltb string_limit (length first) short)))
    (subst (λ l. RefinesAlgorithm s (join_others j l) t a) (is ∙ ap (λ (l : List ℕ). l ++ units) none ∙ same) refines)

-- the first element is got, if there is one

pub joins_none : (s : State) (o : ObjId) (n : ℕ) (separator empty : List ℕ) → n ≡ 0 → empty ≡ codes ""
    → RefinesAlgorithm s (join_elements o n separator) s (act.Give (value.Text empty))
joins_none s o n separator empty none is =
    subst (λ (m : ℕ). RefinesAlgorithm s (join_elements o m separator) s (act.Give (value.Text empty))) (sym none)
    (subst (λ x. RefinesAlgorithm s (join_elements o 0 separator) s (act.Give (value.Text x))) (sym is)
    (record { is = λ kept told. refl }))

pub joins_some : (s t : State) (a : Act) (o : ObjId) (n : ℕ) (separator : List ℕ) → (n ≡ 0 → ⊥)
    → RefinesAlgorithm s (get_index o 0 >>= array_after (array.JoinFirst (record {
      object = o;
      separator = separator;
      left = n - 1;
      k = 1;
    }))) t a
    → RefinesAlgorithm s (join_elements o n separator) t a
joins_some s t a o n separator some refines =
    subst (λ (m : ℕ). RefinesAlgorithm s (join_elements o m separator) t a) (one_more n some)
    (subst (λ p. RefinesAlgorithm s p t a)
    (sym (bind_assoc (get_index o 0) string_or_empty
    (λ first. upward (join_turn o separator) (n - 1) 1 first >>= give_string))) refines)

-- whether a string after a line is short enough
not_over : (b : Bool) → not b ≡ true → b ≡ false
not_over false e = refl
not_over true e = absurd (let differ = e in cc)

over_so : (b : Bool) → not b ≡ false → b ≡ true
over_so true e = refl
over_so false e = absurd (let differ = e in cc)

room_is : (line next : List ℕ) (n m : ℕ) (room : Bool) → n ≡ length line → m ≡ length next
    → room ≡ not (nat_lt string_limit (n + m)) → room ≡ not (nat_lt string_limit (length (line ++ next)))
room_is line next n m room before more is =
    is ∙ ap (λ k. not (nat_lt string_limit (k + m))) before
    ∙ ap (λ k. not (nat_lt string_limit (length line + k))) more
    ∙ ap (λ k. not (nat_lt string_limit k)) (sym (length-append line next))

module _ (line next : List ℕ) (n m : ℕ) (room : Bool) (before : n ≡ length line) (more : m ≡ length next)
    (is : room ≡ not (nat_lt string_limit (n + m))) where
  fits : room ≡ true → IsWithin (line ++ next)
  fits there = not_over _ (sym (room_is line next n m room before more is) ∙ there)

  -- there is room for it
  pub has_room : (s t : State) (a : Act) (k : List ℕ → Algorithm Value) (longer : List ℕ) → room ≡ true
      → longer ≡ line ++ next → RefinesAlgorithm s (k longer) t a
      → RefinesAlgorithm s (string_within (line ++ next) >>= k) t a
  has_room s t a k longer there same refines =
      subst (λ p. RefinesAlgorithm s p t a) (within_gives (line ++ next) k (fits there))
      (subst (λ l. RefinesAlgorithm s (k l) t a) same refines)

  -- or there is none
  pub no_room : (s : State) (k : List ℕ → Algorithm Value) → room ≡ false
      → RefinesAlgorithm s (string_within (line ++ next) >>= k) s (act.Fault fault.StringTooLong)
  no_room s k none =
      subst (λ b. RefinesAlgorithm s ((if b then Fail StringTooLong else give (line ++ next)) >>= k) s
      (act.Fault fault.StringTooLong)) (sym over) (record { is = λ kept told. refl })
    where
      over : nat_lt string_limit (length (line ++ next)) ≡ true
      over = over_so _ (sym (room_is line next n m room before more is) ∙ none)

-- a turn gets its element, after the separator
module _ (j : Joining) (i : ℕ) (line units : List ℕ) (n m : ℕ) (room : Bool) (before : n ≡ length line)
    (are : units ≡ j.separator) (many : m ≡ length units) (is : room ≡ not (nat_lt string_limit (n + m))) where
  more : m ≡ length j.separator
  more = many ∙ ap length are

  abbrev rest_of_turn : List ℕ → Algorithm Value
  rest_of_turn x = element_string j.object i >>= λ y. string_within (x ++ y) >>= join_others j

  pub joins_one : (s t : State) (a : Act) (longer : List ℕ) → room ≡ true → longer ≡ line ++ units
      → RefinesAlgorithm s (get_index j.object i >>= array_after (array.JoinElement j longer)) t a
      → RefinesAlgorithm s (join_turn j.object j.separator i line >>= join_others j) t a
  joins_one s t a longer there same refines =
      subst (λ p. RefinesAlgorithm s p t a) (sym (apart j.object j.separator i line (join_others j)))
      (has_room line j.separator n m room before more is s t a rest_of_turn longer there
      (same ∙ ap (λ (l : List ℕ). line ++ l) are)
      (subst (λ p. RefinesAlgorithm s p t a)
      (sym (bind_assoc (get_index j.object i) string_or_empty (λ y. string_within (longer ++ y) >>= join_others j)))
      refines))

  pub joins_none_more : (s : State) → room ≡ false
      → RefinesAlgorithm s (join_turn j.object j.separator i line >>= join_others j) s (act.Fault fault.StringTooLong)
  joins_none_more s none =
      subst (λ p. RefinesAlgorithm s p s (act.Fault fault.StringTooLong))
      (sym (apart j.object j.separator i line (join_others j)))
      (no_room line j.separator n m room before more is s rest_of_turn none)

-- values that are nothing, and others

pub something : (v : Value) (k : List ℕ → Algorithm Value) → is_nothing v ≡ false
    → (to_string v >>= k) ≡ (string_or_empty v >>= k)
something v k there = ap (λ b. (if b then give [] else to_string v) >>= k) (sym there)

pub nothing : (v : Value) (k : List ℕ → Algorithm Value) → is_nothing v ≡ true
    → k [] ≡ (string_or_empty v >>= k)
nothing v k none = ap (λ b. (if b then give [] else to_string v) >>= k) (sym none)

-- an element that is nothing, or is converted

pub next_nothing : (s t : State) (a : Act) (v : Value) (k : List ℕ → Algorithm Value) (empty : List ℕ)
    → is_nothing v ≡ true → empty ≡ [] → RefinesAlgorithm s (k empty) t a
    → RefinesAlgorithm s (string_or_empty v >>= k) t a
next_nothing s t a v k empty none is refines =
    subst (λ p. RefinesAlgorithm s p t a) (nothing v k none) (subst (λ x. RefinesAlgorithm s (k x) t a) is refines)

pub next_converts : (s t : State) (a : Act) (v : Value) (k : List ℕ → Algorithm Value) → is_nothing v ≡ false
    → RefinesAlgorithm s (to_primitive string_hint v >>= λ p. k (text_of_value p)) t a
    → RefinesAlgorithm s (string_or_empty v >>= k) t a
next_converts s t a v k there refines =
    subst (λ p. RefinesAlgorithm s p t a) (string_converts v k ∙ something v k there) refines

-- the separator

separator_missing : (v : Value) (k : List ℕ → Algorithm Value) → is_undefined v ≡ true
    → k (codes ",") ≡ (separator_of v >>= k)
separator_missing value.Undefined k e = refl
separator_missing value.Null k e = absurd (let differ = e in cc)
separator_missing (value.Bool b) k e = absurd (let differ = e in cc)
separator_missing (value.Num n) k e = absurd (let differ = e in cc)
separator_missing (value.Text x) k e = absurd (let differ = e in cc)
separator_missing (value.Obj id) k e = absurd (let differ = e in cc)

separator_there : (v : Value) (k : List ℕ → Algorithm Value) → is_undefined v ≡ false
    → (to_string v >>= k) ≡ (separator_of v >>= k)
separator_there value.Undefined k e = absurd (let differ = e in cc)
separator_there value.Null k e = refl
separator_there (value.Bool b) k e = refl
separator_there (value.Num n) k e = refl
separator_there (value.Text x) k e = refl
separator_there (value.Obj id) k e = refl

module _ (s t : State) (a : Act) (o : ObjId) (args : List Value) (length : ℕ) (v : Value)
    (is : v ≡ slice_index_or args 0 value.Undefined) where
  pub joins_by_comma : (comma : List ℕ) → is_undefined v ≡ true → comma ≡ codes ","
      → RefinesAlgorithm s (join_elements o length comma) t a
      → RefinesAlgorithm s (with_length for_length.Join o args length) t a
  joins_by_comma comma none same refines =
      subst (λ w. RefinesAlgorithm s (separator_of w >>= join_elements o length) t a) is
      (subst (λ p. RefinesAlgorithm s p t a) (separator_missing v (join_elements o length) none)
      (subst (λ x. RefinesAlgorithm s (join_elements o length x) t a) same refines))

  pub joins_by : is_undefined v ≡ false
      → RefinesAlgorithm s (to_primitive string_hint v >>= array_after (array.JoinSeparator o length)) t a
      → RefinesAlgorithm s (with_length for_length.Join o args length) t a
  joins_by there refines =
      subst (λ w. RefinesAlgorithm s (separator_of w >>= join_elements o length) t a) is
      (subst (λ p. RefinesAlgorithm s p t a)
      (string_converts v (join_elements o length) ∙ separator_there v (join_elements o length) there) refines)

-- turns in which an element is joined

module _ (s u : State) (j : Joining) (line : List ℕ) where
  abbrev turns : List ℕ → Algorithm Value
  turns x = string_within x >>= give_string

  pub joins_end : (a : Act) (units : List ℕ) → j.left ≡ 0 → units ≡ line
      → RefinesAlgorithm s (string_within units >>= give_string) u a → RefinesAlgorithm s (join_others j line) u a
  joins_end a units none same refines =
      upward_ends s u a (join_turn j.object j.separator) turns j.left j.k line none
      (subst (λ l. RefinesAlgorithm s (turns l) u a) same refines)

  pub joins_spent : (j.left ≡ 0 → ⊥) → u ≡ s → RanOut s → RefinesAlgorithm s (join_others j line) u act.Spent
  joins_spent some same spent =
      upward_spent s u act.Spent (join_turn j.object j.separator) turns j.left j.k line some same spent

  pub joins_take : (a : Act) (t : State) (k : ℕ) → (j.left ≡ 0 → ⊥) → Took s t → k ≡ j.k + 1
      → RefinesAlgorithm t (join_turn j.object j.separator j.k line >>= join_others
      (record j { left = j.left - 1; k = k })) u a
      → RefinesAlgorithm s (join_others j line) u a
  joins_take a t k some took more refines =
      upward_takes s u a (join_turn j.object j.separator) turns t j.left j.k line some took
      (subst (λ i. RefinesAlgorithm t (join_turn j.object j.separator j.k line
      >>= join_others (record j { left = j.left - 1; k = i })) u a) more refines)
