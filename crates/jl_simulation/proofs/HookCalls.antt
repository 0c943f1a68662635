-- What the calls of hooks in a woven script do: each is its arguments, a step, and the hook.
use Rattle.std.proofs.Common.{◌≡◌, ℕ, ◌+◌, ◌<◌, List, [], ◌∷◌, true, Option, Some, None, pos, nat_lt, ap, ◌∙◌}
use Rattle.std.specs.Prelude.{if◌then◌else◌}
use Rattle.std.specs.Option.{option_and_then, option_map}
use mathlib.Core.Path.{fun_ext}
use Rattle.std.proofs.lemmas.Bool.{lt-ltb}
use Rattle.jl_ast.specs.Tree as tree
use Rattle.jl_ast.specs.Tree.{Text}
use Rattle.jl_scope.specs.Names.{hooks_name}
use Rattle.jl_value.specs.declared.ending.Fault.TheVariants.{Misuse}
use Rattle.jl_value.specs.declared.value.Value.{Value}
use Rattle.jl_value.specs.declared.value.Value.TheVariants as value
use Rattle.jl_op.specs.Ids.{id_count, with_ids, forest_with_ids}
use Rattle.jl_effects.specs.Effects.{Fail, Step}
use Rattle.jl_meaning.specs.Expressions.{evaluate, evaluate_all}
use Rattle.jl_meaning.specs.FunctionObjects.{FunctionTable}
use Rattle.jl_meaning.specs.Parts.{Context, Part, Answer, ◌>>=◌, give}
use Rattle.jl_meaning.specs.forms.Calls.{call_member, call_value}
use Rattle.jl_meaning.specs.forms.HookCalls.{Hook, Opener, Shape, HookCall, hook, opener, plain, worded, hook_call}
use Rattle.jl_meaning.specs.forms.HookCalls.{count, takes_arguments}
use Rattle.jl_meaning.specs.forms.Hooks.{enter_hook, enter_opener, close, call_hook, call_pair, call_by_form}
use Rattle.jl_meaning.specs.forms.Hooks.{call_of_call}
use Rattle.jl_meaning.proofs.Binds.{bind_assoc}
use Rattle.jl_simulation.specs.HookCalls as weaving
use Rattle.jl_simulation.specs.HookCalls.{Expr, Exprs}
use Rattle.jl_simulation.specs.Plain.{id_limit}
use Rattle.jl_simulation.proofs.HookNames.{hook_form}

is_small : (id : ℕ) → id < id_limit → nat_lt id id_limit ≡ true
is_small id h = lt-ltb id id_limit h

-- two values, one after the other
two_values : {A : Type 0} (a b : Part (Answer Value)) (k : List Value → Part (Answer A))
    → ((a >>= (λ v. (b >>= (λ w. give (v ∷ w ∷ []))))) >>= k) ≡ (a >>= (λ v. (b >>= (λ w. k (v ∷ w ∷ [])))))
two_values a b k =
    bind_assoc a (λ v. (b >>= (λ w. give (v ∷ w ∷ [])))) k
    ∙ ap (λ f. a >>= f) (fun_ext (λ v. bind_assoc b (λ w. give (v ∷ w ∷ [])) k))

-- the arguments of a hook, and what it is asked for
abbrev with_id : (id : ℕ) → Exprs → Exprs
with_id id l = tree.more (tree.number (Some (pos id)) tt) l

abbrev asks : {H : Type 0} → Option H → (literals id : ℕ) → Option (HookCall H)
asks asked literals id = option_map (λ h. record { id = id; asked = h; literals = literals }) asked

small_call : {H : Type 0} (asked : Option H) (literals id : ℕ) → id < id_limit
    → option_and_then (asks asked literals) (if nat_lt id id_limit then Some id else None) ≡ asks asked literals id
small_call asked literals id small =
    ap (λ b. option_and_then (asks asked literals) (if b then Some id else None)) (is_small id small)

module _ (table : FunctionTable) (c : Context) where
  -- the values of arguments, but for so many literals that stand first
  abbrev values : Exprs → ℕ → (literals : ℕ) → Part (Answer (List Value))
  values l n literals = evaluate_all table literals [] (forest_with_ids n l) c

  abbrev one : Expr → ℕ → Part (Answer Value)
  one e n = evaluate table (with_ids n e) c

  call_of_hook : (k : Text) (shape : Shape Hook) → hook_form k ≡ hook shape → (id : ℕ) (l : Exprs) (n : ℕ)
      → one (weaving.hook k id l) n
      ≡ Step (call_hook c (hook_call shape (forest_with_ids (n + 2 + 2) (with_id id l))) (values (with_id id l)
      (n + 2 + 2)))
  call_of_hook k shape f id l n =
      ap (λ form. Step (call_by_form form (forest_with_ids (n + 2 + 2) (with_id id l)) c
      (values (with_id id l) (n + 2 + 2))
      (one (weaving.name_of hooks_name) (n + 3) >>= (λ base.
      call_member table n (n + 1) base (value.Text k) (values (with_id id l) (n + 2 + 2) 0))))) f

  pub hook_plain_0 : (k : Text) (h : Hook) → hook_form k ≡ hook (plain h 0) → (id : ℕ) → id < id_limit → (n : ℕ)
      → one (weaving.hook k id tree.end) n ≡ Step (Step (enter_hook c id h []))
  hook_plain_0 k h f id small n =
      call_of_hook k (plain h 0) f id tree.end n
      ∙ ap (λ call. Step (call_hook c call (values (with_id id tree.end) (n + 2 + 2)))) (small_call (Some h) 1 id small)

  pub hook_plain_1 : (k : Text) (h : Hook) → hook_form k ≡ hook (plain h 1) → (id : ℕ) → id < id_limit → (e : Expr)
      (n : ℕ) → one (weaving.hook_1 k id e) n ≡ Step (one e (n + 2 + 2 + 1) >>= (λ v. Step (enter_hook c id h
      (v ∷ []))))
  hook_plain_1 k h f id small e n =
      let l : Exprs = tree.more e tree.end in
      call_of_hook k (plain h 1) f id l n
      ∙ ap (λ call. Step (call_hook c call (values (with_id id l) (n + 2 + 2)))) (small_call (Some h) 1 id small)
      ∙ ap Step (bind_assoc (one e (n + 2 + 2 + 1)) (λ v. give (v ∷ [])) (λ vs. Step (enter_hook c id h vs)))

  pub hook_plain_2 : (k : Text) (h : Hook) → hook_form k ≡ hook (plain h 2) → (id : ℕ) → id < id_limit → (a b : Expr)
      (n : ℕ) → one (weaving.hook_2 k id a b) n
      ≡ Step (one a (n + 2 + 2 + 1) >>= (λ v. (one b (n + 2 + 2 + 1 + id_count a) >>= (λ w.
      Step (enter_hook c id h (v ∷ w ∷ []))))))
  hook_plain_2 k h f id small a b n =
      let l : Exprs = tree.more a (tree.more b tree.end) in
      call_of_hook k (plain h 2) f id l n
      ∙ ap (λ call. Step (call_hook c call (values (with_id id l) (n + 2 + 2)))) (small_call (Some h) 1 id small)
      ∙ ap Step (two_values (one a (n + 2 + 2 + 1)) (one b (n + 2 + 2 + 1 + id_count a))
      (λ vs. Step (enter_hook c id h vs)))

  pub hook_worded_1 : (k : Text) (f : List ℕ → Option Hook) → hook_form k ≡ hook (worded f 1) → (id : ℕ)
      → id < id_limit → (word : Text) (h : Hook) → f word ≡ Some h → (e : Expr) (n : ℕ)
      → one (weaving.hook_of_1 k id word e) n
      ≡ Step (one e (n + 2 + 2 + 1 + 1) >>= (λ v. Step (enter_hook c id h (v ∷ []))))
  hook_worded_1 k f is id small word h asked e n =
      let l : Exprs = tree.more (weaving.string_of word) (tree.more e tree.end) in
      call_of_hook k (worded f 1) is id l n
      ∙ ap (λ call. Step (call_hook c call (values (with_id id l) (n + 2 + 2))))
      (small_call (f word) 2 id small ∙ ap (λ o. asks o 2 id) asked)
      ∙ ap Step (bind_assoc (one e (n + 2 + 2 + 1 + 1)) (λ v. give (v ∷ [])) (λ vs. Step (enter_hook c id h vs)))

  pub hook_worded_2 : (k : Text) (f : List ℕ → Option Hook) → hook_form k ≡ hook (worded f 2) → (id : ℕ)
      → id < id_limit → (word : Text) (h : Hook) → f word ≡ Some h → (a b : Expr) (n : ℕ)
      → one (weaving.hook_of_2 k id word a b) n
      ≡ Step (one a (n + 2 + 2 + 1 + 1) >>= (λ v. (one b (n + 2 + 2 + 1 + 1 + id_count a) >>= (λ w.
      Step (enter_hook c id h (v ∷ w ∷ []))))))
  hook_worded_2 k f is id small word h asked a b n =
      let l : Exprs = tree.more (weaving.string_of word) (tree.more a (tree.more b tree.end)) in
      call_of_hook k (worded f 2) is id l n
      ∙ ap (λ call. Step (call_hook c call (values (with_id id l) (n + 2 + 2))))
      (small_call (f word) 2 id small ∙ ap (λ o. asks o 2 id) asked)
      ∙ ap Step (two_values (one a (n + 2 + 2 + 1 + 1)) (one b (n + 2 + 2 + 1 + 1 + id_count a))
      (λ vs. Step (enter_hook c id h vs)))

  -- a pair of calls
  call_of_opener : (k : Text) (shape : Shape Opener) → hook_form k ≡ opener shape → (id : ℕ) (inner l : Exprs) (n : ℕ)
      → takes_arguments shape (count (forest_with_ids (n + 2 + id_count (weaving.hook k id inner)) l)) ≡ true
      → one (tree.call (weaving.hook k id inner) l tt) n
      ≡ Step (call_pair table c (hook_call shape (forest_with_ids (n + 2 + 2 + 2) (with_id id inner)))
      (values (with_id id inner) (n + 2 + 2 + 2)) (values l (n + 2 + id_count (weaving.hook k id inner)) 0))
  call_of_opener k shape f id inner l n takes =
      let all : Exprs = with_id id inner in
      let m : ℕ = n + 2 + id_count (weaving.hook k id inner) in
      ap (λ form. Step (call_of_call table c form (forest_with_ids (n + 2 + 2 + 2) all) (values all (n + 2 + 2 + 2))
      (count (forest_with_ids m l)) (values l m 0)
      (call_value table (n + 0) (one (weaving.hook k id inner) (n + 2)) (values l m 0)))) f
      ∙ ap (λ b. Step (if b then call_pair table c (hook_call shape (forest_with_ids (n + 2 + 2 + 2) all))
      (values all (n + 2 + 2 + 2)) (values l m 0) else Fail Misuse)) takes

  -- what the first call has prepared, and the second
  abbrev closed : (id : ℕ) → Opener → Exprs → ℕ → List Value → Part (Answer Value)
  closed id h l n vs =
      Step (enter_opener id h vs) >>= (λ pending. (values l n 0 >>= (λ ws. close table c pending ws)))

  pub opener_plain_1 : (k : Text) (h : Opener) → hook_form k ≡ opener (plain h 1) → (id : ℕ) → id < id_limit →
      (e : Expr)
      (l : Exprs) (n : ℕ)
      → takes_arguments (plain h 1) (count (forest_with_ids (n + 2 + id_count (weaving.hook_1 k id e)) l)) ≡ true
      → one (tree.call (weaving.hook_1 k id e) l tt) n
      ≡ Step (Step (one e (n + 2 + 2 + 2 + 1) >>= (λ v.
      closed id h l (n + 2 + id_count (weaving.hook_1 k id e)) (v ∷ []))))
  opener_plain_1 k h f id small e l n takes =
      let inner : Exprs = tree.more e tree.end in
      let m : ℕ = n + 2 + id_count (weaving.hook_1 k id e) in
      call_of_opener k (plain h 1) f id inner l n takes
      ∙ ap (λ call. Step (call_pair table c call (values (with_id id inner) (n + 2 + 2 + 2)) (values l m 0)))
      (small_call (Some h) 1 id small)
      ∙ ap (λ p. Step (Step p)) (bind_assoc (one e (n + 2 + 2 + 2 + 1)) (λ v. give (v ∷ [])) (closed id h l m))

  pub opener_plain_2 : (k : Text) (h : Opener) → hook_form k ≡ opener (plain h 2) → (id : ℕ) → id < id_limit
      → (a b : Expr) (l : Exprs) (n : ℕ)
      → takes_arguments (plain h 2) (count (forest_with_ids (n + 2 + id_count (weaving.hook_2 k id a b)) l)) ≡ true
      → one (tree.call (weaving.hook_2 k id a b) l tt) n
      ≡ Step (Step (one a (n + 2 + 2 + 2 + 1) >>= (λ v. (one b (n + 2 + 2 + 2 + 1 + id_count a) >>= (λ w.
      closed id h l (n + 2 + id_count (weaving.hook_2 k id a b)) (v ∷ w ∷ []))))))
  opener_plain_2 k h f id small a b l n takes =
      let inner : Exprs = tree.more a (tree.more b tree.end) in
      let m : ℕ = n + 2 + id_count (weaving.hook_2 k id a b) in
      call_of_opener k (plain h 2) f id inner l n takes
      ∙ ap (λ call. Step (call_pair table c call (values (with_id id inner) (n + 2 + 2 + 2)) (values l m 0)))
      (small_call (Some h) 1 id small)
      ∙ ap (λ p. Step (Step p)) (two_values (one a (n + 2 + 2 + 2 + 1)) (one b (n + 2 + 2 + 2 + 1 + id_count a))
      (closed id h l m))

  pub opener_worded_2 : (k : Text) (f : List ℕ → Option Opener) → hook_form k ≡ opener (worded f 2) → (id : ℕ)
      → id < id_limit → (word : Text) (h : Opener) → f word ≡ Some h → (a b : Expr) (l : Exprs) (n : ℕ)
      → takes_arguments (worded f 2) (count (forest_with_ids (n + 2 + id_count
      (weaving.hook_of_2 k id word a b)) l)) ≡ true
      → one (tree.call (weaving.hook_of_2 k id word a b) l tt) n
      ≡ Step (Step (one a (n + 2 + 2 + 2 + 1 + 1) >>= (λ v. (one b (n + 2 + 2 + 2 + 1 + 1 + id_count a) >>= (λ w.
      closed id h l (n + 2 + id_count (weaving.hook_of_2 k id word a b)) (v ∷ w ∷ []))))))
  opener_worded_2 k f is id small word h asked a b l n takes =
      let inner : Exprs = tree.more (weaving.string_of word) (tree.more a (tree.more b tree.end)) in
      let m : ℕ = n + 2 + id_count (weaving.hook_of_2 k id word a b) in
      call_of_opener k (worded f 2) is id inner l n takes
      ∙ ap (λ call. Step (call_pair table c call (values (with_id id inner) (n + 2 + 2 + 2)) (values l m 0)))
      (small_call (f word) 2 id small ∙ ap (λ o. asks o 2 id) asked)
      ∙ ap (λ p. Step (Step p)) (two_values (one a (n + 2 + 2 + 2 + 1 + 1))
      (one b (n + 2 + 2 + 2 + 1 + 1 + id_count a)) (closed id h l m))
