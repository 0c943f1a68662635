-- `try`: a `catch` begins with the hook that tells what it has caught, or as it stands.
use Rattle.std.proofs.Common.{◌≡◌, ℕ, zero, suc, List, [], ◌∷◌, ◌++◌, length, true, false, Some, None, refl, sym, ap}
use Rattle.std.proofs.Common.{◌∙◌, subst, arith}
use Rattle.std.specs.Prelude.{if◌then◌else◌, is_some, slice_index_or, slice_set}
use Rattle.std.specs.Option.{option_map_or}
use Rattle.std.specs.Str.{bytes_eq}
use Rattle.std.proofs.lemmas.Slice.Eq.{bytes_eq-Decides}
use Rattle.jl_ast.specs.Tree.{Text}
use Rattle.jl_value.specs.declared.ending.Completion.{Completion}
use Rattle.jl_value.specs.declared.ending.Completion.TheVariants as completion
use Rattle.jl_value.specs.declared.value.Value.{Value}
use Rattle.jl_heap.specs.Objects.{Name}
use Rattle.jl_op.specs.Chosen.{Kinds}
use Rattle.jl_op.specs.declared.kind.OpKind.TheVariants as kind
use Rattle.jl_op.specs.declared.op.Op.TheVariants as op
use Rattle.jl_effects.specs.Effects.{End, Step, and_then}
use Rattle.jl_effects.specs.Matching.{ends, both, changes, extra, looks, peeks, told, own, spare, plus}
use Rattle.jl_meaning.specs.Changes.{apply, outer_there, NewBinding, NewEnvironment}
use Rattle.jl_meaning.specs.Completions.{if_normal, normal, on_given, then_do}
use Rattle.jl_meaning.specs.Noting.{note_value, performs}
use Rattle.jl_meaning.specs.Parts.{Answer, Context, Part, ◌>>=◌, give, lift}
use Rattle.jl_meaning.specs.References.{binding_value, get_name, get_value, global_reference, identifier_reference}
use Rattle.jl_meaning.specs.References.{in_environment, reference_within}
use Rattle.jl_meaning.specs.Store.{binding_named, binding_of, environment_at, has_binding, next_environment}
use Rattle.jl_meaning.specs.Store.{no_environment, Binding, Environment, Store}
use Rattle.jl_meaning.specs.forms.HookCalls.{catches}
use Rattle.jl_meaning.specs.forms.Hooks.{enter_hook}
use Rattle.jl_meaning.specs.forms.Names.{is_hooks, read_name}
use Rattle.jl_meaning.specs.forms.Try.{begin_catch}
use Rattle.jl_simulation.proofs.Names.{read_is}
use Rattle.jl_simulation.proofs.Relation.{Matched, followed, quiet, StatementMatch}

-- the last of a list
at_end : {A : Type 0} (l : List A) (a d : A) → slice_index_or (l ++ a ∷ []) (length l) d ≡ a
at_end [] a d = refl
at_end (b ∷ l) a d = at_end l a d

set_at_end : {A : Type 0} (l : List A) (a b : A) → slice_set (l ++ a ∷ []) (length l) b ≡ l ++ b ∷ []
set_at_end [] a b = refl
set_at_end (x ∷ l) a b = ap (λ l. x ∷ l) (set_at_end l a b)

same_text : (x : Text) → bytes_eq x x ≡ true
same_text x = (bytes_eq-Decides x x).1 refl

abbrev caught : Name → Value → Binding
caught x v = record { name = x; value = v; mutable = true }

-- the store in which the name of a `catch` is bound
abbrev catch_store : Store → (outer : ℕ) → Name → Value → Store
catch_store s outer x v = apply (NewBinding (next_environment s) (caught x v)) (apply (NewEnvironment outer) s)

-- the environment that is just made has that binding alone
new_binding : (s : Store) (outer : ℕ) (x : Name) (v : Value)
    → binding_of (catch_store s outer x v) (next_environment s) x ≡ Some (caught x v)
new_binding s outer x v =
    let e : Environment = record { outer = outer_there s outer; bindings = [] } in
    let l : List Environment = s.environments ++ e ∷ [] in
    let n : ℕ = length s.environments in
    ap (λ (f : Environment). binding_named x
    (slice_index_or (slice_set l n (record f { bindings = f.bindings ++ caught x v ∷ [] })) n no_environment).bindings)
    (at_end s.environments e no_environment)
    ∙ ap (λ (m : List Environment). binding_named x (slice_index_or m n no_environment).bindings)
    (set_at_end s.environments e (record e { bindings = caught x v ∷ [] }))
    ∙ ap (λ (f : Environment). binding_named x f.bindings)
    (at_end s.environments (record e { bindings = caught x v ∷ [] }) no_environment)
    ∙ ap (λ b. if b then Some (caught x v) else None) (same_text x)

within_new : (more : ℕ) (s : Store) (env : ℕ) (x : Name) → has_binding s env x ≡ true
    → reference_within more s env x ≡ in_environment env
within_new zero s env x h = ap (λ b. if b then in_environment env else global_reference s x) h
within_new (suc more) s env x h =
    ap (λ b. if b then in_environment env
    else option_map_or (λ outer. reference_within more s outer x) (environment_at s env).outer (global_reference s x)) h

abbrev pub tell_catch : (id : ℕ) → Context → Name → Value → Part (Answer Value)
tell_catch id k x v = Step (enter_hook k id (catches x) (v ∷ []))

-- the call of H, where the name is read in the context k
abbrev pub caught_by_hook : (id id' : ℕ) → Context → Name → Part (Answer Value)
caught_by_hook id id' k x = Step (Step (read_name id' k x) >>= tell_catch id k x)

-- a `catch`
abbrev pub catching : (id : ℕ) → Context → Name → Value → (ℕ → Part Completion) → Part Completion
catching id k x v h = and_then (begin_catch id k.env x v) (on_given h)

abbrev pub in_environment_of : Context → ℕ → Context
in_environment_of k env = record k { env = env }

-- with H as its first statement
abbrev pub told_first : (id id' : ℕ) → Context → Name → (ℕ → Part Completion) → ℕ → Part Completion
told_first id id' k x h env =
    then_do (Step (and_then (caught_by_hook id id' (in_environment_of k env) x) (on_given (λ _. normal)))) (h env)

-- what a `try` does with how its block ended
abbrev pub if_thrown : (Value → Part Completion) → Completion → Part Completion
if_thrown h (completion.Throw v) = h v
if_thrown h how = End how

-- with four steps to spare at first
pub record TryMatch (chosen : Kinds) (p q : Part Completion) : Type 0 where
  pub at : (s : Store) (c : ℕ) → Matched chosen s (plus 4 c) c p q

module _ {chosen : Kinds} where
  catch_told : (id id2 id3 : ℕ) (k : Context) (x : Name) (v : Value) (h h' : ℕ → Part Completion) → is_hooks x ≡ false
      → ((env : ℕ) → StatementMatch chosen (h env) (h' env)) → (s : Store) (c : ℕ)
      → Matched chosen s (plus 4 c) c (catching id k x v h) (catching id2 k x v (told_first id id3 k x h'))
  unfolding begin_catch enter_hook get_name get_value identifier_reference
  catch_told id id2 id3 k x v h h' plain y s c =
      let t : Store = catch_store s k.env x v in
      let env : ℕ = next_environment s in
      let inside : Context = in_environment_of k env in
      let one : Part Completion = and_then (note_value performs id (op.Catch x) v) (on_given (λ _. h env)) in
      let reads : Value → Part (Answer Value) = λ v. (note_value performs id3 (op.Read x) v >>= (λ _. give v)) in
      let two : Part (Answer Value) → Part Completion = λ p.
      and_then (and_then ((p >>= reads) >>= tell_catch id inside x) (on_given (λ _. normal))) (if_normal (h' env)) in
      looks (peeks (changes (changes (peeks (own (extra (extra (subst
      (λ q. Matched chosen t (suc (suc c)) c
      (and_then (note_value performs id (op.Catch x) v >>= (λ _. give env)) (on_given h))
      (and_then (and_then (Step q >>= tell_catch id inside x) (on_given (λ _. normal))) (if_normal (h' env))))
      (sym (read_is id3 inside x plain)) (extra (peeks (subst
      (λ reference. Matched chosen t (suc c) c one (two (lift (get_value x reference))))
      (sym (within_new env t env x (ap is_some (new_binding s k.env x v))))
      (peeks (subst (λ b. Matched chosen t (suc c) c one (two (give (binding_value b)))) (sym (new_binding s k.env x v))
      (peeks (own (looks (extra (peeks (told ((y env).at t c))))))))))))))))))))

  catch_silent : (id id' : ℕ) (k : Context) (x : Name) (v : Value) (h h' : ℕ → Part Completion)
      → chosen kind.Catch ≡ false → ((env : ℕ) → StatementMatch chosen (h env) (h' env)) → (s : Store) (c : ℕ)
      → Matched chosen s (plus 4 c) c (catching id k x v h) (catching id' k x v h')
  unfolding begin_catch
  catch_silent id id' k x v h h' e y s c =
      looks (peeks (changes
      (changes (looks (peeks (quiet e (own (spare (omega arith) ((y (next_environment s)).at _ c)))))))))

  -- what is thrown is handled, and then what follows is done
  pub thrown_match : {p p' : Part Completion} {h h' : Value → Part Completion} → StatementMatch chosen p p'
      → ((v : Value) (s : Store) (c : ℕ) → Matched chosen s (plus 4 c) c (h v) (h' v))
      → {f f' : Completion → Part Completion} → ((z : Completion) → StatementMatch chosen (f z) (f' z))
      → TryMatch chosen (and_then p (λ z. and_then (if_thrown h z) f)) (and_then p' (λ z. and_then (if_thrown h' z) f'))
  thrown_match {h = h} {h' = h'} p y {f} {f'} g = record {
    at = λ s c. followed (p.at s (plus 4 c)) (λ z t. followed (on c z t) (λ z t. (g z).at t c));
  }
    where
      on : (c : ℕ) (z : Completion) (t : Store) → Matched chosen t (plus 4 c) c (if_thrown h z) (if_thrown h' z)
      on c completion.Normal t = ends (omega arith)
      on c (completion.Return v) t = ends (omega arith)
      on c (completion.Throw v) t = y v t c
      on c (completion.Break l) t = ends (omega arith)
      on c (completion.Continue l) t = ends (omega arith)

  pub catch_told_match : (id id2 id3 : ℕ) (k : Context) (x : Name) (h h' : ℕ → Part Completion) → is_hooks x ≡ false
      → {p p' : Part Completion} → StatementMatch chosen p p' → ((env : ℕ) → StatementMatch chosen (h env) (h' env))
      → {f f' : Completion → Part Completion} → ((z : Completion) → StatementMatch chosen (f z) (f' z))
      → TryMatch chosen (and_then p (λ z. and_then (if_thrown (λ v. catching id k x v h) z) f))
      (and_then p' (λ z. and_then (if_thrown (λ v. catching id2 k x v (told_first id id3 k x h')) z) f'))
  catch_told_match id id2 id3 k x h h' plain p y g =
      thrown_match p (λ v s c. catch_told id id2 id3 k x v h h' plain y s c) g

  pub catch_silent_match : (id id' : ℕ) (k : Context) (x : Name) (h h' : ℕ → Part Completion)
      → chosen kind.Catch ≡ false → {p p' : Part Completion} → StatementMatch chosen p p'
      → ((env : ℕ) → StatementMatch chosen (h env) (h' env)) → {f f' : Completion → Part Completion}
      → ((z : Completion) → StatementMatch chosen (f z) (f' z))
      → TryMatch chosen (and_then p (λ z. and_then (if_thrown (λ v. catching id k x v h) z) f))
      (and_then p' (λ z. and_then (if_thrown (λ v. catching id' k x v h') z) f'))
  catch_silent_match id id' k x h h' e p y g =
      thrown_match p (λ v s c. catch_silent id id' k x v h h' e y s c) g

  -- without a `catch`
  pub uncaught_match : {p p' : Part Completion} → StatementMatch chosen p p' → {f f' : Completion → Part Completion}
      → ((z : Completion) → StatementMatch chosen (f z) (f' z))
      → TryMatch chosen (and_then p (λ z. and_then (End z) f)) (and_then p' (λ z. and_then (End z) f'))
  uncaught_match p g = record {
    at = λ s c. spare (omega arith) (followed (p.at s c) (λ z t. (g z).at t c));
  }

  pub try_match : {p q : Part Completion} → TryMatch chosen p q → StatementMatch chosen (Step p) (Step q)
  try_match x = record { at = λ s c. both (spare {c = plus 4 c} (omega arith) (x.at s c)) }
