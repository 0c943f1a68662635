-- Names: read, under `typeof` and `delete`, and assigned to.
use Rattle.std.proofs.Common.{◌≡◌, ℕ, suc, ◌+◌, ◌≤◌, [], ◌∷◌, Bool, true, false, sym, ap, subst, subst₂, arith}
use Rattle.std.specs.Prelude.{if◌then◌else◌}
use Rattle.jl_ast.specs.declared.ops.BinOp.{BinOp}
use Rattle.jl_value.specs.declared.ending.Fault.TheVariants.{Misuse}
use Rattle.jl_value.specs.declared.value.Value.{Value}
use Rattle.jl_value.specs.declared.value.Value.TheVariants as value
use Rattle.jl_heap.specs.Objects.{Name}
use Rattle.jl_op.specs.Chosen.{Kinds}
use Rattle.jl_op.specs.declared.kind.OpKind.TheVariants as kind
use Rattle.jl_op.specs.declared.op.Op.TheVariants as op
use Rattle.jl_op.specs.UnaryKinds.{update_kind}
use Rattle.jl_effects.specs.Effects.{Fail, Step}
use Rattle.jl_effects.specs.Matching.{ends, fails, both, extra, looks, peeks, told, own, spare, plus}
use Rattle.jl_meaning.specs.Noting.{note, note_value, performs}
use Rattle.jl_meaning.specs.Parts.{Context, Part, Answer, ◌>>=◌, give, lift}
use Rattle.jl_meaning.specs.References.{delete_name, get_name, get_value, identifier_reference, put_value, resolve}
use Rattle.jl_meaning.specs.References.{type_of_name, Reference}
use Rattle.jl_meaning.specs.Store.{Store}
use Rattle.jl_meaning.specs.forms.HookCalls.{binary_of, reads, types, writes}
use Rattle.jl_meaning.specs.forms.Hooks.{enter_hook}
use Rattle.jl_meaning.specs.forms.Names.{assign_name, compute_name, delete_identifier, is_hooks, read_name}
use Rattle.jl_meaning.specs.forms.Names.{read_reference, typeof_name, unless_hooks, update_name, write_name}
use Rattle.jl_meaning.specs.forms.Operators.{operate}
use Rattle.jl_simulation.proofs.Operators.{operate_silent, operate_told, update_silent}
use Rattle.jl_simulation.proofs.Relation.{Matched, done, bind, algorithm, lifted, bind2, bind3, quiet, fewer}
use Rattle.jl_simulation.proofs.Relation.{ExpressionMatch}

-- a name that is not that of the hooks
pub no_hooks : {A : Type 0} (x : Name) → is_hooks x ≡ false → (p : Part A) → unless_hooks x p ≡ p
no_hooks x e p = ap (λ b. if b then Fail Misuse else p) e

-- the hooks R, W and Y
abbrev pub tell_read : (id : ℕ) → Context → Name → Value → Part (Answer Value)
tell_read id k x v = Step (enter_hook k id (reads x) (v ∷ []))

abbrev pub tell_write : (id : ℕ) → Context → Name → Value → Part (Answer Value)
tell_write id k x v = Step (enter_hook k id (writes x) (v ∷ []))

abbrev pub tell_type : (id : ℕ) → Context → Name → Value → Part (Answer Value)
tell_type id k x v = Step (enter_hook k id (types x) (v ∷ []))

-- what a name gives that is not that of the hooks
abbrev pub reading : (id : ℕ) → Context → Name → Part (Answer Value)
reading id c x = do
  v ← lift (get_name c.env x)
  _ ← note_value performs id (op.Read x) v
  give v

pub read_is : (id : ℕ) (c : Context) (x : Name) → is_hooks x ≡ false → read_name id c x ≡ reading id c x
unfolding read_name
read_is id c x e = no_hooks x e (reading id c x)

-- J$.R(id, "x", x)
abbrev pub read_by_hook : (id id' : ℕ) → Context → Name → Part (Answer Value)
read_by_hook id id' k x = Step (Step (read_name id' k x) >>= tell_read id k x)

abbrev typing : (id : ℕ) → Context → Name → Part (Answer Value)
typing id c x = do
  type ← lift (type_of_name c.env x)
  _ ← note performs id (λ heap. op.TypeofName x type)
  give (value.Text type)

typing_is : (id : ℕ) (c : Context) (x : Name) → is_hooks x ≡ false → typeof_name id c x ≡ typing id c x
unfolding typeof_name
typing_is id c x e = no_hooks x e (typing id c x)

-- a value is written to a name that has been resolved, and given
abbrev pub written : (id : ℕ) → Context → Name → Reference → Value → Part (Answer Value)
written id k x reference v = write_name id k x reference v >>= (λ _. give v)

-- the parts of an assignment to a name, past the test of the name
abbrev pub assigning : (id : ℕ) → Context → Name → Part (Answer Value) → Part (Answer Value)
assigning id k x e = lift (resolve k.env x) >>= (λ reference. (e >>= written id k x reference))

-- what is done with the value of a name once it was read
abbrev pub from_held : (id : ℕ) → Name → Reference → (Value → Part (Answer Value)) → Part (Answer Value)
from_held id x reference f = read_reference id x reference >>= f

-- x op= e
abbrev pub computing : (id : ℕ) → Context → Name → BinOp → Part (Answer Value) → Part (Answer Value)
computing id k x o e =
    lift (resolve k.env x) >>= (λ reference. from_held id x reference (λ held.
    (e >>= (λ operand. (operate performs (id + 1) o held operand >>= written (id + 2) k x reference)))))

abbrev pub tell_binary : (id : ℕ) → Context → BinOp → Part (Answer Value) → Value → Part (Answer Value)
tell_binary id k o e v = e >>= (λ w. Step (enter_hook k id (binary_of o) (v ∷ w ∷ [])))

-- B of what R gives and e
abbrev pub computed_by_hook : (id id' : ℕ) → Context → Name → BinOp → Part (Answer Value) → Part (Answer Value)
computed_by_hook id id' k x o e = Step (read_by_hook id id' k x >>= tell_binary (id + 1) k o e)

module _ {chosen : Kinds} where
  pub name_told : (x : Name) (k : Context) (id id' : ℕ) → is_hooks x ≡ false
      → ExpressionMatch chosen (Step (read_name id k x)) (read_by_hook id id' k x)
  unfolding enter_hook
  name_told x k id id' e =
      subst₂ (λ p q. ExpressionMatch chosen (Step p) (Step (Step q >>= tell_read id k x))) (sym (read_is id k x e))
      (sym (read_is id' k x e)) (record {
        at = λ s c. both (extra (bind2 (λ v. (note_value performs id' (op.Read x) v >>= (λ _. give v)))
            (tell_read id k x)
            (omega arith) (algorithm (get_name k.env x))
            (λ v t. looks (peeks (own (extra (peeks (told (ends (omega arith))))))))));
      })

  unless_silent : (x : Name) {p q : Part (Answer Value)}
      → ((s : Store) (c : ℕ) → Matched chosen s (plus 31 c) (plus 4 c) p q)
      → ExpressionMatch chosen (Step (unless_hooks x p)) (Step (unless_hooks x q))
  unless_silent x {p} {q} f = at (is_hooks x)
    where
      at : (b : Bool)
          → ExpressionMatch chosen (Step (if b then Fail Misuse else p)) (Step (if b then Fail Misuse else q))
      at true = record { at = λ s c. both fails }
      at false = record { at = λ s c. both (f s c) }

  pub name_silent : (x : Name) (k : Context) (id id' : ℕ) → chosen kind.Read ≡ false
      → ExpressionMatch chosen (Step (read_name id k x)) (Step (read_name id' k x))
  unfolding read_name
  name_silent x k id id' e =
      unless_silent x {p = reading id k x} {q = reading id' k x} (λ s c. lifted (get_name k.env x) (omega arith)
      (λ v t. looks (peeks (quiet e (own (ends (omega arith)))))))

  -- `typeof` of a name
  pub typeof_name_told : (x : Name) (k : Context) (id id' : ℕ) → is_hooks x ≡ false
      → ExpressionMatch chosen (Step (typeof_name id k x)) (Step (Step (typeof_name id' k x) >>= tell_type id k x))
  unfolding enter_hook
  typeof_name_told x k id id' e =
      subst₂ (λ p q. ExpressionMatch chosen (Step p) (Step (Step q >>= tell_type id k x))) (sym (typing_is id k x e))
      (sym (typing_is id' k x e)) (record {
        at = λ s c. both (extra (bind2
            (λ type. (note performs id' (λ heap. op.TypeofName x type) >>= (λ _. give (value.Text type))))
            (tell_type id k x)
            (omega arith) (algorithm (type_of_name k.env x))
            (λ type t. looks (peeks (own (extra (told (ends (omega arith)))))))));
      })

  pub typeof_name_silent : (x : Name) (k : Context) (id id' : ℕ) → chosen kind.TypeofName ≡ false
      → ExpressionMatch chosen (Step (typeof_name id k x)) (Step (typeof_name id' k x))
  unfolding typeof_name
  typeof_name_silent x k id id' e =
      unless_silent x {p = typing id k x} {q = typing id' k x} (λ s c. lifted (type_of_name k.env x) (omega arith)
      (λ type t. looks (peeks (quiet e (own (ends (omega arith)))))))

  -- `delete` of a name
  pub delete_name_match : (x : Name) (k : Context)
      → ExpressionMatch chosen (Step (delete_identifier k x)) (Step (delete_identifier k x))
  unfolding delete_identifier
  delete_name_match x k =
      unless_silent x (λ s c. lifted (delete_name k.strict k.env x) (omega arith) (λ free t. ends (omega arith)))

  -- x = e
  pub assign_to : (x : Name) (k : Context) (id id' : ℕ) {e e' : Part (Answer Value)} → ExpressionMatch chosen e e'
      → {s : Store} {c d : ℕ} → suc d ≤ c
      → Matched chosen s c (suc d) (assigning id k x e) (assigning id' k x (Step (e' >>= tell_write id k x)))
  unfolding enter_hook
  assign_to x k id id' y {s} {c} {d} le =
      let reference : Reference = identifier_reference s k.env x in
      spare {c = suc d} le (looks (peeks (extra (bind2 (tell_write id k x) (written id' k x reference) (omega arith)
      (y.at s d) (λ v t. looks (extra (peeks (told (peeks (own
      (bind (omega arith) (algorithm (put_value k.strict x v reference)) (λ u t. ends (omega arith)))))))))))))

  pub assign_name_told : (x : Name) (k : Context) (id id' : ℕ) → is_hooks x ≡ false → {e e' : Part (Answer Value)}
      → ExpressionMatch chosen e e'
      → ExpressionMatch chosen (Step (assign_name id k x e)) (Step (assign_name id' k x
      (Step (e' >>= tell_write id k x))))
  assign_name_told x k id id' h {e} {e'} y =
      subst₂ (λ p q. ExpressionMatch chosen (Step p) (Step q)) (sym (no_hooks x h (assigning id k x e)))
      (sym (no_hooks x h (assigning id' k x (Step (e' >>= tell_write id k x))))) (record {
        at = λ s c. both (fewer (omega arith) (assign_to x k id id' y {d = plus 30 c} (omega arith)));
      })

  pub assign_as_is : (x : Name) (k : Context) (id id' : ℕ) → chosen kind.Write ≡ false → {e e' : Part (Answer Value)}
      → ExpressionMatch chosen e e' → {s : Store} {c d : ℕ} → d ≤ c
      → Matched chosen s c d (assigning id k x e) (assigning id' k x e')
  assign_as_is x k id id' h y {s} le =
      let reference : Reference = identifier_reference s k.env x in
      looks (peeks (bind le (fewer (omega arith) (y.at s _)) (λ v t. looks (peeks (quiet h (own
      (bind le (algorithm (put_value k.strict x v reference)) (λ u t. ends le))))))))

  pub assign_name_silent : (x : Name) (k : Context) (id id' : ℕ) → chosen kind.Write ≡ false
      → {e e' : Part (Answer Value)} → ExpressionMatch chosen e e'
      → ExpressionMatch chosen (Step (assign_name id k x e)) (Step (assign_name id' k x e'))
  assign_name_silent x k id id' h {e} {e'} y =
      unless_silent x {p = assigning id k x e} {q = assigning id' k x e'}
      (λ s c. assign_as_is x k id id' h y (omega arith))

  -- what R gives
  pub read_to : (x : Name) (k : Context) (id id' : ℕ) → is_hooks x ≡ false → (s : Store) (c : ℕ)
      → Matched chosen s (suc (suc (suc c))) c (read_reference id x (identifier_reference s k.env x))
      (read_by_hook id id' k x)
  unfolding enter_hook get_name
  read_to x k id id' e s c =
      let reference : Reference = identifier_reference s k.env x in
      subst (λ q. Matched chosen s (suc (suc (suc c))) c (read_reference id x reference)
      (Step (Step q >>= tell_read id k x)))
      (sym (read_is id' k x e)) (extra (extra (peeks (bind2 (λ v. (note_value performs id' (op.Read x) v >>=
      (λ _. give v)))
      (tell_read id k x) (omega arith) (algorithm (get_value x reference))
      (λ v t. looks (peeks (own (extra (peeks (told done))))))))))

  -- a write, of which the hook tells
  pub written_to : (x : Name) (k : Context) (reference : Reference) (id id' : ℕ) (v : Value) {s : Store} {c d : ℕ}
      → suc d ≤ c
      → Matched chosen s c d (written id k x reference v) (tell_write id k x v >>= written id' k x reference)
  unfolding enter_hook
  written_to x k reference id id' v {d = d} le =
      spare {c = suc d} le (looks (extra (peeks (told (peeks (own
      (bind (omega arith) (algorithm (put_value k.strict x v reference)) (λ u t. done))))))))

  -- x op= e
  compute_to : (x : Name) (k : Context) (o : BinOp) (id id' id2 : ℕ) → is_hooks x ≡ false → {e e' : Part (Answer Value)}
      → ExpressionMatch chosen e e' → (s : Store) (c : ℕ)
      → Matched chosen s (plus 8 c) c (computing id k x o e)
      (assigning id2 k x (Step (computed_by_hook id id' k x o e' >>= tell_write (id + 2) k x)))
  unfolding enter_hook
  compute_to x k o id id' id2 h {e} {e'} y s c =
      let reference : Reference = identifier_reference s k.env x in
      looks (peeks (extra (extra (bind3 (tell_binary (id + 1) k o e') (tell_write (id + 2) k x)
      (written id2 k x reference)
      (omega arith) (read_to x k id id' h s (plus 3 c))
      (λ held t. bind3 (λ w. Step (enter_hook k (id + 1) (binary_of o) (held ∷ w ∷ []))) (tell_write (id + 2) k x)
      (written id2 k x reference) (omega arith) (y.at t _)
      (λ w t. extra (bind2 (tell_write (id + 2) k x) (written id2 k x reference) (omega arith)
      (operate_told (id + 1) o held w) (λ v t. written_to x k reference (id + 2) id2 v (omega arith)))))))))

  pub compute_name_told : (x : Name) (k : Context) (o : BinOp) (id id' id2 : ℕ) → is_hooks x ≡ false
      → {e e' : Part (Answer Value)} → ExpressionMatch chosen e e'
      → ExpressionMatch chosen (Step (compute_name id k x o e))
      (Step (assign_name id2 k x (Step (computed_by_hook id id' k x o e' >>= tell_write (id + 2) k x))))
  compute_name_told x k o id id' id2 h {e} {e'} y =
      subst₂ (λ p q. ExpressionMatch chosen (Step p) (Step q)) (sym (no_hooks x h (computing id k x o e)))
      (sym (no_hooks x h (assigning id2 k x (Step (computed_by_hook id id' k x o e' >>= tell_write (id + 2) k x)))))
      (record {
        at = λ s c. both (spare {c = plus 12 c} (omega arith) (compute_to x k o id id' id2 h y s (plus 4 c)));
      })

  pub compute_name_silent : (x : Name) (k : Context) (o : BinOp) (id id' : ℕ) → chosen kind.Read ≡ false
      → chosen kind.Binary ≡ false → chosen kind.Write ≡ false → {e e' : Part (Answer Value)}
      → ExpressionMatch chosen e e'
      → ExpressionMatch chosen (Step (compute_name id k x o e)) (Step (compute_name id' k x o e'))
  compute_name_silent x k o id id' f g h {e} {e'} y =
      unless_silent x {p = computing id k x o e} {q = computing id' k x o e'} (λ s c.
      let reference : Reference = identifier_reference s k.env x in
      looks (peeks (bind (omega arith) (lifted (get_value x reference) (omega arith) (λ v t. looks
      (peeks (quiet f (own done)))))
      (λ held t. bind (omega arith) (y.at t _) (λ w t. bind (omega arith) (operate_silent (id + 1) (id' + 1) o held w g)
      (λ v t. looks (peeks (quiet h (own
      (bind (omega arith) (algorithm (put_value k.strict x v reference)) (λ u t. ends (omega arith))))))))))))

  -- `++` and `--` as they stand
  pub update_name_silent : (x : Name) (k : Context) (up prefix : Bool) (id id' : ℕ) → chosen kind.Read ≡ false
      → chosen kind.Unary ≡ false → chosen kind.Write ≡ false
      → ExpressionMatch chosen (Step (update_name id k x up prefix)) (Step (update_name id' k x up prefix))
  unfolding update_name
  update_name_silent x k up prefix id id' f g h =
      unless_silent x (λ s c.
      let reference : Reference = identifier_reference s k.env x in
      looks (peeks (bind (omega arith) (lifted (get_value x reference) (omega arith) (λ v t. looks
      (peeks (quiet f (own done)))))
      (λ held t. bind (omega arith) (update_silent (id + 1) (id' + 1) (update_kind up) held g)
      (λ v t. looks (peeks (quiet h (own
      (bind (omega arith) (algorithm (put_value k.strict x v.1 reference)) (λ u t. ends (omega arith)))))))))))
