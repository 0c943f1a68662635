-- Members: got, put, deleted, assigned and updated.
use Rattle.std.proofs.Common.{◌≡◌, ℕ, ◌+◌, ◌≤◌, [], ◌∷◌, Bool, true, false, Some, None, arith}
use Rattle.jl_ast.specs.Tree.{Text}
use Rattle.jl_ast.specs.declared.ops.BinOp.{BinOp}
use Rattle.jl_value.specs.declared.value.Value.{Value}
use Rattle.jl_value.specs.declared.value.Value.TheVariants as value
use Rattle.jl_heap.specs.Objects.{Name}
use Rattle.jl_op.specs.Chosen.{Kinds}
use Rattle.jl_op.specs.declared.kind.OpKind.TheVariants as kind
use Rattle.jl_effects.specs.Effects.{Step}
use Rattle.jl_effects.specs.Matching.{ends, both, extra, looks, peeks, told, own}
use Rattle.jl_meaning.specs.Getting.{get}
use Rattle.jl_meaning.specs.Putting.{delete, put}
use Rattle.jl_meaning.specs.Noting.{performs, emits}
use Rattle.jl_meaning.specs.Parts.{Context, Part, Answer, ◌>>=◌, give}
use Rattle.jl_meaning.specs.Store.{Store}
use Rattle.jl_meaning.specs.forms.HookCalls.{deletes, gets}
use Rattle.jl_meaning.specs.forms.Hooks.{enter_hook}
use Rattle.jl_meaning.specs.forms.Literals.{literal}
use Rattle.jl_meaning.specs.forms.Members.{assign_member, delete_member, get_member, member_name, put_member}
use Rattle.jl_meaning.specs.forms.Members.{read_member}
use Rattle.jl_meaning.specs.forms.Members.{update_expression, update_member}
use Rattle.jl_simulation.proofs.Operators.{operate_silent, update_silent}
use Rattle.jl_simulation.proofs.Relation.{Matched, done, bind, algorithm, lifted, quiet, fewer, ExpressionMatch}

-- the key of a dot member, as an argument of a hook
abbrev pub key_argument : (id : ℕ) → Text → Part (Answer Value)
key_argument id k = Step (literal performs id (value.Text k))

module _ {chosen : Kinds} where
  pub get_told : (id : ℕ) (base : Value) (x : Name) {s : Store} {c : ℕ}
      → Matched chosen s c c (get_member performs id base x) (get_member emits id base x)
  unfolding get_member
  get_told id base x = looks (peeks (lifted (get base x) (omega arith) (λ v t. looks (peeks (told done)))))

  pub get_silent : (id id' : ℕ) (base : Value) (x : Name) → chosen kind.GetField ≡ false → {s : Store} {c : ℕ}
      → Matched chosen s c c (get_member performs id base x) (get_member performs id' base x)
  unfolding get_member
  get_silent id id' base x e =
      looks (peeks (lifted (get base x) (omega arith) (λ v t. looks (peeks (quiet e (own done))))))

  pub put_told : (id : ℕ) (strict : Bool) (base : Value) (x : Name) (v : Value) {s : Store} {c : ℕ}
      → Matched chosen s c c (put_member performs id strict base x v) (put_member emits id strict base x v)
  unfolding put_member
  put_told id strict base x v = looks (peeks (looks (peeks (told (algorithm (put strict base x v))))))

  pub put_silent : (id id' : ℕ) (strict : Bool) (base : Value) (x : Name) (v : Value) → chosen kind.PutField ≡ false
      → {s : Store} {c : ℕ}
      → Matched chosen s c c (put_member performs id strict base x v) (put_member performs id' strict base x v)
  unfolding put_member
  put_silent id id' strict base x v e =
      looks (peeks (looks (peeks (quiet e (own (algorithm (put strict base x v)))))))

  pub delete_told : (id : ℕ) (strict : Bool) (base key : Value) {s : Store} {c : ℕ}
      → Matched chosen s c c (delete_member performs id strict base key) (delete_member emits id strict base key)
  unfolding delete_member
  delete_told id strict base key =
      lifted (member_name base key) (omega arith) (λ x t. lifted (delete strict base x) (omega arith) (λ free t.
      looks (peeks (told done))))

  pub delete_silent : (id id' : ℕ) (strict : Bool) (base key : Value) → chosen kind.DeleteField ≡ false
      → {s : Store} {c : ℕ}
      → Matched chosen s c c (delete_member performs id strict base key) (delete_member performs id' strict base key)
  unfolding delete_member
  delete_silent id id' strict base key e =
      lifted (member_name base key) (omega arith) (λ x t. lifted (delete strict base x) (omega arith) (λ free t.
      looks (peeks (quiet e (own done)))))

  -- o[k]: by G, or as it stands
  read_told : (k : Context) (id : ℕ) (base key : Value) {s : Store} {c d : ℕ} → d ≤ c
      → Matched chosen s c d (read_member id base key) (enter_hook k id gets (base ∷ key ∷ []))
  unfolding read_member enter_hook
  read_told k id base key le =
      lifted (member_name base key) le (λ x t. fewer le (get_told id base x))

  pub read_silent : (id id' : ℕ) (base key : Value) → chosen kind.GetField ≡ false → {s : Store} {c d : ℕ} → d ≤ c
      → Matched chosen s c d (read_member id base key) (read_member id' base key)
  unfolding read_member
  read_silent id id' base key e le =
      lifted (member_name base key) le (λ x t. fewer le (get_silent id id' base x e))

  pub dot_told : (k : Context) {o o' : Part (Answer Value)} (key : Text) (id id' : ℕ) → ExpressionMatch chosen o o'
      → ExpressionMatch chosen (Step (o >>= (λ base. read_member id base (value.Text key))))
      (Step (o' >>= (λ v. (key_argument id' key >>= (λ w. Step (enter_hook k id gets (v ∷ w ∷ [])))))))
  unfolding literal
  dot_told k key id id' x = record {
    at = λ s c. both (bind (omega arith) (x.at s _) (λ base t.
        extra (peeks (own (extra (read_told k id base (value.Text key) (omega arith)))))));
  }

  pub index_told : (k : Context) {o o' e e' : Part (Answer Value)} (id : ℕ) → ExpressionMatch chosen o o'
      → ExpressionMatch chosen e e'
      → ExpressionMatch chosen (Step (o >>= (λ base. (e >>= (λ key. read_member id base key)))))
      (Step (o' >>= (λ v. (e' >>= (λ w. Step (enter_hook k id gets (v ∷ w ∷ [])))))))
  index_told k id x y = record {
    at = λ s c. both (bind (omega arith) (x.at s _) (λ base t. bind (omega arith) (y.at t _) (λ key t.
        extra (read_told k id base key (omega arith)))));
  }

  pub dot_silent : {o o' : Part (Answer Value)} (key : Text) (id id' : ℕ) → chosen kind.GetField ≡ false
      → ExpressionMatch chosen o o'
      → ExpressionMatch chosen (Step (o >>= (λ base. read_member id base (value.Text key))))
      (Step (o' >>= (λ base. read_member id' base (value.Text key))))
  dot_silent key id id' e x = record {
    at = λ s c. both (bind (omega arith) (x.at s _) (λ base t. read_silent id id' base (value.Text key) e
        (omega arith)));
  }

  pub index_silent : {o o' i i' : Part (Answer Value)} (id id' : ℕ) → chosen kind.GetField ≡ false
      → ExpressionMatch chosen o o' → ExpressionMatch chosen i i'
      → ExpressionMatch chosen (Step (o >>= (λ base. (i >>= (λ key. read_member id base key)))))
      (Step (o' >>= (λ base. (i' >>= (λ key. read_member id' base key)))))
  index_silent id id' e x y = record {
    at = λ s c. both (bind (omega arith) (x.at s _) (λ base t. bind (omega arith) (y.at t _) (λ key t.
        read_silent id id' base key e (omega arith))));
  }

  -- delete o[k]: by Z, or as it stands
  pub delete_dot_told : (k : Context) {o o' : Part (Answer Value)} (key : Text) (id id' : ℕ)
      → ExpressionMatch chosen o o'
      → ExpressionMatch chosen (Step (o >>= (λ base. delete_member performs id k.strict base (value.Text key))))
      (Step (o' >>= (λ v. (key_argument id' key >>= (λ w. Step (enter_hook k id deletes (v ∷ w ∷ [])))))))
  unfolding literal enter_hook
  delete_dot_told k key id id' x = record {
    at = λ s c. both (bind (omega arith) (x.at s _) (λ base t. extra (peeks (own
        (extra (fewer (omega arith) (delete_told id k.strict base (value.Text key))))))));
  }

  pub delete_index_told : (k : Context) {o o' e e' : Part (Answer Value)} (id : ℕ) → ExpressionMatch chosen o o'
      → ExpressionMatch chosen e e'
      → ExpressionMatch chosen (Step (o >>= (λ base. (e >>= (λ key. delete_member performs id k.strict base key)))))
      (Step (o' >>= (λ v. (e' >>= (λ w. Step (enter_hook k id deletes (v ∷ w ∷ [])))))))
  unfolding enter_hook
  delete_index_told k id x y = record {
    at = λ s c. both (bind (omega arith) (x.at s _) (λ base t. bind (omega arith) (y.at t _) (λ key t.
        extra (fewer (omega arith) (delete_told id k.strict base key)))));
  }

  pub delete_dot_silent : (k : Context) {o o' : Part (Answer Value)} (key : Text) (id id' : ℕ)
      → chosen kind.DeleteField ≡ false → ExpressionMatch chosen o o'
      → ExpressionMatch chosen (Step (o >>= (λ base. delete_member performs id k.strict base (value.Text key))))
      (Step (o' >>= (λ base. delete_member performs id' k.strict base (value.Text key))))
  delete_dot_silent k key id id' e x = record {
    at = λ s c. both (bind (omega arith) (x.at s _) (λ base t.
        fewer (omega arith) (delete_silent id id' k.strict base (value.Text key) e)));
  }

  pub delete_index_silent : (k : Context) {o o' i i' : Part (Answer Value)} (id id' : ℕ)
      → chosen kind.DeleteField ≡ false → ExpressionMatch chosen o o' → ExpressionMatch chosen i i'
      → ExpressionMatch chosen (Step (o >>= (λ base. (i >>= (λ key. delete_member performs id k.strict base key)))))
      (Step (o' >>= (λ base. (i' >>= (λ key. delete_member performs id' k.strict base key)))))
  delete_index_silent k id id' e x y = record {
    at = λ s c. both (bind (omega arith) (x.at s _) (λ base t. bind (omega arith) (y.at t _) (λ key t.
        fewer (omega arith) (delete_silent id id' k.strict base key e))));
  }

  pub delete_other : {e e' : Part (Answer Value)} → ExpressionMatch chosen e e'
      → ExpressionMatch chosen (Step (e >>= (λ _. give (value.Bool true))))
      (Step (e' >>= (λ _. give (value.Bool true))))
  delete_other x = record { at = λ s c. both (bind (omega arith) (x.at s _) (λ v t. ends (omega arith))) }

  -- assignments and updates that stand as they are
  put_as_is : (k : Context) (base key : Value) (id id' : ℕ) → chosen kind.PutField ≡ false → {a a' : Part
      (Answer Value)}
      → ExpressionMatch chosen a a' → {s : Store} {c d : ℕ} → d ≤ c
      → Matched chosen s c d (assign_member id k base key None a) (assign_member id' k base key None a')
  put_as_is k base key id id' e x le =
      lifted (member_name base key) le (λ y t. bind (omega arith) (x.at t _) (λ v t.
      fewer (omega arith) (bind (omega arith) (put_silent id id' k.strict base y v e) (λ u t. done))))

  compute_as_is : (k : Context) (base key : Value) (o : BinOp) (id id' : ℕ) → chosen kind.GetField ≡ false
      → chosen kind.Binary ≡ false → chosen kind.PutField ≡ false → {a a' : Part (Answer Value)}
      → ExpressionMatch chosen a a' → {s : Store} {c d : ℕ} → d ≤ c
      → Matched chosen s c d (assign_member id k base key (Some o) a) (assign_member id' k base key (Some o) a')
  compute_as_is k base key o id id' e g h x le =
      lifted (member_name base key) le (λ y t. bind (omega arith) (get_silent id id' base y e) (λ held t.
      bind (omega arith) (x.at t _) (λ w t. fewer (omega arith) (bind (omega arith)
      (operate_silent (id + 1) (id' + 1) o held w g) (λ v t.
      bind (omega arith) (put_silent (id + 2) (id' + 2) k.strict base y v h) (λ u t. done))))))

  pub put_dot_silent : (k : Context) (key : Text) (id id' : ℕ) → chosen kind.PutField ≡ false
      → {o o' a a' : Part (Answer Value)} → ExpressionMatch chosen o o' → ExpressionMatch chosen a a'
      → ExpressionMatch chosen (Step (o >>= (λ base. assign_member id k base (value.Text key) None a)))
      (Step (o' >>= (λ base. assign_member id' k base (value.Text key) None a')))
  put_dot_silent k key id id' e x y = record {
    at = λ s c. both (bind (omega arith) (x.at s _) (λ base t.
        put_as_is k base (value.Text key) id id' e y (omega arith)));
  }

  pub put_index_silent : (k : Context) (id id' : ℕ) → chosen kind.PutField ≡ false
      → {o o' i i' a a' : Part (Answer Value)} → ExpressionMatch chosen o o' → ExpressionMatch chosen i i'
      → ExpressionMatch chosen a a'
      → ExpressionMatch chosen (Step (o >>= (λ base. (i >>= (λ key. assign_member id k base key None a)))))
      (Step (o' >>= (λ base. (i' >>= (λ key. assign_member id' k base key None a')))))
  put_index_silent k id id' e x z y = record {
    at = λ s c. both (bind (omega arith) (x.at s _) (λ base t. bind (omega arith) (z.at t _) (λ key t.
        put_as_is k base key id id' e y (omega arith))));
  }

  pub compute_dot_silent : (k : Context) (o : BinOp) (key : Text) (id id' : ℕ) → chosen kind.GetField ≡ false
      → chosen kind.Binary ≡ false → chosen kind.PutField ≡ false → {b b' a a' : Part (Answer Value)}
      → ExpressionMatch chosen b b' → ExpressionMatch chosen a a'
      → ExpressionMatch chosen (Step (b >>= (λ base. assign_member id k base (value.Text key) (Some o) a)))
      (Step (b' >>= (λ base. assign_member id' k base (value.Text key) (Some o) a')))
  compute_dot_silent k o key id id' e g h x y = record {
    at = λ s c. both (bind (omega arith) (x.at s _) (λ base t.
        compute_as_is k base (value.Text key) o id id' e g h y (omega arith)));
  }

  pub compute_index_silent : (k : Context) (o : BinOp) (id id' : ℕ) → chosen kind.GetField ≡ false
      → chosen kind.Binary ≡ false → chosen kind.PutField ≡ false → {b b' i i' a a' : Part (Answer Value)}
      → ExpressionMatch chosen b b' → ExpressionMatch chosen i i' → ExpressionMatch chosen a a'
      → ExpressionMatch chosen (Step (b >>= (λ base. (i >>= (λ key. assign_member id k base key (Some o) a)))))
      (Step (b' >>= (λ base. (i' >>= (λ key. assign_member id' k base key (Some o) a')))))
  compute_index_silent k o id id' e g h x z y = record {
    at = λ s c. both (bind (omega arith) (x.at s _) (λ base t. bind (omega arith) (z.at t _) (λ key t.
        compute_as_is k base key o id id' e g h y (omega arith))));
  }

  update_as_is : (k : Context) (base key : Value) (up prefix : Bool) (id id' : ℕ) → chosen kind.GetField ≡ false
      → chosen kind.Unary ≡ false → chosen kind.PutField ≡ false → {s : Store} {c d : ℕ} → d ≤ c
      → Matched chosen s c d (update_expression id k base key up prefix) (update_expression id' k base key up prefix)
  unfolding update_expression update_member
  update_as_is k base key up prefix id id' e g h le =
      bind le (lifted (member_name base key) (omega arith) (λ x t. bind (omega arith) (get_silent id id' base x e)
      (λ held t. bind (omega arith) (update_silent (id + 1) (id' + 1) _ held g) (λ v t.
      bind (omega arith) (put_silent (id + 2) (id' + 2) k.strict base x v.1 h) (λ u t. done))))) (λ v t. ends le)

  pub update_dot_silent : (k : Context) (key : Text) (up prefix : Bool) (id id' : ℕ) → chosen kind.GetField ≡ false
      → chosen kind.Unary ≡ false → chosen kind.PutField ≡ false → {o o' : Part (Answer Value)}
      → ExpressionMatch chosen o o'
      → ExpressionMatch chosen (Step (o >>= (λ base. update_expression id k base (value.Text key) up prefix)))
      (Step (o' >>= (λ base. update_expression id' k base (value.Text key) up prefix)))
  update_dot_silent k key up prefix id id' e g h x = record {
    at = λ s c. both (bind (omega arith) (x.at s _) (λ base t.
        update_as_is k base (value.Text key) up prefix id id' e g h (omega arith)));
  }

  pub update_index_silent : (k : Context) (up prefix : Bool) (id id' : ℕ) → chosen kind.GetField ≡ false
      → chosen kind.Unary ≡ false → chosen kind.PutField ≡ false → {o o' i i' : Part (Answer Value)}
      → ExpressionMatch chosen o o' → ExpressionMatch chosen i i'
      → ExpressionMatch chosen (Step (o >>= (λ base. (i >>= (λ key. update_expression id k base key up prefix)))))
      (Step (o' >>= (λ base. (i' >>= (λ key. update_expression id' k base key up prefix)))))
  update_index_silent k up prefix id id' e g h x y = record {
    at = λ s c. both (bind (omega arith) (x.at s _) (λ base t. bind (omega arith) (y.at t _) (λ key t.
        update_as_is k base key up prefix id id' e g h (omega arith))));
  }
