-- Names that are read and written.
use Rattle.std.proofs.Common.{◌≡◌, ap, if◌then◌else◌, refl, subst, sym, false, true, Bool, ℕ}
use Rattle.std.specs.Borrow.{Bor}
use Rattle.std.specs.Global.{Global}
use Rattle.std.specs.declared.boxed.Box.{Box}
use Rattle.jl_ast.specs.View.{view_expression}
use Rattle.jl_ast.specs.declared.ops.BinOp.{BinOp}
use Rattle.jl_ast.specs.declared.tree.Expr.{Expr}
use Rattle.jl_value.specs.declared.ending.Completion.TheVariants as completion
use Rattle.jl_value.specs.declared.ending.Fault.TheVariants as fault
use Rattle.jl_value.specs.declared.value.Value.{Value}
use Rattle.jl_value.specs.declared.value.Value.TheVariants as value
use Rattle.jl_heap.specs.Describe.{seen_of}
use Rattle.jl_heap.specs.Objects.{Name}
use Rattle.jl_op.specs.Operations.{Operation}
use Rattle.jl_op.specs.declared.op.Op.TheVariants as op
use Rattle.jl_op.specs.UnaryKinds.{update_kind}
use Rattle.jl_effects.specs.Effects.{Fail, Look, Perform}
use Rattle.jl_effects.specs.Running.{Ends}
use Rattle.jl_meaning.specs.Expressions.{evaluate}
use Rattle.jl_meaning.specs.Noting.{performs}
use Rattle.jl_meaning.specs.Parts.{give, gives, lift, ◌>>=◌, Answer, Context, Part}
use Rattle.jl_meaning.specs.References.{binding_value, delete_name, get_name, get_value, identifier_reference}
use Rattle.jl_meaning.specs.References.{in_environment, put_value, resolve, type_of_name, Reference}
use Rattle.jl_meaning.specs.Store.{binding_of, Store}
use Rattle.jl_meaning.specs.forms.Names.{assign_name, compute_name, delete_identifier, is_hooks, read_name}
use Rattle.jl_meaning.specs.forms.Names.{read_reference, typeof_name, unless_hooks, update_name, write_name}
use Rattle.jl_meaning.specs.forms.Operators.{operate, update}
use Rattle.jl_store.specs.Answers.{ends_with}
use Rattle.jl_store.specs.BigStep.{BigStep}
use Rattle.jl_store.specs.LookUps.{reference_seen}
use Rattle.jl_store.specs.declared.answer.Answer.{Answer as Answered}
use Rattle.jl_store.specs.declared.answer.Answer.TheVariants as answering
use Rattle.jl_store.specs.declared.names.Reference.{Reference as Resolved}
use Rattle.jl_store.specs.declared.names.Reference.TheVariants.{InEnvironment}
use Rattle.jl_state.specs.Rest.{RefinesExpression, RefinesAlgorithm}
use Rattle.jl_state.specs.Trees.{plain}
use Rattle.jl_state.specs.ValueFrames.{value_after}
use Rattle.jl_state.specs.Words.{context_of, table_of}
use Rattle.jl_state.specs.declared.act.Act.{Act}
use Rattle.jl_state.specs.declared.act.Act.TheVariants as act
use Rattle.jl_state.specs.declared.frame.Here.{Here}
use Rattle.jl_state.specs.declared.state.State.{State}
use Rattle.jl_state.specs.declared.value_frame.ValueFrame.TheVariants as waiting
use Rattle.jl_state.proofs.Steps.{gives_noted, gives_works}
use Rattle.jl_state.proofs.Stores.{gives_comes, gives_thrown, IsStored}
use Rattle.jl_meaning.proofs.Binds.{bind_assoc}
use Rattle.jl_state.proofs.Chains.{gives_lifted}
use Rattle.jl_member.proofs.Quiet.{performed_after}

-- the name of the object with the hooks ends the run
pub misuses : (s : State) (x : Name) (p : Part (Answer Value)) → is_hooks x ≡ true
    → RefinesExpression s (unless_hooks x p) s (act.Fault fault.Misuse)
misuses s x p is =
    subst (λ (b : Bool). RefinesExpression s (if b then Fail fault.Misuse else p) s (act.Fault fault.Misuse)) (sym is)
    (record { is = λ kept told. refl })

-- another name doesn't
pub no_hooks : (s : State) (x : Name) (p : Part (Answer Value)) (t : State) (a : Act) → is_hooks x ≡ false
    → RefinesExpression s p t a → RefinesExpression s (unless_hooks x p) t a
no_hooks s x p t a is refines =
    subst (λ (b : Bool). RefinesExpression s (if b then Fail fault.Misuse else p) t a) (sym is) refines

-- a name that has been resolved
pub resolves : (s : State) (env : ℕ) (x : Name) (r : Reference) (k : Reference → Part (Answer Value)) (t : State)
    (a : Act) → r ≡ identifier_reference s.store env x → RefinesExpression s (k r) t a
    → RefinesExpression s (lift (resolve env x) >>= k) t a
resolves s env x r k t a same refines = record { is = (subst (λ q. RefinesExpression s (k q) t a) same refines).is }

-- read and typed

pub reads : (s : State) (here : Here) (x : Name) (t : State) (a : Act) → is_hooks x ≡ false
    → RefinesAlgorithm s (get_name here.env x) t a → RefinesExpression s (read_name 0 (context_of s.calls here) x) t a
unfolding read_name
reads s here x t a other refines =
    no_hooks s x _ t a other
    (gives_noted s (λ store v. (record { 0 = 0 }, op.Read x (seen_of store.heap v))) (lift (get_name here.env x)) t a
    (gives_works s (get_name here.env x) t a refines))

pub types : (s : State) (here : Here) (x : Name) (t : State) (a : Act) → is_hooks x ≡ false
    → RefinesAlgorithm s (type_of_name here.env x >>= λ type. give (value.Text type)) t a
    → RefinesExpression s (typeof_name 0 (context_of s.calls here) x) t a
unfolding typeof_name
types s here x t a other refines =
    no_hooks s x _ t a other
    (performed_after s (lift (type_of_name here.env x)) (λ store type. (record { 0 = 0 }, op.TypeofName x type))
    (λ type. give (value.Text type)) t a
    (gives_lifted s (type_of_name here.env x) (λ type. give (value.Text type)) t a refines))

-- the value of a name that has been resolved, and what is done with it
pub read_then : (p : Part (Answer Value)) (o : Store → Value → Operation) (k : Value → Part (Answer Value))
    → (p >>= (λ v. Look (λ store. Perform (o store v) (give v))) >>= k)
    ≡ (p >>= λ v. Look (λ store. Perform (o store v) (k v)))
read_then p o k = bind_assoc p (λ v. Look (λ store. Perform (o store v) (give v))) k

-- assigned

abbrev value_in : State → Bor (Box Expr Global) → Here → Part (Answer Value)
value_in s e here = evaluate (table_of s.functions) (plain (view_expression e.now.value)) (context_of s.calls here)

-- what follows when a name has been resolved
abbrev assigned : Context → Name → Part (Answer Value) → Reference → Part (Answer Value)
assigned c x e q = do
  v ← e
  _ ← write_name 0 c x q v
  give v

pub assigns : (s : State) (here : Here) (x : Bor Name) (r : Resolved) (e : Part (Answer Value)) (t : State) (a : Act)
    → is_hooks x.now ≡ false → reference_seen r ≡ identifier_reference s.store here.env x.now
    → RefinesExpression s (e >>= value_after (table_of s.functions) s.calls
    (waiting.WriteName (record { 0 = 0 }) x r here.strict))
    t a → RefinesExpression s (assign_name 0 (context_of s.calls here) x.now e) t a
assigns s here x r e t a other same refines =
    no_hooks s x.now _ t a other
    (resolves s here.env x.now (reference_seen r) (assigned (context_of s.calls here) x.now e) t a same refines)

pub writes : (s : State) (o : Store → Operation) (strict : Bool) (x : Name) (v w given : Value) (r : Reference)
    (t : State) (a : Act) → given ≡ w
    → RefinesAlgorithm s (put_value strict x v r >>= λ _. give given) t a
    → RefinesExpression s (Look (λ store. Perform (o store) (lift (put_value strict x v r) >>= λ _. give w))) t a
writes s o strict x v w given r t a same refines = record {
  is = (subst (λ g. RefinesExpression s (lift (put_value strict x v r) >>= λ _. give g) t a) same
      (gives_lifted s (put_value strict x v r) (λ _. give given) t a refines)).is;
}

-- the value of a name that an environment binds, which is there at once
binding_comes : (store : Store) (env : ℕ) (x : Name) (v : Value) → v ≡ binding_value (binding_of store env x)
    → BigStep (get_value x (in_environment env)) store store (Ends (gives v))
unfolding get_value
binding_comes store env x v is = record { refines = (ap (λ (w : Value). Ends (gives w)) (sym is), refl) }

pub bound_then : (s : State) (x : Name) (r : Resolved) (env : ℕ) (v : Value)
    (k : Resolved → Value → Part (Answer Value)) (t : State) (a : Act)
    → r ≡ InEnvironment env → v ≡ binding_value (binding_of s.store env x)
    → RefinesExpression s (k (InEnvironment env) v) t a
    → RefinesExpression s (lift (get_value x (reference_seen r)) >>= k r) t a
bound_then s x r env v k t a e is refines =
    subst (λ q. RefinesExpression s (lift (get_value x (reference_seen q)) >>= k q) t a) (sym e)
    (gives_comes s s refl (get_value x (in_environment env)) v (k (InEnvironment env)) t a
    (binding_comes s.store env x v is) refines)

abbrev computed : Context → Name → BinOp → Part (Answer Value) → Reference → Value → Part (Answer Value)
computed c x o e q held = do
  operand ← e
  v ← operate performs 1 o held operand
  _ ← write_name 2 c x q v
  give v

pub computes : (s : State) (here : Here) (x : Bor Name) (r : Resolved) (o : BinOp) (e : Bor (Box Expr Global))
    (t : State) (a : Act)
    → is_hooks x.now ≡ false → reference_seen r ≡ identifier_reference s.store here.env x.now
    → RefinesExpression s (lift (get_value x.now (reference_seen r))
    >>= value_after (table_of s.functions) s.calls (waiting.ComputeName x r o e here)) t a
    → RefinesExpression s (compute_name 0 (context_of s.calls here) x.now o (value_in s e here)) t a
computes s here x r o e t a other same refines =
    no_hooks s x.now _ t a other
    (resolves s here.env x.now (reference_seen r) after t a same
    (subst (λ q. RefinesExpression s q t a)
    (sym (read_then (lift (get_value x.now (reference_seen r)))
    (λ store v. (record { 0 = 0 }, op.Read x.now (seen_of store.heap v)))
    (computed (context_of s.calls here) x.now o (value_in s e here) (reference_seen r)))) refines))
  where
    after : Reference → Part (Answer Value)
    after q = read_reference 0 x.now q >>= computed (context_of s.calls here) x.now o (value_in s e here) q

abbrev updated : Context → Name → (up prefix : Bool) → Reference → Value → Part (Answer Value)
updated c x up prefix q held = do
  v ← update performs 1 (update_kind up) held
  _ ← write_name 2 c x q v.1
  give (if prefix then v.1 else value.Num v.0)

pub updates_name : (s : State) (here : Here) (x : Bor Name) (r : Resolved) (up prefix : Bool) (t : State) (a : Act)
    → is_hooks x.now ≡ false → reference_seen r ≡ identifier_reference s.store here.env x.now
    → RefinesExpression s (lift (get_value x.now (reference_seen r))
    >>= value_after (table_of s.functions) s.calls (waiting.UpdateName x r up prefix here.strict)) t a
    → RefinesExpression s (update_name 0 (context_of s.calls here) x.now up prefix) t a
unfolding update_name
updates_name s here x r up prefix t a other same refines =
    no_hooks s x.now _ t a other
    (resolves s here.env x.now (reference_seen r) after t a same
    (subst (λ q. RefinesExpression s q t a)
    (sym (read_then (lift (get_value x.now (reference_seen r)))
    (λ store v. (record { 0 = 0 }, op.Read x.now (seen_of store.heap v)))
    (updated (context_of s.calls here) x.now up prefix (reference_seen r)))) refines))
  where
    after : Reference → Part (Answer Value)
    after q = read_reference 0 x.now q >>= updated (context_of s.calls here) x.now up prefix q

-- deleted

pub deletes : (s t : State) (here : Here) (x : Name) (answer : Answered Bool) (free : Bool) → is_hooks x ≡ false
    → IsStored s t → BigStep (delete_name here.strict here.env x) s.store t.store (ends_with answer)
    → answer ≡ answering.Gives free
    → RefinesExpression s (delete_identifier (context_of s.calls here) x) t (act.Give (value.Bool free))
unfolding delete_identifier
deletes s t here x answer free other stored comes is =
    no_hooks s x _ t (act.Give (value.Bool free)) other
    (gives_comes s t stored (delete_name here.strict here.env x) free (λ f. give (value.Bool f)) t
    (act.Give (value.Bool free))
    (subst (λ b. BigStep (delete_name here.strict here.env x) s.store t.store (ends_with b)) is comes)
    (record { is = λ kept told. refl }))

pub throws_deleting : (s t : State) (here : Here) (x : Name) (answer : Answered Bool) (thrown : Value)
    → is_hooks x ≡ false → IsStored s t
    → BigStep (delete_name here.strict here.env x) s.store t.store (ends_with answer) → answer ≡ answering.Throws thrown
    → RefinesExpression s (delete_identifier (context_of s.calls here) x) t (act.Complete (completion.Throw thrown))
unfolding delete_identifier
throws_deleting s t here x answer thrown other stored comes is =
    no_hooks s x _ t (act.Complete (completion.Throw thrown)) other
    (gives_thrown s t stored (delete_name here.strict here.env x) thrown (λ f. give (value.Bool f))
    (subst (λ b. BigStep (delete_name here.strict here.env x) s.store t.store (ends_with b)) is comes))
