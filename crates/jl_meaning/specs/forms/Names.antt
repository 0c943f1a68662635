-- Names as expressions: read, assigned, updated, and under `typeof` and `delete` (11.1.2, 11.3, 11.4, 11.13).
use Rattle.std.specs.Prelude.{if◌then◌else◌, ◌+◌, Bool, ℕ}
use Rattle.std.specs.Str.{bytes_eq}
use Rattle.jl_ast.specs.declared.ops.BinOp.{BinOp}
use Rattle.jl_scope.specs.Names.{hooks_name}
use Rattle.jl_value.specs.declared.ending.Fault.TheVariants.{Misuse}
use Rattle.jl_value.specs.declared.value.Value.{Value}
use Rattle.jl_value.specs.declared.value.Value.TheVariants as value
use Rattle.jl_heap.specs.Objects.{Name}
use Rattle.jl_op.specs.declared.op.Op.TheVariants as op
use Rattle.jl_op.specs.UnaryKinds.{update_kind}
use Rattle.jl_effects.specs.Effects.{Fail}
use Rattle.jl_meaning.specs.Noting.{note, note_value, performs}
use Rattle.jl_meaning.specs.Parts.{give, lift, ◌>>=◌, Answer, Context, Part}
use Rattle.jl_meaning.specs.References.{delete_name, get_name, get_value, put_value, resolve, type_of_name, Reference}
use Rattle.jl_meaning.specs.forms.Operators.{operate, update}

-- the name is that of the object with the hooks
abbrev pub is_hooks : Name → Bool
is_hooks x = bytes_eq x hooks_name

-- a use of that name which is no call of a hook ends the run
abbrev pub unless_hooks : {A : Type 0} → Name → Part A → Part A
unless_hooks x p = if is_hooks x then Fail Misuse else p

-- x (11.1.2)
unfoldable pub read_name : (id : ℕ) → Context → Name → Part (Answer Value)
read_name id c x = unless_hooks x (do
  v ← lift (get_name c.env x)
  _ ← note_value performs id (op.Read x) v
  give v)

-- typeof x (11.4.3)
unfoldable pub typeof_name : (id : ℕ) → Context → Name → Part (Answer Value)
typeof_name id c x = unless_hooks x (do
  type ← lift (type_of_name c.env x)
  _ ← note performs id (λ heap. op.TypeofName x type)
  give (value.Text type))

-- delete x (11.4.1)
unfoldable pub delete_identifier : Context → Name → Part (Answer Value)
delete_identifier c x = unless_hooks x (do
  free ← lift (delete_name c.strict c.env x)
  give (value.Bool free))

-- a value is written to a name that has been resolved
abbrev pub write_name : (id : ℕ) → Context → Name → Reference → Value → Part (Answer (Unit {0}))
write_name id c x reference v = do
  _ ← note_value performs id (op.Write x) v
  lift (put_value c.strict x v reference)

-- x = e, where e gives the value (11.13.1); also a variable with an initialiser (12.2)
abbrev pub assign_name : (id : ℕ) → Context → Name → (e : Part (Answer Value)) → Part (Answer Value)
assign_name id c x e = unless_hooks x (do
  reference ← lift (resolve c.env x)
  v ← e
  _ ← write_name id c x reference v
  give v)

-- the value of a name that has been resolved
abbrev pub read_reference : (id : ℕ) → Name → Reference → Part (Answer Value)
read_reference id x reference = do
  v ← lift (get_value x reference)
  _ ← note_value performs id (op.Read x) v
  give v

-- x op= e (11.13.2)
abbrev pub compute_name : (id : ℕ) → Context → Name → BinOp → (e : Part (Answer Value)) → Part (Answer Value)
compute_name id c x o e = unless_hooks x (do
  reference ← lift (resolve c.env x)
  held ← read_reference id x reference
  operand ← e
  v ← operate performs (id + 1) o held operand
  _ ← write_name (id + 2) c x reference v
  give v)

-- ++x, x++, --x and x-- (11.3, 11.4.4, 11.4.5): the new value, or the number that it was
unfoldable pub update_name : (id : ℕ) → Context → Name → (up prefix : Bool) → Part (Answer Value)
update_name id c x up prefix = unless_hooks x (do
  reference ← lift (resolve c.env x)
  held ← read_reference id x reference
  v ← update performs (id + 1) (update_kind up) held
  _ ← write_name (id + 2) c x reference v.1
  give (if prefix then v.1 else value.Num v.0))
