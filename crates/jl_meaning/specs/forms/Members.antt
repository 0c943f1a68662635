-- Members: got, put, deleted, assigned and updated (8.7, 11.2.1, 11.3, 11.4, 11.13). A dot member is one whose key is
-- the string of its name.
use Rattle.std.specs.Prelude.{if◌then◌else◌, ◌+◌, Bool, None, Option, Some, ℕ}
use Rattle.jl_num.specs.Number.{Number}
use Rattle.jl_ast.specs.declared.ops.BinOp.{BinOp}
use Rattle.jl_value.specs.declared.value.Value.{Value}
use Rattle.jl_value.specs.declared.value.Value.TheVariants as value
use Rattle.jl_heap.specs.Describe.{seen_of}
use Rattle.jl_heap.specs.Objects.{Name}
use Rattle.jl_op.specs.declared.op.Op.TheVariants as op
use Rattle.jl_op.specs.declared.sign.UnKind.{UnKind}
use Rattle.jl_op.specs.UnaryKinds.{update_kind}
use Rattle.jl_meaning.specs.Conversions.{check_object_coercible, to_string}
use Rattle.jl_meaning.specs.Getting.{get}
use Rattle.jl_meaning.specs.Noting.{note, performs, Noting}
use Rattle.jl_meaning.specs.Parts.{give, lift, look, ◌>>=◌, Algorithm, Answer, Context, Part}
use Rattle.jl_meaning.specs.Properties.{found_of, property_of_value}
use Rattle.jl_meaning.specs.Putting.{delete, put}
use Rattle.jl_meaning.specs.forms.Operators.{operate, update}

-- the name of a member, after the test of what it is a member of (11.2.1, steps 5 and 6)
abbrev pub member_name : (base key : Value) → Algorithm Name
member_name base key = do
  _ ← check_object_coercible base
  to_string key

-- GetValue of a member (8.7.1)
unfoldable pub get_member : Noting → (id : ℕ) → (base : Value) → Name → Part (Answer Value)
get_member how id base x = do
  store ← look
  v ← lift (get base x)
  _ ← note how id (λ heap. op.GetField (seen_of heap base) x (seen_of heap v) (found_of
      (property_of_value store base x)))
  give v

-- PutValue to a member (8.7.2)
unfoldable pub put_member : Noting → (id : ℕ) → (strict : Bool) → (base : Value) → Name → Value
    → Part (Answer (Unit {0}))
put_member how id strict base x v = do
  store ← look
  _ ← note how id (λ heap. op.PutField (seen_of heap base) x (seen_of heap v) (found_of
      (property_of_value store base x)))
  lift (put strict base x v)

-- delete o[k] (11.4.1)
unfoldable pub delete_member : Noting → (id : ℕ) → (strict : Bool) → (base key : Value) → Part (Answer Value)
delete_member how id strict base key = do
  x ← lift (member_name base key)
  free ← lift (delete strict base x)
  _ ← note how id (λ heap. op.DeleteField (seen_of heap base) x free)
  give (value.Bool free)

-- `++` or `--` on a member: the number that it was, and the new value
unfoldable pub update_member : Noting → (id : ℕ) → (strict : Bool) → UnKind → (base key : Value)
    → Part (Answer (Number × Value))
update_member how id strict o base key = do
  x ← lift (member_name base key)
  held ← get_member how id base x
  v ← update how (id + 1) o held
  _ ← put_member how (id + 2) strict base x v.1
  give v

-- o[k] (11.2.1)
unfoldable pub read_member : (id : ℕ) → (base key : Value) → Part (Answer Value)
read_member id base key = do
  x ← lift (member_name base key)
  get_member performs id base x

-- o[k] = e and o[k] op= e, where e gives the value (11.13)
abbrev pub assign_member : (id : ℕ) → Context → (base key : Value) → Option BinOp → (e : Part (Answer Value))
    → Part (Answer Value)
assign_member id c base key None e = do
  x ← lift (member_name base key)
  v ← e
  _ ← put_member performs id c.strict base x v
  give v
assign_member id c base key (Some o) e = do
  x ← lift (member_name base key)
  held ← get_member performs id base x
  operand ← e
  v ← operate performs (id + 1) o held operand
  _ ← put_member performs (id + 2) c.strict base x v
  give v

-- ++o[k], o[k]++, --o[k] and o[k]--: the new value, or the number that it was
unfoldable pub update_expression : (id : ℕ) → Context → (base key : Value) → (up prefix : Bool) → Part (Answer Value)
update_expression id c base key up prefix = do
  v ← update_member performs id c.strict (update_kind up) base key
  give (if prefix then v.1 else value.Num v.0)
