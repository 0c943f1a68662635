-- Values that are seen among some objects have their classes.
use Rattle.std.proofs.Common.{◌≡◌, ap, append-nil, List, [], ◌∷◌, refl, subst, sym}
use Rattle.std.specs.List.{AllByRecursion}
use Rattle.jl_heap.specs.Describe.{class_of_value}
use Rattle.jl_heap.specs.Objects.{Objects}
use Rattle.jl_op.specs.Kinds.{kind_of}
use Rattle.jl_op.specs.Operations.{Operation}
use Rattle.jl_op.specs.declared.op.Op.{Op}
use Rattle.jl_op.specs.declared.op.Op.TheVariants as ops
use Rattle.jl_operation_rows.specs.Seeing.{IsSeen, SeesValues, values_of}
use Rattle.jl_record.specs.Operations.{facts_of, sorts_of}
use Rattle.jl_record.specs.Storing.{HasClasses, HasItsClass, IsClassOf, values_among}
use Rattle.jl_value.specs.declared.value.Seen.{Seen}
use Rattle.jl_value.specs.declared.value.Value.{Value}
use Rattle.jl_value.specs.declared.value.Value.TheVariants as values

class_is : (heap : Objects) (v : Value) → IsClassOf v (class_of_value heap v)
class_is heap values.Undefined = refl
class_is heap values.Null = refl
class_is heap (values.Bool truth) = refl
class_is heap (values.Num number) = refl
class_is heap (values.Text units) = refl
class_is heap (values.Obj place) = tt

has_class : (seen : Seen) → IsSeen seen → HasItsClass seen
has_class seen is =
    subst (λ class. IsClassOf seen.value class) (sym (ap (λ (s : Seen). s.class) is.1)) (class_is is.0 seen.value)

all_have_classes : (seen : List Seen) → AllByRecursion IsSeen seen → AllByRecursion HasItsClass seen
all_have_classes [] are = tt
all_have_classes (one ∷ more) are = (has_class one are.0, all_have_classes more are.1)

-- the values among the facts of an operation are those that it sees
same_values : (op : Op) → values_among (sorts_of (kind_of op)) (facts_of op) ≡ values_of op
same_values ops.ScriptEnter = refl
same_values ops.ScriptExit = refl
same_values (ops.FunctionEnter function this args by_new) = refl
same_values (ops.FunctionExit function) = refl
same_values (ops.Literal value) = refl
same_values (ops.ArrayLiteral obj) = refl
same_values (ops.ObjectLiteral obj) = refl
same_values (ops.FunctionLiteral obj function) = refl
same_values (ops.Read name value) = refl
same_values (ops.Write name value) = refl
same_values (ops.TypeofName name given) = refl
same_values (ops.GetField base name value found) = refl
same_values (ops.PutField base name value found) = refl
same_values (ops.DeleteField base name deleted) = refl
same_values (ops.InvokePre callee target this args by_new) = ap (λ l. this ∷ l) (append-nil args)
same_values (ops.InvokePost callee given) = refl
same_values (ops.Binary op left right given) = refl
same_values (ops.Unary op operand given) = refl
same_values (ops.Conditional value) = refl
same_values (ops.ForIn object) = refl
same_values (ops.Return value) = refl
same_values (ops.Throw value) = refl
same_values (ops.Catch name value) = refl

pub have_classes : (o : Operation) → SeesValues o → HasClasses o.1
have_classes o sees =
    subst (λ l. AllByRecursion HasItsClass l) (sym (same_values o.1)) (all_have_classes (values_of o.1) sees)
