-- How calls of hooks look: `J$.NAME(id, ..)`. A script of its own never names `J$`.
use Rattle.std.specs.Option.{option_and_then, option_or}
use Rattle.std.specs.Prelude.{[], codes, find, if◌then◌else◌, nat_lt, option_map, pos, suc, true, ◌+◌, ◌==◌, ◌∷◌}
use Rattle.std.specs.Prelude.{Bool, List, None, Option, Some, ℕ}
use Rattle.std.specs.Str.{bytes_eq}
use Rattle.jl_ast.specs.Tree as tree
use Rattle.jl_ast.specs.declared.ops.BinOp.{BinOp}
use Rattle.jl_ast.specs.declared.ops.BinOp.TheVariants as binary
use Rattle.jl_heap.specs.Objects.{Name}
use Rattle.jl_op.specs.Trace.{binary_sign, unary_sign}
use Rattle.jl_op.specs.declared.sign.UnKind.{UnKind}
use Rattle.jl_op.specs.declared.sign.UnKind.TheVariants as unary
use Rattle.jl_meaning.specs.Parts.{Expr, Exprs}
use Rattle.jl_meaning.specs.forms.Names.{is_hooks}

-- what a hook is asked for that gives a value
pub data Hook : Type 0 where
  enters_script : Hook
  exits_script : Hook
  enters_function : Hook
  exits_function : Hook
  makes : Hook
  -- of one value
  reads : Name → Hook
  writes : Name → Hook
  types : Name → Hook
  catches : Name → Hook
  tests : Hook
  visits : Hook
  returns : Hook
  throws_value : Hook
  -- of operands
  binary_of : BinOp → Hook
  unary_of : UnKind → Hook
  -- of a base and a key
  gets : Hook
  deletes : Hook
  updates : UnKind → Hook

-- what one is asked for that begins a pair of calls, `J$.NAME(..)(..)`: the first prepares what the second does
pub data Opener : Type 0 where
  opens_put : Opener
  opens_assign : BinOp → Opener
  opens_call : Opener
  opens_new : Opener
  opens_method : Opener

-- how calls of a hook look: an id, or an id and a string that says what it is asked for; and then so many arguments
-- that are evaluated
pub data Shape (H : Type 0) : Type 0 where
  plain : H → (args : ℕ) → Shape H
  worded : (List ℕ → Option H) → (args : ℕ) → Shape H

-- the operator that is written so, among these
abbrev pub binary_among : List BinOp → List ℕ → Option BinOp
binary_among ops sign = find (λ o. bytes_eq (binary_sign o) sign) ops

abbrev pub unary_among : List UnKind → List ℕ → Option UnKind
unary_among kinds sign = find (λ o. bytes_eq (unary_sign o) sign) kinds

-- the operators of compound assignments (11.13)
unfoldable pub assignment_operators : List BinOp
assignment_operators =
    binary.Mul ∷ binary.Div ∷ binary.Rem ∷ binary.Add ∷ binary.Sub ∷ binary.Shl ∷ binary.Sar ∷ binary.Shr
    ∷ binary.BitAnd ∷ binary.BitXor ∷ binary.BitOr ∷ []

-- the others, of 11.8 and 11.9
unfoldable pub relational_operators : List BinOp
relational_operators =
    binary.Less ∷ binary.Greater ∷ binary.LessEq ∷ binary.GreaterEq ∷ binary.InstanceOf ∷ binary.In ∷ binary.Equal
    ∷ binary.NotEqual ∷ binary.StrictEqual ∷ binary.StrictNotEqual ∷ []

unfoldable pub unary_kinds : List UnKind
unary_kinds =
    unary.Minus ∷ unary.Plus ∷ unary.Not ∷ unary.Tilde ∷ unary.Typeof ∷ unary.Void ∷ unary.Up ∷ unary.Down ∷ []

abbrev pub update_kinds : List UnKind
update_kinds = unary.Up ∷ unary.Down ∷ []

abbrev pub binary_named : List ℕ → Option BinOp
binary_named sign = option_or (binary_among assignment_operators sign) (binary_among relational_operators sign)

-- the hooks by name that give a value
unfoldable pub hooks : List (List ℕ × Shape Hook)
hooks =
    (codes "S", plain enters_script 0) ∷ (codes "X", plain exits_script 0)
    ∷ (codes "E", plain enters_function 0) ∷ (codes "L", plain exits_function 0)
    ∷ (codes "T", plain makes 1)
    ∷ (codes "R", worded (λ x. Some (reads x)) 1) ∷ (codes "W", worded (λ x. Some (writes x)) 1)
    ∷ (codes "Y", worded (λ x. Some (types x)) 1) ∷ (codes "H", worded (λ x. Some (catches x)) 1)
    ∷ (codes "C", plain tests 1) ∷ (codes "O", plain visits 1)
    ∷ (codes "V", plain returns 1) ∷ (codes "K", plain throws_value 1)
    ∷ (codes "B", worded (λ sign. option_map binary_of (binary_named sign)) 2)
    ∷ (codes "U", worded (λ sign. option_map unary_of (unary_among unary_kinds sign)) 1)
    ∷ (codes "G", plain gets 2) ∷ (codes "Z", plain deletes 2)
    ∷ (codes "I", worded (λ sign. option_map updates (unary_among update_kinds sign)) 2) ∷ []

-- those that begin a pair of calls
unfoldable pub openers : List (List ℕ × Shape Opener)
openers =
    (codes "P", plain opens_put 2)
    ∷ (codes "A", worded (λ sign. option_map opens_assign (binary_among assignment_operators sign)) 2)
    ∷ (codes "F", plain opens_call 1) ∷ (codes "N", plain opens_new 1) ∷ (codes "M", plain opens_method 2) ∷ []

abbrev pub shape_named : {H : Type 0} → List ℕ → List (List ℕ × Shape H) → Option (Shape H)
shape_named x [] = None
shape_named x ((y, shape) ∷ l) = if bytes_eq x y then Some shape else shape_named x l

-- what the callee of a call is: a hook, one that begins a pair, or no hook
pub data CalleeForm : Type 0 where
  hook : Shape Hook → CalleeForm
  opener : Shape Opener → CalleeForm
  no_hook : CalleeForm

abbrev pub form_named : Option (Shape Hook) → Option (Shape Opener) → CalleeForm
form_named (Some shape) _ = hook shape
form_named None (Some shape) = opener shape
form_named None None = no_hook

-- the member of this name of an expression
abbrev pub form_of_member : Expr → Name → CalleeForm
form_of_member (tree.name x s) k =
    if is_hooks x then form_named (shape_named k hooks) (shape_named k openers) else no_hook
form_of_member o k = no_hook

abbrev pub form_of : Expr → CalleeForm
form_of (tree.dot o k s) = form_of_member o k
form_of f = no_hook

-- the id in a call of a hook: a number literal below 2^32 - 2
abbrev pub id_in : Exprs → Option ℕ
id_in (tree.more (tree.number (Some (pos n)) s) l) = if nat_lt n 4294967294 then Some n else None
id_in _ = None

-- the string literal after it
abbrev pub word_in : Exprs → Option (List ℕ)
word_in (tree.more e (tree.more (tree.string units s) l)) = Some units
word_in _ = None

abbrev pub count : Exprs → ℕ
count tree.end = 0
count (tree.more e l) = suc (count l)

-- a call of a hook: its id, what it is asked for, and how many literals stand before the arguments that are evaluated
pub record HookCall (H : Type 0) : Type 0 where
  pub id : ℕ
  pub asked : H
  pub literals : ℕ

abbrev pub asked_of : {H : Type 0} → Shape H → Exprs → Option H
asked_of (plain h n) l = if count l == 1 + n then Some h else None
asked_of (worded h n) l = if count l == 2 + n then option_and_then h (word_in l) else None

abbrev pub literals_of : {H : Type 0} → Shape H → ℕ
literals_of (plain h n) = 1
literals_of (worded h n) = 2

-- a call with these arguments, or none where it doesn't look as it should
abbrev pub hook_call : {H : Type 0} → Shape H → Exprs → Option (HookCall H)
hook_call shape l =
    option_and_then (λ id. option_map (λ h. record {
      id = id;
      asked = h;
      literals =
          literals_of shape;
    }) (asked_of shape l))
    (id_in l)

-- whether the second call of a pair may have so many arguments: one, where a member is put or assigned to
abbrev pub takes_arguments : Shape Opener → ℕ → Bool
takes_arguments (plain opens_put n) k = k == 1
takes_arguments (worded h n) k = k == 1
takes_arguments _ k = true
