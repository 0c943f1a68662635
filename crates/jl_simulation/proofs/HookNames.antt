-- The hooks by their names, and the operators by their signs.
use Rattle.std.proofs.Common.{◌≡◌, List, Bool, true, false, Option, Some, codes, refl, ap, ℕ}
use Rattle.std.specs.Option.{option_map}
use Rattle.jl_ast.specs.Tree as tree
use Rattle.jl_ast.specs.declared.ops.BinOp.{BinOp}
use Rattle.jl_ast.specs.declared.ops.BinOp.TheVariants as binary
use Rattle.jl_scope.specs.Names.{hooks_name}
use Rattle.jl_op.specs.Trace.{binary_sign, unary_sign}
use Rattle.jl_op.specs.declared.sign.UnKind.{UnKind}
use Rattle.jl_op.specs.declared.sign.UnKind.TheVariants as unary
use Rattle.jl_op.specs.UnaryKinds.{update_kind}
use Rattle.jl_meaning.specs.forms.HookCalls.{assignment_operators, binary_among, binary_named, binary_of, catches}
use Rattle.jl_meaning.specs.forms.HookCalls.{deletes, enters_function, enters_script, exits_function, exits_script}
use Rattle.jl_meaning.specs.forms.HookCalls.{form_of_member, gets, hook, hooks, makes, opener, openers, opens_assign}
use Rattle.jl_meaning.specs.forms.HookCalls.{opens_call, opens_method, opens_new, opens_put, plain, reads}
use Rattle.jl_meaning.specs.forms.HookCalls.{relational_operators, returns, tests, throws_value, types, unary_among}
use Rattle.jl_meaning.specs.forms.HookCalls.{unary_kinds, unary_of, update_kinds, updates, visits, worded, writes}
use Rattle.jl_meaning.specs.forms.HookCalls.{CalleeForm, Hook, Opener}
use Rattle.jl_simulation.specs.CompoundAssignments.{IsAssignmentOperator}

-- what the member of this name of the object with the hooks is
abbrev pub hook_form : List ℕ → CalleeForm
hook_form k = form_of_member (tree.name hooks_name 0) k

abbrev pub asks_binary : List ℕ → Option Hook
asks_binary sign = option_map binary_of (binary_named sign)

abbrev pub asks_unary : List ℕ → Option Hook
asks_unary sign = option_map unary_of (unary_among unary_kinds sign)

abbrev pub asks_update : List ℕ → Option Hook
asks_update sign = option_map updates (unary_among update_kinds sign)

abbrev pub asks_assign : List ℕ → Option Opener
asks_assign sign = option_map opens_assign (binary_among assignment_operators sign)

pub form_S : hook_form (codes "S") ≡ hook (plain enters_script 0)
unfolding hooks_name hooks openers
form_S = refl

pub form_X : hook_form (codes "X") ≡ hook (plain exits_script 0)
unfolding hooks_name hooks openers
form_X = refl

pub form_E : hook_form (codes "E") ≡ hook (plain enters_function 0)
unfolding hooks_name hooks openers
form_E = refl

pub form_L : hook_form (codes "L") ≡ hook (plain exits_function 0)
unfolding hooks_name hooks openers
form_L = refl

pub form_T : hook_form (codes "T") ≡ hook (plain makes 1)
unfolding hooks_name hooks openers
form_T = refl

pub form_R : hook_form (codes "R") ≡ hook (worded (λ x. Some (reads x)) 1)
unfolding hooks_name hooks openers
form_R = refl

pub form_W : hook_form (codes "W") ≡ hook (worded (λ x. Some (writes x)) 1)
unfolding hooks_name hooks openers
form_W = refl

pub form_Y : hook_form (codes "Y") ≡ hook (worded (λ x. Some (types x)) 1)
unfolding hooks_name hooks openers
form_Y = refl

pub form_H : hook_form (codes "H") ≡ hook (worded (λ x. Some (catches x)) 1)
unfolding hooks_name hooks openers
form_H = refl

pub form_C : hook_form (codes "C") ≡ hook (plain tests 1)
unfolding hooks_name hooks openers
form_C = refl

pub form_O : hook_form (codes "O") ≡ hook (plain visits 1)
unfolding hooks_name hooks openers
form_O = refl

pub form_V : hook_form (codes "V") ≡ hook (plain returns 1)
unfolding hooks_name hooks openers
form_V = refl

pub form_K : hook_form (codes "K") ≡ hook (plain throws_value 1)
unfolding hooks_name hooks openers
form_K = refl

pub form_B : hook_form (codes "B") ≡ hook (worded asks_binary 2)
unfolding hooks_name hooks openers
form_B = refl

pub form_U : hook_form (codes "U") ≡ hook (worded asks_unary 1)
unfolding hooks_name hooks openers
form_U = refl

pub form_G : hook_form (codes "G") ≡ hook (plain gets 2)
unfolding hooks_name hooks openers
form_G = refl

pub form_Z : hook_form (codes "Z") ≡ hook (plain deletes 2)
unfolding hooks_name hooks openers
form_Z = refl

pub form_I : hook_form (codes "I") ≡ hook (worded asks_update 2)
unfolding hooks_name hooks openers
form_I = refl

pub form_P : hook_form (codes "P") ≡ opener (plain opens_put 2)
unfolding hooks_name hooks openers
form_P = refl

pub form_A : hook_form (codes "A") ≡ opener (worded asks_assign 2)
unfolding hooks_name hooks openers
form_A = refl

pub form_F : hook_form (codes "F") ≡ opener (plain opens_call 1)
unfolding hooks_name hooks openers
form_F = refl

pub form_N : hook_form (codes "N") ≡ opener (plain opens_new 1)
unfolding hooks_name hooks openers
form_N = refl

pub form_M : hook_form (codes "M") ≡ opener (plain opens_method 2)
unfolding hooks_name hooks openers
form_M = refl

pub word_B : (o : BinOp) → asks_binary (binary_sign o) ≡ Some (binary_of o)
unfolding assignment_operators relational_operators
word_B binary.Mul = refl
word_B binary.Div = refl
word_B binary.Rem = refl
word_B binary.Add = refl
word_B binary.Sub = refl
word_B binary.Shl = refl
word_B binary.Sar = refl
word_B binary.Shr = refl
word_B binary.Less = refl
word_B binary.Greater = refl
word_B binary.LessEq = refl
word_B binary.GreaterEq = refl
word_B binary.InstanceOf = refl
word_B binary.In = refl
word_B binary.Equal = refl
word_B binary.NotEqual = refl
word_B binary.StrictEqual = refl
word_B binary.StrictNotEqual = refl
word_B binary.BitAnd = refl
word_B binary.BitXor = refl
word_B binary.BitOr = refl

pub word_U : (o : UnKind) → asks_unary (unary_sign o) ≡ Some (unary_of o)
unfolding unary_kinds
word_U unary.Minus = refl
word_U unary.Plus = refl
word_U unary.Not = refl
word_U unary.Tilde = refl
word_U unary.Typeof = refl
word_U unary.Void = refl
word_U unary.Up = refl
word_U unary.Down = refl

pub word_I : (up : Bool) → asks_update (unary_sign (update_kind up)) ≡ Some (updates (update_kind up))
word_I true = refl
word_I false = refl

pub word_A : (o : BinOp) → IsAssignmentOperator o → asks_assign (binary_sign o) ≡ Some (opens_assign o)
word_A o e = ap (option_map opens_assign) e
