-- The list of kinds has each kind at its number, and nowhere else.
use Rattle.std.proofs.Common.{◌≡◌, ℕ, zero, suc, ◌+◌, List, [], ◌∷◌, map, Some, refl, sym, ap, ◌∙◌, arith}
use Rattle.std.specs.Prelude.{slice_get, option_map}
use Rattle.std.proofs.lemmas.Option.{slice_get-map}
use Rattle.jl_op.specs.declared.kind.OpKind.{OpKind}
use Rattle.jl_op.specs.declared.kind.OpKind.TheVariants as kinds
use Rattle.jl_op.specs.Kinds.{all_kinds, number_of}
use Rattle.jl_op.specs.Laws.{EachKindOnce}

pub listed : (kind : OpKind) → slice_get all_kinds (number_of kind) ≡ Some kind
listed kinds.ScriptEnter = refl
listed kinds.ScriptExit = refl
listed kinds.FunctionEnter = refl
listed kinds.FunctionExit = refl
listed kinds.Literal = refl
listed kinds.ArrayLiteral = refl
listed kinds.ObjectLiteral = refl
listed kinds.FunctionLiteral = refl
listed kinds.Read = refl
listed kinds.Write = refl
listed kinds.TypeofName = refl
listed kinds.GetField = refl
listed kinds.PutField = refl
listed kinds.DeleteField = refl
listed kinds.InvokePre = refl
listed kinds.InvokePost = refl
listed kinds.Binary = refl
listed kinds.Unary = refl
listed kinds.Conditional = refl
listed kinds.ForIn = refl
listed kinds.Return = refl
listed kinds.Throw = refl
listed kinds.Catch = refl

-- numbers that rise by one
counted : (first count : ℕ) → List ℕ
counted first zero = []
counted first (suc count) = first ∷ counted (first + 1) count

counted_at : (first count index n : ℕ) → slice_get (counted first count) index ≡ Some n → index + first ≡ n
unfolding counted
counted_at first zero index n e = absurd (cc)
counted_at first (suc count) zero n e = let same : first ≡ n = cc in omega arith
counted_at first (suc count) (suc index) n e = omega (arith, counted_at (first + 1) count index n e)

numbers : map number_of all_kinds ≡ counted 0 23
unfolding counted
numbers = refl

only_there : (kind : OpKind) (index : ℕ) → slice_get all_kinds index ≡ Some kind → index ≡ number_of kind
only_there kind index e =
    let number = counted_at 0 23 index (number_of kind)
    (ap (λ l. slice_get l index) (sym numbers) ∙ slice_get-map number_of all_kinds index
    ∙ ap (option_map number_of) e) in
    omega arith

pub each_once : EachKindOnce
each_once kind index =
    (only_there kind index, λ e. ap (slice_get all_kinds) e ∙ listed kind)

-- no two kinds have one number
pub one_kind : (a b : OpKind) → number_of a ≡ number_of b → a ≡ b
one_kind a b e =
    let both : Some a ≡ Some b = sym (listed a) ∙ ap (slice_get all_kinds) e ∙ listed b in cc
