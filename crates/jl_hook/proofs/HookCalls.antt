-- Calls of hooks by their parts.
use Rattle.std.proofs.Common.{◌≡◌, ◌∷◌, [], List, ℕ, true, length, refl, ap, suc}
use Rattle.std.proofs.lemmas.Bool.{eq-eqb}
use Rattle.std.specs.Prelude.{if◌then◌else◌, nat_eq, negsuc, pos, None, Some, slice_get}
use Rattle.std.specs.Option.{option_and_then}
use Rattle.jl_ast.specs.Tree as tree
use Rattle.jl_ast.specs.View.{view_expression, view_expressions}
use Rattle.jl_ast.specs.declared.tree.Expr.{Expr}
use Rattle.jl_meaning.specs.Parts as parts
use Rattle.jl_meaning.specs.forms.HookCalls.{count, form_named, form_of_member, hooks, id_in, no_hook, openers}
use Rattle.jl_meaning.specs.forms.HookCalls.{shape_named, word_in}
use Rattle.jl_state.specs.Trees.{plain, plain_forest}
use Rattle.jl_hook.specs.inner.Literals.{id_of, is_hooks_object, number_in, text_in}

-- a member is a hook where it is one of the object with the hooks
pub of_member : (o : parts.Expr) (k : List ℕ) → form_of_member o k
    ≡ if is_hooks_object o then form_named (shape_named k hooks) (shape_named k openers) else no_hook
of_member (tree.name x s) k = refl
of_member o k = refl

-- how many arguments there are
pub counted : (l : List Expr) → count (plain_forest (view_expressions l)) ≡ length l
counted [] = refl
counted (e ∷ l) = ap suc (counted l)

-- a number is the same as itself
pub same_number : (n : ℕ) → nat_eq n n ≡ true
same_number n = eq-eqb n n refl

id_first : (e : parts.Expr) (l : parts.Exprs) → id_in (tree.more e l) ≡ option_and_then id_of (number_in e)
id_first (tree.number (Some (pos n)) s) l = refl
id_first (tree.number (Some (negsuc n)) s) l = refl
id_first (tree.number None s) l = refl
id_first e l = refl

-- the id, in the first argument
pub id_there : (l : List Expr) → id_in (plain_forest (view_expressions l))
    ≡ option_and_then (λ (e : Expr). option_and_then id_of (number_in (plain (view_expression e)))) (slice_get l 0)
id_there [] = refl
id_there (e ∷ l) = id_first (plain (view_expression e)) (plain_forest (view_expressions l))

word_second : (d e : parts.Expr) (l : parts.Exprs) → word_in (tree.more d (tree.more e l)) ≡ text_in e
word_second d (tree.string t s) l = refl
word_second d e l = refl

-- the word, in the second one
pub word_there : (l : List Expr) → word_in (plain_forest (view_expressions l))
    ≡ option_and_then (λ (e : Expr). text_in (plain (view_expression e))) (slice_get l 1)
word_there [] = refl
word_there (d ∷ []) = refl
word_there (d ∷ e ∷ l) =
    word_second (plain (view_expression d)) (plain (view_expression e)) (plain_forest (view_expressions l))

pub ruleset forms_of_members = (of_member)

pub ruleset counts = (counted, same_number)

pub ruleset ids = (id_there)

pub ruleset words = (word_there)
