-- Loops and jumps emit nothing themselves.
use Rattle.std.proofs.Common.{ℕ, List, [], ◌∷◌, Some, None}
use Rattle.jl_ast.specs.Tree.{Text}
use Rattle.jl_scope.specs.Names.{among}
use Rattle.jl_value.specs.Tests.{is_nothing}
use Rattle.jl_value.specs.declared.ending.Completion.{Completion}
use Rattle.jl_value.specs.declared.ending.Completion.TheVariants as completion
use Rattle.jl_value.specs.declared.value.Value.{Value}
use Rattle.jl_heap.specs.Objects.{Name}
use Rattle.jl_meaning.specs.Conversions.{to_object}
use Rattle.jl_meaning.specs.Parts.{for_in_loop, Context, Loop, Part, Stmts, Visit}
use Rattle.jl_meaning.specs.forms.Jumps.{return_value, throw_value}
use Rattle.jl_meaning.specs.forms.Loops.{after_body, begin_loop, visit_all, visit_first, visit_next, visits_left}
use Rattle.jl_meaning.specs.forms.Loops.{visits_of}
use Rattle.jl_meaning.specs.forms.Try.{begin_catch}
use Rattle.jl_hook_bound.proofs.Relation.{algorithm, begin_free, ended, look_paid, ok, perform_paid, pick, value_then, Paid}

-- a loop goes on after its body, or ends
pub after_free : (own : List Text) {next : Part Completion} → Paid 0 0 next → (how : Completion)
    → Paid 0 0 (after_body own next how)
after_free own x completion.Normal = x
after_free own x (completion.Return v) = ended _
after_free own x (completion.Throw v) = ended _
after_free own x (completion.Break None) = ended completion.Normal
after_free own x (completion.Break (Some l)) = ended _
after_free own x (completion.Continue None) = x
after_free own x (completion.Continue (Some l)) = pick (among l own) x (ended _)

pub return_free : (id : ℕ) (v : Value) → Paid 0 0 (return_value id v)
unfolding return_value
return_free id v = perform_paid (ended (completion.Return v))

pub throw_free : (id : ℕ) (v : Value) → Paid 0 0 (throw_value id v)
unfolding throw_value
throw_free id v = perform_paid (ended (completion.Throw v))

pub catch_free : (id env : ℕ) (x : Name) (v : Value) → Paid 0 0 (begin_catch id env x v)
unfolding begin_catch
catch_free id env x v = record { at = λ s t. (ok s {d = 0}).at }

pub loop_free : (l : Loop) (c : Context) (own : List Text) (id : ℕ) → Paid 0 0 (begin_loop l c own id)
loop_free l c own id = begin_free _

pub visit_free : (x : Text) (l : Stmts) (c : Context) (own : List Text) (id : ℕ) (visits : List Visit)
    → Paid 0 0 (visit_next x l c own id visits)
unfolding visit_next
visit_free x l c own id visits = look_paid (λ s. first (visits_left s.heap visits))
  where
    first : (left : List Visit) → Paid 0 0 (visit_first x l c own id left)
    first [] = ended completion.Normal
    first (v ∷ rest) = loop_free (for_in_loop x v.name rest l) c own id

pub visit_all_free : (x : Text) (l : Stmts) (c : Context) (own : List Text) (id : ℕ) (v : Value)
    → Paid 0 0 (visit_all x l c own id v)
unfolding visit_all
visit_all_free x l c own id v =
    pick (is_nothing v) (ended completion.Normal) (value_then (algorithm (to_object v)) (λ object.
    look_paid (λ s. visit_free x l c own id (visits_of s.heap object.0))))
