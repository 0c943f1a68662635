-- Loops and jumps perform the operations of their own rows.
use Rattle.std.proofs.Common.{ℕ, List, [], ◌∷◌, Some, None}
use Rattle.jl_ast.specs.Tree.{Text}
use Rattle.jl_scope.specs.Names.{among}
use Rattle.jl_value.specs.Tests.{is_nothing}
use Rattle.jl_value.specs.declared.ending.Completion.{Completion}
use Rattle.jl_value.specs.declared.ending.Completion.TheVariants as completion
use Rattle.jl_value.specs.declared.value.Value.{Value}
use Rattle.jl_heap.specs.Objects.{Name}
use Rattle.jl_op.specs.IdMap.{MapEntry}
use Rattle.jl_op.specs.declared.kind.OpKind.TheVariants as kind
use Rattle.jl_meaning.specs.Conversions.{to_object}
use Rattle.jl_meaning.specs.Parts.{for_in_loop, Context, Loop, Part, Stmts, Visit}
use Rattle.jl_meaning.specs.forms.Jumps.{return_value, throw_value}
use Rattle.jl_meaning.specs.forms.Loops.{after_body, begin_loop, visit_all, visit_first, visit_next, visits_left}
use Rattle.jl_meaning.specs.forms.Loops.{visits_of}
use Rattle.jl_meaning.specs.forms.Try.{begin_catch}
use Rattle.jl_operation_rows.proofs.Relation.{algorithm, ended, look_told, perform_told, pick, turn_begins, value_then}
use Rattle.jl_operation_rows.proofs.Relation.{AllRows}
use Rattle.jl_operation_rows.proofs.Relation.{LoopRows, Told}
use Rattle.jl_operation_rows.proofs.Seeing.{one_seen}

module _ {IsRow : MapEntry ℕ → Type 0} where
  -- a loop goes on after its body, or ends
  pub after_told : (own : List Text) {next : Part Completion} → Told IsRow next → (how : Completion)
      → Told IsRow (after_body own next how)
  after_told own x completion.Normal = x
  after_told own x (completion.Return v) = ended _
  after_told own x (completion.Throw v) = ended _
  after_told own x (completion.Break None) = ended completion.Normal
  after_told own x (completion.Break (Some l)) = ended _
  after_told own x (completion.Continue None) = x
  after_told own x (completion.Continue (Some l)) = pick (among l own) x (ended _)

  pub return_told : (id : ℕ) (v : Value) → IsRow (kind.Return, id) → Told IsRow (return_value id v)
  unfolding return_value
  return_told id v h = perform_told (λ s. (h, one_seen s.heap v)) (ended (completion.Return v))

  pub throw_told : (id : ℕ) (v : Value) → IsRow (kind.Throw, id) → Told IsRow (throw_value id v)
  unfolding throw_value
  throw_told id v h = perform_told (λ s. (h, one_seen s.heap v)) (ended (completion.Throw v))

  pub catch_told : (id env : ℕ) (x : Name) (v : Value) → IsRow (kind.Catch, id) → Told IsRow (begin_catch id env x v)
  unfolding begin_catch
  catch_told id env x v h = record { at = λ s t. ((h, one_seen t.heap v), tt) }

  pub loop_told : (l : Loop) (c : Context) (own : List Text) (id : ℕ) → LoopRows IsRow l id
      → Told IsRow (begin_loop l c own id)
  loop_told l c own id h = turn_begins (record { loop = l; context = c; labels = own; id = id }) h

  first_told : (x : Text) (l : Stmts) (c : Context) (own : List Text) (id : ℕ) (visits : List Visit)
      → AllRows IsRow l → Told IsRow (visit_first x l c own id visits)
  first_told x l c own id [] h = ended completion.Normal
  first_told x l c own id (v ∷ rest) h = loop_told (for_in_loop x v.name rest l) c own id h

  pub visit_told : (x : Text) (l : Stmts) (c : Context) (own : List Text) (id : ℕ) (visits : List Visit)
      → AllRows IsRow l → Told IsRow (visit_next x l c own id visits)
  unfolding visit_next
  visit_told x l c own id visits h = look_told (λ s. first_told x l c own id (visits_left s.heap visits) h)

  pub visit_all_told : (x : Text) (l : Stmts) (c : Context) (own : List Text) (id : ℕ) (v : Value)
      → AllRows IsRow l → Told IsRow (visit_all x l c own id v)
  unfolding visit_all
  visit_all_told x l c own id v h =
      pick (is_nothing v) (ended completion.Normal) (value_then (algorithm (to_object v)) (λ object.
      look_told (λ s. visit_told x l c own id (visits_of s.heap object.0) h)))
