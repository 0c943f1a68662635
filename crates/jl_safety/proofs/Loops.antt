-- Loops and jumps: where the body of a loop has gone, and what is left of a completion outside of what takes it.
use Rattle.std.proofs.Common.{◌≡◌, ◌∙◌, ℕ, List, [], ◌∷◌, ◌++◌, Bool, true, false, ◌||◌, Some, None, refl, sym}
use Rattle.std.specs.Prelude.{if◌then◌else◌}
use Rattle.std.specs.Str.{bytes_eq}
use Rattle.std.proofs.lemmas.List.Folds.{list_any-append}
use Rattle.std.proofs.lemmas.Slice.Eq.{bytes_eq-Decides}
use Rattle.jl_ast.specs.Tree.{Text}
use Rattle.jl_scope.specs.Names.{among, same_text}
use Rattle.jl_value.specs.Tests.{is_nothing}
use Rattle.jl_value.specs.declared.ending.Completion.{Completion}
use Rattle.jl_value.specs.declared.ending.Completion.TheVariants as completion
use Rattle.jl_value.specs.declared.value.Value.{Value}
use Rattle.jl_heap.specs.Objects.{Name}
use Rattle.jl_effects.specs.Effects.{End}
use Rattle.jl_meaning.specs.Changes.{apply, NewBinding, NewEnvironment}
use Rattle.jl_meaning.specs.Conversions.{to_object}
use Rattle.jl_meaning.specs.Parts.{for_in_loop, Context, Loop, Part, Stmts, Visit}
use Rattle.jl_meaning.specs.Store.{next_environment}
use Rattle.jl_meaning.specs.forms.Jumps.{after_labelled, return_value, throw_value}
use Rattle.jl_meaning.specs.forms.Loops.{after_body, begin_loop, visit_all, visit_first, visit_next, visits_left}
use Rattle.jl_meaning.specs.forms.Loops.{visits_of}
use Rattle.jl_meaning.specs.forms.Names.{is_hooks}
use Rattle.jl_meaning.specs.forms.Switch.{after_switch}
use Rattle.jl_meaning.specs.forms.Try.{begin_catch, unless_abrupt}
use Rattle.jl_safety.specs.inner.Jumps.{in_a_loop, in_a_switch, under_label, AllJumpsFit, Around, MayComplete}
use Rattle.jl_safety.specs.inner.Sound.{AreSound}
use Rattle.jl_safety.proofs.Changes.{keeps_change, keeps_then}
use Rattle.jl_safety.proofs.Relation.{algorithm, completed, look_completes, normally, perform_completes, pick_completes}
use Rattle.jl_safety.proofs.Relation.{sound_turn, value_then, Completes, LoopIsSound, Safe}

-- COMPLETIONS
not_here : (a b c : Bool) → a ≡ (b || c) → b ≡ false → a ≡ true → c ≡ true
not_here a true c e h t = cc
not_here a false c e h t = sym e ∙ t

-- a loop that goes on takes the jumps to it (12.6, 12.7, 12.8)
pub after_safe : (a : Around) (own : List Text) {next : Part Completion} → Completes a next → (how : Completion)
    → MayComplete (in_a_loop own a) how → Completes a (after_body own next how)
after_safe a own x completion.Normal h = x
after_safe a own x (completion.Return v) h = completed h
after_safe a own x (completion.Throw v) h = completed h
after_safe a own x (completion.Break None) h = normally
after_safe a own x (completion.Break (Some l)) h = completed h
after_safe a own x (completion.Continue None) h = x
after_safe a own {next = next} x (completion.Continue (Some l)) h = at (among l own) refl
  where
    at : (b : Bool) → among l own ≡ b → Completes a (if b then next else End (completion.Continue (Some l)))
    at true e = x
    at false e =
        completed (not_here (among l (own ++ a.loop_labels)) (among l own) (among l a.loop_labels)
        (list_any-append (λ y. same_text l y) own a.loop_labels) e h)

pub switch_takes : (a : Around) (how : Completion) → MayComplete (in_a_switch a) how → MayComplete a (after_switch how)
switch_takes a completion.Normal h = tt
switch_takes a (completion.Return v) h = h
switch_takes a (completion.Throw v) h = tt
switch_takes a (completion.Break None) h = tt
switch_takes a (completion.Break (Some x)) h = h
switch_takes a (completion.Continue None) h = h
switch_takes a (completion.Continue (Some x)) h = h

pub label_takes : (a : Around) (x : Text) (how : Completion) → MayComplete (under_label x a) how
    → MayComplete a (after_labelled x how)
label_takes a x completion.Normal h = tt
label_takes a x (completion.Return v) h = h
label_takes a x (completion.Throw v) h = tt
label_takes a x (completion.Break None) h = h
label_takes a x (completion.Break (Some y)) h = at (bytes_eq x y) refl
  where
    other : (b : Bool) → bytes_eq y x ≡ b → bytes_eq x y ≡ false → (b || among y a.labels) ≡ true
        → among y a.labels ≡ true
    other true e differ h =
        let same : bytes_eq x y ≡ true = (bytes_eq-Decides x y).1 (sym ((bytes_eq-Decides y x).0 e)) in
        absurd (let no = sym same ∙ differ in cc)
    other false e differ h = h

    at : (b : Bool) → bytes_eq x y ≡ b → MayComplete a (if b then completion.Normal else completion.Break (Some y))
    at true e = tt
    at false e = other (bytes_eq y x) refl e h
label_takes a x (completion.Continue None) h = h
label_takes a x (completion.Continue (Some y)) h = h

pub finally_leaves : (a : Around) (before : Completion) → MayComplete a before → (how : Completion)
    → MayComplete a how → MayComplete a (unless_abrupt before how)
finally_leaves a before e completion.Normal h = e
finally_leaves a before e (completion.Return v) h = h
finally_leaves a before e (completion.Throw v) h = h
finally_leaves a before e (completion.Break x) h = h
finally_leaves a before e (completion.Continue x) h = h

pub return_safe : {a : Around} (id : ℕ) (v : Value) → MayComplete a (completion.Return v)
    → Completes a (return_value id v)
unfolding return_value
return_safe id v h = perform_completes (completed h)

pub throw_safe : {a : Around} (id : ℕ) (v : Value) → Completes a (throw_value id v)
unfolding throw_value
throw_safe id v = perform_completes (completed tt)

-- a `catch` begins with a new environment
pub catch_safe : (id env : ℕ) (x : Name) (v : Value) → Safe (begin_catch id env x v)
unfolding begin_catch
catch_safe id env x v = record {
  at = λ s.
      let t = apply (NewEnvironment env) s in
      let b = NewBinding (next_environment s) (record { name = x; value = v; mutable = true }) in
      keeps_then s t (apply b t) (keeps_change (NewEnvironment env) s) (keeps_change b t);
}

-- LOOPS
pub loop_safe : (a : Around) (l : Loop) (c : Context) (own : List Text) (id : ℕ) → LoopIsSound a own l
    → Completes a (begin_loop l c own id)
loop_safe a l c own id h = record {
  at = λ s.
      (sound_turn a (record { loop = l; context = c; labels = own; id = id }) h, refl, λ how t kept e. (kept, e));
}

first_safe : (a : Around) (x : Text) (l : Stmts) (c : Context) (own : List Text) (id : ℕ) (visits : List Visit)
    → AllJumpsFit (in_a_loop own a) l × AreSound l × (is_hooks x ≡ false)
    → Completes a (visit_first x l c own id visits)
first_safe a x l c own id [] h = normally
first_safe a x l c own id (v ∷ rest) h = loop_safe a (for_in_loop x v.name rest l) c own id h

pub visit_safe : (a : Around) (x : Text) (l : Stmts) (c : Context) (own : List Text) (id : ℕ) (visits : List Visit)
    → AllJumpsFit (in_a_loop own a) l × AreSound l × (is_hooks x ≡ false)
    → Completes a (visit_next x l c own id visits)
unfolding visit_next
visit_safe a x l c own id visits h =
    look_completes (λ s. first_safe a x l c own id (visits_left s.heap visits) h)

pub visit_all_safe : (a : Around) (x : Text) (l : Stmts) (c : Context) (own : List Text) (id : ℕ) (v : Value)
    → AllJumpsFit (in_a_loop own a) l × AreSound l × (is_hooks x ≡ false)
    → Completes a (visit_all x l c own id v)
unfolding visit_all
visit_all_safe a x l c own id v h =
    pick_completes (is_nothing v) normally (value_then (algorithm (to_object v)) (λ object.
    look_completes (λ s. visit_safe a x l c own id (visits_of s.heap object.0) h)))
