-- The table of the code has the hooks, and then those that begin a pair of calls.
use Rattle.std.proofs.Common.{◌≡◌, ◌∙◌, ◌++◌, ◌∷◌, [], List, ℕ, Bool, false, true, codes, map, refl, ap}
use Rattle.std.specs.Prelude.{if◌then◌else◌, None, Option, Some}
use Rattle.std.specs.Str.{bytes_eq}
use Rattle.jl_meaning.specs.forms.HookCalls.{form_named, hooks, openers, shape_named, Hook, Opener, Shape}
use Rattle.jl_meaning.specs.forms.HookCalls as meaning
use Rattle.jl_state.specs.declared.hook.Opener.TheVariants as opener
use Rattle.jl_hook.specs.declared.hook_names.CalleeForm.{CalleeForm}
use Rattle.jl_hook.specs.declared.hook_names.CalleeForm.TheVariants as callee
use Rattle.jl_hook.specs.declared.hook_names.HookShape.{HookShape}
use Rattle.jl_hook.specs.declared.hook_names.HookShape.TheVariants as shape
use Rattle.jl_hook.specs.declared.hook_names.OpenerShape.{OpenerShape}
use Rattle.jl_hook.specs.declared.hook_names.OpenerShape.TheVariants as opening
use Rattle.jl_hook.specs.declared.hook_names.PlainHook.TheVariants as bare
use Rattle.jl_hook.specs.declared.hook_names.WordedHook.TheVariants as of_word
use Rattle.jl_hook.specs.HookForms.{form_seen, hook_shape, opener_shape}
use Rattle.jl_hook.specs.inner.Tables.{form_in}

abbrev Named : Type 0 → Type 0
Named A = List (List ℕ × A)

abbrev of_hooks : Named HookShape → Named CalleeForm
of_hooks l = map (λ (e : List ℕ × HookShape). (e.0, callee.Hook e.1)) l

abbrev of_openers : Named OpenerShape → Named CalleeForm
of_openers l = map (λ (e : List ℕ × OpenerShape). (e.0, callee.Opener e.1)) l

abbrev hooks_of : Named HookShape → Named (Shape Hook)
hooks_of l = map (λ (e : List ℕ × HookShape). (e.0, hook_shape e.1)) l

abbrev openers_of : Named OpenerShape → Named (Shape Opener)
openers_of l = map (λ (e : List ℕ × OpenerShape). (e.0, opener_shape e.1)) l

of_test : (b : Bool) (f g : CalleeForm) → form_seen (if b then f else g) ≡ if b then form_seen f else form_seen g
of_test true f g = refl
of_test false f g = refl

opener_chosen : (b : Bool) (s : Shape Opener) (o : Option (Shape Opener))
    → (if b then meaning.opener s else form_named None o) ≡ form_named None (if b then Some s else o)
opener_chosen true s o = refl
opener_chosen false s o = refl

hook_chosen : (b : Bool) (s : Shape Hook) (h : Option (Shape Hook)) (o : Option (Shape Opener))
    → (if b then meaning.hook s else form_named h o) ≡ form_named (if b then Some s else h) o
hook_chosen true s h o = refl
hook_chosen false s h o = refl

openers_are : (x : List ℕ) (l : Named OpenerShape)
    → form_seen (form_in (of_openers l) x) ≡ form_named None (shape_named x (openers_of l))
openers_are x [] = refl
openers_are x ((y, s) ∷ l) =
    of_test (bytes_eq x y) (callee.Opener s) (form_in (of_openers l) x)
    ∙ ap (λ f. if bytes_eq x y then meaning.opener (opener_shape s) else f) (openers_are x l)
    ∙ opener_chosen (bytes_eq x y) (opener_shape s) (shape_named x (openers_of l))

hooks_are : (x : List ℕ) (l : Named HookShape) (m : Named OpenerShape)
    → form_seen (form_in (of_hooks l ++ of_openers m) x)
    ≡ form_named (shape_named x (hooks_of l)) (shape_named x (openers_of m))
hooks_are x [] m = openers_are x m
hooks_are x ((y, s) ∷ l) m =
    of_test (bytes_eq x y) (callee.Hook s) (form_in (of_hooks l ++ of_openers m) x)
    ∙ ap (λ f. if bytes_eq x y then meaning.hook (hook_shape s) else f) (hooks_are x l m)
    ∙ hook_chosen (bytes_eq x y) (hook_shape s) (shape_named x (hooks_of l)) (shape_named x (openers_of m))

abbrev hook_table : Named HookShape
hook_table =
    (codes "S", shape.Plain bare.EntersScript 0) ∷ (codes "X", shape.Plain bare.ExitsScript 0)
    ∷ (codes "E", shape.Plain bare.EntersFunction 0) ∷ (codes "L", shape.Plain bare.ExitsFunction 0)
    ∷ (codes "T", shape.Plain bare.Makes 1)
    ∷ (codes "R", shape.Worded of_word.Reads 1) ∷ (codes "W", shape.Worded of_word.Writes 1)
    ∷ (codes "Y", shape.Worded of_word.Types 1) ∷ (codes "H", shape.Worded of_word.Catches 1)
    ∷ (codes "C", shape.Plain bare.Tests 1) ∷ (codes "O", shape.Plain bare.Visits 1)
    ∷ (codes "V", shape.Plain bare.Returns 1) ∷ (codes "K", shape.Plain bare.Throws 1)
    ∷ (codes "B", shape.Worded of_word.Binary 2) ∷ (codes "U", shape.Worded of_word.Unary 1)
    ∷ (codes "G", shape.Plain bare.Gets 2) ∷ (codes "Z", shape.Plain bare.Deletes 2)
    ∷ (codes "I", shape.Worded of_word.Updates 2) ∷ []

abbrev opener_table : Named OpenerShape
opener_table =
    (codes "P", opening.Plain opener.Put 2) ∷ (codes "A", opening.Assign 2) ∷ (codes "F", opening.Plain opener.Call 1)
    ∷ (codes "N", opening.Plain opener.New 1) ∷ (codes "M", opening.Plain opener.Method 2) ∷ []

pub table_is : (x : List ℕ) → form_seen (form_in (of_hooks hook_table ++ of_openers opener_table) x)
    ≡ form_named (shape_named x hooks) (shape_named x openers)
unfolding hooks openers
table_is x = hooks_are x hook_table opener_table
