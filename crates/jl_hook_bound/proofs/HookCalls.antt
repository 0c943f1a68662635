-- Calls of hooks pay for what these emit: by the steps of the call and of entering the hook, and by one step that is
-- left of each argument that is evaluated.
use Rattle.std.proofs.Common.{◌≡◌, ℕ, zero, suc, ◌+◌, ◌≤◌, ◌==◌, List, [], ◌∷◌, Bool, false, true, Option, Some, None}
use Rattle.std.proofs.Common.{option_and_then, option_map, subst, refl, arith, IfSome}
use Rattle.std.specs.Prelude.{if◌then◌else◌}
use Rattle.std.specs.Str.{bytes_eq}
use Rattle.std.proofs.lemmas.Bool.{eqb-true}
use Rattle.jl_ast.specs.Tree as tree
use Rattle.jl_value.specs.declared.ending.Fault.TheVariants.{Misuse}
use Rattle.jl_value.specs.declared.value.Value.{Value}
use Rattle.jl_heap.specs.Objects.{Name}
use Rattle.jl_effects.specs.Effects.{Step}
use Rattle.jl_meaning.specs.FunctionObjects.{FunctionTable}
use Rattle.jl_meaning.specs.Parts.{Answer, Context, Expr, Exprs, Part}
use Rattle.jl_meaning.specs.forms.HookCalls.{asked_of, assignment_operators, binary_among, binary_named, binary_of}
use Rattle.jl_meaning.specs.forms.HookCalls.{count}
use Rattle.jl_meaning.specs.forms.HookCalls.{form_named, form_of, form_of_member, hook, hook_call}
use Rattle.jl_meaning.specs.forms.HookCalls.{hooks, id_in, literals_of, no_hook, opener, openers, opens_assign}
use Rattle.jl_meaning.specs.forms.HookCalls.{plain}
use Rattle.jl_meaning.specs.forms.HookCalls.{shape_named, takes_arguments, unary_among}
use Rattle.jl_meaning.specs.forms.HookCalls.{unary_kinds, unary_of, update_kinds, updates, word_in, worded}
use Rattle.jl_meaning.specs.forms.HookCalls.{CalleeForm, Hook, HookCall, Opener, Shape}
use Rattle.jl_meaning.specs.forms.Hooks.{call_by_form, call_hook, call_of_call, call_pair, Arguments}
use Rattle.jl_meaning.specs.forms.Names.{is_hooks}
use Rattle.jl_hook_bound.proofs.Hooks.{close_emits, emitted, emitted_at_last, emitted_by_pair, hook_emits, opener_emits}
use Rattle.jl_hook_bound.proofs.Relation.{down, fails, gain, gains_with, pick, step_paid, weaken, Gains, Paid}

-- how many of these are evaluated, after so many literals
abbrev pub evaluated : (literals : ℕ) → Exprs → ℕ
evaluated k tree.end = 0
evaluated (suc k) (tree.more e l) = evaluated k l
evaluated zero (tree.more e l) = suc (evaluated 0 l)

all_but : (k n : ℕ) (l : Exprs) → count l ≡ k + n → n ≡ evaluated k l
all_but k n tree.end h = omega arith
all_but (suc k) n (tree.more e l) h = all_but k n l (omega arith)
all_but zero zero (tree.more e l) h = absurd (omega arith)
all_but zero (suc n) (tree.more e l) h = let rest = all_but zero n l (omega arith) in omega arith

-- SHAPES
-- a hook of this shape emits at most one operation more than arguments of it are evaluated
abbrev pub IsFair : {H : Type 0} → (H → ℕ) → Shape H → Type 0
IsFair cost (plain h n) = cost h ≤ n + 1
IsFair cost (worded f n) = (w : List ℕ) → IfSome (f w) (λ h. cost h ≤ n + 1)

abbrev AllFair : {H : Type 0} → (H → ℕ) → List (List ℕ × Shape H) → Type 0
AllFair cost [] = Unit {0}
AllFair cost ((x, shape) ∷ l) = IsFair cost shape × AllFair cost l

fair_named : {H : Type 0} (cost : H → ℕ) (x : List ℕ) (l : List (List ℕ × Shape H)) → AllFair cost l
    → IfSome (shape_named x l) (λ shape. IsFair cost shape)
fair_named cost x [] h = tt
fair_named cost x ((y, shape) ∷ l) h = at (bytes_eq x y) (fair_named cost x l h.1)
  where
    at : (b : Bool) → IfSome (shape_named x l) (λ shape. IsFair cost shape)
        → IfSome (if b then Some shape else shape_named x l) (λ shape. IsFair cost shape)
    at true rest = h.0
    at false rest = rest

if_mapped : {X H : Type 0} (cost : H → ℕ) (f : X → H) (m : ℕ) → ((x : X) → cost (f x) ≤ m) → (o : Option X)
    → IfSome (option_map f o) (λ h. cost h ≤ m)
if_mapped cost f m h None = tt
if_mapped cost f m h (Some x) = h x

hooks_fair : AllFair emitted hooks
unfolding hooks
hooks_fair = (
  omega arith,
  (
    omega arith,
    (
      omega arith,
      (
        omega arith,
        (
          omega arith,
          (
            λ x. omega arith,
            (
              λ x. omega arith,
              (
                λ x. omega arith,
                (
                  λ x. omega arith,
                  (
                    omega arith,
                    (
                      omega arith,
                      (
                        omega arith,
                        (
                          omega arith,
                          (
                            λ sign. if_mapped emitted binary_of 3 (λ o. omega arith) (binary_named sign),
                            (
                              λ sign. if_mapped emitted unary_of 2 (λ o. omega arith) (unary_among unary_kinds sign),
                              (
                                omega arith,
                                (
                                  omega arith,
                                  (λ sign. if_mapped emitted updates 3 (λ o. omega arith) (unary_among update_kinds sign), tt),
                                ),
                              ),
                            ),
                          ),
                        ),
                      ),
                    ),
                  ),
                ),
              ),
            ),
          ),
        ),
      ),
    ),
  ),
)

openers_fair : AllFair emitted_by_pair openers
unfolding openers
openers_fair = (
  omega arith,
  (
    λ sign. if_mapped emitted_by_pair opens_assign 3 (λ o. omega arith) (binary_among assignment_operators sign),
    (omega arith, (omega arith, (omega arith, tt))),
  ),
)

-- what stands as a callee
abbrev pub FormIsFair : CalleeForm → Type 0
FormIsFair (hook shape) = IsFair emitted shape
FormIsFair (opener shape) = IsFair emitted_by_pair shape
FormIsFair no_hook = Unit {0}

pub member_fair : (o : Expr) (k : Name) → FormIsFair (form_of_member o k)
member_fair (tree.name x s) k = at (is_hooks x)
  where
    named : (f : Option (Shape Hook)) (g : Option (Shape Opener)) → IfSome f (λ shape. IsFair emitted shape)
        → IfSome g (λ shape. IsFair emitted_by_pair shape) → FormIsFair (form_named f g)
    named (Some shape) g h i = h
    named None (Some shape) h i = i
    named None None h i = tt

    at : (b : Bool)
        → FormIsFair (if b then form_named (shape_named k hooks) (shape_named k openers) else no_hook)
    at true =
        named (shape_named k hooks) (shape_named k openers) (fair_named emitted k hooks hooks_fair)
        (fair_named emitted_by_pair k openers openers_fair)
    at false = tt
member_fair o k = tt

pub form_fair : (f : Expr) → FormIsFair (form_of f)
form_fair (tree.dot o k s) = member_fair o k
form_fair f = tt

-- what a call asks a hook for, it pays for
asked_fair : {H : Type 0} (cost : H → ℕ) (shape : Shape H) (l : Exprs) → IsFair cost shape
    → IfSome (asked_of shape l) (λ h. cost h ≤ evaluated (literals_of shape) l + 1)
asked_fair cost (plain h n) l fair = at (count l == 1 + n) refl
  where
    at : (b : Bool) → (count l == 1 + n) ≡ b → IfSome (if b then Some h else None) (λ g. cost g ≤ evaluated 1 l + 1)
    at true e = let same = all_but 1 n l (eqb-true (count l) (1 + n) e) in omega arith
    at false e = tt
asked_fair cost (worded f n) l fair = at (count l == 2 + n) refl
  where
    on : (w : Option (List ℕ)) → IfSome (option_and_then f w) (λ g. cost g ≤ n + 1)
    on None = tt
    on (Some w) = fair w

    at : (b : Bool) → (count l == 2 + n) ≡ b
        → IfSome (if b then option_and_then f (word_in l) else None) (λ g. cost g ≤ evaluated 2 l + 1)
    at true e =
        subst (λ m. IfSome (option_and_then f (word_in l)) (λ g. cost g ≤ m + 1))
        (all_but 2 n l (eqb-true (count l) (2 + n) e)) (on (word_in l))
    at false e = tt

-- a call that looks as it should, or none
call_fair : {H : Type 0} (cost : H → ℕ) (P : Option (HookCall H) → Type 0) (shape : Shape H) (l : Exprs)
    → IsFair cost shape → P None
    → ((id : ℕ) (h : H) → cost h ≤ evaluated (literals_of shape) l + 1
    → P (Some (record { id = id; asked = h; literals = literals_of shape })))
    → P (hook_call shape l)
call_fair {H = H} cost P shape l fair nothing some = at (id_in l) (asked_of shape l) (asked_fair cost shape l fair)
  where
    at : (i : Option ℕ) (a : Option H) → IfSome a (λ h. cost h ≤ evaluated (literals_of shape) l + 1)
        → P (option_and_then (λ id. option_map (λ h. record { id = id; asked = h; literals = literals_of shape }) a) i)
    at None a h = nothing
    at (Some id) None h = nothing
    at (Some id) (Some asked) h = some id asked h

-- arguments of which so many are evaluated
abbrev pub Evaluates : Exprs → Arguments → Type 0
Evaluates l args = (literals d : ℕ) → Gains (λ vs. evaluated literals l) d d (args literals)

-- CALLS
hook_paid : (c : Context) (shape : Shape Hook) (l : Exprs) (args : Arguments) → IsFair emitted shape
    → Evaluates l args → Paid 1 1 (call_hook c (hook_call shape l) args)
hook_paid c shape l args fair x =
    call_fair emitted (λ h. Paid 1 1 (call_hook c h args)) shape l fair (fails Misuse) (λ id h few.
    let n : ℕ = evaluated (literals_of shape) l in
    gain (λ vs. n) (x (literals_of shape) 1) (λ vs.
    step_paid (weaken {credit = emitted h + 1} {left = 1} (suc (n + 1)) 1 (omega arith) (omega arith)
    (hook_emits c id h vs 1))))

pair_paid : (table : FunctionTable) (c : Context) (shape : Shape Opener) (l : Exprs) (first : Arguments)
    {second : Part (Answer (List Value))} → IsFair emitted_by_pair shape → Evaluates l first
    → ((d : ℕ) → Paid d d second) → Paid 1 1 (call_pair table c (hook_call shape l) first second)
pair_paid table c shape l first {second = second} fair x y =
    call_fair emitted_by_pair (λ h. Paid 1 1 (call_pair table c h first second)) shape l fair
    (step_paid (fails Misuse)) (λ id h few.
    let n : ℕ = evaluated (literals_of shape) l in
    step_paid (weaken {credit = 2} {left = 2} 2 1 (omega arith) (omega arith)
    (gain (λ vs. n) (x (literals_of shape) 2) (λ vs.
    gain emitted_at_last (stepped (gains_with emitted_at_last (suc (n + 2)) (omega arith) (opener_emits id h vs 2)))
    (λ pending. down (emitted_at_last pending + 2) (omega arith) (y (emitted_at_last pending + 2)) (λ ws.
    close_emits table c pending ws 2))))))
  where
    stepped : {A : Type 0} {more : A → ℕ} {credit left : ℕ} {p : Part (Answer A)} → Gains more (suc credit) left p
        → Gains more credit left (Step p)
    stepped x = record { at = x.at }

-- a call of a member, by what that is
pub by_form : (form : CalleeForm) → FormIsFair form → (l : Exprs) (c : Context) (args : Arguments) → Evaluates l args
    → {otherwise : Part (Answer Value)} → Paid 1 1 otherwise → Paid 1 1 (call_by_form form l c args otherwise)
by_form (hook shape) fair l c args x y = hook_paid c shape l args fair x
by_form (opener shape) fair l c args x y = fails Misuse
by_form no_hook fair l c args x y = y

-- a call of a call
pub of_call : (table : FunctionTable) (c : Context) (form : CalleeForm) → FormIsFair form → (inner : Exprs)
    (first : Arguments) → Evaluates inner first → (n : ℕ) {second : Part (Answer (List Value))}
    → ((d : ℕ) → Paid d d second) → {otherwise : Part (Answer Value)} → Paid 1 1 otherwise
    → Paid 1 1 (call_of_call table c form inner first n second otherwise)
of_call table c (hook shape) fair inner first x n y z = z
of_call table c (opener shape) fair inner first x n y z =
    pick (takes_arguments shape n) (pair_paid table c shape inner first fair x y) (fails Misuse)
of_call table c no_hook fair inner first x n y z = z
