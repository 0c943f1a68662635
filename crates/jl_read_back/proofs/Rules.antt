-- What is wrong with a part is so wherever its nodes stand: a lemma for each kind of rule.
use Rattle.std.proofs.Common.{◌≡◌, ◌∙◌, Bool, true, false, ◌&&◌, ◌||◌, List, [], ◌∷◌, ◌++◌, not, refl, ap, sym}
use Rattle.std.proofs.Common.{Some, None, subst}
use Rattle.std.specs.Prelude.{if◌then◌else◌}
use Rattle.jl_ast.specs.Tree as tree
use Rattle.jl_ast.specs.Tree.{is_name, Ident, Text, Tree}
use Rattle.jl_ast.specs.declared.ops.UnOp.{UnOp}
use Rattle.jl_scope.proofs.Binding.{with_one}
use Rattle.jl_scope.specs.EarlyErrors.{break_early_errors, broken_if, continue_early_errors, delete_early_errors}
use Rattle.jl_scope.specs.EarlyErrors.{for_in_early_errors, free_early_errors, identifier_early_errors, is_delete}
use Rattle.jl_scope.specs.EarlyErrors.{key_early_errors, label_early_errors, with_key, Keys}
use Rattle.jl_scope.specs.EarlyErrors.{read_early_errors, return_early_errors, target_early_errors}
use Rattle.jl_scope.specs.EarlyErrors.{written_early_errors}
use Rattle.jl_scope.specs.Kinds.{early, left_out, reserved_name, EarlyError}
use Rattle.jl_scope.specs.Names.{among, hooks_name, left_out_names, same_text, strict_words, with_name}
use Rattle.jl_scope.specs.Scope.{has_label, has_loop_label, in_catch, is_left_out, Scope}
use Rattle.jl_scope.specs.declared.rules.EarlyRule.{EarlyRule}
use Rattle.jl_scope.specs.declared.rules.EarlyRule.TheVariants as rules
use Rattle.std.proofs.lemmas.Slice.Eq.{bytes_eq-Decides}
use Rattle.jl_text.specs.declared.span.Span.{Span}
use Rattle.jl_read_back.specs.EarlyErrors.{none, one_more, AreReservedNames}

-- properties of literals with the same key
pub data SameKey : Tree Span tree.entry → Tree Span tree.entry → Type 0 where
  values : (x y : Ident Span) (e f : Tree Span tree.expr) → x.text ≡ y.text
      → SameKey (tree.value x e) (tree.value y f)
  getters : (x y : Ident Span) (e f : Tree Span tree.func) → x.text ≡ y.text
      → SameKey (tree.getter x e) (tree.getter y f)
  setters : (x y : Ident Span) (e f : Tree Span tree.func) → x.text ≡ y.text
      → SameKey (tree.setter x e) (tree.setter y f)

-- of two lists
pub both : {a b : List EarlyError} → AreReservedNames a → AreReservedNames b → AreReservedNames (a ++ b)
both none w = w
both (one_more v) w = one_more (both v w)

pub first : (a b : List EarlyError) → AreReservedNames (a ++ b) → AreReservedNames a
first [] b w = none
first (early r at ∷ a) b w = elim w [ ]
first (left_out x at ∷ a) b w = elim w [ ]
first (reserved_name at ∷ a) b (one_more w) = one_more (first a b w)

pub second : (a b : List EarlyError) → AreReservedNames (a ++ b) → AreReservedNames b
second [] b w = w
second (early r at ∷ a) b w = elim w [ ]
second (left_out x at ∷ a) b w = elim w [ ]
second (reserved_name at ∷ a) b (one_more w) = second a b w

-- no errors are such a list
pub nothing_wrong : (l : List EarlyError) → l ≡ [] → AreReservedNames l
nothing_wrong l e = subst (λ m. AreReservedNames m) (sym e) none

-- a rule that is kept
kept : (b : Bool) (r : EarlyRule) (at : Span) → b ≡ false → AreReservedNames (broken_if b r at)
kept true r at e = cc
kept false r at e = none

pub again : (b : Bool) (r : EarlyRule) (at to : Span) → AreReservedNames (broken_if b r at)
    → AreReservedNames (broken_if b r to)
again true r at to w = elim w [ ]
again false r at to w = none

reserved : (b : Bool) (at : Span) → AreReservedNames (if b then reserved_name at ∷ [] else [])
reserved true at = one_more none
reserved false at = none

free : (b : Bool) (x : Text) (at to : Span) → AreReservedNames (if b then left_out x at ∷ [] else [])
    → AreReservedNames (if b then left_out x to ∷ [] else [])
free true x at to w = elim w [ ]
free false x at to w = none

module _ (s : Scope) (x : Text) (at to : Span) where
  pub identifier : AreReservedNames (identifier_early_errors s x at) → AreReservedNames (identifier_early_errors s x to)
  unfolding identifier_early_errors
  identifier w = both (again _ _ at to (first _ _ w)) (reserved (same_text x hooks_name) to)

  pub written : AreReservedNames (written_early_errors s x at) → AreReservedNames (written_early_errors s x to)
  unfolding written_early_errors
  written w = both (again _ _ at to (first _ _ w)) (identifier (second _ _ w))

  mentioned : AreReservedNames (free_early_errors s x at) → AreReservedNames (free_early_errors s x to)
  unfolding free_early_errors
  mentioned w = free (is_left_out x && not (among x s.bound)) x at to w

  pub read : AreReservedNames (read_early_errors s x at) → AreReservedNames (read_early_errors s x to)
  unfolding read_early_errors
  read w = both (mentioned (first _ _ w)) (identifier (second _ _ w))

  pub target : AreReservedNames (target_early_errors s x at) → AreReservedNames (target_early_errors s x to)
  unfolding target_early_errors
  target w = both (mentioned (first _ _ w)) (written (second _ _ w))

  -- what may be assigned to may be read
  pub target_read : AreReservedNames (target_early_errors s x at) → AreReservedNames (read_early_errors s x to)
  unfolding target_early_errors read_early_errors written_early_errors
  target_read w = both (mentioned (first _ _ w)) (identifier (second _ _ (second _ _ w)))

  pub for_in : (is_var : Bool) → AreReservedNames (for_in_early_errors s is_var x at)
      → AreReservedNames (for_in_early_errors s is_var x to)
  for_in true w = written w
  for_in false w = target w

  pub label : AreReservedNames (label_early_errors s x at) → AreReservedNames (label_early_errors s x to)
  unfolding label_early_errors
  label w = both (again _ _ at to (first _ _ w)) (identifier (second _ _ w))

-- a label that is named, or none
module _ (s : Scope) (at to : Span) where
  pub breaks : AreReservedNames (break_early_errors s None at) → AreReservedNames (break_early_errors s None to)
  unfolding break_early_errors
  breaks w = again _ _ at to w

  pub continues : AreReservedNames (continue_early_errors s None at)
      → AreReservedNames (continue_early_errors s None to)
  unfolding continue_early_errors
  continues w = again _ _ at to w

  pub returns : AreReservedNames (return_early_errors s at) → AreReservedNames (return_early_errors s to)
  unfolding return_early_errors
  returns w = again _ _ at to w

module _ (s : Scope) (x y : Ident Span) (at to : Span) (same : x.text ≡ y.text) where
  pub breaks_to : AreReservedNames (break_early_errors s (Some x) at)
      → AreReservedNames (break_early_errors s (Some y) to)
  unfolding break_early_errors
  breaks_to w =
      subst (λ t. AreReservedNames (broken_if (not (has_label t s.labels)) rules.BreakOutside to
      ++ identifier_early_errors s t y.at)) same
      (both (again _ _ at to (first _ _ w)) (identifier s x.text x.at y.at (second _ _ w)))

  pub continues_to : AreReservedNames (continue_early_errors s (Some x) at)
      → AreReservedNames (continue_early_errors s (Some y) to)
  unfolding continue_early_errors
  continues_to w =
      subst (λ t. AreReservedNames (broken_if (not (has_loop_label t s.labels)) rules.ContinueOutside to
      ++ identifier_early_errors s t y.at)) same
      (both (again _ _ at to (first _ _ w)) (identifier s x.text x.at y.at (second _ _ w)))

-- `delete` of a name, and of what else is one or none
pub deletes : (s : Scope) (o : UnOp) (e u : Tree Span tree.expr) (at to : Span) → is_name e ≡ is_name u
    → AreReservedNames (delete_early_errors s o e at) → AreReservedNames (delete_early_errors s o u to)
unfolding delete_early_errors
deletes s o e u at to same w =
    subst (λ b. AreReservedNames (broken_if (s.strict && is_delete o && b) rules.StrictDelete to)) same
    (again _ _ at to w)

and_no : (a : Bool) → (a && false) ≡ false
and_no true = refl
and_no false = refl

-- what is no `delete`, and a `delete` of what is no name
pub no_delete : (s : Scope) (o : UnOp) (e : Tree Span tree.expr) (at : Span) → is_delete o ≡ false
    → AreReservedNames (delete_early_errors s o e at)
unfolding delete_early_errors
no_delete s o e at is =
    kept _ rules.StrictDelete at
    (ap (λ b. s.strict && b && is_name e) is ∙ ap (λ b. b && is_name e) (and_no s.strict))

pub no_name_deleted : (s : Scope) (o : UnOp) (e : Tree Span tree.expr) (at : Span) → is_name e ≡ false
    → AreReservedNames (delete_early_errors s o e at)
unfolding delete_early_errors
no_name_deleted s o e at is =
    kept _ rules.StrictDelete at
    (ap (λ b. s.strict && is_delete o && b) is ∙ and_no (s.strict && is_delete o))

-- a key with those before it
pub keys : (s : Scope) (k : Keys) (t u : Tree Span tree.entry) → SameKey t u
    → AreReservedNames (key_early_errors s k t) → AreReservedNames (key_early_errors s k u)
keys s k t u (values x y e f same) w =
    subst (λ z. AreReservedNames (broken_if (among z k.getters || among z k.setters) rules.KeyClash y.at
    ++ broken_if (s.strict && among z k.values) rules.StrictKey y.at)) same
    (both (again _ _ x.at y.at (first _ _ w)) (again _ _ x.at y.at (second _ _ w)))
keys s k t u (getters x y e f same) w =
    subst (λ z. AreReservedNames (broken_if (among z k.values || among z k.getters) rules.KeyClash y.at)) same
    (again _ _ x.at y.at w)
keys s k t u (setters x y e f same) w =
    subst (λ z. AreReservedNames (broken_if (among z k.values || among z k.setters) rules.KeyClash y.at)) same
    (again _ _ x.at y.at w)

pub next_keys : (k : Keys) (t u : Tree Span tree.entry) → SameKey t u → with_key k t ≡ with_key k u
next_keys k t u (values x y e f same) = ap (λ z. record k { values = with_name k.values z }) same
next_keys k t u (getters x y e f same) = ap (λ z. record k { getters = with_name k.getters z }) same
next_keys k t u (setters x y e f same) = ap (λ z. record k { setters = with_name k.setters z }) same

-- the name that a `catch` binds may be read there
bound_there : (x : Text) (l : List Text) → among x (with_name l x) ≡ true
bound_there x l =
    with_one x x l ∙ ap (λ b. among x l || b) ((bytes_eq-Decides x x).1 refl) ∙ or_true (among x l)
  where
    or_true : (a : Bool) → (a || true) ≡ true
    or_true true = refl
    or_true false = refl

pub caught_free : (s : Scope) (x : Text) (at : Span) → AreReservedNames (free_early_errors (in_catch s x) x at)
unfolding free_early_errors
caught_free s x at = by (is_left_out x) refl
  where
    by : (b : Bool) → is_left_out x ≡ b → AreReservedNames (free_early_errors (in_catch s x) x at)
    by true e =
        let is : (is_left_out x && not (among x (if is_left_out x then with_name s.bound x else s.bound))) ≡ false =
        ap (λ b. b && not (among x (if b then with_name s.bound x else s.bound))) e
        ∙ ap not (bound_there x s.bound) in
        nothing_wrong _ (ap (λ b. if b then left_out x at ∷ [] else []) is)
    by false e =
        nothing_wrong _
        (ap (λ b. if b && not (among x (if b then with_name s.bound x else s.bound)) then left_out x at ∷ [] else [])
        e)

pub caught_read : (s : Scope) (x : Text) (at to : Span) → AreReservedNames (written_early_errors s x at)
    → AreReservedNames (read_early_errors (in_catch s x) x to)
unfolding written_early_errors read_early_errors identifier_early_errors
caught_read s x at to w =
    both (caught_free s x to)
    (both (again _ _ at to (first _ _ (second _ _ w))) (reserved (same_text x hooks_name) to))

-- the identifier of the hooks may be read anywhere
pub hooks_read : (s : Scope) (at : Span) → AreReservedNames (read_early_errors s hooks_name at)
unfolding read_early_errors free_early_errors identifier_early_errors is_left_out left_out_names strict_words hooks_name
hooks_read s at =
    both (kept (s.strict && false) rules.StrictWord at (and_no s.strict)) (one_more none)
