-- The first of several lists of early errors.
use Rattle.std.proofs.Common.{◌≡◌, ℕ, suc, ◌+◌, ◌<◌, List, [], ◌∷◌, ◌++◌, ◌&&◌, map, Option, Some, None, option_map}
use Rattle.std.proofs.Common.{Result, OnOk, length, get_or, drop}
use Rattle.std.proofs.Common.{ap, refl, sym, ◌∙◌, add-one}
use Rattle.std.proofs.lemmas.Result.{on_ok_weaker}
use Rattle.std.proofs.Math.Seq.{drop-cons}
use Rattle.jl_text.specs.declared.span.Span.{Span}
use Rattle.jl_ast.specs.declared.tree.Expr.{Expr}
use Rattle.jl_ast.specs.declared.tree.Ident.{Ident}
use Rattle.jl_ast.specs.Tree.{Sort, Tree, Forest, more, Text}
use Rattle.jl_ast.specs.Tree as ident
use Rattle.jl_ast.specs.View.{view_ident, view_expression, view_optional, item}
use Rattle.jl_scope.specs.declared.rules.EarlyRule.TheVariants.{StrictParam}
use Rattle.jl_scope.specs.Names.{among, with_name}
use Rattle.jl_scope.specs.EarlyErrors.{early_errors, forest_early_errors, optional_early_errors, broken_if}
use Rattle.jl_scope.specs.EarlyErrors.{written_early_errors}
use Rattle.jl_scope.specs.EarlyErrors.{parameter_early_errors}
use Rattle.jl_scope.specs.Kinds.{EarlyError, first_from, sooner}
use Rattle.jl_scope.specs.Scope.{Scope}
use Rattle.jl_scope.specs.NameSets.{SameNames}
use Rattle.jl_scope.proofs.NameLists.{with_name_same}

-- the first of two lists is found in the one and then in the other
pub first_from-append : (a : Option EarlyError) (l m : List EarlyError) → first_from a (l ++ m)
    ≡ first_from (first_from a l) m
first_from-append a [] m = refl
first_from-append a (b ∷ l) m = first_from-append (sooner a b) l m

pub ruleset lists = (first_from-append)

-- two parts, one after the other
pub then_part : (f m g : Option EarlyError) (a b : List EarlyError) → m ≡ first_from f a → g ≡ first_from m b →
    g ≡ first_from f (a ++ b)
then_part f m g a b p q = q ∙ ap (λ x. first_from x b) p ∙ sym (first_from-append f a b)

pub last_part : {T E : Type 0} (r : Result T E) (f m g : Option EarlyError) (all a b : List EarlyError) → all ≡ a ++ b →
    m ≡ first_from f a → OnOk r (g ≡ first_from m b) → OnOk r (g ≡ first_from f all)
last_part r f m g all a b e p =
    on_ok_weaker r (λ q. then_part f m g a b p q ∙ ap (λ l. first_from f l) (sym e))

-- an expression that is there, and one that isn't
pub held_there : (s : Scope) (o : Option Expr) (e : Expr) (f m g : Option EarlyError) → o ≡ Some e → g ≡ m →
    m ≡ first_from f (early_errors s (view_expression e)) → g ≡ first_from f (optional_early_errors s (view_optional o))
held_there s o e f m g there same h =
    same ∙ h ∙ ap (λ o. first_from f (optional_early_errors s (view_optional o))) (sym there)

pub held_absent : (s : Scope) (o : Option Expr) (f g : Option EarlyError) → o ≡ None → g ≡ f →
    g ≡ first_from f (optional_early_errors s (view_optional o))
held_absent s o f g absent same = same ∙ ap (λ o. first_from f (optional_early_errors s (view_optional o))) (sym absent)

-- a place of an array literal holds an expression or nothing
pub item_is : (s : Scope) (o : Option Expr) →
    optional_early_errors s (view_optional o) ≡ early_errors s (item (option_map view_expression o))
item_is s None = refl
item_is s (Some e) = refl

-- an item of a list, and those behind it
pub front : {X : Type 0} (xs : List X) (i : ℕ) (a : X) → a ≡ get_or xs i a → i < length xs →
    drop i xs ≡ a ∷ drop (i + 1) xs
front xs i a at below = rw add-one (drop-cons xs i a below ∙ ap (λ b. b ∷ drop (suc i) xs) (sym at))

-- a turn of a loop over a list, of which V is the row and h the tree of an item
pub turn : {X : Type 0} {x : Sort} (V : List X → Forest Span x) (h : X → Tree Span x) →
    ((a : X) (l : List X) → V (a ∷ l) ≡ more (h a) (V l)) →
    (s : Scope) (xs : List X) (i : ℕ) (a : X) (f g r : Option EarlyError) → a ≡ get_or xs i a → i < length xs →
    first_from f (forest_early_errors s (V (drop i xs))) ≡ r → g ≡ first_from f (early_errors s (h a)) →
    first_from g (forest_early_errors s (V (drop (i + 1) xs))) ≡ r
turn V h each s xs i a f g r item below before now =
    let rest = drop (i + 1) xs in
    let all : forest_early_errors s (V (drop i xs)) ≡ early_errors s (h a) ++ forest_early_errors s (V rest) =
    ap (λ l. forest_early_errors s (V l)) (front xs i a item below) ∙ ap (λ l. forest_early_errors s l) (each a rest) in
    ap (λ b. first_from b (forest_early_errors s (V rest))) now
    ∙ sym (first_from-append f (early_errors s (h a)) (forest_early_errors s (V rest)))
    ∙ ap (λ l. first_from f l) (sym all) ∙ before

-- what is wrong with parameters after others depends on the names of these alone
parameters_same : (s : Scope) (l : List (ident.Ident Span)) (a b : List Text) → SameNames a b →
    parameter_early_errors s a l ≡ parameter_early_errors s b l
parameters_same s [] a b same = refl
parameters_same s (x ∷ l) a b same =
    ap (λ t. broken_if (s.strict && t) StrictParam x.at ++ written_early_errors s x.text x.at
    ++ parameter_early_errors s (with_name a x.text) l) (same x.text)
    ∙ ap (λ m. broken_if (s.strict && among x.text b) StrictParam x.at ++ written_early_errors s x.text x.at ++ m)
    (parameters_same s l (with_name a x.text) (with_name b x.text) (with_name_same x.text a b same))

-- a turn of a loop over parameters
pub parameter_turn : (s : Scope) (xs : List Ident) (i : ℕ) (a : Ident) (f g r : Option EarlyError)
    (before after : List Text) → a ≡ get_or xs i a → i < length xs →
    first_from f (parameter_early_errors s before (map view_ident (drop i xs))) ≡ r →
    g ≡ first_from f (broken_if (s.strict && among a.text before) StrictParam a.span
    ++ written_early_errors s a.text a.span) → SameNames after (with_name before a.text) →
    first_from g (parameter_early_errors s after (map view_ident (drop (i + 1) xs))) ≡ r
parameter_turn s xs i a f g r before after item below was now next =
    let rest = map view_ident (drop (i + 1) xs) in
    let here = broken_if (s.strict && among a.text before) StrictParam a.span ++ written_early_errors s a.text a.span in
    ap (λ b. first_from b (parameter_early_errors s after rest)) now
    ∙ ap (λ l. first_from (first_from f here) l) (parameters_same s rest after (with_name before a.text) next)
    ∙ sym (first_from-append f here (parameter_early_errors s (with_name before a.text) rest))
    ∙ ap (λ l. first_from f (parameter_early_errors s before (map view_ident l))) (sym (front xs i a item below)) ∙ was
