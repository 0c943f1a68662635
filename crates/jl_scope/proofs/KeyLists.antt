-- The keys of an object literal, of which each kind is a set of names.
use Rattle.std.proofs.Common.{◌≡◌, ℕ, ◌+◌, ◌<◌, List, ◌++◌, ◌&&◌, ◌||◌, Option, length, get_or, drop, ap, refl, sym}
use Rattle.std.proofs.Common.{◌∙◌}
use Rattle.jl_text.specs.declared.span.Span.{Span}
use Rattle.jl_ast.specs.declared.tree.Entry.{Entry}
use Rattle.jl_ast.specs.Tree.{Tree, Forest, entry, value, getter, setter, end, more}
use Rattle.jl_ast.specs.View.{view_entry, view_entries}
use Rattle.jl_scope.specs.declared.rules.EarlyRule.TheVariants.{KeyClash, StrictKey}
use Rattle.jl_scope.specs.Names.{among}
use Rattle.jl_scope.specs.EarlyErrors.{Keys, with_key, key_early_errors, literal_early_errors, broken_if}
use Rattle.jl_scope.specs.Kinds.{EarlyError, first_from}
use Rattle.jl_scope.specs.Scope.{Scope}
use Rattle.jl_scope.specs.NameSets.{SameKeys}
use Rattle.jl_scope.proofs.NameLists.{with_name_same}
use Rattle.jl_scope.proofs.Firsts.{first_from-append, front}

-- what is wrong with a property after others depends on the keys of these alone
key_same : (s : Scope) (t : Tree Span entry) (a b : Keys) → SameKeys a b → key_early_errors s a t
    ≡ key_early_errors s b t
key_same s (value k e) a b same =
    ap (λ t. broken_if (t || among k.text a.setters) KeyClash k.at
    ++ broken_if (s.strict && among k.text a.values) StrictKey k.at) (same.getters k.text)
    ∙ ap (λ t. broken_if (among k.text b.getters || t) KeyClash k.at
    ++ broken_if (s.strict && among k.text a.values) StrictKey k.at) (same.setters k.text)
    ∙ ap (λ t. broken_if (among k.text b.getters || among k.text b.setters) KeyClash k.at
    ++ broken_if (s.strict && t) StrictKey k.at) (same.values k.text)
key_same s (getter k f) a b same =
    ap (λ t. broken_if (t || among k.text a.getters) KeyClash k.at) (same.values k.text)
    ∙ ap (λ t. broken_if (among k.text b.values || t) KeyClash k.at) (same.getters k.text)
key_same s (setter k f) a b same =
    ap (λ t. broken_if (t || among k.text a.setters) KeyClash k.at) (same.values k.text)
    ∙ ap (λ t. broken_if (among k.text b.values || t) KeyClash k.at) (same.setters k.text)

-- and one more key keeps them the same
with_key_same : (t : Tree Span entry) (a b : Keys) → SameKeys a b → SameKeys (with_key a t) (with_key b t)
with_key_same (value k e) a b same = record {
  values = with_name_same k.text a.values b.values same.values;
  getters = same.getters;
  setters = same.setters;
}
with_key_same (getter k f) a b same = record {
  values = same.values;
  getters = with_name_same k.text a.getters b.getters same.getters;
  setters = same.setters;
}
with_key_same (setter k f) a b same = record {
  values = same.values;
  getters = same.getters;
  setters = with_name_same k.text a.setters b.setters same.setters;
}

literal_same : (s : Scope) (l : Forest Span entry) (a b : Keys) → SameKeys a b →
    literal_early_errors s a l ≡ literal_early_errors s b l
literal_same s end a b same = refl
literal_same s (more t l) a b same =
    ap (λ m. m ++ literal_early_errors s (with_key a t) l) (key_same s t a b same)
    ∙ ap (λ m. key_early_errors s b t ++ m) (literal_same s l (with_key a t) (with_key b t) (with_key_same t a b same))

-- a turn of a loop over the properties of a literal
pub entry_turn : (s : Scope) (xs : List Entry) (i : ℕ) (a : Entry) (f g r : Option EarlyError) (before after : Keys) →
    a ≡ get_or xs i a → i < length xs →
    first_from f (literal_early_errors s before (view_entries (drop i xs))) ≡ r →
    g ≡ first_from f (key_early_errors s before (view_entry a)) → SameKeys after (with_key before (view_entry a)) →
    first_from g (literal_early_errors s after (view_entries (drop (i + 1) xs))) ≡ r
entry_turn s xs i a f g r before after item below was now next =
    let rest = view_entries (drop (i + 1) xs) in
    let here = key_early_errors s before (view_entry a) in
    ap (λ b. first_from b (literal_early_errors s after rest)) now
    ∙ ap (λ l. first_from (first_from f here) l) (literal_same s rest after (with_key before (view_entry a)) next)
    ∙ sym (first_from-append f here (literal_early_errors s (with_key before (view_entry a)) rest))
    ∙ ap (λ l. first_from f (literal_early_errors s before (view_entries l))) (sym (front xs i a item below)) ∙ was
