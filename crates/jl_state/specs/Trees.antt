-- Trees of the code as the definitions of the language see them. The place of a node is an id of the script's own
-- operations there, which no machine looks at that is told by hooks alone: here it is 0.
use Rattle.std.specs.Prelude.{drop, List, ℕ}
use Rattle.jl_text.specs.declared.span.Span.{Span}
use Rattle.jl_ast.specs.Spans.{map_forest, map_optional, map_tree}
use Rattle.jl_ast.specs.Tree.{Forest, OptionalTree, Sort, Tree}
use Rattle.jl_state.specs.declared.remaining.Remaining.{Remaining}

abbrev pub plain : {x : Sort} → Tree Span x → Tree ℕ x
plain t = map_tree (λ s. 0) t

abbrev pub plain_forest : {x : Sort} → Forest Span x → Forest ℕ x
plain_forest l = map_forest (λ s. 0) l

abbrev pub plain_optional : {x : Sort} → OptionalTree Span x → OptionalTree ℕ x
plain_optional t = map_optional (λ s. 0) t

-- the items of a list that are left
abbrev pub items_left : {T : Type 0} → Remaining T → List T
items_left r = drop r.from r.list.now
