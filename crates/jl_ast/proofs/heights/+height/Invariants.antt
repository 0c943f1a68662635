use Rattle.std.proofs.Common.{◌≡◌, drop, max}
use Rattle.jl_ast.specs.Height.{forest_height}
use Rattle.jl_ast.specs.Saturated.{saturate_u32}
use Rattle.jl_ast.specs.View.{view_functions, view_statements, view_declarators, view_cases, view_items}
use Rattle.jl_ast.specs.View.{view_entries, view_expressions}
use Rattle.jl_ast.proofs.heights.+height.Given as goal

abbrev pub invariant-functions_height-loop-f : goal.invariant-functions_height-loop-f
invariant-functions_height-loop-f l =
    max l.most (saturate_u32 (forest_height (view_functions (drop l.f-index l.functions))))
    ≡ saturate_u32 (forest_height (view_functions l.functions))

abbrev pub invariant-statements_height-loop-s : goal.invariant-statements_height-loop-s
invariant-statements_height-loop-s l =
    max l.most (saturate_u32 (forest_height (view_statements (drop l.s-index l.statements))))
    ≡ saturate_u32 (forest_height (view_statements l.statements))

abbrev pub invariant-declarators_height-loop-d : goal.invariant-declarators_height-loop-d
invariant-declarators_height-loop-d l =
    max l.most (saturate_u32 (forest_height (view_declarators (drop l.d-index l.declarators))))
    ≡ saturate_u32 (forest_height (view_declarators l.declarators))

abbrev pub invariant-cases_height-loop-c : goal.invariant-cases_height-loop-c
invariant-cases_height-loop-c l =
    max l.most (saturate_u32 (forest_height (view_cases (drop l.c-index l.cases))))
    ≡ saturate_u32 (forest_height (view_cases l.cases))

abbrev pub invariant-items_height-loop-e : goal.invariant-items_height-loop-e
invariant-items_height-loop-e l =
    max l.most (saturate_u32 (forest_height (view_items (drop l.e-index l.items))))
    ≡ saturate_u32 (forest_height (view_items l.items))

abbrev pub invariant-entries_height-loop-entry : goal.invariant-entries_height-loop-entry
invariant-entries_height-loop-entry l =
    max l.most (saturate_u32 (forest_height (view_entries (drop l.entry-index l.entries))))
    ≡ saturate_u32 (forest_height (view_entries l.entries))

abbrev pub invariant-expressions_height-loop-e : goal.invariant-expressions_height-loop-e
invariant-expressions_height-loop-e l =
    max l.most (saturate_u32 (forest_height (view_expressions (drop l.e-index l.expressions))))
    ≡ saturate_u32 (forest_height (view_expressions l.expressions))
