-- What a statement does after the step with which it begins.
use Rattle.std.specs.Prelude.{option_map, List, Option, ℕ}
use Rattle.jl_ast.specs.Spans.{ident}
use Rattle.jl_ast.specs.Tree as tree
use Rattle.jl_ast.specs.Tree.{Text, Tree}
use Rattle.jl_ast.specs.View.{view_ident}
use Rattle.jl_ast.specs.declared.tree.Ident.{Ident}
use Rattle.jl_value.specs.declared.ending.Completion.{Completion}
use Rattle.jl_effects.specs.Effects.{Step}
use Rattle.jl_meaning.specs.FunctionObjects.{FunctionTable}
use Rattle.jl_meaning.specs.Parts.{Part}
use Rattle.jl_meaning.specs.Statements.{execute}
use Rattle.jl_meaning.specs.forms.Jumps.{label_of}
use Rattle.jl_state.specs.Words.{context_of}
use Rattle.jl_state.specs.declared.calls.Call.{Call}
use Rattle.jl_state.specs.declared.frame.Here.{Here}

abbrev pub after_step : Part Completion → Part Completion
after_step (Step p) = p
after_step p = p

abbrev pub begin : FunctionTable → List Call → Tree ℕ tree.stmt → List Text → Here → Part Completion
begin table calls t labels here = after_step (execute table t labels (context_of calls here))

-- the text of a label of the code, if there is one
abbrev pub label_text : Option Ident → Option Text
label_text label = label_of (option_map (λ (x : tree.Ident _). ident (λ s. 0) x) (option_map view_ident label))
