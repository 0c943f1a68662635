use Rattle.std.proofs.Common.{◌≡◌, ◌∙◌, ap, map, option_map, rules, Bool, List, Option, ℕ}
use Rattle.jl_text.specs.declared.span.Span.{Span}
use Rattle.jl_ast.specs.Spans.{tree_without_spans}
use Rattle.jl_ast.specs.Tree as tree
use Rattle.jl_ast.specs.View.{view_function, view_functions, view_ident, view_statements}
use Rattle.jl_ast.specs.declared.tree.Body.{roll-Body}
use Rattle.jl_ast.specs.declared.tree.Entry.TheViews.{out-roll-Body, out-roll-Function}
use Rattle.jl_ast.specs.declared.tree.Function.{roll-Function, Function}
use Rattle.jl_ast.specs.declared.tree.Ident.{Ident}
use Rattle.jl_ast.specs.declared.tree.Stmt.{Stmt}
use Rattle.jl_ast.proofs.Views.{body_is, function_is}
use Rattle.jl_weave.specs.inner.Bare.{bare_function}
use Rattle.jl_weave.proofs.ListViews.{function_bare}
use Rattle.jl_weave.proofs.nodes.function.Goals as goal

-- a function of the code as a tree
function_seen : (number : ℕ) (strict : Bool) (name : Option Ident) (params : List Ident) (functions : List Function)
    (statements : List Stmt) (span : Span)
    → view_function (roll-Function (record {
      number = number;
      name = name;
      params = params;
      body = roll-Body (record { strict = strict; functions = functions; statements = statements });
      span = span;
    }))
    ≡ tree.function number (option_map view_ident name) (map view_ident params)
    (tree.body strict (view_functions functions) (view_statements statements)) span
function_seen number strict name params functions statements span =
    search (rules, function_is, body_is, out-roll-Function, out-roll-Body)

pub returns : goal.returns
unfolding bare_function
returns c =
    ap tree_without_spans (function_seen c.args.number c.args.strict c.args.name c.args.params c.args.functions
    c.args.statements c.args.span)
    ∙ function_bare c.args.number c.args.strict c.args.name c.args.params c.args.functions c.args.statements c.args.span
