-- Everything that is wrong with a part of a program, in view of what stands round it.
use Rattle.std.specs.Prelude.{Bool, true, false, ◌&&◌, ◌||◌, not, List, [], ◌∷◌, ◌++◌, Option, None, Some}
use Rattle.std.specs.Prelude.{if◌then◌else◌}
use Rattle.jl_text.specs.declared.span.Span.{Span}
use Rattle.jl_ast.specs.declared.ops.UnOp.{UnOp}
use Rattle.jl_ast.specs.declared.ops.UnOp.TheVariants.{Delete}
use Rattle.jl_ast.specs.Tree.{Text, Ident, Program, Sort, expr, entry, Tree, Forest, OptionalTree, name, array, object}
use Rattle.jl_ast.specs.Tree.{function_expression, dot, index, call, new, unary, update, binary, and, or}
use Rattle.jl_ast.specs.Tree.{conditional, assign, comma, to_name, to_dot, to_index, filled, value, getter, setter}
use Rattle.jl_ast.specs.Tree.{function, body, var, expression, block, if_else, do_while, while, for, for_in, continue}
use Rattle.jl_ast.specs.Tree.{break, return, labelled, switch, throw, try, init_expression, init_var, declarator}
use Rattle.jl_ast.specs.Tree.{case, branch_of, catch, end, more, absent, present, is_name}
use Rattle.jl_scope.specs.declared.rules.EarlyRule.{EarlyRule}
use Rattle.jl_scope.specs.declared.rules.EarlyRule.TheVariants as rules
use Rattle.jl_scope.specs.Kinds.{EarlyError, early, left_out, reserved_name}
use Rattle.jl_scope.specs.Names.{same_text, among, with_name, strict_words, strict_names, hooks_name}
use Rattle.jl_scope.specs.Scope.{Scope, is_left_out, has_label, has_loop_label, is_loop, in_program}
use Rattle.jl_scope.specs.Scope.{in_function_of, in_a_loop, in_a_switch, under_label, in_catch}

-- the rule is broken there, if this holds
abbrev pub broken_if : Bool → EarlyRule → Span → List EarlyError
broken_if b rule at = if b then early rule at ∷ [] else []

-- names

-- an identifier, labels among them: no word that strict code reserves (7.6.1.2), and not the name of the hooks
unfoldable pub identifier_early_errors : Scope → Text → Span → List EarlyError
identifier_early_errors s x at =
    broken_if (s.strict && among x strict_words) rules.StrictWord at
    ++ (if same_text x hooks_name then reserved_name at ∷ [] else [])

-- a name that is bound, assigned or updated: not `eval` or `arguments` in strict code (11.3 to 11.13, 12.2.1, 12.14.1,
-- 13.1)
unfoldable pub written_early_errors : Scope → Text → Span → List EarlyError
written_early_errors s x at =
    broken_if (s.strict && among x strict_names) rules.StrictName at ++ identifier_early_errors s x at

-- a name that is mentioned: not a left-out name that nothing binds
unfoldable pub free_early_errors : Scope → Text → Span → List EarlyError
free_early_errors s x at = if is_left_out x && not (among x s.bound) then left_out x at ∷ [] else []

-- a name as an expression
unfoldable pub read_early_errors : Scope → Text → Span → List EarlyError
read_early_errors s x at = free_early_errors s x at ++ identifier_early_errors s x at

-- a name that is assigned to, and need not be declared
unfoldable pub target_early_errors : Scope → Text → Span → List EarlyError
target_early_errors s x at = free_early_errors s x at ++ written_early_errors s x at

-- the name in the head of a `for-in`, which is declared there or not (12.6.4)
abbrev pub for_in_early_errors : Scope → Bool → Text → Span → List EarlyError
for_in_early_errors s is_var x at = if is_var then written_early_errors s x at else target_early_errors s x at

-- a label (12.12): none of the labels round it
unfoldable pub label_early_errors : Scope → Text → Span → List EarlyError
label_early_errors s x at = broken_if (has_label x s.labels) rules.LabelTwice at ++ identifier_early_errors s x at

-- statements

-- `break` stands in a loop or a `switch`, or names a label round it (12.8)
unfoldable pub break_early_errors : Scope → Option (Ident Span) → Span → List EarlyError
break_early_errors s None at = broken_if (not s.can_break) rules.BreakOutside at
break_early_errors s (Some x) at =
    broken_if (not (has_label x.text s.labels)) rules.BreakOutside at ++ identifier_early_errors s x.text x.at

-- `continue` stands in a loop, or names a label of a loop round it (12.7)
unfoldable pub continue_early_errors : Scope → Option (Ident Span) → Span → List EarlyError
continue_early_errors s None at = broken_if (not s.in_loop) rules.ContinueOutside at
continue_early_errors s (Some x) at =
    broken_if (not (has_loop_label x.text s.labels)) rules.ContinueOutside at ++ identifier_early_errors s x.text x.at

-- `return` stands in a function (12.9)
unfoldable pub return_early_errors : Scope → Span → List EarlyError
return_early_errors s at = broken_if (not s.in_function) rules.ReturnOutside at

-- expressions

abbrev pub is_delete : UnOp → Bool
is_delete Delete = true
is_delete _ = false

-- no `delete` of a name in strict code (11.4.1)
unfoldable pub delete_early_errors : Scope → UnOp → Tree Span expr → Span → List EarlyError
delete_early_errors s o e at = broken_if (s.strict && is_delete o && is_name e) rules.StrictDelete at

-- the keys of an object literal before one of its properties, each once
pub record Keys : Type 0 where
  pub values : List Text
  pub getters : List Text
  pub setters : List Text

abbrev pub no_keys : Keys
no_keys = record { values = []; getters = []; setters = [] }

-- these keys and that of one more property
abbrev pub with_key : Keys → Tree Span entry → Keys
with_key keys (value k e) = record keys { values = with_name keys.values k.text }
with_key keys (getter k f) = record keys { getters = with_name keys.getters k.text }
with_key keys (setter k f) = record keys { setters = with_name keys.setters k.text }

-- no key of an object literal is that of a value and of an accessor, nor that of two getters or two setters, nor in
-- strict code that of two values (11.1.5): a property with those before it
abbrev pub key_early_errors : Scope → Keys → Tree Span entry → List EarlyError
key_early_errors s keys (value k e) =
    broken_if (among k.text keys.getters || among k.text keys.setters) rules.KeyClash k.at
    ++ broken_if (s.strict && among k.text keys.values) rules.StrictKey k.at
key_early_errors s keys (getter k f) =
    broken_if (among k.text keys.values || among k.text keys.getters) rules.KeyClash k.at
key_early_errors s keys (setter k f) =
    broken_if (among k.text keys.values || among k.text keys.setters) rules.KeyClash k.at

-- all properties, behind some with these keys
abbrev pub literal_early_errors : Scope → Keys → Forest Span entry → List EarlyError
literal_early_errors s keys end = []
literal_early_errors s keys (more t l) = key_early_errors s keys t ++ literal_early_errors s (with_key keys t) l

-- functions

-- the name of a function is bound
abbrev pub name_early_errors : Scope → Option (Ident Span) → List EarlyError
name_early_errors s None = []
name_early_errors s (Some x) = written_early_errors s x.text x.at

-- so are its parameters, which differ from those before them in strict code (13.1)
abbrev pub parameter_early_errors : Scope → List Text → List (Ident Span) → List EarlyError
parameter_early_errors s before [] = []
parameter_early_errors s before (x ∷ l) =
    broken_if (s.strict && among x.text before) rules.StrictParam x.at ++ written_early_errors s x.text x.at
    ++ parameter_early_errors s (with_name before x.text) l

-- the head of a function: its name and its parameters
abbrev pub head_early_errors : Scope → Option (Ident Span) → List (Ident Span) → List EarlyError
head_early_errors s x params = name_early_errors s x ++ parameter_early_errors s [] params

-- all parts

abbrev mutual
  pub early_errors : Scope → {x : Sort} → Tree Span x → List EarlyError
  early_errors s (name x at) = read_early_errors s x at
  early_errors s (array l at) = forest_early_errors s l
  early_errors s (object l at) = literal_early_errors s no_keys l ++ forest_early_errors s l
  early_errors s (function_expression f at) = early_errors s f
  early_errors s (dot o k at) = early_errors s o
  early_errors s (index o k at) = early_errors s o ++ early_errors s k
  early_errors s (call f l at) = early_errors s f ++ forest_early_errors s l
  early_errors s (new f l at) = early_errors s f ++ forest_early_errors s l
  early_errors s (unary o e at) = delete_early_errors s o e at ++ early_errors s e
  early_errors s (update up prefix t at) = early_errors s t
  early_errors s (binary o a b at) = early_errors s a ++ early_errors s b
  early_errors s (and a b at) = early_errors s a ++ early_errors s b
  early_errors s (or a b at) = early_errors s a ++ early_errors s b
  early_errors s (conditional a b c at) = early_errors s a ++ early_errors s b ++ early_errors s c
  early_errors s (assign o t e at) = early_errors s t ++ early_errors s e
  early_errors s (comma a b at) = early_errors s a ++ early_errors s b
  early_errors s (to_name x) = target_early_errors s x.text x.at
  early_errors s (to_dot o k at) = early_errors s o
  early_errors s (to_index o k at) = early_errors s o ++ early_errors s k
  early_errors s (filled e) = early_errors s e
  early_errors s (value k e) = early_errors s e
  early_errors s (getter k f) = early_errors s f
  early_errors s (setter k f) = early_errors s f
  early_errors s (function n x params b at) =
      head_early_errors (in_function_of s x params b) x params ++ early_errors (in_function_of s x params b) b
  early_errors s (body strict fs l) = forest_early_errors s fs ++ forest_early_errors s l
  early_errors s (var l at) = forest_early_errors s l
  early_errors s (expression e at) = early_errors s e
  early_errors s (block l at) = forest_early_errors s l
  early_errors s (if_else c a b at) = early_errors s c ++ forest_early_errors s a ++ optional_early_errors s b
  early_errors s (do_while l c at) = forest_early_errors (in_a_loop s) l ++ early_errors s c
  early_errors s (while c l at) = early_errors s c ++ forest_early_errors (in_a_loop s) l
  early_errors s (for i c u l at) =
      early_errors s i ++ optional_early_errors s c ++ optional_early_errors s u ++ forest_early_errors (in_a_loop s) l
  early_errors s (for_in is_var x o l at) =
      for_in_early_errors s is_var x.text x.at ++ early_errors s o ++ forest_early_errors (in_a_loop s) l
  early_errors s (continue x at) = continue_early_errors s x at
  early_errors s (break x at) = break_early_errors s x at
  early_errors s (return e at) = return_early_errors s at ++ optional_early_errors s e
  early_errors s (labelled x t at) =
      label_early_errors s x.text x.at ++ early_errors (under_label s x.text (is_loop t)) t
  early_errors s (switch e l at) = early_errors s e ++ forest_early_errors (in_a_switch s) l
  early_errors s (throw e at) = early_errors s e
  early_errors s (try l h f at) = forest_early_errors s l ++ optional_early_errors s h ++ optional_early_errors s f
  early_errors s (init_expression e) = early_errors s e
  early_errors s (init_var l) = forest_early_errors s l
  early_errors s (declarator x e) = written_early_errors s x.text x.at ++ optional_early_errors s e
  early_errors s (case e l) = optional_early_errors s e ++ forest_early_errors s l
  early_errors s (branch_of l) = forest_early_errors s l
  early_errors s (catch x l) = written_early_errors s x.text x.at ++ forest_early_errors (in_catch s x.text) l
  early_errors s _ = []

  pub forest_early_errors : Scope → {x : Sort} → Forest Span x → List EarlyError
  forest_early_errors s end = []
  forest_early_errors s (more t l) = early_errors s t ++ forest_early_errors s l

  pub optional_early_errors : Scope → {x : Sort} → OptionalTree Span x → List EarlyError
  optional_early_errors s absent = []
  optional_early_errors s (present t) = early_errors s t

-- everything that is wrong with a program
abbrev pub early_errors_of : Program Span → List EarlyError
early_errors_of p = early_errors (in_program p.body) p.body
