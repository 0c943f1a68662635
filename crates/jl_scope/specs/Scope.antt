-- What stands round a part of a program.
use Rattle.std.specs.Prelude.{Bool, true, false, ◌&&◌, List, [], ◌∷◌, Option, if◌then◌else◌}
use Rattle.std.specs.List.{list_any}
use Rattle.jl_text.specs.declared.span.Span.{Span}
use Rattle.jl_ast.specs.Tree.{Text, Ident, Tree, code, stmt, labelled, do_while, while, for, for_in}
use Rattle.jl_scope.specs.Names.{same_text, among, with_name, left_out_names}
use Rattle.jl_scope.specs.Hoisting.{strict_in, bound_by_body, bound_by_function}

-- a label, and whether it is in the label set of a loop (12.12)
pub record Label : Type 0 where
  pub name : Text
  pub of_loop : Bool

pub record Scope : Type 0 where
  pub strict : Bool
  pub in_function : Bool
  -- within a loop of the innermost function or the program
  pub in_loop : Bool
  -- within a loop or `switch` of it
  pub can_break : Bool
  -- the labels within it that stand round the part, the innermost first
  pub labels : List Label
  -- those left-out names that a function, a `catch` or the program binds, each once
  pub bound : List Text

unfoldable pub is_left_out : Text → Bool
is_left_out x = among x left_out_names

abbrev pub bind_name : List Text → Text → List Text
bind_name bound x = if is_left_out x then with_name bound x else bound

-- of these names, those that are left out are bound as well
abbrev pub bind : List Text → List Text → List Text
bind bound [] = bound
bind bound (x ∷ names) = bind (bind_name bound x) names

abbrev pub has_label : Text → List Label → Bool
has_label x labels = list_any (λ l. same_text x l.name) labels

abbrev pub has_loop_label : Text → List Label → Bool
has_loop_label x labels = list_any (λ l. l.of_loop && same_text x l.name) labels

-- the labels of this statement are in the label set of a loop
abbrev pub is_loop : Tree Span stmt → Bool
is_loop (labelled x t at) = is_loop t
is_loop (do_while l c at) = true
is_loop (while c l at) = true
is_loop (for i c u l at) = true
is_loop (for_in is_var x o l at) = true
is_loop _ = false

-- the parts of a program
abbrev pub in_program : Tree Span code → Scope
in_program b = record {
  strict = strict_in false b;
  in_function = false;
  in_loop = false;
  can_break = false;
  labels = [];
  bound = bind [] (bound_by_body b);
}

-- the name, the parameters and the body of a function
abbrev pub in_function_of : Scope → Option (Ident Span) → List (Ident Span) → Tree Span code → Scope
in_function_of s name params b = record {
  strict = strict_in s.strict b;
  in_function = true;
  in_loop = false;
  can_break = false;
  labels = [];
  bound = bind s.bound (bound_by_function name params b);
}

abbrev pub in_a_loop : Scope → Scope
in_a_loop s = record s { in_loop = true; can_break = true }

abbrev pub in_a_switch : Scope → Scope
in_a_switch s = record s { can_break = true }

-- the statement that has this label
abbrev pub under_label : Scope → Text → Bool → Scope
under_label s x of_loop = record s { labels = record { name = x; of_loop = of_loop } ∷ s.labels }

-- the block of a `catch` with this parameter
abbrev pub in_catch : Scope → Text → Scope
in_catch s x = record s { bound = bind_name s.bound x }
