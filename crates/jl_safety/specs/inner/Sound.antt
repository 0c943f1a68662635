-- Trees that can't be misused: no name that is read, written or deleted is that of the object with the hooks, and each
-- jump in the functions has where to go.
use Rattle.std.specs.Prelude.{false, true, ◌≡◌, ℕ}
use Rattle.jl_ast.specs.Tree.{absent, and, array, assign, binary, block, body, branch_of, call, case, catch, comma}
use Rattle.jl_ast.specs.Tree.{conditional, declarator, do_while, dot, end, expression, filled, for, for_in, function}
use Rattle.jl_ast.specs.Tree.{function_expression, getter, if_else, index, init_expression, init_var, labelled, more}
use Rattle.jl_ast.specs.Tree.{name, new, object, present, return, setter, switch, throw, to_dot, to_index, to_name}
use Rattle.jl_ast.specs.Tree.{or, try, unary, update, value, var, while, Forest, OptionalTree, Sort, Tree}
use Rattle.jl_meaning.specs.forms.Names.{is_hooks}
use Rattle.jl_safety.specs.inner.Jumps.{CodeFits}

abbrev mutual
  pub IsSound : {x : Sort} → Tree ℕ x → Type 0
  IsSound (name x id) = is_hooks x ≡ false
  IsSound (array l id) = AreSound l
  IsSound (object l id) = AreSound l
  IsSound (function_expression f id) = IsSound f
  IsSound (dot o k id) = IsSound o
  IsSound (index o k id) = IsSound o × IsSound k
  IsSound (call f l id) = IsSound f × AreSound l
  IsSound (new f l id) = IsSound f × AreSound l
  IsSound (unary o e id) = IsSound e
  IsSound (update up prefix t id) = IsSound t
  IsSound (binary o a b id) = IsSound a × IsSound b
  IsSound (and a b id) = IsSound a × IsSound b
  IsSound (or a b id) = IsSound a × IsSound b
  IsSound (conditional a b c id) = IsSound a × IsSound b × IsSound c
  IsSound (assign o t e id) = IsSound t × IsSound e
  IsSound (comma a b id) = IsSound a × IsSound b
  IsSound (to_name x) = is_hooks x.text ≡ false
  IsSound (to_dot o k id) = IsSound o
  IsSound (to_index o k id) = IsSound o × IsSound k
  IsSound (filled e) = IsSound e
  IsSound (value k e) = IsSound e
  IsSound (getter k f) = IsSound f
  IsSound (setter k f) = IsSound f
  -- functions
  IsSound (function m x params b id) = CodeFits true b × IsSound b
  IsSound (body strict fs l) = AreSound fs × AreSound l
  -- statements and their parts
  IsSound (var l id) = AreSound l
  IsSound (expression e id) = IsSound e
  IsSound (block l id) = AreSound l
  IsSound (if_else e a b id) = IsSound e × AreSound a × IsSoundIfPresent b
  IsSound (do_while l e id) = AreSound l × IsSound e
  IsSound (while e l id) = IsSound e × AreSound l
  IsSound (for i e u l id) = IsSound i × IsSoundIfPresent e × IsSoundIfPresent u × AreSound l
  IsSound (for_in is_var x o l id) = (is_hooks x.text ≡ false) × IsSound o × AreSound l
  IsSound (return e id) = IsSoundIfPresent e
  IsSound (labelled x t id) = IsSound t
  IsSound (switch e l id) = IsSound e × AreSound l
  IsSound (throw e id) = IsSound e
  IsSound (try l h f id) = AreSound l × IsSoundIfPresent h × IsSoundIfPresent f
  IsSound (init_expression e) = IsSound e
  IsSound (init_var l) = AreSound l
  IsSound (declarator x e) = (is_hooks x.text ≡ false) × IsSoundIfPresent e
  IsSound (case e l) = IsSoundIfPresent e × AreSound l
  IsSound (branch_of l) = AreSound l
  IsSound (catch x l) = AreSound l
  IsSound _ = Unit {0}

  pub AreSound : {x : Sort} → Forest ℕ x → Type 0
  AreSound end = Unit {0}
  AreSound (more t l) = IsSound t × AreSound l

  pub IsSoundIfPresent : {x : Sort} → OptionalTree ℕ x → Type 0
  IsSoundIfPresent absent = Unit {0}
  IsSoundIfPresent (present t) = IsSound t
