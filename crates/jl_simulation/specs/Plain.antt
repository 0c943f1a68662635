-- Scripts that can be woven: no part of them is the name of the object with the hooks where it would be taken for that,
-- a compound assignment has an operator of 11.13, and their operations have ids that hooks can be called with.
use Rattle.std.specs.Prelude.{false, ◌+◌, ◌<◌, ◌≡◌, ℕ}
use Rattle.jl_ast.specs.Tree.{absent, and, array, assign, binary, block, body, branch_of, call, case, catch, comma}
use Rattle.jl_ast.specs.Tree.{conditional, declarator, do_while, dot, end, expression, filled, for, for_in, function}
use Rattle.jl_ast.specs.Tree.{function_expression, getter, if_else, index, init_expression, init_var, labelled, more}
use Rattle.jl_ast.specs.Tree.{name, new, object, or, present, return, setter, switch, throw, to_dot, to_index, to_name}
use Rattle.jl_ast.specs.Tree.{try, unary, update, value, var, while, Forest, OptionalTree, Program, Sort, Tree}
use Rattle.jl_op.specs.Ids.{id_count}
use Rattle.jl_meaning.specs.forms.Names.{is_hooks}
use Rattle.jl_simulation.specs.CompoundAssignments.{IsAssignment}

-- the ids that hooks take are below this
abbrev pub id_limit : ℕ
id_limit = 4294967294

-- No name that is read, written, deleted or bound by a `catch` is that of the hooks, and compound assignments have
-- their operators. Labels, keys and parameters may have that name.
abbrev mutual
  pub IsPlain : {S : Type 0} {x : Sort} → Tree S x → Type 0
  IsPlain (name x s) = is_hooks x ≡ false
  IsPlain (array l s) = ArePlain l
  IsPlain (object l s) = ArePlain l
  IsPlain (function_expression f s) = IsPlain f
  IsPlain (dot o k s) = IsPlain o
  IsPlain (index o k s) = IsPlain o × IsPlain k
  IsPlain (call f l s) = IsPlain f × ArePlain l
  IsPlain (new f l s) = IsPlain f × ArePlain l
  IsPlain (unary o e s) = IsPlain e
  IsPlain (update up prefix t s) = IsPlain t
  IsPlain (binary o a b s) = IsPlain a × IsPlain b
  IsPlain (and a b s) = IsPlain a × IsPlain b
  IsPlain (or a b s) = IsPlain a × IsPlain b
  IsPlain (conditional a b c s) = IsPlain a × IsPlain b × IsPlain c
  IsPlain (assign o t e s) = IsAssignment o × IsPlain t × IsPlain e
  IsPlain (comma a b s) = IsPlain a × IsPlain b
  IsPlain (to_name x) = is_hooks x.text ≡ false
  IsPlain (to_dot o k s) = IsPlain o
  IsPlain (to_index o k s) = IsPlain o × IsPlain k
  IsPlain (filled e) = IsPlain e
  IsPlain (value k e) = IsPlain e
  IsPlain (getter k f) = IsPlain f
  IsPlain (setter k f) = IsPlain f
  IsPlain (function m x params b s) = IsPlain b
  IsPlain (body strict fs l) = ArePlain fs × ArePlain l
  IsPlain (var l s) = ArePlain l
  IsPlain (expression e s) = IsPlain e
  IsPlain (block l s) = ArePlain l
  IsPlain (if_else e a b s) = IsPlain e × ArePlain a × IsPlainIfPresent b
  IsPlain (do_while l e s) = ArePlain l × IsPlain e
  IsPlain (while e l s) = IsPlain e × ArePlain l
  IsPlain (for i e u l s) = IsPlain i × IsPlainIfPresent e × IsPlainIfPresent u × ArePlain l
  IsPlain (for_in is_var x o l s) = (is_hooks x.text ≡ false) × IsPlain o × ArePlain l
  IsPlain (return e s) = IsPlainIfPresent e
  IsPlain (labelled x t s) = IsPlain t
  IsPlain (switch e l s) = IsPlain e × ArePlain l
  IsPlain (throw e s) = IsPlain e
  IsPlain (try l h f s) = ArePlain l × IsPlainIfPresent h × IsPlainIfPresent f
  IsPlain (init_expression e) = IsPlain e
  IsPlain (init_var l) = ArePlain l
  IsPlain (declarator x e) = (is_hooks x.text ≡ false) × IsPlainIfPresent e
  IsPlain (case e l) = IsPlainIfPresent e × ArePlain l
  IsPlain (branch_of l) = ArePlain l
  IsPlain (catch x l) = (is_hooks x.text ≡ false) × ArePlain l
  IsPlain _ = Unit {0}

  pub ArePlain : {S : Type 0} {x : Sort} → Forest S x → Type 0
  ArePlain end = Unit {0}
  ArePlain (more t l) = IsPlain t × ArePlain l

  pub IsPlainIfPresent : {S : Type 0} {x : Sort} → OptionalTree S x → Type 0
  IsPlainIfPresent absent = Unit {0}
  IsPlainIfPresent (present t) = IsPlain t

-- its ids are below the limit: a program takes two, and then its parts take theirs
abbrev pub HasFewIds : {S : Type 0} → Program S → Type 0
HasFewIds p = 2 + id_count p.body < id_limit
