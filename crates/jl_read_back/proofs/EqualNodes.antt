-- Equal nodes have equal parts.
use Rattle.std.proofs.Common.{◌≡◌, ℕ, Bool, List, Option, ap}
use Rattle.jl_ast.specs.Tree as tree
use Rattle.jl_ast.specs.Tree.{Forest, Ident, OptionalTree, Sort, Text, Tree}
use Rattle.jl_ast.specs.declared.ops.BinOp.{BinOp}
use Rattle.jl_ast.specs.declared.ops.UnOp.{UnOp}

-- the first of a forest, and what follows it; one that is there
abbrev first_of : {S : Type 0} {x : Sort} → Tree S x → Forest S x → Tree S x
first_of d tree.end = d
first_of d (tree.more t l) = t

abbrev rest_of : {S : Type 0} {x : Sort} → Forest S x → Forest S x
rest_of tree.end = tree.end
rest_of (tree.more t l) = l

abbrev held : {S : Type 0} {x : Sort} → Tree S x → OptionalTree S x → Tree S x
held d tree.absent = d
held d (tree.present t) = t

module _ {T : Type 0} where
  pub more_same : {x : Sort} {t u : Tree T x} {l m : Forest T x} → tree.more t l ≡ tree.more u m → (t ≡ u) × (l ≡ m)
  more_same {x} {t} e = (ap (first_of t) e, ap rest_of e)

  pub present_same : {x : Sort} {t u : Tree T x} → tree.present t ≡ tree.present u → t ≡ u
  present_same {x} {t} e = ap (held t) e

  pub function_same : {i j : ℕ} {x y : Option (Ident T)} {ps qs : List (Ident T)} {a b : Tree T tree.code} {s t : T}
      → tree.function i x ps a s ≡ tree.function j y qs b t → (i ≡ j) × (a ≡ b)
  function_same e = (cc, cc)

  pub array_same : {a a' : Forest T tree.item} {s s' : T}
      → tree.array a s ≡ tree.array a' s' → a ≡ a'
  array_same e = cc

  pub object_same : {a a' : Forest T tree.entry} {s s' : T}
      → tree.object a s ≡ tree.object a' s' → a ≡ a'
  object_same e = cc

  pub function_expression_same : {a a' : Tree T tree.func} {s s' : T}
      → tree.function_expression a s ≡ tree.function_expression a' s' → a ≡ a'
  function_expression_same e = cc

  pub dot_same : {a a' : Tree T tree.expr} {u u' : Text} {s s' : T}
      → tree.dot a u s ≡ tree.dot a' u' s' → a ≡ a'
  dot_same e = cc

  pub index_same : {a a' : Tree T tree.expr} {b b' : Tree T tree.expr} {s s' : T}
      → tree.index a b s ≡ tree.index a' b' s' → (a ≡ a') × (b ≡ b')
  index_same e = (cc, cc)

  pub call_same : {a a' : Tree T tree.expr} {b b' : Forest T tree.expr} {s s' : T}
      → tree.call a b s ≡ tree.call a' b' s' → (a ≡ a') × (b ≡ b')
  call_same e = (cc, cc)

  pub new_same : {a a' : Tree T tree.expr} {b b' : Forest T tree.expr} {s s' : T}
      → tree.new a b s ≡ tree.new a' b' s' → (a ≡ a') × (b ≡ b')
  new_same e = (cc, cc)

  pub unary_same : {u u' : UnOp} {a a' : Tree T tree.expr} {s s' : T}
      → tree.unary u a s ≡ tree.unary u' a' s' → a ≡ a'
  unary_same e = cc

  pub update_same : {u u' : Bool} {v v' : Bool} {a a' : Tree T tree.target} {s s' : T}
      → tree.update u v a s ≡ tree.update u' v' a' s' → a ≡ a'
  update_same e = cc

  pub binary_same : {u u' : BinOp} {a a' : Tree T tree.expr} {b b' : Tree T tree.expr} {s s' : T}
      → tree.binary u a b s ≡ tree.binary u' a' b' s' → (a ≡ a') × (b ≡ b')
  binary_same e = (cc, cc)

  pub and_same : {a a' : Tree T tree.expr} {b b' : Tree T tree.expr} {s s' : T}
      → tree.and a b s ≡ tree.and a' b' s' → (a ≡ a') × (b ≡ b')
  and_same e = (cc, cc)

  pub or_same : {a a' : Tree T tree.expr} {b b' : Tree T tree.expr} {s s' : T}
      → tree.or a b s ≡ tree.or a' b' s' → (a ≡ a') × (b ≡ b')
  or_same e = (cc, cc)

  pub conditional_same : {a a' : Tree T tree.expr} {b b' : Tree T tree.expr} {c c' : Tree T tree.expr} {s s' : T}
      → tree.conditional a b c s ≡ tree.conditional a' b' c' s' → (a ≡ a') × (b ≡ b') × (c ≡ c')
  conditional_same e = (cc, cc, cc)

  pub assign_same : {u u' : Option BinOp} {a a' : Tree T tree.target} {b b' : Tree T tree.expr} {s s' : T}
      → tree.assign u a b s ≡ tree.assign u' a' b' s' → (a ≡ a') × (b ≡ b')
  assign_same e = (cc, cc)

  pub comma_same : {a a' : Tree T tree.expr} {b b' : Tree T tree.expr} {s s' : T}
      → tree.comma a b s ≡ tree.comma a' b' s' → (a ≡ a') × (b ≡ b')
  comma_same e = (cc, cc)

  pub to_dot_same : {a a' : Tree T tree.expr} {u u' : Text} {s s' : T}
      → tree.to_dot a u s ≡ tree.to_dot a' u' s' → a ≡ a'
  to_dot_same e = cc

  pub to_index_same : {a a' : Tree T tree.expr} {b b' : Tree T tree.expr} {s s' : T}
      → tree.to_index a b s ≡ tree.to_index a' b' s' → (a ≡ a') × (b ≡ b')
  to_index_same e = (cc, cc)

  pub filled_same : {a a' : Tree T tree.expr}
      → tree.filled a ≡ tree.filled a' → a ≡ a'
  filled_same e = cc

  pub value_same : {u u' : Ident T} {a a' : Tree T tree.expr}
      → tree.value u a ≡ tree.value u' a' → a ≡ a'
  value_same e = cc

  pub getter_same : {u u' : Ident T} {a a' : Tree T tree.func}
      → tree.getter u a ≡ tree.getter u' a' → a ≡ a'
  getter_same e = cc

  pub setter_same : {u u' : Ident T} {a a' : Tree T tree.func}
      → tree.setter u a ≡ tree.setter u' a' → a ≡ a'
  setter_same e = cc

  pub body_same : {u u' : Bool} {a a' : Forest T tree.func} {b b' : Forest T tree.stmt}
      → tree.body u a b ≡ tree.body u' a' b' → (a ≡ a') × (b ≡ b')
  body_same e = (cc, cc)

  pub var_same : {a a' : Forest T tree.decl} {s s' : T}
      → tree.var a s ≡ tree.var a' s' → a ≡ a'
  var_same e = cc

  pub expression_same : {a a' : Tree T tree.expr} {s s' : T}
      → tree.expression a s ≡ tree.expression a' s' → a ≡ a'
  expression_same e = cc

  pub block_same : {a a' : Forest T tree.stmt} {s s' : T}
      → tree.block a s ≡ tree.block a' s' → a ≡ a'
  block_same e = cc

  pub if_else_same : {a a' : Tree T tree.expr} {b b' : Forest T tree.stmt} {c c' : OptionalTree T tree.branch}
      {s s' : T}
      → tree.if_else a b c s ≡ tree.if_else a' b' c' s' → (a ≡ a') × (b ≡ b') × (c ≡ c')
  if_else_same e = (cc, cc, cc)

  pub do_while_same : {a a' : Forest T tree.stmt} {b b' : Tree T tree.expr} {s s' : T}
      → tree.do_while a b s ≡ tree.do_while a' b' s' → (a ≡ a') × (b ≡ b')
  do_while_same e = (cc, cc)

  pub while_same : {a a' : Tree T tree.expr} {b b' : Forest T tree.stmt} {s s' : T}
      → tree.while a b s ≡ tree.while a' b' s' → (a ≡ a') × (b ≡ b')
  while_same e = (cc, cc)

  pub for_same : {a a' : Tree T tree.init} {b b' : OptionalTree T tree.expr} {c c' : OptionalTree T tree.expr}
      {d d' : Forest T tree.stmt} {s s' : T}
      → tree.for a b c d s ≡ tree.for a' b' c' d' s' → (a ≡ a') × (b ≡ b') × (c ≡ c') × (d ≡ d')
  for_same e = (cc, cc, cc, cc)

  pub for_in_same : {u u' : Bool} {v v' : Ident T} {a a' : Tree T tree.expr} {b b' : Forest T tree.stmt} {s s' : T}
      → tree.for_in u v a b s ≡ tree.for_in u' v' a' b' s' → (a ≡ a') × (b ≡ b')
  for_in_same e = (cc, cc)

  pub return_same : {a a' : OptionalTree T tree.expr} {s s' : T}
      → tree.return a s ≡ tree.return a' s' → a ≡ a'
  return_same e = cc

  pub labelled_same : {u u' : Ident T} {a a' : Tree T tree.stmt} {s s' : T}
      → tree.labelled u a s ≡ tree.labelled u' a' s' → a ≡ a'
  labelled_same e = cc

  pub switch_same : {a a' : Tree T tree.expr} {b b' : Forest T tree.clause} {s s' : T}
      → tree.switch a b s ≡ tree.switch a' b' s' → (a ≡ a') × (b ≡ b')
  switch_same e = (cc, cc)

  pub throw_same : {a a' : Tree T tree.expr} {s s' : T}
      → tree.throw a s ≡ tree.throw a' s' → a ≡ a'
  throw_same e = cc

  pub try_same : {a a' : Forest T tree.stmt} {b b' : OptionalTree T tree.handler} {c c' : OptionalTree T tree.branch}
      {s s' : T}
      → tree.try a b c s ≡ tree.try a' b' c' s' → (a ≡ a') × (b ≡ b') × (c ≡ c')
  try_same e = (cc, cc, cc)

  pub init_expression_same : {a a' : Tree T tree.expr}
      → tree.init_expression a ≡ tree.init_expression a' → a ≡ a'
  init_expression_same e = cc

  pub init_var_same : {a a' : Forest T tree.decl}
      → tree.init_var a ≡ tree.init_var a' → a ≡ a'
  init_var_same e = cc

  pub declarator_same : {u u' : Ident T} {a a' : OptionalTree T tree.expr}
      → tree.declarator u a ≡ tree.declarator u' a' → a ≡ a'
  declarator_same e = cc

  pub case_same : {a a' : OptionalTree T tree.expr} {b b' : Forest T tree.stmt}
      → tree.case a b ≡ tree.case a' b' → (a ≡ a') × (b ≡ b')
  case_same e = (cc, cc)

  pub branch_of_same : {a a' : Forest T tree.stmt}
      → tree.branch_of a ≡ tree.branch_of a' → a ≡ a'
  branch_of_same e = cc

  pub catch_same : {u u' : Ident T} {a a' : Forest T tree.stmt}
      → tree.catch u a ≡ tree.catch u' a' → a ≡ a'
  catch_same e = cc
