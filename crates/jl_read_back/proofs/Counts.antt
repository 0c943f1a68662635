-- The functions of the woven script have the numbers of the script's, a line for each form.
use Rattle.std.proofs.Common.{◌≡◌, ℕ, ◌+◌, Bool, Option, refl, ap, subst, sym}
use Rattle.std.proofs.Common.{arith, ap₂}
use Rattle.jl_ast.specs.Numbering.{functions_in, functions_in_forest, functions_in_optional, numbered_forest}
use Rattle.jl_ast.specs.Numbering.{numbered_optional, numbered_tree}
use Rattle.jl_ast.specs.Tree as tree
use Rattle.jl_ast.specs.Tree.{Forest, Ident, OptionalTree, Sort, Text, Tree}
use Rattle.std.specs.Prelude.{List}
use Rattle.jl_num.specs.Number.{Number}
use Rattle.jl_ast.specs.declared.ops.BinOp.{BinOp}
use Rattle.jl_ast.specs.declared.ops.UnOp.{UnOp}
use Rattle.jl_ast.proofs.Congruences.{ap₃, ap₄}

-- the functions of a tree have the numbers from n up to the one before m
pub record Counts {S : Type 0} {x : Sort} (n : ℕ) (t : Tree S x) (m : ℕ) : Type 0 where
  pub fixed : numbered_tree n t ≡ t
  pub next : n + functions_in t ≡ m

pub record CountsAll {S : Type 0} {x : Sort} (n : ℕ) (l : Forest S x) (m : ℕ) : Type 0 where
  pub fixed : numbered_forest n l ≡ l
  pub next : n + functions_in_forest l ≡ m

pub record CountsIfPresent {S : Type 0} {x : Sort} (n : ℕ) (o : OptionalTree S x) (m : ℕ) : Type 0 where
  pub fixed : numbered_optional n o ≡ o
  pub next : n + functions_in_optional o ≡ m

module _ {S : Type 0} where
  -- a part that stands after others
  later : {x : Sort} {i k m : ℕ} {t : Tree S x} → i ≡ k → Counts k t m → numbered_tree i t ≡ t
  later {x} {i} {k} {m} {t} e p = subst (λ j. numbered_tree j t ≡ t) (sym e) p.fixed

  later_all : {x : Sort} {i k m : ℕ} {t : Forest S x} → i ≡ k → CountsAll k t m → numbered_forest i t ≡ t
  later_all {x} {i} {k} {m} {t} e p = subst (λ j. numbered_forest j t ≡ t) (sym e) p.fixed

  later_optional : {x : Sort} {i k m : ℕ} {t : OptionalTree S x} → i ≡ k → CountsIfPresent k t m
      → numbered_optional i t ≡ t
  later_optional {x} {i} {k} {m} {t} e p = subst (λ j. numbered_optional j t ≡ t) (sym e) p.fixed

  pub index_counts : {n i m : ℕ} {a : Tree S tree.expr} {b : Tree S tree.expr} {s : S}
      → Counts n a i → Counts i b m
      → Counts n (tree.index a b s) m
  index_counts {n} {i} {m} {a} {b} {s} p q = record {
    fixed = ap₂ (λ (a' : Tree S tree.expr) (b' : Tree S tree.expr). tree.index a' b' s) p.fixed (later (omega arith) q);
    next = omega arith;
  }

  pub call_counts : {n i m : ℕ} {a : Tree S tree.expr} {b : Forest S tree.expr} {s : S}
      → Counts n a i → CountsAll i b m
      → Counts n (tree.call a b s) m
  call_counts {n} {i} {m} {a} {b} {s} p q = record {
    fixed = ap₂ (λ (a' : Tree S tree.expr) (b' : Forest S tree.expr). tree.call a' b' s) p.fixed
        (later_all (omega arith) q);
    next = omega arith;
  }

  pub new_counts : {n i m : ℕ} {a : Tree S tree.expr} {b : Forest S tree.expr} {s : S}
      → Counts n a i → CountsAll i b m
      → Counts n (tree.new a b s) m
  new_counts {n} {i} {m} {a} {b} {s} p q = record {
    fixed = ap₂ (λ (a' : Tree S tree.expr) (b' : Forest S tree.expr). tree.new a' b' s) p.fixed
        (later_all (omega arith) q);
    next = omega arith;
  }

  pub binary_counts : {n i m : ℕ} {u : BinOp} {a : Tree S tree.expr} {b : Tree S tree.expr} {s : S}
      → Counts n a i → Counts i b m
      → Counts n (tree.binary u a b s) m
  binary_counts {n} {i} {m} {u} {a} {b} {s} p q = record {
    fixed = ap₂ (λ (a' : Tree S tree.expr) (b' : Tree S tree.expr). tree.binary u a' b' s) p.fixed
        (later (omega arith) q);
    next = omega arith;
  }

  pub and_counts : {n i m : ℕ} {a : Tree S tree.expr} {b : Tree S tree.expr} {s : S}
      → Counts n a i → Counts i b m
      → Counts n (tree.and a b s) m
  and_counts {n} {i} {m} {a} {b} {s} p q = record {
    fixed = ap₂ (λ (a' : Tree S tree.expr) (b' : Tree S tree.expr). tree.and a' b' s) p.fixed (later (omega arith) q);
    next = omega arith;
  }

  pub or_counts : {n i m : ℕ} {a : Tree S tree.expr} {b : Tree S tree.expr} {s : S}
      → Counts n a i → Counts i b m
      → Counts n (tree.or a b s) m
  or_counts {n} {i} {m} {a} {b} {s} p q = record {
    fixed = ap₂ (λ (a' : Tree S tree.expr) (b' : Tree S tree.expr). tree.or a' b' s) p.fixed (later (omega arith) q);
    next = omega arith;
  }

  pub conditional_counts : {n i j m : ℕ} {a : Tree S tree.expr} {b : Tree S tree.expr} {c : Tree S tree.expr} {s : S}
      → Counts n a i → Counts i b j → Counts j c m
      → Counts n (tree.conditional a b c s) m
  conditional_counts {n} {i} {j} {m} {a} {b} {c} {s} p q r = record {
    fixed = ap₃ (λ (a' : Tree S tree.expr) (b' : Tree S tree.expr) (c' : Tree S tree.expr). tree.conditional a' b' c'
        s) p.fixed (later (omega arith) q) (later (omega arith) r);
    next = omega arith;
  }

  pub assign_counts : {n i m : ℕ} {u : Option BinOp} {a : Tree S tree.target} {b : Tree S tree.expr} {s : S}
      → Counts n a i → Counts i b m
      → Counts n (tree.assign u a b s) m
  assign_counts {n} {i} {m} {u} {a} {b} {s} p q = record {
    fixed = ap₂ (λ (a' : Tree S tree.target) (b' : Tree S tree.expr). tree.assign u a' b' s) p.fixed
        (later (omega arith) q);
    next = omega arith;
  }

  pub comma_counts : {n i m : ℕ} {a : Tree S tree.expr} {b : Tree S tree.expr} {s : S}
      → Counts n a i → Counts i b m
      → Counts n (tree.comma a b s) m
  comma_counts {n} {i} {m} {a} {b} {s} p q = record {
    fixed = ap₂ (λ (a' : Tree S tree.expr) (b' : Tree S tree.expr). tree.comma a' b' s) p.fixed (later (omega arith) q);
    next = omega arith;
  }

  pub to_index_counts : {n i m : ℕ} {a : Tree S tree.expr} {b : Tree S tree.expr} {s : S}
      → Counts n a i → Counts i b m
      → Counts n (tree.to_index a b s) m
  to_index_counts {n} {i} {m} {a} {b} {s} p q = record {
    fixed = ap₂ (λ (a' : Tree S tree.expr) (b' : Tree S tree.expr). tree.to_index a' b' s) p.fixed
        (later (omega arith) q);
    next = omega arith;
  }

  pub if_else_counts : {n i j m : ℕ} {a : Tree S tree.expr} {b : Forest S tree.stmt} {c : OptionalTree S tree.branch}
      {s : S}
      → Counts n a i → CountsAll i b j → CountsIfPresent j c m
      → Counts n (tree.if_else a b c s) m
  if_else_counts {n} {i} {j} {m} {a} {b} {c} {s} p q r = record {
    fixed = ap₃ (λ (a' : Tree S tree.expr) (b' : Forest S tree.stmt) (c' : OptionalTree S tree.branch). tree.if_else
        a' b' c' s) p.fixed (later_all (omega arith) q) (later_optional (omega arith) r);
    next = omega arith;
  }

  pub do_while_counts : {n i m : ℕ} {a : Forest S tree.stmt} {b : Tree S tree.expr} {s : S}
      → CountsAll n a i → Counts i b m
      → Counts n (tree.do_while a b s) m
  do_while_counts {n} {i} {m} {a} {b} {s} p q = record {
    fixed = ap₂ (λ (a' : Forest S tree.stmt) (b' : Tree S tree.expr). tree.do_while a' b' s) p.fixed
        (later (omega arith) q);
    next = omega arith;
  }

  pub while_counts : {n i m : ℕ} {a : Tree S tree.expr} {b : Forest S tree.stmt} {s : S}
      → Counts n a i → CountsAll i b m
      → Counts n (tree.while a b s) m
  while_counts {n} {i} {m} {a} {b} {s} p q = record {
    fixed = ap₂ (λ (a' : Tree S tree.expr) (b' : Forest S tree.stmt). tree.while a' b' s) p.fixed
        (later_all (omega arith) q);
    next = omega arith;
  }

  pub for_counts : {n i j k m : ℕ} {a : Tree S tree.init} {b : OptionalTree S tree.expr}
      {c : OptionalTree S tree.expr} {d : Forest S tree.stmt} {s : S}
      → Counts n a i → CountsIfPresent i b j → CountsIfPresent j c k → CountsAll k d m
      → Counts n (tree.for a b c d s) m
  for_counts {n} {i} {j} {k} {m} {a} {b} {c} {d} {s} p q r z = record {
    fixed = ap₄ (λ (a' : Tree S tree.init) (b' : OptionalTree S tree.expr) (c' : OptionalTree S tree.expr)
        (d' : Forest S tree.stmt). tree.for a' b' c' d' s) p.fixed (later_optional (omega arith) q)
        (later_optional (omega arith) r) (later_all (omega arith) z);
    next = omega arith;
  }

  pub for_in_counts : {n i m : ℕ} {u : Bool} {v : Ident S} {a : Tree S tree.expr} {b : Forest S tree.stmt} {s : S}
      → Counts n a i → CountsAll i b m
      → Counts n (tree.for_in u v a b s) m
  for_in_counts {n} {i} {m} {u} {v} {a} {b} {s} p q = record {
    fixed = ap₂ (λ (a' : Tree S tree.expr) (b' : Forest S tree.stmt). tree.for_in u v a' b' s) p.fixed
        (later_all (omega arith) q);
    next = omega arith;
  }

  pub switch_counts : {n i m : ℕ} {a : Tree S tree.expr} {b : Forest S tree.clause} {s : S}
      → Counts n a i → CountsAll i b m
      → Counts n (tree.switch a b s) m
  switch_counts {n} {i} {m} {a} {b} {s} p q = record {
    fixed = ap₂ (λ (a' : Tree S tree.expr) (b' : Forest S tree.clause). tree.switch a' b' s) p.fixed
        (later_all (omega arith) q);
    next = omega arith;
  }

  pub try_counts : {n i j m : ℕ} {a : Forest S tree.stmt} {b : OptionalTree S tree.handler}
      {c : OptionalTree S tree.branch} {s : S}
      → CountsAll n a i → CountsIfPresent i b j → CountsIfPresent j c m
      → Counts n (tree.try a b c s) m
  try_counts {n} {i} {j} {m} {a} {b} {c} {s} p q r = record {
    fixed = ap₃ (λ (a' : Forest S tree.stmt) (b' : OptionalTree S tree.handler) (c' : OptionalTree S tree.branch).
        tree.try a' b' c' s) p.fixed (later_optional (omega arith) q) (later_optional (omega arith) r);
    next = omega arith;
  }

  pub body_counts : {n i m : ℕ} {u : Bool} {a : Forest S tree.func} {b : Forest S tree.stmt}
      → CountsAll n a i → CountsAll i b m
      → Counts n (tree.body u a b) m
  body_counts {n} {i} {m} {u} {a} {b} p q = record {
    fixed = ap₂ (λ (a' : Forest S tree.func) (b' : Forest S tree.stmt). tree.body u a' b') p.fixed
        (later_all (omega arith) q);
    next = omega arith;
  }

  pub case_counts : {n i m : ℕ} {a : OptionalTree S tree.expr} {b : Forest S tree.stmt}
      → CountsIfPresent n a i → CountsAll i b m
      → Counts n (tree.case a b) m
  case_counts {n} {i} {m} {a} {b} p q = record {
    fixed = ap₂ (λ (a' : OptionalTree S tree.expr) (b' : Forest S tree.stmt). tree.case a' b') p.fixed
        (later_all (omega arith) q);
    next = omega arith;
  }

  pub array_counts : {n m : ℕ} {a : Forest S tree.item} {s : S}
      → CountsAll n a m
      → Counts n (tree.array a s) m
  array_counts {n} {m} {a} {s} p = record {
    fixed = ap (λ (a' : Forest S tree.item). tree.array a' s) p.fixed;
    next = omega arith;
  }

  pub object_counts : {n m : ℕ} {a : Forest S tree.entry} {s : S}
      → CountsAll n a m
      → Counts n (tree.object a s) m
  object_counts {n} {m} {a} {s} p = record {
    fixed = ap (λ (a' : Forest S tree.entry). tree.object a' s) p.fixed;
    next = omega arith;
  }

  pub function_expression_counts : {n m : ℕ} {a : Tree S tree.func} {s : S}
      → Counts n a m
      → Counts n (tree.function_expression a s) m
  function_expression_counts {n} {m} {a} {s} p = record {
    fixed = ap (λ (a' : Tree S tree.func). tree.function_expression a' s) p.fixed;
    next = omega arith;
  }

  pub dot_counts : {n m : ℕ} {u : Text} {a : Tree S tree.expr} {s : S}
      → Counts n a m
      → Counts n (tree.dot a u s) m
  dot_counts {n} {m} {u} {a} {s} p = record {
    fixed = ap (λ (a' : Tree S tree.expr). tree.dot a' u s) p.fixed;
    next = omega arith;
  }

  pub unary_counts : {n m : ℕ} {u : UnOp} {a : Tree S tree.expr} {s : S}
      → Counts n a m
      → Counts n (tree.unary u a s) m
  unary_counts {n} {m} {u} {a} {s} p = record {
    fixed = ap (λ (a' : Tree S tree.expr). tree.unary u a' s) p.fixed;
    next = omega arith;
  }

  pub update_counts : {n m : ℕ} {u : Bool} {v : Bool} {a : Tree S tree.target} {s : S}
      → Counts n a m
      → Counts n (tree.update u v a s) m
  update_counts {n} {m} {u} {v} {a} {s} p = record {
    fixed = ap (λ (a' : Tree S tree.target). tree.update u v a' s) p.fixed;
    next = omega arith;
  }

  pub to_dot_counts : {n m : ℕ} {u : Text} {a : Tree S tree.expr} {s : S}
      → Counts n a m
      → Counts n (tree.to_dot a u s) m
  to_dot_counts {n} {m} {u} {a} {s} p = record {
    fixed = ap (λ (a' : Tree S tree.expr). tree.to_dot a' u s) p.fixed;
    next = omega arith;
  }

  pub filled_counts : {n m : ℕ} {a : Tree S tree.expr}
      → Counts n a m
      → Counts n (tree.filled a) m
  filled_counts {n} {m} {a} p = record {
    fixed = ap (λ (a' : Tree S tree.expr). tree.filled a') p.fixed;
    next = omega arith;
  }

  pub value_counts : {n m : ℕ} {u : Ident S} {a : Tree S tree.expr}
      → Counts n a m
      → Counts n (tree.value u a) m
  value_counts {n} {m} {u} {a} p = record {
    fixed = ap (λ (a' : Tree S tree.expr). tree.value u a') p.fixed;
    next = omega arith;
  }

  pub getter_counts : {n m : ℕ} {u : Ident S} {a : Tree S tree.func}
      → Counts n a m
      → Counts n (tree.getter u a) m
  getter_counts {n} {m} {u} {a} p = record {
    fixed = ap (λ (a' : Tree S tree.func). tree.getter u a') p.fixed;
    next = omega arith;
  }

  pub setter_counts : {n m : ℕ} {u : Ident S} {a : Tree S tree.func}
      → Counts n a m
      → Counts n (tree.setter u a) m
  setter_counts {n} {m} {u} {a} p = record {
    fixed = ap (λ (a' : Tree S tree.func). tree.setter u a') p.fixed;
    next = omega arith;
  }

  pub var_counts : {n m : ℕ} {a : Forest S tree.decl} {s : S}
      → CountsAll n a m
      → Counts n (tree.var a s) m
  var_counts {n} {m} {a} {s} p = record {
    fixed = ap (λ (a' : Forest S tree.decl). tree.var a' s) p.fixed;
    next = omega arith;
  }

  pub expression_counts : {n m : ℕ} {a : Tree S tree.expr} {s : S}
      → Counts n a m
      → Counts n (tree.expression a s) m
  expression_counts {n} {m} {a} {s} p = record {
    fixed = ap (λ (a' : Tree S tree.expr). tree.expression a' s) p.fixed;
    next = omega arith;
  }

  pub block_counts : {n m : ℕ} {a : Forest S tree.stmt} {s : S}
      → CountsAll n a m
      → Counts n (tree.block a s) m
  block_counts {n} {m} {a} {s} p = record {
    fixed = ap (λ (a' : Forest S tree.stmt). tree.block a' s) p.fixed;
    next = omega arith;
  }

  pub return_counts : {n m : ℕ} {a : OptionalTree S tree.expr} {s : S}
      → CountsIfPresent n a m
      → Counts n (tree.return a s) m
  return_counts {n} {m} {a} {s} p = record {
    fixed = ap (λ (a' : OptionalTree S tree.expr). tree.return a' s) p.fixed;
    next = omega arith;
  }

  pub labelled_counts : {n m : ℕ} {u : Ident S} {a : Tree S tree.stmt} {s : S}
      → Counts n a m
      → Counts n (tree.labelled u a s) m
  labelled_counts {n} {m} {u} {a} {s} p = record {
    fixed = ap (λ (a' : Tree S tree.stmt). tree.labelled u a' s) p.fixed;
    next = omega arith;
  }

  pub throw_counts : {n m : ℕ} {a : Tree S tree.expr} {s : S}
      → Counts n a m
      → Counts n (tree.throw a s) m
  throw_counts {n} {m} {a} {s} p = record {
    fixed = ap (λ (a' : Tree S tree.expr). tree.throw a' s) p.fixed;
    next = omega arith;
  }

  pub init_expression_counts : {n m : ℕ} {a : Tree S tree.expr}
      → Counts n a m
      → Counts n (tree.init_expression a) m
  init_expression_counts {n} {m} {a} p = record {
    fixed = ap (λ (a' : Tree S tree.expr). tree.init_expression a') p.fixed;
    next = omega arith;
  }

  pub init_var_counts : {n m : ℕ} {a : Forest S tree.decl}
      → CountsAll n a m
      → Counts n (tree.init_var a) m
  init_var_counts {n} {m} {a} p = record {
    fixed = ap (λ (a' : Forest S tree.decl). tree.init_var a') p.fixed;
    next = omega arith;
  }

  pub declarator_counts : {n m : ℕ} {u : Ident S} {a : OptionalTree S tree.expr}
      → CountsIfPresent n a m
      → Counts n (tree.declarator u a) m
  declarator_counts {n} {m} {u} {a} p = record {
    fixed = ap (λ (a' : OptionalTree S tree.expr). tree.declarator u a') p.fixed;
    next = omega arith;
  }

  pub branch_of_counts : {n m : ℕ} {a : Forest S tree.stmt}
      → CountsAll n a m
      → Counts n (tree.branch_of a) m
  branch_of_counts {n} {m} {a} p = record {
    fixed = ap (λ (a' : Forest S tree.stmt). tree.branch_of a') p.fixed;
    next = omega arith;
  }

  pub catch_counts : {n m : ℕ} {u : Ident S} {a : Forest S tree.stmt}
      → CountsAll n a m
      → Counts n (tree.catch u a) m
  catch_counts {n} {m} {u} {a} p = record {
    fixed = ap (λ (a' : Forest S tree.stmt). tree.catch u a') p.fixed;
    next = omega arith;
  }

  pub one_counts : {n i m : ℕ} {x : Sort} {t : Tree S x} {l : Forest S x} → Counts n t i → CountsAll i l m
      → CountsAll n (tree.more t l) m
  one_counts {n} {i} {m} {x} {t} {l} p q = record {
    fixed = ap₂ (λ (u : Tree S x) (v : Forest S x). tree.more u v) p.fixed (later_all (omega arith) q);
    next = omega arith;
  }

  pub none_counts : {n : ℕ} {x : Sort} → CountsAll {S = S} {x = x} n tree.end n
  none_counts = record { fixed = refl; next = omega arith }

  pub absent_counts : {n : ℕ} {x : Sort} → CountsIfPresent {S = S} {x = x} n tree.absent n
  absent_counts = record { fixed = refl; next = omega arith }

  pub present_counts : {n m : ℕ} {x : Sort} {t : Tree S x} → Counts n t m → CountsIfPresent n (tree.present t) m
  present_counts {n} {m} {x} {t} p = record {
    fixed = ap (λ (u : Tree S x). tree.present u) p.fixed;
    next = p.next;
  }

  pub function_counts : {n m : ℕ} {a : Option (Ident S)} {ps : List (Ident S)} {b : Tree S tree.code} {s : S}
      → Counts (n + 1) b m → Counts n (tree.function n a ps b s) m
  function_counts {n} {m} {a} {ps} {b} {s} p = record {
    fixed = ap (λ (u : Tree S tree.code). tree.function n a ps u s) p.fixed;
    next = omega arith;
  }

  pub name_counts : {n : ℕ} {t : Text} {s : S} → Counts n (tree.name t s) n
  name_counts = record { fixed = refl; next = omega arith }

  pub string_counts : {n : ℕ} {t : Text} {s : S} → Counts n (tree.string t s) n
  string_counts = record { fixed = refl; next = omega arith }

  pub number_counts : {n : ℕ} {v : Number} {s : S} → Counts n (tree.number v s) n
  number_counts = record { fixed = refl; next = omega arith }

  pub target_counts : {n : ℕ} {t : Ident S} → Counts n (tree.to_name t) n
  target_counts = record { fixed = refl; next = omega arith }

  -- up to another number that is the same
  pub up_to : {n k m : ℕ} {x : Sort} {t : Tree S x} → Counts n t k → k ≡ m → Counts n t m
  up_to {n} {k} {m} {x} {t} p e = record { fixed = p.fixed; next = omega arith }
