-- The tokens of a well formed tree are at most as wide as the tree.
use Rattle.std.proofs.Common.{◌≡◌, ℕ, ◌+◌, ◌≤◌, Bool, true, false, not, ◌||◌, List, [], ◌∷◌, ◌++◌, arith}
use Rattle.std.proofs.Common.{subst, sym}
use Rattle.std.proofs.lemmas.Bool.Decides.{nat_tests}
use Rattle.std.specs.Prelude.{codes, nat_le, pred, if◌then◌else◌, Option, Some, None}
use Rattle.jl_ast.specs.Tree as tree
use Rattle.jl_ast.specs.Tree.{is_name, Forest, Ident, OptionalTree, Sort, Text, Tree}
use Rattle.jl_ast.specs.declared.ops.BinOp.{BinOp}
use Rattle.jl_print.specs.CanonicalTokens.{begins_otherwise, further, further_arguments, further_names}
use Rattle.jl_print.specs.CanonicalTokens.{is_string, items_after, last_item, optional_name, parameters}
use Rattle.jl_print.specs.CanonicalTokens.{tokens_after, tokens_of_all, tokens_of_arguments, tokens_of_declarators}
use Rattle.jl_print.specs.CanonicalTokens.{tokens_of_entries, tokens_of_items, tokens_of_node, tokens_of_optional}
use Rattle.jl_print.specs.Pieces.{in_parens, in_parens_unless, operator}
use Rattle.jl_print.specs.Precedence.{fits, is_in, operator_precedence}
use Rattle.jl_print.specs.WellFormed.{AllWellFormed, OptionalWellFormed, WellFormed}
use Rattle.jl_token.specs.declared.token.TokenKind.{TokenKind}
use Rattle.jl_read_back.specs.inner.Bytes.{most_bytes}
use Rattle.jl_read_back.specs.inner.Width.{names_width, optional_name_width, optional_width, separator}
use Rattle.jl_read_back.specs.inner.Width.{width, widths}
use Rattle.jl_read_back.proofs.Digits.{literal_few}
use Rattle.jl_read_back.proofs.Spelled.{assign_few, bracketed, directive_few, key_few, operator_few, prefix_few, size}
use Rattle.jl_read_back.proofs.Spelled.{size_append, string_is, update_few}

-- the brackets that an expression may need
abbrev brackets : {S : Type 0} {x : Sort} → Tree S x → ℕ
brackets (tree.unary o a s) = 4
brackets (tree.update up prefix g s) = 4
brackets (tree.binary o a b s) = 4
brackets (tree.and a b s) = 4
brackets (tree.or a b s) = 4
brackets (tree.conditional a b c s) = 4
brackets (tree.assign o g a s) = 4
brackets (tree.comma a b s) = 4
brackets _ = 0

zero_fits : (r : ℕ) → nat_le 0 r ≡ true
zero_fits r = grind (arith, nat_tests)

module _ (heavy : ℕ) where
  tight : {S : Type 0} (t : Tree S tree.expr) (r n : ℕ) → fits t r ≡ true → size heavy (tokens_of_node t) ≤ n
      → size heavy (in_parens_unless (fits t r) (tokens_of_node t)) ≤ n
  tight t r n e h = subst (λ b. size heavy (in_parens_unless b (tokens_of_node t)) ≤ n) (sym e) h

  -- an expression in its place
  held : {S : Type 0} (t : Tree S tree.expr) (r n : ℕ) → size heavy (tokens_of_node t) + brackets t ≤ n
      → size heavy (in_parens_unless (fits t r) (tokens_of_node t)) ≤ n
  held (tree.unary o a s) r n h = bracketed heavy _ _ n h
  held (tree.update up prefix g s) r n h = bracketed heavy _ _ n h
  held (tree.binary o a b s) r n h = bracketed heavy _ _ n h
  held (tree.and a b s) r n h = bracketed heavy _ _ n h
  held (tree.or a b s) r n h = bracketed heavy _ _ n h
  held (tree.conditional a b c s) r n h = bracketed heavy _ _ n h
  held (tree.assign o g a s) r n h = bracketed heavy _ _ n h
  held (tree.comma a b s) r n h = bracketed heavy _ _ n h
  held t r n h = tight t r n (zero_fits r) (omega arith)

  further_names_wide : {S : Type 0} (ps : List (Ident S)) → size heavy (further_names ps) ≤ names_width heavy ps
  further_names_wide [] = omega arith
  further_names_wide (p ∷ ps) = let a = further_names_wide ps in omega arith

  parameters_wide : {S : Type 0} (ps : List (Ident S)) → size heavy (parameters ps) ≤ names_width heavy ps + 4
  parameters_wide [] = omega arith
  parameters_wide (p ∷ ps) = let a = further_names_wide ps in omega (arith, size_append heavy)

  optional_name_wide : {S : Type 0} (x : Option (Ident S)) → size heavy (optional_name x) ≤ optional_name_width heavy x
  optional_name_wide None = omega arith
  optional_name_wide (Some x) = omega arith

  -- the callee of `new`
  callee_wide : (b : Bool) (ks : List TokenKind) → size heavy (if b then ks else in_parens ks) ≤ size heavy ks + 4
  callee_wide true ks = omega arith
  callee_wide false ks = omega (arith, size_append heavy)

  -- two operands, with the brackets of `in`
  joined : (o : BinOp) (ks ls : List TokenKind) (m n : ℕ) → size heavy ks ≤ m → size heavy ls ≤ n
      → size heavy (in_parens_unless (not (is_in o)) (ks ++ (operator o ∷ ls))) ≤ m + n + 15
  joined o ks ls m n h k =
      let a = operator_few heavy o in
      bracketed heavy (not (is_in o)) (ks ++ (operator o ∷ ls)) (m + n + 15) (omega (arith, size_append heavy))

  module _ {S : Type 0} where
    mutual
      unfolding tokens_of_node

      pub wide : {x : Sort} (t : Tree S x) → WellFormed t → size heavy (tokens_of_node t) + brackets t ≤ width heavy t
      wide (tree.this s) w = omega arith
      wide (tree.name t s) w = omega arith
      wide (tree.number n s) w = let a = literal_few heavy n w in omega arith
      wide (tree.string t s) w = let a = string_is heavy t in omega arith
      wide (tree.boolean true s) w = omega arith
      wide (tree.boolean false s) w = omega arith
      wide (tree.null s) w = omega arith
      wide (tree.array a s) w = let p = items_wide a w in omega (arith, size_append heavy)
      wide (tree.object a s) w = let p = entries_wide a w in omega (arith, size_append heavy)
      wide (tree.function_expression f s) w = let p = wide f w in omega arith
      wide (tree.dot a t s) w = let p = held a 0 (width heavy a) (wide a w.0) in omega (arith, size_append heavy)
      wide (tree.index a b s) w =
          let p = held a 0 (width heavy a) (wide a w.0) in let q = wide b w.1 in omega (arith, size_append heavy)
      wide (tree.call a b s) w =
          let p = held a 0 (width heavy a) (wide a w.0) in let q = arguments_wide b w.1 in
          omega (arith, size_append heavy)
      wide (tree.new a b s) w =
          let p = wide a w.0 in let c = callee_wide (is_name a) (tokens_of_node a) in
          let q = arguments_wide b w.1 in omega (arith, size_append heavy)
      wide (tree.unary o a s) w =
          let p = held a 2 (width heavy a) (wide a w) in let q = prefix_few heavy o in omega (arith, size_append heavy)
      wide (tree.update up true g s) w =
          let p = wide g w in let q = update_few heavy up in omega (arith, size_append heavy)
      wide (tree.update up false g s) w =
          let p = wide g w in let q = update_few heavy up in omega (arith, size_append heavy)
      wide (tree.binary o a b s) w =
          let p = held a (operator_precedence o) (width heavy a) (wide a w.0) in
          let q = held b (pred (operator_precedence o)) (width heavy b) (wide b w.1) in
          let h = joined o (in_parens_unless (fits a (operator_precedence o)) (tokens_of_node a))
          (in_parens_unless (fits b (pred (operator_precedence o))) (tokens_of_node b))
          (width heavy a) (width heavy b) p q in
          omega arith
      wide (tree.and a b s) w =
          let p = held a 11 (width heavy a) (wide a w.0) in let q = held b 10 (width heavy b) (wide b w.1) in
          omega (arith, size_append heavy)
      wide (tree.or a b s) w =
          let p = held a 12 (width heavy a) (wide a w.0) in let q = held b 11 (width heavy b) (wide b w.1) in
          omega (arith, size_append heavy)
      wide (tree.conditional a b c s) w =
          let p = held a 12 (width heavy a) (wide a w.0) in let q = held b 13 (width heavy b) (wide b w.1) in
          let r = held c 13 (width heavy c) (wide c w.2) in omega (arith, size_append heavy)
      wide (tree.assign None g a s) w =
          let p = wide g w.1 in let q = held a 13 (width heavy a) (wide a w.2) in omega (arith, size_append heavy)
      wide (tree.assign (Some o) g a s) w =
          let p = wide g w.1 in let q = held a 13 (width heavy a) (wide a w.2) in let r = assign_few heavy o in
          omega (arith, size_append heavy)
      wide (tree.comma a b s) w =
          let p = wide a w.0 in let q = held b 13 (width heavy b) (wide b w.1) in omega (arith, size_append heavy)
      wide (tree.to_name x) w = omega arith
      wide (tree.to_dot a t s) w = let p = held a 0 (width heavy a) (wide a w.0) in omega (arith, size_append heavy)
      wide (tree.to_index a b s) w =
          let p = held a 0 (width heavy a) (wide a w.0) in let q = wide b w.1 in omega (arith, size_append heavy)
      wide tree.hole w = omega arith
      wide (tree.filled a) w = let p = held a 13 (width heavy a) (wide a w) in omega arith
      wide (tree.value k a) w =
          let p = held a 13 (width heavy a) (wide a w.1) in let q = key_few heavy k.text in
          omega (arith, size_append heavy)
      wide (tree.getter k (tree.function m x ps c s)) w =
          let p = key_few heavy k.text in let q = parameters_wide ps in let r = wide c w.2.2 in
          omega (arith, size_append heavy)
      wide (tree.setter k (tree.function m x ps c s)) w =
          let p = key_few heavy k.text in let q = parameters_wide ps in let r = wide c w.2.2 in
          omega (arith, size_append heavy)
      wide (tree.function m x ps c s) w =
          let p = optional_name_wide x in let q = parameters_wide ps in let r = wide c w.2 in
          omega (arith, size_append heavy)
      wide (tree.body strict fs ws) w =
          let p = directive_few heavy strict in let q = all_wide fs w.1 in let r = all_wide ws w.2 in
          omega (arith, size_append heavy)
      wide (tree.var ds s) w = let p = declarators_wide ds w.1 in omega (arith, size_append heavy)
      wide (tree.empty s) w = omega arith
      wide (tree.expression a s) w =
          let p = wide a w in
          let q = bracketed heavy (not (begins_otherwise (tokens_of_node a) || is_string a)) (tokens_of_node a)
          (width heavy a + 4) (omega arith) in omega (arith, size_append heavy)
      wide (tree.block ws s) w = let p = all_wide ws w in omega (arith, size_append heavy)
      wide (tree.if_else a ws b s) w =
          let p = wide a w.0 in let q = all_wide ws w.1 in let r = after_wide (codes "else") b w.2 in
          simp (size_append heavy) (omega arith)
      wide (tree.do_while ws a s) w =
          let p = all_wide ws w.0 in let q = wide a w.1 in simp (size_append heavy) (omega arith)
      wide (tree.while a ws s) w =
          let p = wide a w.0 in let q = all_wide ws w.1 in simp (size_append heavy) (omega arith)
      wide (tree.for i a b ws s) w =
          let p = wide i w.0 in let q = optional_wide a w.1 in let r = optional_wide b w.2 in let u = all_wide ws w.3 in
          simp (size_append heavy) (omega arith)
      wide (tree.for_in true x a ws s) w =
          let p = wide a w.1 in let q = all_wide ws w.2 in simp (size_append heavy) (omega arith)
      wide (tree.for_in false x a ws s) w =
          let p = wide a w.1 in let q = all_wide ws w.2 in simp (size_append heavy) (omega arith)
      wide (tree.continue x s) w = let p = optional_name_wide x in simp (size_append heavy) (omega arith)
      wide (tree.break x s) w = let p = optional_name_wide x in simp (size_append heavy) (omega arith)
      wide (tree.return a s) w = let p = optional_wide a w in simp (size_append heavy) (omega arith)
      wide (tree.labelled x u s) w = let p = wide u w.1 in omega arith
      wide (tree.switch a cs s) w =
          let p = wide a w.0 in let q = all_wide cs w.2 in simp (size_append heavy) (omega arith)
      wide (tree.throw a s) w = let p = wide a w in simp (size_append heavy) (omega arith)
      wide (tree.try ws h b s) w =
          let p = all_wide ws w.0 in let q = optional_wide h w.2 in let r = after_wide (codes "finally") b w.3 in
          simp (size_append heavy) (omega arith)
      wide (tree.debugger s) w = omega arith
      wide tree.nothing w = omega arith
      wide (tree.init_expression a) w = let p = wide a w in omega arith
      wide (tree.init_var ds) w = let p = declarators_wide ds w.1 in omega arith
      wide (tree.declarator x tree.absent) w = omega arith
      wide (tree.declarator x (tree.present a)) w = let p = held a 13 (width heavy a) (wide a w.1) in omega arith
      wide (tree.case tree.absent ws) w = let p = all_wide ws w.1 in omega arith
      wide (tree.case (tree.present a) ws) w =
          let p = wide a w.0 in let q = all_wide ws w.1 in simp (size_append heavy) (omega arith)
      wide (tree.branch_of ws) w = let p = all_wide ws w in simp (size_append heavy) (omega arith)
      wide (tree.catch x ws) w = let p = all_wide ws w.1 in simp (size_append heavy) (omega arith)

      pub all_wide : {x : Sort} (r : Forest S x) → AllWellFormed r → size heavy (tokens_of_all r) ≤ widths heavy r
      all_wide tree.end w = omega arith
      all_wide (tree.more t r) w = let p = wide t w.0 in let q = all_wide r w.1 in omega (arith, size_append heavy)

      optional_wide : {x : Sort} (t : OptionalTree S x) → OptionalWellFormed t
          → size heavy (tokens_of_optional t) ≤ optional_width heavy t
      optional_wide tree.absent w = omega arith
      optional_wide (tree.present t) w = let p = wide t w in omega arith

      after_wide : {x : Sort} (u : Text) (t : OptionalTree S x) → OptionalWellFormed t
          → size heavy (tokens_after u t) ≤ most_bytes heavy u + 1 + optional_width heavy t
      after_wide u tree.absent w = omega arith
      after_wide u (tree.present t) w = let p = wide t w in omega arith

      arguments_wide : (r : Forest S tree.expr) → AllWellFormed r → size heavy (tokens_of_arguments r) ≤ widths heavy r
      arguments_wide tree.end w = omega arith
      arguments_wide (tree.more t r) w =
          let p = held t 13 (width heavy t) (wide t w.0) in let q = further_arguments_wide r w.1 in
          omega (arith, size_append heavy)

      further_arguments_wide : (r : Forest S tree.expr) → AllWellFormed r
          → size heavy (further_arguments r) ≤ widths heavy r
      further_arguments_wide tree.end w = omega arith
      further_arguments_wide (tree.more t r) w =
          let p = held t 13 (width heavy t) (wide t w.0) in let q = further_arguments_wide r w.1 in
          omega (arith, size_append heavy)

      entries_wide : (r : Forest S tree.entry) → AllWellFormed r → size heavy (tokens_of_entries r) ≤ widths heavy r
      entries_wide tree.end w = omega arith
      entries_wide (tree.more t r) w =
          let p = wide t w.0 in let q = further_wide r (omega arith) w.1 in omega (arith, size_append heavy)

      declarators_wide : (r : Forest S tree.decl) → AllWellFormed r
          → size heavy (tokens_of_declarators r) ≤ widths heavy r
      declarators_wide tree.end w = omega arith
      declarators_wide (tree.more t r) w =
          let p = wide t w.0 in let q = further_wide r (omega arith) w.1 in omega (arith, size_append heavy)

      further_wide : {x : Sort} (r : Forest S x) → 2 ≤ separator x → AllWellFormed r
          → size heavy (further r) ≤ widths heavy r
      further_wide tree.end h w = omega arith
      further_wide {x} (tree.more t r) h w =
          let p = wide t w.0 in let q = further_wide r h w.1 in omega (arith, size_append heavy)

      -- the elements of an array; one that is left out at the end has a comma
      items_wide : (r : Forest S tree.item) → AllWellFormed r → size heavy (tokens_of_items r) ≤ widths heavy r
      items_wide tree.end w = omega arith
      items_wide (tree.more t r) w =
          let p = items_after_wide t r (item_wide t w.0) w.1 in omega (arith, size_append heavy)

      item_wide : (t : Tree S tree.item) → WellFormed t
          → size heavy (tokens_of_node t) + size heavy (last_item t) ≤ width heavy t
      item_wide tree.hole w = omega arith
      item_wide (tree.filled a) w = let p = held a 13 (width heavy a) (wide a w) in omega arith

      items_after_wide : (t : Tree S tree.item) (r : Forest S tree.item)
          → size heavy (tokens_of_node t) + size heavy (last_item t) ≤ width heavy t → AllWellFormed r
          → size heavy (tokens_of_node t) + size heavy (items_after t r) ≤ width heavy t + widths heavy r
      items_after_wide t tree.end h w = omega arith
      items_after_wide t (tree.more u r) h w =
          let q = items_after_wide u r (item_wide u w.0) w.1 in omega (arith, size_append heavy)
