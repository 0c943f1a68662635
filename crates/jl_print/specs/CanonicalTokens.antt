-- The tokens that a program is written as: with a semicolon after each statement that has one in the standard, with
-- braces round each list of statements, and with brackets where an operand would be read otherwise, and round `in` and
-- round what `new` makes.
use Rattle.std.specs.Prelude.{pred, Bool, true, false, not, ◌||◌, List, [], ◌∷◌, ◌++◌, Option, Some, None, codes}
use Rattle.std.specs.Prelude.{if◌then◌else◌}
use Rattle.jl_ast.specs.Tree.{Ident, Program, Sort, Tree, Forest, OptionalTree, Text, is_name}
use Rattle.jl_ast.specs.Tree as tree
use Rattle.jl_token.specs.declared.punct.Punct.TheVariants as puncts
use Rattle.jl_token.specs.declared.token.TokenKind.{TokenKind}
use Rattle.jl_token.specs.declared.token.TokenKind.TheVariants as kinds
use Rattle.jl_grammar.specs.Next.{bars_expression}
use Rattle.jl_grammar.specs.Terminals.{terminal_of}
use Rattle.jl_print.specs.Precedence.{fits, is_in, operator_precedence}
use Rattle.jl_print.specs.Pieces.{name, punct, string, key, operator, prefix_operator, update_operator, assign_punct}
use Rattle.jl_print.specs.Pieces.{in_parens, in_parens_unless, within_braces}

abbrev pub comma : TokenKind
comma = punct puncts.Comma

abbrev pub semicolon : TokenKind
semicolon = punct puncts.Semicolon

abbrev pub colon : TokenKind
colon = punct puncts.Colon

abbrev pub open_paren : TokenKind
open_paren = punct puncts.LeftParen

abbrev pub close_paren : TokenKind
close_paren = punct puncts.RightParen

abbrev pub is_string : {S : Type 0} → Tree S tree.expr → Bool
is_string (tree.string t s) = true
is_string _ = false

-- it would be read as a block or as a function declaration (12.4)
abbrev pub begins_otherwise : List TokenKind → Bool
begins_otherwise [] = false
begins_otherwise (k ∷ ks) = bars_expression (terminal_of k)

-- FormalParameterList? in its brackets (clause 13)
abbrev pub further_names : {S : Type 0} → List (Ident S) → List TokenKind
further_names [] = []
further_names (p ∷ ps) = comma ∷ name p.text ∷ further_names ps

abbrev pub parameters : {S : Type 0} → List (Ident S) → List TokenKind
parameters [] = open_paren ∷ close_paren ∷ []
parameters (p ∷ ps) = open_paren ∷ name p.text ∷ (further_names ps ++ close_paren ∷ [])

abbrev pub optional_name : {S : Type 0} → Option (Ident S) → List TokenKind
optional_name None = []
optional_name (Some x) = name x.text ∷ []

-- the directive of strict code (14.1)
abbrev pub directive : Bool → List TokenKind
directive true = string (codes "use strict") ∷ semicolon ∷ []
directive false = []

-- an element that is left out at the end of an array has a comma after it (11.1.4)
abbrev pub last_item : {S : Type 0} → Tree S tree.item → List TokenKind
last_item tree.hole = comma ∷ []
last_item (tree.filled a) = []

unfoldable mutual
  pub tokens_of_node : {S : Type 0} {x : Sort} → Tree S x → List TokenKind
  -- primary expressions (11.1)
  tokens_of_node (tree.this s) = name (codes "this") ∷ []
  tokens_of_node (tree.name t s) = name t ∷ []
  tokens_of_node (tree.number n s) = kinds.Number n ∷ []
  tokens_of_node (tree.string t s) = string t ∷ []
  tokens_of_node (tree.boolean true s) = name (codes "true") ∷ []
  tokens_of_node (tree.boolean false s) = name (codes "false") ∷ []
  tokens_of_node (tree.null s) = name (codes "null") ∷ []
  tokens_of_node (tree.array a s) = punct puncts.LeftBracket ∷ (tokens_of_items a ++ punct puncts.RightBracket ∷ [])
  tokens_of_node (tree.object a s) = within_braces (tokens_of_entries a)
  tokens_of_node (tree.function_expression f s) = tokens_of_node f
  -- members, calls and `new` (11.2)
  tokens_of_node (tree.dot a t s) = in_parens_unless (fits a 0) (tokens_of_node a) ++ (punct puncts.Dot ∷ name t ∷ [])
  tokens_of_node (tree.index a b s) =
      in_parens_unless (fits a 0) (tokens_of_node a) ++
      (punct puncts.LeftBracket ∷ (tokens_of_node b ++ punct puncts.RightBracket ∷ []))
  tokens_of_node (tree.call a b s) = in_parens_unless (fits a 0) (tokens_of_node a) ++ in_parens (tokens_of_arguments b)
  tokens_of_node (tree.new a b s) =
      name (codes "new") ∷ ((if is_name a then tokens_of_node a else in_parens (tokens_of_node a)) ++
      in_parens (tokens_of_arguments b))
  -- operators (11.3 to 11.14)
  tokens_of_node (tree.unary op a s) = prefix_operator op ∷ in_parens_unless (fits a 2) (tokens_of_node a)
  tokens_of_node (tree.update up true g s) = update_operator up ∷ tokens_of_node g
  tokens_of_node (tree.update up false g s) = tokens_of_node g ++ update_operator up ∷ []
  tokens_of_node (tree.binary op a b s) =
      in_parens_unless (not (is_in op))
      (in_parens_unless (fits a (operator_precedence op)) (tokens_of_node a) ++
      (operator op ∷ in_parens_unless (fits b (pred (operator_precedence op))) (tokens_of_node b)))
  tokens_of_node (tree.and a b s) =
      in_parens_unless (fits a 11) (tokens_of_node a)
      ++ (punct puncts.AndAnd ∷ in_parens_unless (fits b 10) (tokens_of_node b))
  tokens_of_node (tree.or a b s) =
      in_parens_unless (fits a 12) (tokens_of_node a)
      ++ (punct puncts.OrOr ∷ in_parens_unless (fits b 11) (tokens_of_node b))
  tokens_of_node (tree.conditional a b c s) =
      in_parens_unless (fits a 12) (tokens_of_node a)
      ++ (punct puncts.Question ∷ (in_parens_unless (fits b 13) (tokens_of_node b) ++
      (colon ∷ in_parens_unless (fits c 13) (tokens_of_node c))))
  tokens_of_node (tree.assign None g a s) =
      tokens_of_node g ++ (punct puncts.Assign ∷ in_parens_unless (fits a 13) (tokens_of_node a))
  tokens_of_node (tree.assign (Some op) g a s) =
      tokens_of_node g ++ (punct (assign_punct op) ∷ in_parens_unless (fits a 13) (tokens_of_node a))
  tokens_of_node (tree.comma a b s) = tokens_of_node a ++ (comma ∷ in_parens_unless (fits b 13) (tokens_of_node b))
  -- what is assigned to
  tokens_of_node (tree.to_name x) = name x.text ∷ []
  tokens_of_node (tree.to_dot a t s) =
      in_parens_unless (fits a 0) (tokens_of_node a) ++ (punct puncts.Dot ∷ name t ∷ [])
  tokens_of_node (tree.to_index a b s) =
      in_parens_unless (fits a 0) (tokens_of_node a) ++
      (punct puncts.LeftBracket ∷ (tokens_of_node b ++ punct puncts.RightBracket ∷ []))
  -- the parts of array and object literals (11.1.4, 11.1.5)
  tokens_of_node tree.hole = []
  tokens_of_node (tree.filled a) = in_parens_unless (fits a 13) (tokens_of_node a)
  tokens_of_node (tree.value k a) = key k.text ∷ colon ∷ in_parens_unless (fits a 13) (tokens_of_node a)
  tokens_of_node (tree.getter k (tree.function n x ps c s)) =
      name (codes "get") ∷ key k.text ∷ (parameters ps ++ within_braces (tokens_of_node c))
  tokens_of_node (tree.setter k (tree.function n x ps c s)) =
      name (codes "set") ∷ key k.text ∷ (parameters ps ++ within_braces (tokens_of_node c))
  -- functions, and what they hold (clauses 13 and 14)
  tokens_of_node (tree.function n x ps c s) =
      name (codes "function") ∷ (optional_name x ++ (parameters ps ++ within_braces (tokens_of_node c)))
  tokens_of_node (tree.body strict fs ws) = directive strict ++ (tokens_of_all fs ++ tokens_of_all ws)
  -- statements (clause 12)
  tokens_of_node (tree.var ds s) = name (codes "var") ∷ (tokens_of_declarators ds ++ semicolon ∷ [])
  tokens_of_node (tree.empty s) = semicolon ∷ []
  tokens_of_node (tree.expression a s) =
      in_parens_unless (not (begins_otherwise (tokens_of_node a) || is_string a)) (tokens_of_node a) ++ semicolon ∷ []
  tokens_of_node (tree.block ws s) = within_braces (tokens_of_all ws)
  tokens_of_node (tree.if_else a ws b s) =
      name (codes "if") ∷ (in_parens (tokens_of_node a)
      ++ (within_braces (tokens_of_all ws) ++ tokens_after (codes "else") b))
  tokens_of_node (tree.do_while ws a s) =
      name (codes "do") ∷ (within_braces (tokens_of_all ws) ++
      (name (codes "while") ∷ (in_parens (tokens_of_node a) ++ semicolon ∷ [])))
  tokens_of_node (tree.while a ws s) =
      name (codes "while") ∷ (in_parens (tokens_of_node a) ++ within_braces (tokens_of_all ws))
  tokens_of_node (tree.for i a b ws s) =
      name (codes "for") ∷ (in_parens (tokens_of_node i ++
      (semicolon ∷ (tokens_of_optional a ++ (semicolon ∷ tokens_of_optional b)))) ++ within_braces (tokens_of_all ws))
  tokens_of_node (tree.for_in true x a ws s) =
      name (codes "for") ∷ (in_parens
      (name (codes "var") ∷ name x.text ∷ name (codes "in") ∷ tokens_of_node a) ++ within_braces (tokens_of_all ws))
  tokens_of_node (tree.for_in false x a ws s) =
      name (codes "for") ∷ (in_parens (name x.text ∷ name (codes "in") ∷ tokens_of_node a) ++ within_braces
      (tokens_of_all ws))
  tokens_of_node (tree.continue x s) = name (codes "continue") ∷ (optional_name x ++ semicolon ∷ [])
  tokens_of_node (tree.break x s) = name (codes "break") ∷ (optional_name x ++ semicolon ∷ [])
  tokens_of_node (tree.return a s) = name (codes "return") ∷ (tokens_of_optional a ++ semicolon ∷ [])
  tokens_of_node (tree.labelled x w s) = name x.text ∷ colon ∷ tokens_of_node w
  tokens_of_node (tree.switch a cs s) =
      name (codes "switch") ∷ (in_parens (tokens_of_node a) ++ within_braces (tokens_of_all cs))
  tokens_of_node (tree.throw a s) = name (codes "throw") ∷ (tokens_of_node a ++ semicolon ∷ [])
  tokens_of_node (tree.try ws h b s) =
      name (codes "try") ∷ (within_braces (tokens_of_all ws)
      ++ (tokens_of_optional h ++ tokens_after (codes "finally") b))
  tokens_of_node (tree.debugger s) = name (codes "debugger") ∷ semicolon ∷ []
  -- the parts of statements
  tokens_of_node tree.nothing = []
  tokens_of_node (tree.init_expression a) = tokens_of_node a
  tokens_of_node (tree.init_var ds) = name (codes "var") ∷ tokens_of_declarators ds
  tokens_of_node (tree.declarator x tree.absent) = name x.text ∷ []
  tokens_of_node (tree.declarator x (tree.present a)) =
      name x.text ∷ punct puncts.Assign ∷ in_parens_unless (fits a 13) (tokens_of_node a)
  tokens_of_node (tree.case tree.absent ws) = name (codes "default") ∷ colon ∷ tokens_of_all ws
  tokens_of_node (tree.case (tree.present a) ws) =
      name (codes "case") ∷ (tokens_of_node a ++ (colon ∷ tokens_of_all ws))
  tokens_of_node (tree.branch_of ws) = within_braces (tokens_of_all ws)
  tokens_of_node (tree.catch x ws) =
      name (codes "catch") ∷ open_paren ∷ name x.text ∷ close_paren ∷ within_braces (tokens_of_all ws)

  -- one after the other
  pub tokens_of_all : {S : Type 0} {x : Sort} → Forest S x → List TokenKind
  tokens_of_all tree.end = []
  tokens_of_all (tree.more t r) = tokens_of_node t ++ tokens_of_all r

  pub tokens_of_optional : {S : Type 0} {x : Sort} → OptionalTree S x → List TokenKind
  tokens_of_optional tree.absent = []
  tokens_of_optional (tree.present t) = tokens_of_node t

  -- a word, and what stands after it, if there is something
  pub tokens_after : {S : Type 0} {x : Sort} → Text → OptionalTree S x → List TokenKind
  tokens_after w tree.absent = []
  tokens_after w (tree.present t) = name w ∷ tokens_of_node t

  -- with commas between them: arguments, properties, declarators, and the elements of an array
  pub tokens_of_arguments : {S : Type 0} → Forest S tree.expr → List TokenKind
  tokens_of_arguments tree.end = []
  tokens_of_arguments (tree.more t r) = in_parens_unless (fits t 13) (tokens_of_node t) ++ further_arguments r

  pub further_arguments : {S : Type 0} → Forest S tree.expr → List TokenKind
  further_arguments tree.end = []
  further_arguments (tree.more t r) = comma ∷ (in_parens_unless (fits t 13) (tokens_of_node t) ++ further_arguments r)

  pub tokens_of_entries : {S : Type 0} → Forest S tree.entry → List TokenKind
  tokens_of_entries tree.end = []
  tokens_of_entries (tree.more t r) = tokens_of_node t ++ further r

  pub tokens_of_declarators : {S : Type 0} → Forest S tree.decl → List TokenKind
  tokens_of_declarators tree.end = []
  tokens_of_declarators (tree.more t r) = tokens_of_node t ++ further r

  pub further : {S : Type 0} {x : Sort} → Forest S x → List TokenKind
  further tree.end = []
  further (tree.more t r) = comma ∷ (tokens_of_node t ++ further r)

  pub tokens_of_items : {S : Type 0} → Forest S tree.item → List TokenKind
  tokens_of_items tree.end = []
  tokens_of_items (tree.more t r) = tokens_of_node t ++ items_after t r

  pub items_after : {S : Type 0} → Tree S tree.item → Forest S tree.item → List TokenKind
  items_after t tree.end = last_item t
  items_after t (tree.more u r) = comma ∷ (tokens_of_node u ++ items_after u r)

abbrev pub tokens_of : {S : Type 0} → Program S → List TokenKind
tokens_of p = tokens_of_node p.body
