-- What is written of a program doesn't depend on where its nodes stand.
use Rattle.std.proofs.Common.{◌≡◌, ◌∙◌, ℕ, true, false, List, [], ◌∷◌, ◌++◌, Option, Some, None, map, option_map}
use Rattle.std.proofs.Common.{refl, ap, ap₂}
use Rattle.std.specs.Prelude.{codes, not, pred, ◌||◌, if◌then◌else◌, nat_le}
use Rattle.jl_ast.specs.Spans.{ident, map_tree, map_forest, map_optional, without_spans}
use Rattle.jl_ast.specs.Tree as tree
use Rattle.jl_ast.specs.Tree.{Ident, Program, Sort, Tree, Forest, OptionalTree, Text, is_name}
use Rattle.jl_ast.proofs.Congruences.{ap₃, ap₄}
use Rattle.jl_token.specs.declared.punct.Punct.TheVariants as puncts
use Rattle.jl_print.specs.CanonicalTokens.{begins_otherwise, close_paren, colon, comma, directive, further}
use Rattle.jl_print.specs.CanonicalTokens.{further_arguments, further_names, is_string, items_after, last_item}
use Rattle.jl_print.specs.CanonicalTokens.{open_paren, optional_name, parameters, semicolon, tokens_after}
use Rattle.jl_print.specs.CanonicalTokens.{tokens_of_all}
use Rattle.jl_print.specs.CanonicalTokens.{tokens_of_arguments, tokens_of_declarators, tokens_of_entries}
use Rattle.jl_print.specs.CanonicalTokens.{tokens_of_items, tokens_of_node, tokens_of_optional}
use Rattle.jl_print.specs.Layout.{layout_of, text_of}
use Rattle.jl_print.specs.Pieces.{assign_punct, in_parens, in_parens_unless, key, name, operator, prefix_operator}
use Rattle.jl_print.specs.Pieces.{punct}
use Rattle.jl_print.specs.Pieces.{update_operator, within_braces}
use Rattle.jl_print.specs.Precedence.{fits, is_in, operator_precedence, precedence_of}

module _ {S T : Type 0} (f : S → T) where
  same_precedence : (a : Tree S tree.expr) → precedence_of (map_tree f a) ≡ precedence_of a
  same_precedence (tree.update up true g s) = refl
  same_precedence (tree.update up false g s) = refl
  same_precedence _ = refl

  also_name : (a : Tree S tree.expr) → is_name (map_tree f a) ≡ is_name a
  also_name (tree.name x s) = refl
  also_name _ = refl

  also_string : (a : Tree S tree.expr) → is_string (map_tree f a) ≡ is_string a
  also_string (tree.string x s) = refl
  also_string _ = refl

  same_names : (l : List (Ident S)) → further_names (map (ident f) l) ≡ further_names l
  same_names [] = refl
  same_names (p ∷ ps) = ap (λ l. comma ∷ name p.text ∷ l) (same_names ps)

  same_parameters : (l : List (Ident S)) → parameters (map (ident f) l) ≡ parameters l
  same_parameters [] = refl
  same_parameters (p ∷ ps) = ap (λ l. open_paren ∷ name p.text ∷ (l ++ close_paren ∷ [])) (same_names ps)

  same_name : (x : Option (Ident S)) → optional_name (option_map (ident f) x) ≡ optional_name x
  same_name None = refl
  same_name (Some x) = refl

  same_last : (t : Tree S tree.item) → last_item (map_tree f t) ≡ last_item t
  same_last tree.hole = refl
  same_last (tree.filled a) = refl

  -- an operand, in brackets or not
  operand : (n : ℕ) (a : Tree S tree.expr) → tokens_of_node (map_tree f a) ≡ tokens_of_node a
      → in_parens_unless (fits (map_tree f a) n) (tokens_of_node (map_tree f a))
      ≡ in_parens_unless (fits a n) (tokens_of_node a)
  operand n a e =
      ap (λ p. in_parens_unless (nat_le p n) (tokens_of_node (map_tree f a))) (same_precedence a)
      ∙ ap (in_parens_unless (fits a n)) e

  -- what `new` makes an instance of
  constructor : (a : Tree S tree.expr) → tokens_of_node (map_tree f a) ≡ tokens_of_node a
      → (if is_name (map_tree f a) then tokens_of_node (map_tree f a) else in_parens (tokens_of_node (map_tree f a)))
      ≡ (if is_name a then tokens_of_node a else in_parens (tokens_of_node a))
  constructor a e =
      ap (λ b. if b then tokens_of_node (map_tree f a) else in_parens (tokens_of_node (map_tree f a))) (also_name a)
      ∙ ap (λ l. if is_name a then l else in_parens l) e

  mutual
    unfolding tokens_of_node

    pub same_tokens : {x : Sort} (t : Tree S x) → tokens_of_node (map_tree f t) ≡ tokens_of_node t
    same_tokens (tree.this s) = refl
    same_tokens (tree.name t s) = refl
    same_tokens (tree.number n s) = refl
    same_tokens (tree.string t s) = refl
    same_tokens (tree.boolean true s) = refl
    same_tokens (tree.boolean false s) = refl
    same_tokens (tree.null s) = refl
    same_tokens (tree.array a s) =
        ap (λ l. punct puncts.LeftBracket ∷ (l ++ punct puncts.RightBracket ∷ [])) (same_items a)
    same_tokens (tree.object a s) = ap within_braces (same_entries a)
    same_tokens (tree.function_expression g s) = same_tokens g
    same_tokens (tree.dot a t s) = ap (λ l. l ++ (punct puncts.Dot ∷ name t ∷ [])) (operand 0 a (same_tokens a))
    same_tokens (tree.index a b s) =
        ap₂ (λ l m. l ++ (punct puncts.LeftBracket ∷ (m ++ punct puncts.RightBracket ∷ [])))
        (operand 0 a (same_tokens a)) (same_tokens b)
    same_tokens (tree.call a b s) = ap₂ (λ l m. l ++ in_parens m) (operand 0 a (same_tokens a)) (same_arguments b)
    same_tokens (tree.new a b s) =
        ap₂ (λ l m. name (codes "new") ∷ (l ++ in_parens m)) (constructor a (same_tokens a)) (same_arguments b)
    same_tokens (tree.unary op a s) = ap (λ l. prefix_operator op ∷ l) (operand 2 a (same_tokens a))
    same_tokens (tree.update up true g s) = ap (λ l. update_operator up ∷ l) (same_tokens g)
    same_tokens (tree.update up false g s) = ap (λ l. l ++ update_operator up ∷ []) (same_tokens g)
    same_tokens (tree.binary op a b s) =
        ap₂ (λ l m. in_parens_unless (not (is_in op)) (l ++ (operator op ∷ m)))
        (operand (operator_precedence op) a (same_tokens a)) (operand (pred (operator_precedence op)) b (same_tokens b))
    same_tokens (tree.and a b s) =
        ap₂ (λ l m. l ++ (punct puncts.AndAnd ∷ m)) (operand 11 a (same_tokens a)) (operand 10 b (same_tokens b))
    same_tokens (tree.or a b s) =
        ap₂ (λ l m. l ++ (punct puncts.OrOr ∷ m)) (operand 12 a (same_tokens a)) (operand 11 b (same_tokens b))
    same_tokens (tree.conditional a b c s) =
        ap₃ (λ l m n. l ++ (punct puncts.Question ∷ (m ++ (colon ∷ n)))) (operand 12 a (same_tokens a))
        (operand 13 b (same_tokens b)) (operand 13 c (same_tokens c))
    same_tokens (tree.assign None g a s) =
        ap₂ (λ l m. l ++ (punct puncts.Assign ∷ m)) (same_tokens g) (operand 13 a (same_tokens a))
    same_tokens (tree.assign (Some op) g a s) =
        ap₂ (λ l m. l ++ (punct (assign_punct op) ∷ m)) (same_tokens g) (operand 13 a (same_tokens a))
    same_tokens (tree.comma a b s) = ap₂ (λ l m. l ++ (comma ∷ m)) (same_tokens a) (operand 13 b (same_tokens b))
    same_tokens (tree.to_name x) = refl
    same_tokens (tree.to_dot a t s) = ap (λ l. l ++ (punct puncts.Dot ∷ name t ∷ [])) (operand 0 a (same_tokens a))
    same_tokens (tree.to_index a b s) =
        ap₂ (λ l m. l ++ (punct puncts.LeftBracket ∷ (m ++ punct puncts.RightBracket ∷ [])))
        (operand 0 a (same_tokens a)) (same_tokens b)
    same_tokens tree.hole = refl
    same_tokens (tree.filled a) = operand 13 a (same_tokens a)
    same_tokens (tree.value k a) = ap (λ l. key k.text ∷ colon ∷ l) (operand 13 a (same_tokens a))
    same_tokens (tree.getter k (tree.function n x ps c s)) =
        ap₂ (λ l m. name (codes "get") ∷ key k.text ∷ (l ++ within_braces m)) (same_parameters ps) (same_tokens c)
    same_tokens (tree.setter k (tree.function n x ps c s)) =
        ap₂ (λ l m. name (codes "set") ∷ key k.text ∷ (l ++ within_braces m)) (same_parameters ps) (same_tokens c)
    same_tokens (tree.function n x ps c s) =
        ap₃ (λ l m o. name (codes "function") ∷ (l ++ (m ++ within_braces o))) (same_name x) (same_parameters ps)
        (same_tokens c)
    same_tokens (tree.body strict fs ws) = ap₂ (λ l m. directive strict ++ (l ++ m)) (same_all fs) (same_all ws)
    same_tokens (tree.var ds s) = ap (λ l. name (codes "var") ∷ (l ++ semicolon ∷ [])) (same_declarators ds)
    same_tokens (tree.empty s) = refl
    same_tokens (tree.expression a s) =
        ap₂ (λ b l. in_parens_unless (not (begins_otherwise l || b)) l ++ semicolon ∷ []) (also_string a)
        (same_tokens a)
    same_tokens (tree.block ws s) = ap within_braces (same_all ws)
    same_tokens (tree.if_else a ws b s) =
        ap₃ (λ l m n. name (codes "if") ∷ (in_parens l ++ (within_braces m ++ n))) (same_tokens a) (same_all ws)
        (same_after (codes "else") b)
    same_tokens (tree.do_while ws a s) =
        ap₂ (λ l m. name (codes "do") ∷ (within_braces l ++
        (name (codes "while") ∷ (in_parens m ++ semicolon ∷ [])))) (same_all ws) (same_tokens a)
    same_tokens (tree.while a ws s) =
        ap₂ (λ l m. name (codes "while") ∷ (in_parens l ++ within_braces m)) (same_tokens a) (same_all ws)
    same_tokens (tree.for i a b ws s) =
        ap₄ (λ l m n o. name (codes "for") ∷ (in_parens (l ++
        (semicolon ∷ (m ++ (semicolon ∷ n)))) ++ within_braces o)) (same_tokens i) (same_optional a) (same_optional b)
        (same_all ws)
    same_tokens (tree.for_in true x a ws s) =
        ap₂ (λ l m. name (codes "for") ∷ (in_parens
        (name (codes "var") ∷ name x.text ∷ name (codes "in") ∷ l) ++ within_braces m)) (same_tokens a) (same_all ws)
    same_tokens (tree.for_in false x a ws s) =
        ap₂ (λ l m. name (codes "for") ∷ (in_parens (name x.text ∷ name (codes "in") ∷ l) ++ within_braces m))
        (same_tokens a) (same_all ws)
    same_tokens (tree.continue x s) = ap (λ l. name (codes "continue") ∷ (l ++ semicolon ∷ [])) (same_name x)
    same_tokens (tree.break x s) = ap (λ l. name (codes "break") ∷ (l ++ semicolon ∷ [])) (same_name x)
    same_tokens (tree.return a s) = ap (λ l. name (codes "return") ∷ (l ++ semicolon ∷ [])) (same_optional a)
    same_tokens (tree.labelled x w s) = ap (λ l. name x.text ∷ colon ∷ l) (same_tokens w)
    same_tokens (tree.switch a cs s) =
        ap₂ (λ l m. name (codes "switch") ∷ (in_parens l ++ within_braces m)) (same_tokens a) (same_all cs)
    same_tokens (tree.throw a s) = ap (λ l. name (codes "throw") ∷ (l ++ semicolon ∷ [])) (same_tokens a)
    same_tokens (tree.try ws h b s) =
        ap₃ (λ l m n. name (codes "try") ∷ (within_braces l ++ (m ++ n))) (same_all ws) (same_optional h)
        (same_after (codes "finally") b)
    same_tokens (tree.debugger s) = refl
    same_tokens tree.nothing = refl
    same_tokens (tree.init_expression a) = same_tokens a
    same_tokens (tree.init_var ds) = ap (λ l. name (codes "var") ∷ l) (same_declarators ds)
    same_tokens (tree.declarator x tree.absent) = refl
    same_tokens (tree.declarator x (tree.present a)) =
        ap (λ l. name x.text ∷ punct puncts.Assign ∷ l) (operand 13 a (same_tokens a))
    same_tokens (tree.case tree.absent ws) = ap (λ l. name (codes "default") ∷ colon ∷ l) (same_all ws)
    same_tokens (tree.case (tree.present a) ws) =
        ap₂ (λ l m. name (codes "case") ∷ (l ++ (colon ∷ m))) (same_tokens a) (same_all ws)
    same_tokens (tree.branch_of ws) = ap within_braces (same_all ws)
    same_tokens (tree.catch x ws) =
        ap (λ l. name (codes "catch") ∷ open_paren ∷ name x.text ∷ close_paren ∷ within_braces l) (same_all ws)

    same_all : {x : Sort} (l : Forest S x) → tokens_of_all (map_forest f l) ≡ tokens_of_all l
    same_all tree.end = refl
    same_all (tree.more t r) = ap₂ (λ l m. l ++ m) (same_tokens t) (same_all r)

    same_optional : {x : Sort} (o : OptionalTree S x) → tokens_of_optional (map_optional f o) ≡ tokens_of_optional o
    same_optional tree.absent = refl
    same_optional (tree.present t) = same_tokens t

    same_after : {x : Sort} (w : Text) (o : OptionalTree S x) → tokens_after w (map_optional f o) ≡ tokens_after w o
    same_after w tree.absent = refl
    same_after w (tree.present t) = ap (λ l. name w ∷ l) (same_tokens t)

    same_arguments : (l : Forest S tree.expr) → tokens_of_arguments (map_forest f l) ≡ tokens_of_arguments l
    same_arguments tree.end = refl
    same_arguments (tree.more t r) = ap₂ (λ l m. l ++ m) (operand 13 t (same_tokens t)) (same_further_arguments r)

    same_further_arguments : (l : Forest S tree.expr) → further_arguments (map_forest f l) ≡ further_arguments l
    same_further_arguments tree.end = refl
    same_further_arguments (tree.more t r) =
        ap₂ (λ l m. comma ∷ (l ++ m)) (operand 13 t (same_tokens t)) (same_further_arguments r)

    same_entries : (l : Forest S tree.entry) → tokens_of_entries (map_forest f l) ≡ tokens_of_entries l
    same_entries tree.end = refl
    same_entries (tree.more t r) = ap₂ (λ l m. l ++ m) (same_tokens t) (same_further r)

    same_declarators : (l : Forest S tree.decl) → tokens_of_declarators (map_forest f l) ≡ tokens_of_declarators l
    same_declarators tree.end = refl
    same_declarators (tree.more t r) = ap₂ (λ l m. l ++ m) (same_tokens t) (same_further r)

    same_further : {x : Sort} (l : Forest S x) → further (map_forest f l) ≡ further l
    same_further tree.end = refl
    same_further (tree.more t r) = ap₂ (λ l m. comma ∷ (l ++ m)) (same_tokens t) (same_further r)

    same_items : (l : Forest S tree.item) → tokens_of_items (map_forest f l) ≡ tokens_of_items l
    same_items tree.end = refl
    same_items (tree.more t r) = ap₂ (λ l m. l ++ m) (same_tokens t) (same_items_after t r)

    same_items_after : (t : Tree S tree.item) (l : Forest S tree.item)
        → items_after (map_tree f t) (map_forest f l) ≡ items_after t l
    same_items_after t tree.end = same_last t
    same_items_after t (tree.more u r) = ap₂ (λ l m. comma ∷ (l ++ m)) (same_tokens u) (same_items_after u r)

pub same_text : {S : Type 0} (p : Program S) → text_of (without_spans p) ≡ text_of p
same_text p = ap layout_of (same_tokens (λ s. tt) p.body)
