-- What is written of a well formed tree can be laid out.
use Rattle.std.proofs.Common.{◌≡◌, ℕ, ◌≤◌, Bool, true, false, not, ◌&&◌, ◌||◌, ◌==◌, refl, ap, ◌∙◌, sym, subst}
use Rattle.std.proofs.Common.{List, [], ◌∷◌, ◌++◌, ◌⊎◌, inl, inr, arith, length}
use Rattle.std.specs.Prelude.{Option, Some, None, codes, nat_le, if◌then◌else◌}
use Rattle.std.proofs.lemmas.Bool.{leb-true}
use Rattle.jl_ast.specs.declared.ops.BinOp.{BinOp}
use Rattle.jl_ast.specs.declared.ops.BinOp.TheVariants as ops
use Rattle.jl_ast.specs.declared.ops.UnOp.{UnOp}
use Rattle.jl_ast.specs.declared.ops.UnOp.TheVariants as prefixes
use Rattle.jl_ast.specs.Tree.{Ident, Sort, Tree, Forest, OptionalTree, Text, is_name}
use Rattle.jl_ast.specs.Tree as tree
use Rattle.jl_token.specs.Characters.{is_identifier_start, is_identifier_part}
use Rattle.jl_token.specs.declared.punct.Punct.{Punct}
use Rattle.jl_token.specs.declared.punct.Punct.TheVariants as puncts
use Rattle.jl_token.specs.declared.token.TokenKind.{TokenKind}
use Rattle.jl_token.specs.declared.token.TokenKind.TheVariants as kinds
use Rattle.jl_token.proofs.Tests.{or_cases, and_true, is_unit}
use Rattle.jl_token.proofs.Units.{units, each_between}
use Rattle.jl_print.specs.Layout.{is_dot}
use Rattle.jl_print.specs.Pieces.{name, punct, string, key, is_bare_key, is_plain_letter, is_plain_digit, are_plain}
use Rattle.jl_print.specs.Pieces.{operator, prefix_operator, update_operator, assign_punct, in_parens}
use Rattle.jl_print.specs.Pieces.{in_parens_unless, within_braces}
use Rattle.jl_print.specs.Precedence.{fits, is_in, operator_precedence}
use Rattle.jl_print.specs.WellFormed.{WellFormed, AllWellFormed, OptionalWellFormed, IsName, IsShort}
use Rattle.jl_print.specs.WellFormed.{IsOptionalIdentifier, AreIdentifiers, is_identifier_name, are_parts}
use Rattle.jl_print.specs.CanonicalTokens.{tokens_of_node, tokens_of_all, tokens_of_optional, tokens_after}
use Rattle.jl_print.specs.CanonicalTokens.{tokens_of_arguments}
use Rattle.jl_print.specs.CanonicalTokens.{further_arguments, tokens_of_entries, tokens_of_declarators, further}
use Rattle.jl_print.specs.CanonicalTokens.{tokens_of_items}
use Rattle.jl_print.specs.CanonicalTokens.{items_after, parameters, further_names, optional_name, directive}
use Rattle.jl_print.specs.CanonicalTokens.{last_item}
use Rattle.jl_print.proofs.Lexed.{IsClean, CleanFrom}

-- whether the last one is a dot
abbrev ends_dot : Bool → List TokenKind → Bool
ends_dot d [] = d
ends_dot d (k ∷ ks) = ends_dot (is_dot k) ks

clean_append : (d : Bool) (a b : List TokenKind) → CleanFrom d a → CleanFrom (ends_dot d a) b → CleanFrom d (a ++ b)
clean_append d [] b w v = v
clean_append d (k ∷ a) b w v = (w.0, w.1, clean_append (is_dot k) a b w.2 v)

ends_append : (d : Bool) (a b : List TokenKind) → ends_dot d (a ++ b) ≡ ends_dot (ends_dot d a) b
ends_append d [] b = refl
ends_append d (k ∷ a) b = ends_append (is_dot k) a b

-- can be laid out, and ends with no dot
pub record Good (ks : List TokenKind) : Type 0 where
  pub clean : CleanFrom false ks
  pub ends : ends_dot false ks ≡ false

none : Good []
none = record { clean = tt; ends = refl }

infix_node : {a b : List TokenKind} → Good a → Good b → Good (a ++ b)
infix_node {a} {b} p q = record {
  clean = clean_append false a b p.clean (subst (λ d. CleanFrom d b) (sym p.ends) q.clean);
  ends = ends_append false a b ∙ ap (λ d. ends_dot d b) p.ends ∙ q.ends;
}

-- a kind that is no dot
token : (k : TokenKind) {ks : List TokenKind} → IsClean k → is_dot k ≡ false → Good ks → Good (k ∷ ks)
token k {ks} w e p = record {
  clean = (w, refl, subst (λ d. CleanFrom d ks) (sym e) p.clean);
  ends = ap (λ d. ends_dot d ks) e ∙ p.ends;
}

-- a dot and a name after it
dotted : (t : Text) → IsName t → Good (punct puncts.Dot ∷ name t ∷ [])
dotted t w = record { clean = (tt, refl, ((refl, w), refl, tt)); ends = refl }

named : {t : Text} {ks : List TokenKind} → IsName t → Good ks → Good (name t ∷ ks)
named {t} w p = token (name t) (refl, w) refl p

terminal : (p : Punct) {ks : List TokenKind} → is_dot (punct p) ≡ false → Good ks → Good (punct p ∷ ks)
terminal p e q = token (punct p) tt e q

-- a word of the language
word : (t : Text) {ks : List TokenKind} → is_identifier_name t ≡ true → length t ≤ 1048576 → Good ks
    → Good (name t ∷ ks)
word t h l p = named (record { letters = h; short = l }) p

written_string : (t : Text) {ks : List TokenKind} → IsShort t → Good ks → Good (string t ∷ ks)
written_string t w p = token (string t) (refl, w) refl p

-- bare keys are names
letter_starts : (u : ℕ) → is_plain_letter u ≡ true → is_identifier_start u ≡ true
unfolding units
letter_starts u h = elim (or_cases (nat_le 65 u && nat_le u 90) _ h) [
  | inl a ↦ (let b = and_true (nat_le 65 u) (nat_le u 90) a in
      let c = leb-true 65 u b.0 in let d = leb-true u 90 b.1 in
      each_between is_identifier_start 65 26 refl u c (omega arith))
  | inr a ↦ elim (or_cases (nat_le 97 u && nat_le u 122) _ a) [
    | inl b ↦ (let c = and_true (nat_le 97 u) (nat_le u 122) b in
        let d = leb-true 97 u c.0 in let e = leb-true u 122 c.1 in
        each_between is_identifier_start 97 26 refl u d (omega arith))
    | inr b ↦ elim (or_cases (u == 36) (u == 95) b) [
      | inl c ↦ subst (λ v. is_identifier_start v ≡ true) (sym (is_unit u 36 c)) refl
      | inr c ↦ subst (λ v. is_identifier_start v ≡ true) (sym (is_unit u 95 c)) refl
    ]
  ]
]

start_is_part : (u : ℕ) → is_identifier_start u ≡ true → is_identifier_part u ≡ true
unfolding is_identifier_part
start_is_part u h = rw h refl

digit_is_part : (u : ℕ) → is_plain_digit u ≡ true → is_identifier_part u ≡ true
unfolding units
digit_is_part u h =
    let b = and_true (nat_le 48 u) (nat_le u 57) h in let c = leb-true 48 u b.0 in let d = leb-true u 57 b.1 in
    each_between is_identifier_part 48 10 refl u c (omega arith)

plain_parts : (us : List ℕ) → are_plain us ≡ true → are_parts us ≡ true
plain_parts [] h = refl
plain_parts (u ∷ us) h =
    let p = and_true (is_plain_letter u || is_plain_digit u) (are_plain us) h in
    rw (one (or_cases (is_plain_letter u) (is_plain_digit u) p.0)) (plain_parts us p.1)
  where
    one : (is_plain_letter u ≡ true) ⊎ (is_plain_digit u ≡ true) → is_identifier_part u ≡ true
    one (inl a) = start_is_part u (letter_starts u a)
    one (inr a) = digit_is_part u a

bare_is_name : (t : Text) → is_bare_key t ≡ true → is_identifier_name t ≡ true
bare_is_name [] h = cc
bare_is_name (u ∷ us) h =
    let p = and_true (is_plain_letter u) (are_plain us) h in
    rw (letter_starts u p.0) (plain_parts us p.1)

keyed : (t : Text) {ks : List TokenKind} → IsShort t → Good ks → Good (key t ∷ ks)
keyed t {ks} w p = go (is_bare_key t) refl
  where
    go : (b : Bool) → is_bare_key t ≡ b → Good ((if b then name t else string t) ∷ ks)
    go true e = named (record { letters = bare_is_name t e; short = w }) p
    go false e = written_string t w p

parens : {ks : List TokenKind} → Good ks → Good (in_parens ks)
parens p = terminal puncts.LeftParen refl (infix_node p (terminal puncts.RightParen refl none))

squares : {ks : List TokenKind} → Good ks
    → Good (punct puncts.LeftBracket ∷ (ks ++ punct puncts.RightBracket ∷ []))
squares p = terminal puncts.LeftBracket refl (infix_node p (terminal puncts.RightBracket refl none))

braces : {ks : List TokenKind} → Good ks → Good (within_braces ks)
braces p = terminal puncts.LeftBrace refl (infix_node p (terminal puncts.RightBrace refl none))

fitting : (b : Bool) {ks : List TokenKind} → Good ks → Good (in_parens_unless b ks)
fitting true p = p
fitting false p = parens p

operated : (op : BinOp) {ks : List TokenKind} → Good ks → Good (operator op ∷ ks)
unfolding units
operated ops.InstanceOf p = word (codes "instanceof") refl (omega arith) p
operated ops.In p = word (codes "in") refl (omega arith) p
operated _ p = token _ tt refl p

prefixed : (op : UnOp) {ks : List TokenKind} → Good ks → Good (prefix_operator op ∷ ks)
unfolding units
prefixed prefixes.Typeof p = word (codes "typeof") refl (omega arith) p
prefixed prefixes.Void p = word (codes "void") refl (omega arith) p
prefixed prefixes.Delete p = word (codes "delete") refl (omega arith) p
prefixed _ p = token _ tt refl p

updated : (up : Bool) {ks : List TokenKind} → Good ks → Good (update_operator up ∷ ks)
updated true p = terminal puncts.PlusPlus refl p
updated false p = terminal puncts.MinusMinus refl p

assigned : (op : BinOp) {ks : List TokenKind} → Good ks → Good (punct (assign_punct op) ∷ ks)
assigned ops.Mul p = terminal _ refl p
assigned _ p = terminal _ refl p

semi : {ks : List TokenKind} → Good ks → Good (punct puncts.Semicolon ∷ ks)
semi p = terminal puncts.Semicolon refl p

names_good : {S : Type 0} (ps : List (Ident S)) → AreIdentifiers ps → Good (further_names ps)
names_good [] w = none
names_good (p ∷ ps) w = terminal puncts.Comma refl (named w.0.name (names_good ps w.1))

parameters_good : {S : Type 0} (ps : List (Ident S)) → AreIdentifiers ps → Good (parameters ps)
parameters_good [] w = parens none
parameters_good (p ∷ ps) w = parens (named w.0.name (names_good ps w.1))

optional_name_good : {S : Type 0} (x : Option (Ident S)) → IsOptionalIdentifier x → Good (optional_name x)
optional_name_good None w = none
optional_name_good (Some x) w = named w.name none

directive_good : (strict : Bool) → Good (directive strict)
directive_good true = written_string (codes "use strict") (omega arith) (semi none)
directive_good false = none

last_item_good : {S : Type 0} (t : Tree S tree.item) → Good (last_item t)
last_item_good tree.hole = terminal puncts.Comma refl none
last_item_good (tree.filled a) = none

callee_good : (b : Bool) {ks : List TokenKind} → Good ks → Good (if b then ks else in_parens ks)
callee_good true p = p
callee_good false p = parens p

else_word : IsName (codes "else")
unfolding units
else_word = record { letters = refl; short = omega arith }

finally_word : IsName (codes "finally")
unfolding units
finally_word = record { letters = refl; short = omega arith }

module _ {S : Type 0} where
  -- an expression in its place
  placed : (r : ℕ) (t : Tree S tree.expr) → Good (tokens_of_node t)
      → Good (in_parens_unless (fits t r) (tokens_of_node t))
  placed r t p = fitting (fits t r) p

  mutual
    unfolding tokens_of_node units

    pub good : {x : Sort} (t : Tree S x) → WellFormed t → Good (tokens_of_node t)
    good (tree.this s) w = word (codes "this") refl (omega arith) none
    good (tree.name t s) w = named w.name none
    good (tree.number n s) w = token (kinds.Number n) w refl none
    good (tree.string t s) w = written_string t w none
    good (tree.boolean true s) w = word (codes "true") refl (omega arith) none
    good (tree.boolean false s) w = word (codes "false") refl (omega arith) none
    good (tree.null s) w = word (codes "null") refl (omega arith) none
    good (tree.array a s) w = squares (good_items a w)
    good (tree.object a s) w = braces (good_entries a w)
    good (tree.function_expression f s) w = good f w
    good (tree.dot a t s) w = infix_node (placed 0 a (good a w.0)) (dotted t w.1)
    good (tree.index a b s) w = infix_node (placed 0 a (good a w.0)) (squares (good b w.1))
    good (tree.call a b s) w = infix_node (placed 0 a (good a w.0)) (parens (good_arguments b w.1))
    good (tree.new a b s) w = word (codes "new") refl (omega arith)
        (infix_node (callee_good (is_name a) (good a w.0)) (parens (good_arguments b w.1)))
    good (tree.unary op a s) w = prefixed op (placed 2 a (good a w))
    good (tree.update up true g s) w = updated up (good g w)
    good (tree.update up false g s) w = infix_node (good g w) (updated up none)
    good (tree.binary op a b s) w = fitting (not (is_in op))
        (infix_node (placed (operator_precedence op) a (good a w.0)) (operated op (placed _ b (good b w.1))))
    good (tree.and a b s) w = infix_node (placed 11 a (good a w.0)) (terminal _ refl (placed 10 b (good b w.1)))
    good (tree.or a b s) w = infix_node (placed 12 a (good a w.0)) (terminal _ refl (placed 11 b (good b w.1)))
    good (tree.conditional a b c s) w = infix_node (placed 12 a (good a w.0))
        (terminal _ refl (infix_node (placed 13 b (good b w.1)) (terminal _ refl (placed 13 c (good c w.2)))))
    good (tree.assign None g a s) w = infix_node (good g w.1) (terminal _ refl (placed 13 a (good a w.2)))
    good (tree.assign (Some op) g a s) w = infix_node (good g w.1) (assigned op (placed 13 a (good a w.2)))
    good (tree.comma a b s) w = infix_node (good a w.0) (terminal _ refl (placed 13 b (good b w.1)))
    good (tree.to_name x) w = named w.name none
    good (tree.to_dot a t s) w = infix_node (placed 0 a (good a w.0)) (dotted t w.1)
    good (tree.to_index a b s) w = infix_node (placed 0 a (good a w.0)) (squares (good b w.1))
    good tree.hole w = none
    good (tree.filled a) w = placed 13 a (good a w)
    good (tree.value k a) w = keyed k.text w.0 (terminal _ refl (placed 13 a (good a w.1)))
    good (tree.getter k (tree.function n x ps c s)) w = word (codes "get") refl (omega arith)
        (keyed k.text w.0 (infix_node (parameters_good ps w.2.1) (braces (good c w.2.2))))
    good (tree.setter k (tree.function n x ps c s)) w = word (codes "set") refl (omega arith)
        (keyed k.text w.0 (infix_node (parameters_good ps w.2.1) (braces (good c w.2.2))))
    good (tree.function n x ps c s) w = word (codes "function") refl (omega arith)
        (infix_node (optional_name_good x w.0) (infix_node (parameters_good ps w.1) (braces (good c w.2))))
    good (tree.body strict fs ws) w =
        infix_node (directive_good strict) (infix_node (good_all fs w.1) (good_all ws w.2))
    good (tree.var ds s) w = word (codes "var") refl (omega arith) (infix_node (good_declarators ds w.1) (semi none))
    good (tree.empty s) w = semi none
    good (tree.expression a s) w = infix_node (fitting _ (good a w)) (semi none)
    good (tree.block ws s) w = braces (good_all ws w)
    good (tree.if_else a ws b s) w = word (codes "if") refl (omega arith) (infix_node (parens (good a w.0))
        (infix_node (braces (good_all ws w.1)) (good_after (codes "else") b else_word w.2)))
    good (tree.do_while ws a s) w = word (codes "do") refl (omega arith) (infix_node (braces (good_all ws w.0))
        (word (codes "while") refl (omega arith) (infix_node (parens (good a w.1)) (semi none))))
    good (tree.while a ws s) w = word (codes "while") refl (omega arith)
        (infix_node (parens (good a w.0)) (braces (good_all ws w.1)))
    good (tree.for i a b ws s) w = word (codes "for") refl (omega arith) (infix_node
        (parens (infix_node (good i w.0) (semi (infix_node (good_optional a w.1) (semi (good_optional b w.2))))))
        (braces (good_all ws w.3)))
    good (tree.for_in true x a ws s) w = word (codes "for") refl (omega arith) (infix_node
        (parens (word (codes "var") refl (omega arith)
        (named w.0.name (word (codes "in") refl (omega arith) (good a w.1)))))
        (braces (good_all ws w.2)))
    good (tree.for_in false x a ws s) w = word (codes "for") refl (omega arith) (infix_node
        (parens (named w.0.name (word (codes "in") refl (omega arith) (good a w.1))))
        (braces (good_all ws w.2)))
    good (tree.continue x s) w =
        word (codes "continue") refl (omega arith) (infix_node (optional_name_good x w) (semi none))
    good (tree.break x s) w = word (codes "break") refl (omega arith) (infix_node (optional_name_good x w) (semi none))
    good (tree.return a s) w = word (codes "return") refl (omega arith) (infix_node (good_optional a w) (semi none))
    good (tree.labelled x u s) w = named w.0.name (terminal _ refl (good u w.1))
    good (tree.switch a cs s) w = word (codes "switch") refl (omega arith)
        (infix_node (parens (good a w.0)) (braces (good_all cs w.2)))
    good (tree.throw a s) w = word (codes "throw") refl (omega arith) (infix_node (good a w) (semi none))
    good (tree.try ws h b s) w = word (codes "try") refl (omega arith) (infix_node (braces (good_all ws w.0))
        (infix_node (good_optional h w.2) (good_after (codes "finally") b finally_word w.3)))
    good (tree.debugger s) w = word (codes "debugger") refl (omega arith) (semi none)
    good tree.nothing w = none
    good (tree.init_expression a) w = good a w
    good (tree.init_var ds) w = word (codes "var") refl (omega arith) (good_declarators ds w.1)
    good (tree.declarator x tree.absent) w = named w.0.name none
    good (tree.declarator x (tree.present a)) w = named w.0.name (terminal _ refl (placed 13 a (good a w.1)))
    good (tree.case tree.absent ws) w = word (codes "default") refl (omega arith) (terminal _ refl (good_all ws w.1))
    good (tree.case (tree.present a) ws) w = word (codes "case") refl (omega arith)
        (infix_node (good a w.0) (terminal _ refl (good_all ws w.1)))
    good (tree.branch_of ws) w = braces (good_all ws w)
    good (tree.catch x ws) w = word (codes "catch") refl (omega arith)
        (infix_node (parens (named w.0.name none)) (braces (good_all ws w.1)))

    good_all : {x : Sort} (r : Forest S x) → AllWellFormed r → Good (tokens_of_all r)
    good_all tree.end w = none
    good_all (tree.more t r) w = infix_node (good t w.0) (good_all r w.1)

    good_optional : {x : Sort} (t : OptionalTree S x) → OptionalWellFormed t → Good (tokens_of_optional t)
    good_optional tree.absent w = none
    good_optional (tree.present t) w = good t w

    good_after : {x : Sort} (u : Text) (t : OptionalTree S x) → IsName u → OptionalWellFormed t
        → Good (tokens_after u t)
    good_after u tree.absent h w = none
    good_after u (tree.present t) h w = named h (good t w)

    good_arguments : (r : Forest S tree.expr) → AllWellFormed r → Good (tokens_of_arguments r)
    good_arguments tree.end w = none
    good_arguments (tree.more t r) w = infix_node (placed 13 t (good t w.0)) (good_further_arguments r w.1)

    good_further_arguments : (r : Forest S tree.expr) → AllWellFormed r → Good (further_arguments r)
    good_further_arguments tree.end w = none
    good_further_arguments (tree.more t r) w =
        terminal _ refl (infix_node (placed 13 t (good t w.0)) (good_further_arguments r w.1))

    good_entries : (r : Forest S tree.entry) → AllWellFormed r → Good (tokens_of_entries r)
    good_entries tree.end w = none
    good_entries (tree.more t r) w = infix_node (good t w.0) (good_further r w.1)

    good_declarators : (r : Forest S tree.decl) → AllWellFormed r → Good (tokens_of_declarators r)
    good_declarators tree.end w = none
    good_declarators (tree.more t r) w = infix_node (good t w.0) (good_further r w.1)

    good_further : {x : Sort} (r : Forest S x) → AllWellFormed r → Good (further r)
    good_further tree.end w = none
    good_further (tree.more t r) w = terminal _ refl (infix_node (good t w.0) (good_further r w.1))

    good_items : (r : Forest S tree.item) → AllWellFormed r → Good (tokens_of_items r)
    good_items tree.end w = none
    good_items (tree.more t r) w = infix_node (good t w.0) (good_items_after t r w.1)

    good_items_after : (t : Tree S tree.item) (r : Forest S tree.item) → AllWellFormed r → Good (items_after t r)
    good_items_after t tree.end w = last_item_good t
    good_items_after t (tree.more u r) w = terminal _ refl (infix_node (good u w.0) (good_items_after u r w.1))
