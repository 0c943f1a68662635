-- Which trees have a canonical text that reads back: all that the grammar reads are such.
use Rattle.std.specs.Prelude.{◌≡◌, ◌≤◌, ℕ, Bool, true, false, ◌&&◌, List, [], ◌∷◌, Option, Some, None, length, pos}
use Rattle.jl_text.specs.Limits.{most_units}
use Rattle.jl_ast.specs.Numbering.{with_numbers}
use Rattle.jl_ast.specs.Tree.{Ident, Program, Sort, Tree, Forest, OptionalTree, Text}
use Rattle.jl_ast.specs.Tree as tree
use Rattle.jl_ast.specs.declared.ops.BinOp.{BinOp}
use Rattle.jl_ast.specs.declared.ops.BinOp.TheVariants as ops
use Rattle.jl_grammar.specs.Words.{word_of}
use Rattle.jl_num.specs.Number.{Number, largest}
use Rattle.jl_token.specs.Characters.{is_identifier_start, is_identifier_part}

-- an identifier name (7.6) with no escape
abbrev pub are_parts : List ℕ → Bool
are_parts [] = true
are_parts (u ∷ us) = is_identifier_part u && are_parts us

abbrev pub is_identifier_name : Text → Bool
is_identifier_name [] = false
is_identifier_name (u ∷ us) = is_identifier_start u && are_parts us

-- no text of a script has more units
abbrev pub IsShort : Text → Type 0
IsShort t = length t ≤ most_units

-- what may stand after a dot
pub record IsName (t : Text) : Type 0 where
  pub letters : is_identifier_name t ≡ true
  pub short : IsShort t

-- what may name a variable, a function or a label: no reserved word (7.6.1)
pub record IsIdentifier (t : Text) : Type 0 where
  pub name : IsName t
  pub free : word_of t ≡ None

-- a numeric literal has no terminal (7.8.3)
pub record IsLiteral (n : Number) : Type 0 where
  pub value : ℕ
  pub is : n ≡ Some (pos value)
  pub inside : value ≤ largest

-- an operator that has a compound assignment (11.13)
abbrev pub is_compound : BinOp → Bool
is_compound ops.Mul = true
is_compound ops.Div = true
is_compound ops.Rem = true
is_compound ops.Add = true
is_compound ops.Sub = true
is_compound ops.Shl = true
is_compound ops.Sar = true
is_compound ops.Shr = true
is_compound ops.BitAnd = true
is_compound ops.BitXor = true
is_compound ops.BitOr = true
is_compound _ = false

abbrev pub IsAssigning : Option BinOp → Type 0
IsAssigning None = Unit {0}
IsAssigning (Some op) = is_compound op ≡ true

abbrev pub IsOptionalIdentifier : {S : Type 0} → Option (Ident S) → Type 0
IsOptionalIdentifier None = Unit {0}
IsOptionalIdentifier (Some x) = IsIdentifier x.text

abbrev pub AreIdentifiers : {S : Type 0} → List (Ident S) → Type 0
AreIdentifiers [] = Unit {0}
AreIdentifiers (x ∷ xs) = IsIdentifier x.text × AreIdentifiers xs

-- a list with something in it
abbrev pub IsSome : {S : Type 0} {x : Sort} → Forest S x → Type 0
IsSome tree.end = ⊥
IsSome (tree.more t r) = Unit {0}

-- one of the two is there
abbrev pub IsEither : {S : Type 0} {x y : Sort} → OptionalTree S x → OptionalTree S y → Type 0
IsEither tree.absent tree.absent = ⊥
IsEither _ _ = Unit {0}

-- clauses of a `switch` with one default at most (12.11); with false there was one before
abbrev pub HasOneDefault : {S : Type 0} → (fresh : Bool) → Forest S tree.clause → Type 0
HasOneDefault fresh tree.end = Unit {0}
HasOneDefault fresh (tree.more (tree.case (tree.present a) ws) r) = HasOneDefault fresh r
HasOneDefault true (tree.more (tree.case tree.absent ws) r) = HasOneDefault false r
HasOneDefault false (tree.more (tree.case tree.absent ws) r) = ⊥

-- function declarations have names (clause 13)
abbrev pub AreNamed : {S : Type 0} → Forest S tree.func → Type 0
AreNamed tree.end = Unit {0}
AreNamed (tree.more (tree.function n None ps c s) r) = ⊥
AreNamed (tree.more (tree.function n (Some x) ps c s) r) = AreNamed r

-- the functions of accessors have no name, a getter no parameter, and a setter one (11.1.5)
abbrev pub IsGetter : {S : Type 0} → Tree S tree.func → Type 0
IsGetter (tree.function n None [] c s) = Unit {0}
IsGetter _ = ⊥

abbrev pub IsSetter : {S : Type 0} → Tree S tree.func → Type 0
IsSetter (tree.function n None (p ∷ []) c s) = Unit {0}
IsSetter _ = ⊥

abbrev mutual
  pub WellFormed : {S : Type 0} {x : Sort} → Tree S x → Type 0
  WellFormed (tree.this s) = Unit {0}
  WellFormed (tree.name t s) = IsIdentifier t
  WellFormed (tree.number n s) = IsLiteral n
  WellFormed (tree.string t s) = IsShort t
  WellFormed (tree.boolean b s) = Unit {0}
  WellFormed (tree.null s) = Unit {0}
  WellFormed (tree.array a s) = AllWellFormed a
  WellFormed (tree.object a s) = AllWellFormed a
  WellFormed (tree.function_expression a s) = WellFormed a
  WellFormed (tree.dot a t s) = WellFormed a × IsName t
  WellFormed (tree.index a b s) = WellFormed a × WellFormed b
  WellFormed (tree.call a b s) = WellFormed a × AllWellFormed b
  WellFormed (tree.new a b s) = WellFormed a × AllWellFormed b
  WellFormed (tree.unary op a s) = WellFormed a
  WellFormed (tree.update up prefix g s) = WellFormed g
  WellFormed (tree.binary op a b s) = WellFormed a × WellFormed b
  WellFormed (tree.and a b s) = WellFormed a × WellFormed b
  WellFormed (tree.or a b s) = WellFormed a × WellFormed b
  WellFormed (tree.conditional a b c s) = WellFormed a × WellFormed b × WellFormed c
  WellFormed (tree.assign op g a s) = IsAssigning op × WellFormed g × WellFormed a
  WellFormed (tree.comma a b s) = WellFormed a × WellFormed b
  WellFormed (tree.to_name x) = IsIdentifier x.text
  WellFormed (tree.to_dot a t s) = WellFormed a × IsName t
  WellFormed (tree.to_index a b s) = WellFormed a × WellFormed b
  WellFormed tree.hole = Unit {0}
  WellFormed (tree.filled a) = WellFormed a
  WellFormed (tree.value k a) = IsShort k.text × WellFormed a
  WellFormed (tree.getter k f) = IsShort k.text × IsGetter f × WellFormed f
  WellFormed (tree.setter k f) = IsShort k.text × IsSetter f × WellFormed f
  WellFormed (tree.function n x ps c s) = IsOptionalIdentifier x × AreIdentifiers ps × WellFormed c
  WellFormed (tree.body strict fs ws) = AreNamed fs × AllWellFormed fs × AllWellFormed ws
  WellFormed (tree.var ds s) = IsSome ds × AllWellFormed ds
  WellFormed (tree.empty s) = Unit {0}
  WellFormed (tree.expression a s) = WellFormed a
  WellFormed (tree.block ws s) = AllWellFormed ws
  WellFormed (tree.if_else a ws b s) = WellFormed a × AllWellFormed ws × OptionalWellFormed b
  WellFormed (tree.do_while ws a s) = AllWellFormed ws × WellFormed a
  WellFormed (tree.while a ws s) = WellFormed a × AllWellFormed ws
  WellFormed (tree.for i a b ws s) = WellFormed i × OptionalWellFormed a × OptionalWellFormed b × AllWellFormed ws
  WellFormed (tree.for_in is_var x a ws s) = IsIdentifier x.text × WellFormed a × AllWellFormed ws
  WellFormed (tree.continue x s) = IsOptionalIdentifier x
  WellFormed (tree.break x s) = IsOptionalIdentifier x
  WellFormed (tree.return a s) = OptionalWellFormed a
  WellFormed (tree.labelled x w s) = IsIdentifier x.text × WellFormed w
  WellFormed (tree.switch a cs s) = WellFormed a × HasOneDefault true cs × AllWellFormed cs
  WellFormed (tree.throw a s) = WellFormed a
  WellFormed (tree.try ws h b s) = AllWellFormed ws × IsEither h b × OptionalWellFormed h × OptionalWellFormed b
  WellFormed (tree.debugger s) = Unit {0}
  WellFormed tree.nothing = Unit {0}
  WellFormed (tree.init_expression a) = WellFormed a
  WellFormed (tree.init_var ds) = IsSome ds × AllWellFormed ds
  WellFormed (tree.declarator x a) = IsIdentifier x.text × OptionalWellFormed a
  WellFormed (tree.case a ws) = OptionalWellFormed a × AllWellFormed ws
  WellFormed (tree.branch_of ws) = AllWellFormed ws
  WellFormed (tree.catch x ws) = IsIdentifier x.text × AllWellFormed ws

  pub AllWellFormed : {S : Type 0} {x : Sort} → Forest S x → Type 0
  AllWellFormed tree.end = Unit {0}
  AllWellFormed (tree.more t r) = WellFormed t × AllWellFormed r

  pub OptionalWellFormed : {S : Type 0} {x : Sort} → OptionalTree S x → Type 0
  OptionalWellFormed tree.absent = Unit {0}
  OptionalWellFormed (tree.present t) = WellFormed t

-- a well formed program with its functions numbered
pub record IsWellFormed {S : Type 0} (p : Program S) : Type 0 where
  pub body : WellFormed p.body
  pub numbers : with_numbers p ≡ p
