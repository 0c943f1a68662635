-- The reader level by level, and the program that tokens are.
use Rattle.std.specs.Prelude.{ℕ, zero, suc, ◌*◌, ◌-◌, nat_eq, Bool, true, false, ◌&&◌, List}
use Rattle.std.specs.Prelude.{length, Option, Some, None, nat_le, if◌then◌else◌}
use Rattle.jl_ast.specs.Height.{program_height}
use Rattle.jl_ast.specs.Tree.{Program}
use Rattle.jl_text.specs.declared.span.Span.{Span}
use Rattle.jl_token.specs.declared.token.Token.{Token}
use Rattle.jl_grammar.specs.Brackets.{open_brackets}
use Rattle.jl_grammar.specs.Program.{program_of}
use Rattle.jl_grammar.specs.Reading.{◌>>=◌, Read}
use Rattle.jl_grammar.specs.Reading.{Deeper}
use Rattle.jl_grammar.specs.Reader.{assignment_at, binary_at, body_from, expression_at, left_at, rest_at}
use Rattle.jl_grammar.specs.Reader.{statement_at, unary_at}

-- with f levels left of which brackets that may still open have their share, where so many may be open
abbrev pub room_at : List Token → ℕ → ℕ → ℕ → ℕ
room_at ts brackets f i = f - (brackets - open_brackets ts i)

abbrev where_room : {A : Type 0} → ℕ → Read A → Read A
where_room most r = if nat_le 1 most then r else None

-- what is read with f more levels, where so many brackets may be open
unfoldable pub deeper : List Token → ℕ → ℕ → Deeper
deeper ts brackets zero = record {
  room = λ i. 0;
  expression = λ no_in i. None;
  assignment = λ no_in i. None;
  unary = λ i. None;
  binary = λ no_in m i. None;
  member = λ i. None;
  statement = λ i. None;
  rest = λ i. None;
}
deeper ts brackets (suc f) = record {
  room = λ i. room_at ts brackets (suc f) i;
  expression =
      λ no_in i. where_room (room_at ts brackets (suc f) i) (expression_at ts (deeper ts brackets f) no_in f i);
  assignment =
      λ no_in i. where_room (room_at ts brackets (suc f) i) (assignment_at ts (deeper ts brackets f) no_in f i);
  unary = λ i. where_room (room_at ts brackets (suc f) i) (unary_at ts (deeper ts brackets f) f i);
  binary = λ no_in m i. where_room (room_at ts brackets (suc f) i) (binary_at ts (deeper ts brackets f) no_in f m i);
  member = λ i. where_room (room_at ts brackets (suc f) i) (left_at ts (deeper ts brackets f) false f i);
  statement = λ i. where_room (room_at ts brackets (suc f) i) (statement_at ts (deeper ts brackets f) i);
  rest = λ i. where_room (room_at ts brackets (suc f) i) (rest_at ts (deeper ts brackets f) i);
}

abbrev pub is_shallow : List Token → ℕ → ℕ → Bool
is_shallow ts most zero = true
is_shallow ts most (suc n) = nat_le (open_brackets ts (suc n)) most && is_shallow ts most n

-- the program that the tokens are, if they are one within the limit
unfoldable pub program_at : List Token → ℕ → Option (Program Span)
program_at ts limit =
    if is_shallow ts (2 * limit) (length ts)
    then (body_from ts (deeper ts (2 * limit) (3 * limit)) (length ts) 0 >>= λ x.
    if nat_eq x.1 (length ts) && nat_le (program_height (program_of ts x.0)) limit then Some
    (program_of ts x.0) else None)
    else None
