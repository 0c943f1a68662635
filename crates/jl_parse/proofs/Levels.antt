-- What is read with a level less.
use Rattle.std.proofs.Common.{◌≡◌, ℕ, zero, suc, ◌-◌, Bool, refl, arith}
use Rattle.std.specs.Prelude.{List, None, false, true, nat_le}
use Rattle.jl_token.specs.declared.token.Token.{Token}
use Rattle.jl_grammar.specs.Reader.{expression_at, assignment_at, unary_at, binary_at, left_at, statement_at}
use Rattle.jl_grammar.specs.ReaderLevels.{deeper}
use Rattle.jl_grammar.specs.Reader.{rest_at}

pub no_expression : (ts : List Token) (b d : ℕ) (no_in : Bool) (i : ℕ) → nat_le 1 ((deeper ts b d).room i) ≡ false
    → (deeper ts b d).expression no_in i ≡ None
unfolding deeper
no_expression ts b zero no_in i h = refl
no_expression ts b (suc d) no_in i h = rw h

pub one_expression : (ts : List Token) (b d : ℕ) (no_in : Bool) (i : ℕ) → nat_le 1 ((deeper ts b d).room i) ≡ true
    → (deeper ts b d).expression no_in i ≡ expression_at ts (deeper ts b (d - 1)) no_in (d - 1) i
unfolding deeper
one_expression ts b zero no_in i h = cc
one_expression ts b (suc d) no_in i h = let e : suc d - 1 ≡ d = omega arith in rw (e, h)

pub no_assignment : (ts : List Token) (b d : ℕ) (no_in : Bool) (i : ℕ) → nat_le 1 ((deeper ts b d).room i) ≡ false
    → (deeper ts b d).assignment no_in i ≡ None
unfolding deeper
no_assignment ts b zero no_in i h = refl
no_assignment ts b (suc d) no_in i h = rw h

pub one_assignment : (ts : List Token) (b d : ℕ) (no_in : Bool) (i : ℕ) → nat_le 1 ((deeper ts b d).room i) ≡ true
    → (deeper ts b d).assignment no_in i ≡ assignment_at ts (deeper ts b (d - 1)) no_in (d - 1) i
unfolding deeper
one_assignment ts b zero no_in i h = cc
one_assignment ts b (suc d) no_in i h = let e : suc d - 1 ≡ d = omega arith in rw (e, h)

pub no_unary : (ts : List Token) (b d : ℕ) (i : ℕ) → nat_le 1 ((deeper ts b d).room i) ≡ false
    → (deeper ts b d).unary i ≡ None
unfolding deeper
no_unary ts b zero i h = refl
no_unary ts b (suc d) i h = rw h

pub one_unary : (ts : List Token) (b d : ℕ) (i : ℕ) → nat_le 1 ((deeper ts b d).room i) ≡ true
    → (deeper ts b d).unary i ≡ unary_at ts (deeper ts b (d - 1)) (d - 1) i
unfolding deeper
one_unary ts b zero i h = cc
one_unary ts b (suc d) i h = let e : suc d - 1 ≡ d = omega arith in rw (e, h)

pub no_binary : (ts : List Token) (b d : ℕ) (no_in : Bool) (m i : ℕ) → nat_le 1 ((deeper ts b d).room i) ≡ false
    → (deeper ts b d).binary no_in m i ≡ None
unfolding deeper
no_binary ts b zero no_in m i h = refl
no_binary ts b (suc d) no_in m i h = rw h

pub one_binary : (ts : List Token) (b d : ℕ) (no_in : Bool) (m i : ℕ) → nat_le 1 ((deeper ts b d).room i) ≡ true
    → (deeper ts b d).binary no_in m i ≡ binary_at ts (deeper ts b (d - 1)) no_in (d - 1) m i
unfolding deeper
one_binary ts b zero no_in m i h = cc
one_binary ts b (suc d) no_in m i h = let e : suc d - 1 ≡ d = omega arith in rw (e, h)

pub no_member : (ts : List Token) (b d : ℕ) (i : ℕ) → nat_le 1 ((deeper ts b d).room i) ≡ false
    → (deeper ts b d).member i ≡ None
unfolding deeper
no_member ts b zero i h = refl
no_member ts b (suc d) i h = rw h

pub one_member : (ts : List Token) (b d : ℕ) (i : ℕ) → nat_le 1 ((deeper ts b d).room i) ≡ true
    → (deeper ts b d).member i ≡ left_at ts (deeper ts b (d - 1)) false (d - 1) i
unfolding deeper
one_member ts b zero i h = cc
one_member ts b (suc d) i h = let e : suc d - 1 ≡ d = omega arith in rw (e, h)

pub no_statement : (ts : List Token) (b d : ℕ) (i : ℕ) → nat_le 1 ((deeper ts b d).room i) ≡ false
    → (deeper ts b d).statement i ≡ None
unfolding deeper
no_statement ts b zero i h = refl
no_statement ts b (suc d) i h = rw h

pub one_statement : (ts : List Token) (b d : ℕ) (i : ℕ) → nat_le 1 ((deeper ts b d).room i) ≡ true
    → (deeper ts b d).statement i ≡ statement_at ts (deeper ts b (d - 1)) i
unfolding deeper
one_statement ts b zero i h = cc
one_statement ts b (suc d) i h = let e : suc d - 1 ≡ d = omega arith in rw (e, h)

pub no_rest : (ts : List Token) (b d : ℕ) (i : ℕ) → nat_le 1 ((deeper ts b d).room i) ≡ false
    → (deeper ts b d).rest i ≡ None
unfolding deeper
no_rest ts b zero i h = refl
no_rest ts b (suc d) i h = rw h

pub one_rest : (ts : List Token) (b d : ℕ) (i : ℕ) → nat_le 1 ((deeper ts b d).room i) ≡ true
    → (deeper ts b d).rest i ≡ rest_at ts (deeper ts b (d - 1)) i
unfolding deeper
one_rest ts b zero i h = cc
one_rest ts b (suc d) i h = let e : suc d - 1 ≡ d = omega arith in rw (e, h)

pub ruleset levels = (
  no_expression,
  one_expression,
  no_assignment,
  one_assignment,
  no_unary,
  one_unary,
  no_binary,
  one_binary,
  no_member,
  one_member,
  no_statement,
  one_statement,
  no_rest,
  one_rest,
)
