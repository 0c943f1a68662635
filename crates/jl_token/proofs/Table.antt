-- The table of punctuators: the first that fits is the longest that fits.
use Rattle.std.proofs.Common.{◌≡◌, refl, sym, ap, ◌∙◌, subst, ℕ, ◌<◌, ◌≤◌, ◌⊎◌, inl, inr, Bool, true, false, ◌&&◌, ◌||◌}
use Rattle.std.proofs.Common.{◌==◌, nat_le, List, [], ◌∷◌, ◌++◌, length, Option, Some, None, if◌then◌else◌, arith}
use Rattle.std.proofs.lemmas.Bool.{leb-true}
use Rattle.std.proofs.Common.{length-append, append-nil}
use Rattle.jl_token.specs.Characters.{is_white_space, is_line_terminator, is_identifier_start, is_digit, is_quote}
use Rattle.jl_token.specs.Characters.{first_is}
use Rattle.jl_token.specs.Punctuators.{punctuator_units, all_punctuators}
use Rattle.jl_token.specs.inner.Scanner.{strip, or_else, first_punctuator}
use Rattle.jl_token.specs.declared.punct.Punct.{Punct}
use Rattle.jl_token.specs.declared.punct.Punct.TheVariants.{LeftBrace, RightBrace, LeftParen, RightParen, LeftBracket}
use Rattle.jl_token.specs.declared.punct.Punct.TheVariants.{RightBracket, Dot, Semicolon, Comma, Less, Greater}
use Rattle.jl_token.specs.declared.punct.Punct.TheVariants.{LessEqual, GreaterEqual, Equal, NotEqual, StrictEqual}
use Rattle.jl_token.specs.declared.punct.Punct.TheVariants.{StrictNotEqual, Plus, Minus, Star, Percent, PlusPlus}
use Rattle.jl_token.specs.declared.punct.Punct.TheVariants.{MinusMinus, ShiftLeft, ShiftRight, ShiftRightUnsigned, And}
use Rattle.jl_token.specs.declared.punct.Punct.TheVariants.{Or, Caret, Bang, Tilde, AndAnd, OrOr, Question, Colon}
use Rattle.jl_token.specs.declared.punct.Punct.TheVariants.{Assign, PlusAssign, MinusAssign, StarAssign, PercentAssign}
use Rattle.jl_token.specs.declared.punct.Punct.TheVariants.{ShiftLeftAssign, ShiftRightAssign, ShiftRightUnsignedAssign}
use Rattle.jl_token.specs.declared.punct.Punct.TheVariants.{AndAssign, OrAssign, CaretAssign, Slash, SlashAssign}
use Rattle.jl_token.proofs.Tests.{and_true, is_unit, some_pair}
use Rattle.jl_token.proofs.Units.{units}

strip_complete : (ws rest : List ℕ) → strip ws (ws ++ rest) ≡ Some rest
unfolding strip
strip_complete [] rest = refl
strip_complete (w ∷ ws) rest = rw (same w) (strip_complete ws rest) where
  same : (n : ℕ) → (n == n) ≡ true
  same n = grind arith

strip_by : (w u : ℕ) (ws us rest : List ℕ) (b : Bool) → (u == w) ≡ b → (if b then strip ws us else None) ≡ Some rest
    → (strip ws us ≡ Some rest → us ≡ ws ++ rest) → u ∷ us ≡ w ∷ (ws ++ rest)
strip_by w u ws us rest true h e f = let a = is_unit u w h in let b = f e in cc
strip_by w u ws us rest false h e f = absurd cc

strip_sound : (ws us rest : List ℕ) → strip ws us ≡ Some rest → us ≡ ws ++ rest
unfolding strip
strip_sound [] us rest e = cc
strip_sound (w ∷ ws) [] rest e = absurd cc
strip_sound (w ∷ ws) (u ∷ us) rest e = strip_by w u ws us rest (u == w) refl e (strip_sound ws us rest)

-- a punctuator of a list
data In (p : Punct) : List Punct → Type 0 where
  here : {ps : List Punct} → In p (p ∷ ps)
  there : {q : Punct} {ps : List Punct} → In p ps → In p (q ∷ ps)

-- a test of each of a list
unfoldable every : (Punct → Bool) → List Punct → Bool
every f [] = true
every f (p ∷ ps) = f p && every f ps

every_in : (f : Punct → Bool) {p : Punct} {ps : List Punct} → every f ps ≡ true → In p ps → f p ≡ true
unfolding every
every_in f {p} h (here {ps}) = (and_true (f p) (every f ps) h).0
every_in f h (there {q} {ps} i) = every_in f (and_true (f q) (every f ps) h).1 i

-- no later one is longer
unfoldable longest_first : List Punct → Bool
longest_first [] = true
longest_first (p ∷ ps) =
    every (λ q. nat_le (length (punctuator_units q)) (length (punctuator_units p))) ps && longest_first ps

table_sorted : longest_first all_punctuators ≡ true
unfolding longest_first every
table_sorted = refl

-- what is found
pub record Fits (us : List ℕ) (p : Punct) (rest : List ℕ) : Type 0 where
  pub is : us ≡ punctuator_units p ++ rest

found_by : (q : Punct) (us : List ℕ) (others : Option (Punct × List ℕ)) (o : Option (List ℕ))
    → strip (punctuator_units q) us ≡ o → (p : Punct) (rest : List ℕ) → or_else q o others ≡ Some (p, rest)
    → (others ≡ Some (p, rest) → Fits us p rest) → Fits us p rest
unfolding or_else
found_by q us others None e p rest g f = f g
found_by q us others (Some r) e p rest g f = let a = some_pair g in
    subst (λ x. Fits us x rest) a.0
    (subst (λ x. Fits us q x) a.1 (record { is = strip_sound (punctuator_units q) us r e }))

pub first_sound : (ps : List Punct) (us : List ℕ) (p : Punct) (rest : List ℕ) → first_punctuator ps us ≡ Some (p, rest)
    → Fits us p rest
unfolding first_punctuator
first_sound [] us p rest e = absurd cc
first_sound (q ∷ ps) us p rest e =
    found_by q us (first_punctuator ps us) (strip (punctuator_units q) us) refl p rest e (first_sound ps us p rest)

in_by : (q : Punct) (ps : List Punct) (others : Option (Punct × List ℕ)) (o : Option (List ℕ)) (p : Punct)
    (rest : List ℕ) → or_else q o others ≡ Some (p, rest) → (others ≡ Some (p, rest) → In p ps) → In p (q ∷ ps)
unfolding or_else
in_by q ps others None p rest g f = there (f g)
in_by q ps others (Some r) p rest g f = subst (λ x. In x (q ∷ ps)) (some_pair g).0 here

found_in : (ps : List Punct) (us : List ℕ) (p : Punct) (rest : List ℕ) → first_punctuator ps us ≡ Some (p, rest)
    → In p ps
unfolding first_punctuator
found_in [] us p rest e = absurd cc
found_in (q ∷ ps) us p rest e =
    in_by q ps (first_punctuator ps us) (strip (punctuator_units q) us) p rest e (found_in ps us p rest)

-- each is in the table, and its units are its own
decoded : (p : Punct) → first_punctuator all_punctuators (punctuator_units p) ≡ Some (p, [])
unfolding first_punctuator or_else strip
decoded LeftBrace = refl
decoded RightBrace = refl
decoded LeftParen = refl
decoded RightParen = refl
decoded LeftBracket = refl
decoded RightBracket = refl
decoded Dot = refl
decoded Semicolon = refl
decoded Comma = refl
decoded Less = refl
decoded Greater = refl
decoded LessEqual = refl
decoded GreaterEqual = refl
decoded Equal = refl
decoded NotEqual = refl
decoded StrictEqual = refl
decoded StrictNotEqual = refl
decoded Plus = refl
decoded Minus = refl
decoded Star = refl
decoded Percent = refl
decoded PlusPlus = refl
decoded MinusMinus = refl
decoded ShiftLeft = refl
decoded ShiftRight = refl
decoded ShiftRightUnsigned = refl
decoded And = refl
decoded Or = refl
decoded Caret = refl
decoded Bang = refl
decoded Tilde = refl
decoded AndAnd = refl
decoded OrOr = refl
decoded Question = refl
decoded Colon = refl
decoded Assign = refl
decoded PlusAssign = refl
decoded MinusAssign = refl
decoded StarAssign = refl
decoded PercentAssign = refl
decoded ShiftLeftAssign = refl
decoded ShiftRightAssign = refl
decoded ShiftRightUnsignedAssign = refl
decoded AndAssign = refl
decoded OrAssign = refl
decoded CaretAssign = refl
decoded Slash = refl
decoded SlashAssign = refl

in_table : (p : Punct) → In p all_punctuators
in_table p = found_in all_punctuators (punctuator_units p) p [] (decoded p)

same_units : (p q : Punct) → punctuator_units p ≡ punctuator_units q → p ≡ q
same_units p q e = (some_pair (sym (decoded p) ∙ (ap (first_punctuator all_punctuators) e ∙ decoded q))).0

same_front : (a b x y : List ℕ) → a ++ x ≡ b ++ y → length a ≡ length b → (a ≡ b) × (x ≡ y)
same_front [] [] x y e h = (refl, e)
same_front [] (v ∷ b) x y e h = absurd (omega arith)
same_front (u ∷ a) [] x y e h = absurd (omega arith)
same_front (u ∷ a) (v ∷ b) x y e h =
    let f : u ≡ v = cc in let g : a ++ x ≡ b ++ y = cc in
    let r = same_front a b x y g (omega arith) in let s = r.0 in (cc, r.1)

-- what is found against a punctuator that fits
pub data Longest (o : Option (Punct × List ℕ)) (p : Punct) (rest : List ℕ) : Type 0 where
  longer : {q : Punct} {r : List ℕ} → o ≡ Some (q, r) → length r < length rest → Longest o p rest
  same : o ≡ Some (p, rest) → Longest o p rest

first_fits : (us : List ℕ) (p q : Punct) (rest r : List ℕ) → us ≡ punctuator_units p ++ rest
    → us ≡ punctuator_units q ++ r → length (punctuator_units p) ≤ length (punctuator_units q)
    → (others : Option (Punct × List ℕ)) → Longest (or_else q (Some r) others) p rest
unfolding or_else
first_fits us p q rest r e f h others =
    let l = length-append (punctuator_units p) rest in
    let k = length-append (punctuator_units q) r in
    let i = ap length e in
    let j = ap length f in
    elim (compared (length r) (length rest) (omega arith)) [
      | inl s ↦ longer refl s
      | inr s ↦
          let d = same_front (punctuator_units p) (punctuator_units q) rest r (sym e ∙ f) (omega arith) in
          let a = same_units p q d.0 in
          let b = d.1 in
          same cc
    ] where
      compared : (a b : ℕ) → a ≤ b → (a < b) ⊎ (a ≡ b)
      compared a b h = grind arith

goes_by : (us : List ℕ) (p q : Punct) (rest : List ℕ) (o : Option (List ℕ)) → strip (punctuator_units q) us ≡ o
    → us ≡ punctuator_units p ++ rest → length (punctuator_units p) ≤ length (punctuator_units q)
    → (others : Option (Punct × List ℕ)) → (o ≡ None → Longest others p rest) → Longest (or_else q o others) p rest
unfolding or_else
goes_by us p q rest None s e h others f = f refl
goes_by us p q rest (Some r) s e h others f =
    first_fits us p q rest r e (strip_sound (punctuator_units q) us r s) h others

longest_in : {p : Punct} {ps : List Punct} → In p ps → longest_first ps ≡ true → (us rest : List ℕ)
    → us ≡ punctuator_units p ++ rest → Longest (first_punctuator ps us) p rest
unfolding first_punctuator longest_first
longest_in {p} (here {ps}) h us rest e =
    goes_by us p p rest (strip (punctuator_units p) us) refl e (omega arith) (first_punctuator ps us)
    (λ n. let s = ap (strip (punctuator_units p)) e ∙ strip_complete (punctuator_units p) rest in
    absurd (clash s n)) where
      clash : {o : Option (List ℕ)} {r : List ℕ} → o ≡ Some r → o ≡ None → ⊥
      clash s n = cc
longest_in {p} (there {q} {ps} i) h us rest e =
    let a = and_true (every (λ x. nat_le (length (punctuator_units x)) (length (punctuator_units q))) ps)
    (longest_first ps) h in
    goes_by us p q rest (strip (punctuator_units q) us) refl e
    (leb-true (length (punctuator_units p)) (length (punctuator_units q))
    (every_in (λ x. nat_le (length (punctuator_units x)) (length (punctuator_units q))) a.0 i))
    (first_punctuator ps us) (λ n. longest_in i a.1 us rest e)

pub longest : (us : List ℕ) (p : Punct) (rest : List ℕ) → us ≡ punctuator_units p ++ rest
    → Longest (first_punctuator all_punctuators us) p rest
longest us p rest e = longest_in (in_table p) table_sorted us rest e

-- a punctuator's first unit is of no other kind
unfoldable pub is_other : ℕ → Bool
is_other u = is_white_space u || is_line_terminator u || is_quote u || is_digit u || is_identifier_start u || u == 92

-- how a punctuator goes on after its first unit: no comment, no number
unfoldable pub goes_well : List ℕ → Bool
goes_well [] = false
goes_well (u ∷ us) = (if is_other u then false else true) &&
    (if u == 47 then (if first_is (λ v. v == 47 || v == 42) us then false else true) else true) &&
    (if u == 46 then (if nat_le 1 (length us) then false else true) else true)

table_good : every (λ p. goes_well (punctuator_units p)) all_punctuators ≡ true
unfolding every goes_well is_other units
table_good = refl

pub each_goes_well : (p : Punct) → goes_well (punctuator_units p) ≡ true
each_goes_well p = every_in (λ p. goes_well (punctuator_units p)) table_good (in_table p)

-- the first unit of each is a punctuator by itself
is_one_unit : Option (Punct × List ℕ) → Bool
is_one_unit None = false
is_one_unit (Some x) = nat_le (length x.1) 0

first_unit : List ℕ → List ℕ
first_unit [] = []
first_unit (u ∷ us) = u ∷ []

table_heads : every (λ p. is_one_unit (first_punctuator all_punctuators (first_unit (punctuator_units p))))
    all_punctuators ≡ true
unfolding every is_one_unit first_unit first_punctuator or_else strip
table_heads = refl

head_by : (u : ℕ) (us : List ℕ) (o : Option (Punct × List ℕ)) → first_punctuator all_punctuators (u ∷ []) ≡ o
    → is_one_unit o ≡ true → first_punctuator all_punctuators (u ∷ us) ≡ None → ⊥
unfolding is_one_unit
head_by u us None e h n = cc
head_by u us (Some (q, [])) e h n =
    let f = (first_sound all_punctuators (u ∷ []) q [] e).is in
    elim (longest (u ∷ us) q us (ap (λ x. x ++ us) f ∙ ap (λ x. x ++ us) (append-nil (punctuator_units q))))
    [ longer a b ↦ cc | same a ↦ cc ]
head_by u us (Some (q, (v ∷ r))) e h n = let l = leb-true (length (v ∷ r)) 0 h in omega arith

pub no_head : (u : ℕ) (us : List ℕ) → first_punctuator all_punctuators (u ∷ us) ≡ None → (p : Punct) (ws : List ℕ)
    → punctuator_units p ≡ u ∷ ws → ⊥
unfolding first_unit
no_head u us n p ws e =
    let h = every_in (λ p. is_one_unit (first_punctuator all_punctuators (first_unit (punctuator_units p)))) table_heads
    (in_table p) in
    head_by u us (first_punctuator all_punctuators (u ∷ [])) refl
    (subst (λ x. is_one_unit (first_punctuator all_punctuators (first_unit x)) ≡ true) e h) n
