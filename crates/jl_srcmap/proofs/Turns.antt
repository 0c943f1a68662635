-- The fields of a segment, one after the other.
use Rattle.std.proofs.Common.{◌≡◌, ℕ, ◌<◌, ◌≤◌, List, [], ◌∷◌, length, Option, Some, None, option_map}
use Rattle.std.proofs.Common.{option_and_then, ap, sym, refl, ◌∙◌, arith}
use Rattle.std.specs.Prelude.{if◌then◌else◌}
use Rattle.std.proofs.lemmas.Option.{none-some}
use Rattle.jl_srcmap.specs.Segments.{name_field}
use Rattle.jl_srcmap.specs.declared.segment.Origin.{Origin}
use Rattle.jl_srcmap.specs.inner.Fields.{field, fields_in, quantity}
use Rattle.jl_srcmap.specs.inner.Reading.{origin_with, segment_in, segment_with, with_origin}
use Rattle.jl_srcmap.proofs.Digits.{not_under, under}

pub fields_nothing : (sums text : List ℕ) → length text ≡ 0 → fields_in sums text ≡ Some []
unfolding fields_in
fields_nothing sums [] e = refl
fields_nothing sums (c ∷ cs) e = absurd (omega arith)

pub fields_past : (text : List ℕ) → 0 < length text → fields_in [] text ≡ None
unfolding fields_in
fields_past [] l = absurd (omega arith)
fields_past (c ∷ cs) l = refl

field_nothing : (a : ℕ) → field a [] ≡ None
unfolding field quantity
field_nothing a = refl

pub taken : (a b : ℕ) (sums text rest : List ℕ) → Some (b, rest) ≡ field a text
    → fields_in (a ∷ sums) text ≡ option_map (λ fs. b ∷ fs) (fields_in sums rest)
unfolding fields_in
taken a b sums [] rest e = absurd (none-some (b, rest) (sym (e ∙ field_nothing a)))
taken a b sums (c ∷ cs) rest e =
    ap (option_and_then (λ f. option_map (λ fs. f.0 ∷ fs) (fields_in sums f.1))) (sym e)

pub not_taken : (a : ℕ) (sums text : List ℕ) → None ≡ field a text → 0 < length text
    → fields_in (a ∷ sums) text ≡ None
unfolding fields_in
not_taken a sums [] e l = absurd (omega arith)
not_taken a sums (c ∷ cs) e l =
    ap (option_and_then (λ f. option_map (λ fs. f.0 ∷ fs) (fields_in sums f.1))) (sym e)

-- what is made of the fields is nothing where no field comes and no more are wanted
stops : {X : Type 0} (f : List ℕ → Option X) (a : ℕ) (sums text : List ℕ) → None ≡ field a text → f [] ≡ None
    → option_and_then f (fields_in (a ∷ sums) text) ≡ None
stops f a sums [] e n = ap (option_and_then f) (fields_nothing (a ∷ sums) [] refl) ∙ n
stops f a sums (c ∷ cs) e n = ap (option_and_then f) (not_taken a sums (c ∷ cs) e (omega arith))

of_map : {X : Type 0} (f : List ℕ → Option X) (b : ℕ) (o : Option (List ℕ))
    → option_and_then f (option_map (λ fs. b ∷ fs) o) ≡ option_and_then (λ fs. f (b ∷ fs)) o
of_map f b None = refl
of_map f b (Some fs) = refl

goes : {X : Type 0} (f : List ℕ → Option X) (a b : ℕ) (sums text rest : List ℕ) → Some (b, rest) ≡ field a text
    → option_and_then f (fields_in (a ∷ sums) text) ≡ option_and_then (λ fs. f (b ∷ fs)) (fields_in sums rest)
goes f a b sums text rest e = ap (option_and_then f) (taken a b sums text rest e) ∙ of_map f b (fields_in sums rest)

-- ---- the name

pub no_name : (a : ℕ) (text : List ℕ) → length text ≡ 0 → Some [] ≡ fields_in (a ∷ []) text
no_name a text e = sym (fields_nothing (a ∷ []) text e)

pub bad_name : (a : ℕ) (text : List ℕ) → None ≡ field a text → 0 < length text → None ≡ fields_in (a ∷ []) text
bad_name a text e l = sym (not_taken a [] text e l)

pub one_name : (a b : ℕ) (text rest : List ℕ) → Some (b, rest) ≡ field a text → length rest ≡ 0
    → Some (b ∷ []) ≡ fields_in (a ∷ []) text
one_name a b text rest e n =
    sym (taken a b [] text rest e ∙ ap (option_map (λ fs. b ∷ fs)) (fields_nothing [] rest n))

pub two_names : (a b : ℕ) (text rest : List ℕ) → Some (b, rest) ≡ field a text → 0 < length rest
    → None ≡ fields_in (a ∷ []) text
two_names a b text rest e l = sym (taken a b [] text rest e ∙ ap (option_map (λ fs. b ∷ fs)) (fields_past rest l))

-- ---- the origin

abbrev pub origin_in : (a b c d : ℕ) → List ℕ → Option Origin
origin_in a b c d text = option_and_then origin_with (fields_in (a ∷ b ∷ c ∷ d ∷ []) text)

pub no_source : (a b c d : ℕ) (text : List ℕ) → None ≡ field a text → None ≡ origin_in a b c d text
no_source a b c d text e = sym (stops origin_with a (b ∷ c ∷ d ∷ []) text e refl)

pub no_line : (a b c d x : ℕ) (text t : List ℕ) → Some (x, t) ≡ field a text → None ≡ field b t
    → None ≡ origin_in a b c d text
no_line a b c d x text t e n =
    sym (goes origin_with a x (b ∷ c ∷ d ∷ []) text t e
    ∙ stops (λ fs. origin_with (x ∷ fs)) b (c ∷ d ∷ []) t n refl)

pub no_column : (a b c d x y : ℕ) (text t u : List ℕ) → Some (x, t) ≡ field a text → Some (y, u) ≡ field b t
    → None ≡ field c u → None ≡ origin_in a b c d text
no_column a b c d x y text t u e f n =
    sym (goes origin_with a x (b ∷ c ∷ d ∷ []) text t e
    ∙ goes (λ fs. origin_with (x ∷ fs)) b y (c ∷ d ∷ []) t u f
    ∙ stops (λ fs. origin_with (x ∷ y ∷ fs)) c (d ∷ []) u n refl)

to_name : (a b c d x y z : ℕ) (text t u v : List ℕ) → Some (x, t) ≡ field a text → Some (y, u) ≡ field b t
    → Some (z, v) ≡ field c u
    → origin_in a b c d text ≡ option_and_then (λ fs. origin_with (x ∷ y ∷ z ∷ fs)) (fields_in (d ∷ []) v)
to_name a b c d x y z text t u v e f g =
    goes origin_with a x (b ∷ c ∷ d ∷ []) text t e
    ∙ goes (λ fs. origin_with (x ∷ fs)) b y (c ∷ d ∷ []) t u f
    ∙ goes (λ fs. origin_with (x ∷ y ∷ fs)) c z (d ∷ []) u v g

pub no_end : (a b c d x y z : ℕ) (text t u v : List ℕ) → Some (x, t) ≡ field a text → Some (y, u) ≡ field b t
    → Some (z, v) ≡ field c u → None ≡ fields_in (d ∷ []) v → None ≡ origin_in a b c d text
no_end a b c d x y z text t u v e f g n =
    sym (to_name a b c d x y z text t u v e f g
    ∙ ap (option_and_then (λ fs. origin_with (x ∷ y ∷ z ∷ fs))) (sym n))

pub whole_origin : (a b c d x y z : ℕ) (name : Option ℕ) (text t u v : List ℕ) → Some (x, t) ≡ field a text
    → Some (y, u) ≡ field b t → Some (z, v) ≡ field c u → Some (name_field name) ≡ fields_in (d ∷ []) v
    → Some (record { source = x; line = y; column = z; name = name }) ≡ origin_in a b c d text
whole_origin a b c d x y z name text t u v e f g n =
    by name ∙ sym (to_name a b c d x y z text t u v e f g
    ∙ ap (option_and_then (λ fs. origin_with (x ∷ y ∷ z ∷ fs))) (sym n))
  where
    by : (name : Option ℕ)
        → Some (record { source = x; line = y; column = z; name = name }) ≡ origin_with (x ∷ y ∷ z ∷ name_field name)
    by None = refl
    by (Some m) = refl

-- ---- the segment

segment_is : (line : ℕ) (sums text : List ℕ) → line < 4294967296
    → segment_in line sums text ≡ option_and_then (segment_with line) (fields_in sums text)
unfolding segment_in
segment_is line sums text l =
    ap (λ b. if b then option_and_then (segment_with line) (fields_in sums text) else None) (under line 4294967296 l)

pub no_segment : (line a : ℕ) (sums text : List ℕ) → line < 4294967296 → None ≡ field a text
    → None ≡ segment_in line (a ∷ sums) text
no_segment line a sums text l e =
    sym (segment_is line (a ∷ sums) text l ∙ stops (segment_with line) a sums text e refl)

pub alone : (line a x : ℕ) (sums text rest : List ℕ) → line < 4294967296 → Some (x, rest) ≡ field a text
    → length rest ≡ 0 → Some (record { line = line; column = x; origin = None }) ≡ segment_in line (a ∷ sums) text
alone line a x sums text rest l e n =
    sym (segment_is line (a ∷ sums) text l
    ∙ goes (segment_with line) a x sums text rest e
    ∙ ap (option_and_then (λ fs. segment_with line (x ∷ fs))) (fields_nothing sums rest n))

pub with_place : (line a b x : ℕ) (sums text rest : List ℕ) → line < 4294967296 → Some (x, rest) ≡ field a text
    → 0 < length rest
    → option_map (with_origin line x) (option_and_then origin_with (fields_in (b ∷ sums) rest))
    ≡ segment_in line (a ∷ b ∷ sums) text
with_place line a b x sums text rest l e some =
    by (field b rest) refl ∙ sym (segment_is line (a ∷ b ∷ sums) text l
    ∙ goes (segment_with line) a x (b ∷ sums) text rest e)
  where
    by_rest : (y : ℕ) (o : Option (List ℕ))
        → option_map (with_origin line x) (option_and_then origin_with (option_map (λ fs. y ∷ fs) o))
        ≡ option_and_then (λ fs. segment_with line (x ∷ fs)) (option_map (λ fs. y ∷ fs) o)
    by_rest y None = refl
    by_rest y (Some fs) = refl

    by : (o : Option (ℕ × List ℕ)) → o ≡ field b rest
        → option_map (with_origin line x) (option_and_then origin_with (fields_in (b ∷ sums) rest))
        ≡ option_and_then (λ fs. segment_with line (x ∷ fs)) (fields_in (b ∷ sums) rest)
    by None f =
        let none = not_taken b sums rest f some in
        ap (λ o. option_map (with_origin line x) (option_and_then origin_with o)) none
        ∙ ap (option_and_then (λ fs. segment_with line (x ∷ fs))) (sym none)
    by (Some (y, r)) f =
        let more = taken b y sums rest r f in
        ap (λ o. option_map (with_origin line x) (option_and_then origin_with o)) more
        ∙ by_rest y (fields_in sums r)
        ∙ ap (option_and_then (λ fs. segment_with line (x ∷ fs))) (sym more)

pub past_lines : (line : ℕ) (sums text : List ℕ) → 4294967296 ≤ line → segment_in line sums text ≡ None
unfolding segment_in
past_lines line sums text l =
    ap (λ b. if b then option_and_then (segment_with line) (fields_in sums text) else None)
    (not_under line 4294967296 l)
