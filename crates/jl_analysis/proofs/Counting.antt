-- How counts and hits grow by one.
use Rattle.std.proofs.Common.{◌≡◌, ℕ, zero, suc, Bool, true, false, nat_eq, List, [], ◌∷◌, ◌++◌, get_or, if◌then◌else◌}
use Rattle.std.proofs.Common.{not, ◌+◌, subst, arith, map, refl, sym, ap, ◌∙◌, append_assoc, append-nil}
use Rattle.std.proofs.Math.ListN.{set}
use Rattle.std.proofs.lemmas.List.Elements.{All-set}
use Rattle.std.specs.Prelude.{◌||◌, ◌≤◌, ◌^◌, ◌-◌, min, fold, All}
use Rattle.std.specs.List.{list_any, position_or_len}
use Rattle.jl_op.specs.declared.op.OpId.{OpId}
use Rattle.jl_op.specs.declared.op.Op.{Op}
use Rattle.jl_op.specs.Operations.{Operation}
use Rattle.jl_analysis.specs.Memories.{Memory, one_more}
use Rattle.jl_analysis.specs.Rules.{hit, memory_of}
use Rattle.jl_analysis.specs.Summary.{Counts, Kept, add_hit, plain_operations, hits_after, hits, summary}

-- the number of an entry's id
abbrev pub key : OpId × ℕ → ℕ
key x = x.0.0

new_step : (b rest : Bool) (y x last : OpId × ℕ) (xs ys : Counts) → (b || rest) ≡ false
    → (rest ≡ false → ys ≡ xs ++ last ∷ []) → (if b then y ∷ xs else x ∷ ys) ≡ x ∷ (xs ++ last ∷ [])
new_step true rest y x last xs ys h ih = cc
new_step false rest y x last xs ys h ih = ap (λ zs. x ∷ zs) (ih h)

-- an id that is not there comes last
pub counted_new : (t : Counts) (id : OpId) → list_any (nat_eq id.0) (map key t) ≡ false
    → add_hit t id ≡ t ++ (id, 1) ∷ []
counted_new [] id h = refl
counted_new (x ∷ xs) id h =
    new_step (nat_eq id.0 x.0.0) (list_any (nat_eq id.0) (map key xs)) _ x (id, 1) xs (add_hit xs id) h
    (counted_new xs id)

old_step : (b rest : Bool) (x y : OpId × ℕ) (xs ys : Counts) (i : ℕ) → (b || rest) ≡ true
    → y ≡ get_or (x ∷ xs) (if not b then 1 + i else 0) y
    → (rest ≡ true → y ≡ get_or xs i y → set xs i (y.0, one_more y.1) ≡ ys)
    → set (x ∷ xs) (if not b then 1 + i else 0) (y.0, one_more y.1) ≡ (if b then (x.0, one_more x.1) ∷ xs else x ∷ ys)
old_step true rest x y xs ys i h e ih = ap (λ z. (z.0, one_more z.1) ∷ xs) e
old_step false rest x y xs ys i h e ih =
    let next : suc i ≡ 1 + i = omega arith in
    subst (λ j. y ≡ get_or (x ∷ xs) j y → set (x ∷ xs) j (y.0, one_more y.1) ≡ x ∷ ys) next
    (λ f. ap (λ zs. x ∷ zs) (ih h f)) e

-- an id that is there has one more at its place
pub counted_old : (t : Counts) (id : OpId) (x : OpId × ℕ) → list_any (nat_eq id.0) (map key t) ≡ true
    → x ≡ get_or t (position_or_len (nat_eq id.0) (map key t)) x
    → set t (position_or_len (nat_eq id.0) (map key t)) (x.0, one_more x.1) ≡ add_hit t id
counted_old [] id x h e = cc
counted_old (y ∷ ys) id x h e =
    old_step (nat_eq id.0 y.0.0) (list_any (nat_eq id.0) (map key ys)) y x ys (add_hit ys id)
    (position_or_len (nat_eq id.0) (map key ys)) h e (counted_old ys id x)

-- a new number leaves the ids
pub keys_raised : (t : Counts) (i : ℕ) (x : OpId × ℕ) (n : ℕ) → x ≡ get_or t i x
    → map key (set t i (x.0, n)) ≡ map key t
keys_raised [] i x n e = refl
keys_raised (y ∷ ys) zero x n e = ap (λ z. z.0.0 ∷ map key ys) e
keys_raised (y ∷ ys) (suc i) x n e = ap (λ zs. key y ∷ zs) (keys_raised ys i x n e)

abbrev one_if : Bool → OpId → List OpId
one_if b id = if b then id ∷ [] else []

-- the hits after one more operation
hits_after-push : (rule : ℕ) (before : List Op) (ops : List Operation) (x : Operation)
    → hits_after rule before (ops ++ x ∷ [])
    ≡ hits_after rule before ops ++ one_if (hit rule (before ++ plain_operations ops) x.1) x.0
hits_after-push rule before [] x =
    append-nil (one_if (hit rule before x.1) x.0)
    ∙ ap (λ b. one_if (hit rule b x.1) x.0) (sym (append-nil before))
hits_after-push rule before (y ∷ ops) x =
    ap (λ l. one_if (hit rule before y.1) y.0 ++ l) (hits_after-push rule (before ++ y.1 ∷ []) ops x)
    ∙ ap (λ b. one_if (hit rule before y.1) y.0
    ++ (hits_after rule (before ++ y.1 ∷ []) ops ++ one_if (hit rule b x.1) x.0))
    (append_assoc before (y.1 ∷ []) (plain_operations ops))
    ∙ sym (append_assoc (one_if (hit rule before y.1) y.0) (hits_after rule (before ++ y.1 ∷ []) ops)
    (one_if (hit rule (before ++ y.1 ∷ plain_operations ops) x.1) x.0))

fold-push : (c : Counts) (ids : List OpId) (id : OpId)
    → fold add_hit c (ids ++ id ∷ []) ≡ add_hit (fold add_hit c ids) id
fold-push c [] id = refl
fold-push c (x ∷ ids) id = fold-push (add_hit c x) ids id

-- one more if there is a hit
abbrev counted_if : Bool → Counts → OpId → Counts
counted_if b c id = if b then add_hit c id else c

fold-one : (ids : List OpId) (b : Bool) (id : OpId)
    → fold add_hit [] (ids ++ one_if b id) ≡ counted_if b (fold add_hit [] ids) id
fold-one ids true id = fold-push [] ids id
fold-one ids false id = ap (fold add_hit []) (append-nil ids)

plain_operations-push : (ops : List Operation) (x : Operation) → plain_operations (ops ++ x ∷ [])
    ≡ plain_operations ops ++ x.1 ∷ []
plain_operations-push [] x = refl
plain_operations-push (y ∷ ops) x = ap (λ l. y.1 ∷ l) (plain_operations-push ops x)

was_true : {a b : Bool} → a ≡ b → not b ≡ false → a ≡ true
was_true {b = true} e h = e
was_true {b = false} e h = cc

was_false : {b : Bool} → not b ≡ true → b ≡ false
was_false {b = true} h = cc
was_false {b = false} h = refl

-- a second hit at an id
pub hit_again : (t : Counts) (ids : List ℕ) (id : OpId) (at : ℕ) (added : Bool) (x : OpId × ℕ) (n : ℕ) → ids ≡ map key t
    → added ≡ not (list_any (nat_eq id.0) ids) → at ≡ position_or_len (nat_eq id.0) ids → added ≡ false
    → x ≡ get_or t at x → n ≡ one_more x.1 → set t at (x.0, n) ≡ add_hit t id
hit_again t ids id at added x n i a p f e m =
    let there : list_any (nat_eq id.0) (map key t) ≡ true =
    was_true (ap (λ l. list_any (nat_eq id.0) l) (sym i)) (sym a ∙ f) in
    let place : at ≡ position_or_len (nat_eq id.0) (map key t) = p ∙ ap (λ l. position_or_len (nat_eq id.0) l) i in
    let here : x ≡ get_or t (position_or_len (nat_eq id.0) (map key t)) x = e ∙ ap (λ j. get_or t j x) place in
    ap (λ j. set t j (x.0, n)) place ∙ ap (λ m. set t (position_or_len (nat_eq id.0) (map key t)) (x.0, m)) m
    ∙ counted_old t id x there here

-- a first hit at an id
pub hit_first : (t : Counts) (ids : List ℕ) (id : OpId) (added : Bool) → ids ≡ map key t
    → added ≡ not (list_any (nat_eq id.0) ids) → added ≡ true → t ++ (id, 1) ∷ [] ≡ add_hit t id
hit_first t ids id added i a f =
    sym (counted_new t id (ap (λ l. list_any (nat_eq id.0) l) (sym i) ∙ was_false (sym a ∙ f)))

if_there : (b : Bool) (xs ys : List ℕ) → b ≡ true → (if b then xs else ys) ≡ xs
if_there true xs ys e = refl
if_there false xs ys e = cc

-- the ids after a second hit at one of them
pub keys_after : (ids keys : List ℕ) (t items : Counts) (id at : ℕ) (added : Bool) (x : OpId × ℕ) (n : ℕ)
    → ids ≡ map key t
    → keys ≡ (if list_any (nat_eq id) ids then ids else ids ++ id ∷ []) → added ≡ not (list_any (nat_eq id) ids)
    → added ≡ false
    → items ≡ t → x ≡ get_or items at x → keys ≡ map key (set items at (x.0, n))
keys_after ids keys t items id at added x n i k a f m e =
    k ∙ if_there _ ids _ (was_true refl (sym a ∙ f)) ∙ i ∙ ap (map key) (sym m) ∙ sym (keys_raised items at x n e)

-- no count falls below 1
pub counts_after : (t items : Counts) (id : OpId) (at m n : ℕ) → items ≡ t → All (λ x. 1 ≤ x.1) t
    → n ≡ min (m + 1) (2 ^ 64 - 1)
    → All (λ x. 1 ≤ x.1) (set items at (id, n))
counts_after t items id at m n e a f =
    All-set (λ x. 1 ≤ x.1) items at (id, n) (omega arith) (subst (λ l. All (λ x. 1 ≤ x.1) l) (sym e) a)

pub ruleset counting = (hit_again, hit_first, keys_raised)

same_kept : {a b : Counts} {m n : Memory} → a ≡ b → m ≡ n
    → ◌≡◌ {A = Kept} (record { counts = a; memory = m }) (record { counts = b; memory = n })
same_kept {a} {b} {m} {n} e f = cc

-- a checker has heard of one more operation: its counts and its memory grew as they have to
pub hears : (rule : ℕ) (told : List Operation) (id : OpId) (op : Op) (old new : Counts) (memory : Memory)
    (hit_now : Bool)
    → old ≡ (summary rule told).counts → hit_now ≡ hit rule (plain_operations told) op → new ≡ counted_if hit_now old id
    → memory ≡ memory_of rule (plain_operations told ++ op ∷ [])
    → record { counts = new; memory = memory } ≡ summary rule (told ++ (id, op) ∷ [])
hears rule told id op old new memory hit_now is hit_is new_is memory_is =
    let counts : new ≡ (summary rule (told ++ (id, op) ∷ [])).counts =
    new_is ∙ ap (λ b. counted_if b old id) hit_is ∙ ap (λ c. counted_if (hit rule (plain_operations told) op) c id) is
    ∙ sym (ap (fold add_hit []) (hits_after-push rule [] told (id, op))
    ∙ fold-one (hits rule told) (hit rule (plain_operations told) op) id) in
    let remembered : memory ≡ (summary rule (told ++ (id, op) ∷ [])).memory =
    memory_is ∙ ap (memory_of rule) (sym (plain_operations-push told (id, op))) in
    same_kept counts remembered

-- where the rule hits
pub hears_hit : (rule : ℕ) (told : List Operation) (id : OpId) (op : Op) (old new : Counts) (memory : Memory)
    (hit_now : Bool)
    → hit_now ≡ true → old ≡ (summary rule told).counts → hit_now ≡ hit rule (plain_operations told) op
    → new ≡ add_hit old id
    → memory ≡ memory_of rule (plain_operations told ++ op ∷ [])
    → record { counts = new; memory = memory } ≡ summary rule (told ++ (id, op) ∷ [])
hears_hit rule told id op old new memory hit_now b is hit_is new_is memory_is =
    hears rule told id op old new memory hit_now is hit_is (new_is ∙ ap (λ b. counted_if b old id) (sym b)) memory_is

-- where it doesn't
pub hears_other : (rule : ℕ) (told : List Operation) (id : OpId) (op : Op) (old new : Counts) (memory : Memory)
    (hit_now : Bool)
    → hit_now ≡ false → old ≡ (summary rule told).counts → hit_now ≡ hit rule (plain_operations told) op → new ≡ old
    → memory ≡ memory_of rule (plain_operations told ++ op ∷ [])
    → record { counts = new; memory = memory } ≡ summary rule (told ++ (id, op) ∷ [])
hears_other rule told id op old new memory hit_now b is hit_is new_is memory_is =
    hears rule told id op old new memory hit_now is hit_is (new_is ∙ ap (λ b. counted_if b old id) (sym b)) memory_is
