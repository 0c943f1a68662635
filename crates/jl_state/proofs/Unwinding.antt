-- How the links of a stack lead from handler to handler.
use Rattle.std.proofs.Common.{[], ap, arith, false, get_or, length, length-append, refl, reverse, subst, sym, take}
use Rattle.std.proofs.Common.{true}
use Rattle.std.proofs.Common.{◌+◌, ◌++◌, ◌<◌, ◌≡◌, ◌∙◌, ◌∷◌, Bool, List, None, Option, Some, ℕ}
use Rattle.std.specs.Prelude.{if◌then◌else◌}
use Rattle.std.specs.List.{All}
use Rattle.std.specs.Option.{option_map_or}
use Rattle.std.proofs.lemmas.List.{append_assoc, get_or_at, length-map, length-reverse, map-append, reverse-append}
use Rattle.std.proofs.lemmas.List.{reverse-reverse, take_at}
use Rattle.std.proofs.lemmas.List.Elements.{All-append, All-cons, All-nil, All-weaker}
use Rattle.std.proofs.lemmas.Option.{none-some, same_Some}
use Rattle.jl_value.specs.declared.ending.Completion.{Completion}
use Rattle.jl_state.specs.Handlers.{frames_of, handles, is_handler, nearest_handler, AreLinked, IsInnermost, IsUnwound}
use Rattle.jl_state.specs.Handlers.{NoneHandles}
use Rattle.jl_state.specs.declared.stack.Linked.{Linked}
use Rattle.jl_state.proofs.Passing.{taker_is_handler, takes_none}

-- no handlers
abbrev pub NoHandlers : List Linked → Type 0
NoHandlers l = All (λ f. is_handler f ≡ false) (frames_of l)

pub passed_over : (how : Completion) (l : List Linked) → NoHandlers l → NoneHandles how (frames_of l)
passed_over how l none =
    All-weaker (λ f. is_handler f ≡ false) (λ f. handles f how ≡ false) (λ f. takes_none f how) (frames_of l) none

-- the nearest handler, and the frames around it
pub record IsNearest (l : List Linked) (depth : ℕ) : Type 0 where
  pub skipped : List Linked
  pub at : Linked
  pub lower : List Linked
  pub all : l ≡ skipped ++ at ∷ lower
  pub none : NoHandlers skipped
  pub stands : depth ≡ length lower

nearest_among : (x : Linked) (l : List Linked) (depth : ℕ)
    → (nearest_handler (frames_of l) ≡ Some depth → IsNearest l depth)
    → (b : Bool) → is_handler x.frame ≡ b
    → (if b then Some (length (frames_of l)) else nearest_handler (frames_of l)) ≡ Some depth → IsNearest (x ∷ l) depth
nearest_among x l depth lower true is named = record {
  skipped = [];
  at = x;
  lower = l;
  all = refl;
  none = All-nil (λ f. is_handler f ≡ false);
  stands = sym (same_Some (length (frames_of l)) depth named) ∙ length-map l (λ (y : Linked). y.frame);
}
nearest_among x l depth lower false is named =
    let found : IsNearest l depth = lower named in
    record {
      skipped = x ∷ found.skipped;
      at = found.at;
      lower = found.lower;
      all = ap (◌∷◌ x) found.all;
      none = All-cons (λ f. is_handler f ≡ false) x.frame (frames_of found.skipped) is found.none;
      stands = found.stands;
    }

pub nearest_is : (l : List Linked) (depth : ℕ) → nearest_handler (frames_of l) ≡ Some depth → IsNearest l depth
nearest_is [] depth named = absurd (none-some depth named)
nearest_is (x ∷ l) depth named = nearest_among x l depth (nearest_is l depth) (is_handler x.frame) refl named

no_handler : (x : Linked) (l : List Linked) → (nearest_handler (frames_of l) ≡ None → NoHandlers l) → (b : Bool)
    → is_handler x.frame ≡ b → (if b then Some (length (frames_of l)) else nearest_handler (frames_of l)) ≡ None
    → NoHandlers (x ∷ l)
no_handler x l lower true is none = absurd (none-some (length (frames_of l)) (sym none))
no_handler x l lower false is none =
    All-cons (λ f. is_handler f ≡ false) x.frame (frames_of l) is (lower none)

pub nearest_none : (l : List Linked) → nearest_handler (frames_of l) ≡ None → NoHandlers l
nearest_none [] none = All-nil (λ f. is_handler f ≡ false)
nearest_none (x ∷ l) none = no_handler x l (nearest_none l) (is_handler x.frame) refl none

-- frames that lie below others are linked as these are
pub linked_below : (above below : List Linked) → AreLinked (above ++ below) → AreLinked below
linked_below [] below links = links
linked_below (x ∷ above) below links = linked_below above below links.1

-- where the frames lie in memory, the lowest one first

in_memory : (items above : List Linked) (x : Linked) (below : List Linked) → reverse items ≡ above ++ x ∷ below
    → items ≡ reverse below ++ x ∷ reverse above
in_memory items above x below is =
    sym (reverse-reverse items) ∙ ap reverse is ∙ reverse-append above (x ∷ below)
    ∙ ap (λ l. l ++ reverse above) (reverse-append (x ∷ []) below) ∙ append_assoc (reverse below) (x ∷ [])
    (reverse above)

pub lies_at : (items above : List Linked) (x : Linked) (below : List Linked) (d : Linked)
    → reverse items ≡ above ++ x ∷ below → get_or items (length below) d ≡ x
lies_at items above x below d is =
    ap (λ l. get_or l (length below) d) (in_memory items above x below is)
    ∙ get_or_at (reverse below) x (reverse above) d (length below) (length-reverse below)

pub lies_within : (items above : List Linked) (x : Linked) (below : List Linked) → reverse items ≡ above ++ x ∷ below
    → length below < length items
lies_within items above x below is =
    let whole : length items ≡ length (above ++ x ∷ below) = sym (length-reverse items) ∙ ap length is in
    omega (arith, length-append above (x ∷ below))

pub truncated : (items above : List Linked) (x : Linked) (below : List Linked) → reverse items ≡ above ++ x ∷ below
    → reverse (take (length below + 1) items) ≡ x ∷ below
truncated items above x below is =
    ap (λ l. reverse (take (length below + 1) l)) (in_memory items above x below is
    ∙ sym (append_assoc (reverse below) (x ∷ []) (reverse above)))
    ∙ ap reverse (take_at (reverse below ++ x ∷ []) (reverse above) (length below + 1)
    (length-append (reverse below) (x ∷ []) ∙ ap (λ n. n + 1) (length-reverse below)))
    ∙ reverse-append (reverse below) (x ∷ []) ∙ ap (λ l. x ∷ l) (reverse-reverse below)

-- how far the links were followed: the frames above take it not, and the next to be looked at is the nearest handler
-- among the others
pub record Follows (how : Completion) (frames : List Linked) (next : Option ℕ) : Type 0 where
  pub above : List Linked
  pub below : List Linked
  pub all : frames ≡ above ++ below
  pub passed : NoneHandles how (frames_of above)
  pub links : AreLinked below
  pub named : next ≡ nearest_handler (frames_of below)

abbrev pub frames_left : Option ℕ → ℕ
frames_left next = option_map_or (λ depth. depth + 1) next 0

-- the frame that is looked at next, and those around it
pub record LookedAt (how : Completion) (frames : List Linked) (depth : ℕ) : Type 0 where
  pub above : List Linked
  pub at : Linked
  pub below : List Linked
  pub all : frames ≡ above ++ at ∷ below
  pub passed : NoneHandles how (frames_of above)
  pub link : at.below ≡ nearest_handler (frames_of below)
  pub links : AreLinked below
  pub stands : depth ≡ length below

both_pass : (how : Completion) (above skipped : List Linked) → NoneHandles how (frames_of above) → NoHandlers skipped
    → NoneHandles how (frames_of (above ++ skipped))
both_pass how above skipped passed none =
    subst (NoneHandles how) (sym (map-append (λ (x : Linked). x.frame) above skipped))
    (All-append (λ f. handles f how ≡ false) (frames_of above) (frames_of skipped) passed
    (passed_over how skipped none))

pub looked_at : (how : Completion) (frames : List Linked) (next : Option ℕ) (depth : ℕ) → Follows how frames next
    → next ≡ Some depth → LookedAt how frames depth
looked_at how frames next depth follows is =
    let near : IsNearest follows.below depth = nearest_is follows.below depth (sym follows.named ∙ is) in
    let links : AreLinked (near.at ∷ near.lower) =
    linked_below near.skipped (near.at ∷ near.lower) (subst AreLinked near.all follows.links) in
    record {
      above = follows.above ++ near.skipped;
      at = near.at;
      below = near.lower;
      all = follows.all ∙ ap (λ l. follows.above ++ l) near.all
          ∙ sym (append_assoc follows.above near.skipped (near.at ∷ near.lower));
      passed = both_pass how follows.above near.skipped follows.passed near.none;
      link = links.0;
      links = links.1;
      stands = near.stands;
    }

module _ (how : Completion) (items : List Linked) (depth : ℕ) (looks : LookedAt how (reverse items) depth) where
  pub looks_within : depth < length items
  looks_within =
      subst (λ n. n < length items) (sym looks.stands) (lies_within items looks.above looks.at looks.below looks.all)

  -- the frame that lies at that depth is the one that is looked at
  module _ (x : Linked) (lies : x ≡ get_or items depth x) where
    is_it : x ≡ looks.at
    is_it =
        lies ∙ ap (λ n. get_or items n x) looks.stands
        ∙ lies_at items looks.above looks.at looks.below x looks.all

    pub takes_it : handles x.frame how ≡ true → IsInnermost how (reverse items) depth
    takes_it takes = record {
      above = looks.above;
      handler = looks.at;
      below = looks.below;
      all = looks.all;
      passed = looks.passed;
      handled = ap (λ (y : Linked). handles y.frame how) (sym is_it) ∙ takes;
      stands = looks.stands;
    }

    passes_it : handles x.frame how ≡ false → NoneHandles how (frames_of (looks.above ++ looks.at ∷ []))
    passes_it passes =
        subst (NoneHandles how) (sym (map-append (λ (y : Linked). y.frame) looks.above (looks.at ∷ [])))
        (All-append (λ f. handles f how ≡ false) (frames_of looks.above) (looks.at.frame ∷ []) looks.passed
        (All-cons (λ f. handles f how ≡ false) looks.at.frame []
        (ap (λ (y : Linked). handles y.frame how) (sym is_it) ∙ passes) (All-nil (λ f. handles f how ≡ false))))

    pub follows_on : handles x.frame how ≡ false → Follows how (reverse items) x.below
    follows_on passes = record {
      above = looks.above ++ looks.at ∷ [];
      below = looks.below;
      all = looks.all ∙ sym (append_assoc looks.above (looks.at ∷ []) looks.below);
      passed = passes_it passes;
      links = looks.links;
      named = ap (λ (y : Linked). y.below) is_it ∙ looks.link;
    }

    left_below : (n : Option ℕ) → nearest_handler (frames_of looks.below) ≡ n → frames_left n < length looks.below + 1
    left_below None is = omega arith
    left_below (Some lower) is =
        let near : IsNearest looks.below lower = nearest_is looks.below lower is in
        let whole : length looks.below ≡ length (near.skipped ++ near.at ∷ near.lower) = ap length near.all in
        let stands : lower ≡ length near.lower = near.stands in
        omega (arith, length-append near.skipped (near.at ∷ near.lower))

    pub goes_lower : (next : Option ℕ) → next ≡ Some depth → frames_left x.below < frames_left next
    goes_lower next is =
        subst (λ n. frames_left x.below < frames_left n) (sym is)
        (subst (λ n. frames_left x.below < n + 1) (sym looks.stands)
        (subst (λ n. frames_left n < length looks.below + 1)
        (sym (ap (λ (y : Linked). y.below) is_it ∙ looks.link))
        (left_below (nearest_handler (frames_of looks.below)) refl)))

-- where no link is left, none of the frames takes it
pub none_left : (how : Completion) (frames : List Linked) (next : Option ℕ) → Follows how frames next → next ≡ None
    → NoneHandles how (frames_of frames)
none_left how frames next follows is =
    subst (λ l. NoneHandles how (frames_of l)) (sym follows.all)
    (both_pass how follows.above follows.below follows.passed
    (nearest_none follows.below (sym follows.named ∙ is)))

-- what is left once the frames above a handler are dropped

module _ (how : Completion) (items : List Linked) (depth : ℕ) (found : IsInnermost how (reverse items) depth) where
  left : reverse (take (depth + 1) items) ≡ found.handler ∷ found.below
  left =
      ap (λ n. reverse (take (n + 1) items)) found.stands
      ∙ truncated items found.above found.handler found.below found.all

  pub unwinds : IsUnwound how (frames_of (reverse items)) (frames_of (reverse (take (depth + 1) items))) depth
  unwinds = record {
    above = frames_of found.above;
    handler = found.handler.frame;
    below = frames_of found.below;
    was = ap frames_of found.all
        ∙ map-append (λ (x : Linked). x.frame) found.above (found.handler ∷ found.below);
    is = ap frames_of left;
    passed = found.passed;
    handled = found.handled;
    stands = found.stands ∙ sym (length-map found.below (λ (x : Linked). x.frame));
  }

  pub links_left : AreLinked (reverse items) → AreLinked (reverse (take (depth + 1) items))
  links_left links =
      subst AreLinked (sym left)
      (linked_below found.above (found.handler ∷ found.below) (subst AreLinked found.all links))

  pub nearest_left : Some depth ≡ nearest_handler (frames_of (reverse (take (depth + 1) items)))
  nearest_left =
      ap Some (found.stands ∙ sym (length-map found.below (λ (x : Linked). x.frame)))
      ∙ ap (λ b. if b then Some (length (frames_of found.below)) else nearest_handler (frames_of found.below))
      (sym (taker_is_handler found.handler.frame how found.handled))
      ∙ ap (λ l. nearest_handler (frames_of l)) (sym left)
