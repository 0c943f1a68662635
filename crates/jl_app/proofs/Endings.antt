-- From what was read to what is due.
use Rattle.std.proofs.Common.{◌≡◌, ℕ, ◌+◌, ◌<◌, List, [], Option, Some, None, length}
use Rattle.std.proofs.Common.{take, refl, sym, ◌∙◌, subst, arith}
use Rattle.std.specs.Prelude.{IfSome}
use Rattle.jl_port.specs.Bytes.{TakesCount, Grows}
use Rattle.jl_port.specs.Count.{HasRisen}
use Rattle.jl_app.specs.declared.status.Status.{Status}
use Rattle.jl_app.specs.declared.status.Status.TheVariants as status
use Rattle.jl_app.specs.Answers.{IsDue}
use Rattle.jl_app.specs.Due.{Due, IsTold}
use Rattle.jl_app.specs.Endings.{Call, EndsWith, answered, write_failed}

pub told_same : (held : Option (List ℕ)) (bytes read : List ℕ) → read ≡ bytes → IfSome held (λ all. bytes ≡ all)
    → IfSome held (λ all. all ≡ read)
told_same None bytes read e h = tt
told_same (Some all) bytes read e h = sym (e ∙ h)

-- there are bytes that the source holds, where it tells
pub held_bytes : (held : Option (List ℕ)) → (bytes : List ℕ) × IfSome held (λ all. all ≡ bytes)
held_bytes None = ([], tt)
held_bytes (Some all) = (all, refl)

-- too many bytes were read
pub long_bytes : (limit : ℕ) (held left : Option (List ℕ)) → TakesCount held left (limit + 1)
    → IfSome held (λ all. limit < length all) → (bytes : List ℕ) × (limit < length bytes)
    × IfSome held (λ all. all ≡ bytes)
long_bytes limit None left taken long = (taken.0, omega (arith, taken.1), tt)
long_bytes limit (Some all) left taken long = (all, long, refl)

-- the answer was written
pub ends_answered : {call : Call} (due : Due) (answer : Status) (bytes : List ℕ) → answer ≡ due.status
    → bytes ≡ due.bytes → IsDue call.words call.held call.shelf due → Grows call.written.0 call.written.1 bytes
    → IsTold call.crowd due.told → EndsWith call answer
ends_answered {call} due answer bytes s b is g k =
    subst (λ x. EndsWith call x) (sym s) (answered due is (subst (λ x. Grows call.written.0 call.written.1 x) b g) k)

-- a prefix of the answer was written
pub ends_short : {call : Call} (due : Due) (bytes : List ℕ) (n : ℕ) → bytes ≡ due.bytes
    → IsDue call.words call.held call.shelf due → HasRisen call.write_faults.0 call.write_faults.1 → n < length bytes
    → Grows call.written.0 call.written.1 (take n bytes) → IsTold call.crowd due.told → EndsWith call status.WriteFault
ends_short {call} due bytes n b is risen less g k =
    write_failed due n is risen (subst (λ x. n < length x) b less)
    (subst (λ x. Grows call.written.0 call.written.1 (take n x)) b g) k
