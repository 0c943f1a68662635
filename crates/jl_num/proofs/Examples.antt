-- Values of the definitions, which compute.
use Rattle.std.proofs.Common.{◌≡◌, refl, Some, None, pos, negsuc}
use Rattle.std.specs.Prelude.{codes}
use Rattle.jl_num.specs.Arithmetic.{sum_of, difference_of, product_of, quotient_of, remainder_of}
use Rattle.jl_num.specs.Digits.{number_text}

minus_255 : number_text (Some (negsuc 254)) 16 ≡ codes "-ff"
minus_255 = refl

least : number_text (Some (negsuc 9007199254740990)) 10 ≡ codes "-9007199254740991"
least = refl

fraction : quotient_of (Some (pos 7)) (Some (pos 2)) ≡ None
fraction = refl

zero_by_zero : quotient_of (Some (pos 0)) (Some (pos 0)) ≡ Some None
zero_by_zero = refl

one_by_zero : quotient_of (Some (pos 1)) (Some (pos 0)) ≡ None
one_by_zero = refl

negative_quotient : quotient_of (Some (negsuc 5)) (Some (pos 2)) ≡ Some (Some (negsuc 2))
negative_quotient = refl

remainder_by_zero : remainder_of (Some (pos 5)) (Some (pos 0)) ≡ None
remainder_by_zero = refl

negative_dividend : remainder_of (Some (negsuc 4)) (Some (pos 3)) ≡ Some (negsuc 1)
negative_dividend = refl

past_the_largest : sum_of (Some (pos 9007199254740991)) (Some (pos 1)) ≡ None
past_the_largest = refl

up_to_the_largest : sum_of (Some (pos 9007199254740990)) (Some (pos 1)) ≡ Some (Some (pos 9007199254740991))
up_to_the_largest = refl

zero_text : number_text (Some (pos 0)) 2 ≡ codes "0"
zero_text = refl

nan_text : number_text None 36 ≡ codes "NaN"
nan_text = refl

product_of_opposites : product_of (Some (negsuc 9007199254740990)) (Some (negsuc 0))
    ≡ Some (Some (pos 9007199254740991))
product_of_opposites = refl

difference_below_zero : difference_of (Some (pos 5)) (Some (pos 7)) ≡ Some (Some (negsuc 1))
difference_below_zero = refl

with_nan : sum_of None (Some (pos 1)) ≡ Some None
with_nan = refl
