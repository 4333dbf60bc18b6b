-- The worked cases of SPECIFICATION, section 12.1, that are about the field alone, and the like in field 2, as one table with one theorem.
use Rattle.std.specs.Prelude.{cond, List, [], ◌∷◌, T}
use Rattle.lists.specs.Same.{same_list}
use Rattle.lists.specs.Cases.{Case, hold}
use Rattle.algebra.specs.Power.{pow_m}
use Rattle.field.specs.Word.{add_m, neg_m, sub_m, mul_m, inverse1}
use Rattle.field.specs.Element.{lift, add4, sub4, mul4, conjugate, conjugate2, norm2, norm, inverse4}
use Rattle.field.specs.Known.{babybear, babybear_w, koalabear, koalabear_w, known_field, prime_of, w_of}

abbrev pub cases : List Case
cases =
    -- c3: X³ × X = 11
    record { computed = mul4 babybear babybear_w (0 ∷ 0 ∷ 0 ∷ 1 ∷ []) (0 ∷ 1 ∷ 0 ∷ 0 ∷ []); expected = lift 11 }
    -- c4: 1 ÷ (5 - 3) and 1 ÷ (5 - 4), and their sum
    ∷ record { computed = inverse4 babybear babybear_w (sub4 babybear (lift 5) (lift 3)); expected = lift 1006632961 }
    ∷ record { computed = inverse4 babybear babybear_w (sub4 babybear (lift 5) (lift 4)); expected = lift 1 }
    ∷ record { computed = add4 babybear (lift 1006632961) (lift 1); expected = lift 1006632962 }
    -- c6: 3 - 3 is zero
    ∷ record { computed = sub4 babybear (lift 3) (lift 3); expected = lift 0 }
    -- the fields 1 and 2 are known, each with its prime and its value of X⁴; 0 and 3 are not
    ∷ record {
      computed = cond (known_field 0) 1 0 ∷ cond (known_field 1) 1 0 ∷ cond (known_field 2) 1 0 ∷ cond (known_field 3) 1 0 ∷ [];
      expected = 0 ∷ 1 ∷ 1 ∷ 0 ∷ [];
    }
    ∷ record { computed = prime_of 1 ∷ w_of 1 ∷ prime_of 2 ∷ w_of 2 ∷ []; expected = 2013265921 ∷ 11 ∷ 2130706433 ∷ 3 ∷ [] }
    -- in field 2: X³ × X = 3, X³ × X³ = 3 · X²
    ∷ record { computed = mul4 koalabear koalabear_w (0 ∷ 0 ∷ 0 ∷ 1 ∷ []) (0 ∷ 1 ∷ 0 ∷ 0 ∷ []); expected = lift 3 }
    ∷ record { computed = mul4 koalabear koalabear_w (0 ∷ 0 ∷ 0 ∷ 1 ∷ []) (0 ∷ 0 ∷ 0 ∷ 1 ∷ []); expected = 0 ∷ 0 ∷ 3 ∷ 0 ∷ [] }
    -- 1 ÷ 2, and 1 ÷ X = X³ ÷ 3
    ∷ record { computed = inverse4 koalabear koalabear_w (lift 2); expected = lift 1065353217 }
    ∷ record { computed = inverse4 koalabear koalabear_w (0 ∷ 1 ∷ 0 ∷ 0 ∷ []); expected = 0 ∷ 0 ∷ 0 ∷ 710235478 ∷ [] }
    -- the prime of field 1 is a word like any other
    ∷ record { computed = add4 koalabear (lift 2013265921) (lift 1); expected = lift 2013265922 }
    ∷ record { computed = sub4 koalabear (lift 0) (lift 2013265921); expected = lift 117440512 }
    ∷ []

pub cases-hold : T (hold cases)
unfolding known_field prime_of w_of pow_m add_m neg_m sub_m mul_m inverse1 add4 sub4 mul4 conjugate conjugate2 norm2 norm inverse4 same_list
cases-hold = tt
