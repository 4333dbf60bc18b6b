-- What is known of the prime and the value of X⁴ of either field.
use Rattle.std.specs.Prelude.{refl, Bool, true, false, cond, ℕ, ◌<◌, eqb}
use Rattle.std.proofs.Common.{inl, inr, lit<, lit≤}
use Rattle.field.specs.Modulus.{Modulus, Certificate}
use Rattle.field.specs.inner.Requires.{KnownPrime}
use Rattle.field.proofs.laws.Certificates.{babybear-certificate, koalabear-certificate}
use Rattle.field.specs.Known.{babybear, babybear_w, koalabear, koalabear_w, prime_of, w_of}

pub babybear-modulus : Modulus babybear
babybear-modulus = record { big = lit< tt; small = lit≤ tt }

-- a known prime is a modulus of the laws
pub modulus : {p : ℕ} → KnownPrime p → Modulus p
modulus k = record { big = k.big; small = k.small }

-- whatever the number of the field
pub known-prime : (field : ℕ) → KnownPrime (prime_of field)
unfolding prime_of
known-prime field = by (eqb field 2)
  where
    by : (b : Bool) → KnownPrime (cond b koalabear babybear)
    by true = record { big = lit< tt; small = lit≤ tt; one_of_two = inr refl }
    by false = record { big = lit< tt; small = lit≤ tt; one_of_two = inl refl }

pub modulus_of : (field : ℕ) → Modulus (prime_of field)
modulus_of field = modulus (known-prime field)

pub w_below : (field : ℕ) → w_of field < prime_of field
unfolding prime_of w_of
w_below field = by (eqb field 2)
  where
    by : (b : Bool) → cond b koalabear_w babybear_w < cond b koalabear babybear
    by true = lit< tt
    by false = lit< tt

pub certificate_of : (field : ℕ) → Certificate (prime_of field) (w_of field)
unfolding prime_of w_of
certificate_of field = by (eqb field 2)
  where
    by : (b : Bool) → Certificate (cond b koalabear babybear) (cond b koalabear_w babybear_w)
    by true = koalabear-certificate
    by false = babybear-certificate
