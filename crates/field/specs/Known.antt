-- The two fields, by number. SPECIFICATION, section 2.1.
use Rattle.std.specs.Prelude.{ℕ, Bool, cond, ◌||◌, eqb}

-- field 1: "p = 2013265921", "X⁴ = 11"
abbrev pub babybear : ℕ
babybear = 2013265921

abbrev pub babybear_w : ℕ
babybear_w = 11

-- field 2: "p = 2130706433", "X⁴ = 3"
abbrev pub koalabear : ℕ
koalabear = 2130706433

abbrev pub koalabear_w : ℕ
koalabear_w = 3

unfoldable pub known_field : ℕ → Bool
known_field field = eqb field 1 || eqb field 2

-- the prime of a known field; a call that names another is refused before it is read
unfoldable pub prime_of : ℕ → ℕ
prime_of field = cond (eqb field 2) koalabear babybear

-- and its value of X⁴
unfoldable pub w_of : ℕ → ℕ
w_of field = cond (eqb field 2) koalabear_w babybear_w
