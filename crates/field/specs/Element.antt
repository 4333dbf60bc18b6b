-- Extension elements. SPECIFICATION, section 2.1: "four field words c0, c1, c2, c3", "c0 + c1·X + c2·X² + c3·X³"; here X⁴ = w,
-- and an element is the list of its four words.
use Rattle.std.specs.Prelude.{ℕ, zero, suc, ◌+◌, ◌*◌, ◌<◌, ◌%◌, Bool, ◌&&◌, List, [], ◌∷◌, eqb, get_or}
use Rattle.field.specs.Word.{add_m, sub_m, mul_m, neg_m, inverse1}

abbrev pub at : List ℕ → ℕ → ℕ
at l i = get_or l i 0

-- each of the four words is below p
pub record Word4 (p : ℕ) (l : List ℕ) : Type 0 where
  pub w0 : at l 0 < p
  pub w1 : at l 1 < p
  pub w2 : at l 2 < p
  pub w3 : at l 3 < p

-- a word as an element
abbrev pub lift : ℕ → List ℕ
lift a = a ∷ 0 ∷ 0 ∷ 0 ∷ []

abbrev pub zero4 : List ℕ
zero4 = lift 0

abbrev pub one4 : List ℕ
one4 = lift 1

unfoldable pub add4 : ℕ → List ℕ → List ℕ → List ℕ
add4 p a b = add_m p (at a 0) (at b 0) ∷ add_m p (at a 1) (at b 1) ∷ add_m p (at a 2) (at b 2) ∷ add_m p (at a 3) (at b 3) ∷ []

unfoldable pub sub4 : ℕ → List ℕ → List ℕ → List ℕ
sub4 p a b = sub_m p (at a 0) (at b 0) ∷ sub_m p (at a 1) (at b 1) ∷ sub_m p (at a 2) (at b 2) ∷ sub_m p (at a 3) (at b 3) ∷ []

unfoldable pub neg4 : ℕ → List ℕ → List ℕ
neg4 p a = neg_m p (at a 0) ∷ neg_m p (at a 1) ∷ neg_m p (at a 2) ∷ neg_m p (at a 3) ∷ []

-- the product of two polynomials, with w for X⁴
unfoldable pub mul4 : ℕ → ℕ → List ℕ → List ℕ → List ℕ
mul4 p w a b =
    (at a 0 * at b 0 + w * (at a 1 * at b 3 + at a 2 * at b 2 + at a 3 * at b 1)) % p
    ∷ (at a 0 * at b 1 + at a 1 * at b 0 + w * (at a 2 * at b 3 + at a 3 * at b 2)) % p
    ∷ (at a 0 * at b 2 + at a 1 * at b 1 + at a 2 * at b 0 + w * (at a 3 * at b 3)) % p
    ∷ (at a 0 * at b 3 + at a 1 * at b 2 + at a 2 * at b 1 + at a 3 * at b 0) % p
    ∷ []

-- a word times an element
unfoldable pub scale4 : ℕ → ℕ → List ℕ → List ℕ
scale4 p z a = mul_m p z (at a 0) ∷ mul_m p z (at a 1) ∷ mul_m p z (at a 2) ∷ mul_m p z (at a 3) ∷ []

-- b to the power n, 1 where n is 0
unfoldable pub power4 : ℕ → ℕ → List ℕ → ℕ → List ℕ
power4 p w b zero = one4
power4 p w b (suc n) = mul4 p w (power4 p w b n) b

-- f 0 + .. + f (n - 1)
unfoldable pub sum4 : ℕ → (ℕ → List ℕ) → ℕ → List ℕ
sum4 p f zero = zero4
sum4 p f (suc n) = add4 p (sum4 p f n) (f n)

-- f 0 · .. · f (n - 1)
unfoldable pub product4 : ℕ → ℕ → (ℕ → List ℕ) → ℕ → List ℕ
product4 p w f zero = one4
product4 p w f (suc n) = mul4 p w (product4 p w f n) (f n)

-- a(-X), and n(X) with -X² for X²
unfoldable pub conjugate : ℕ → List ℕ → List ℕ
conjugate p a = at a 0 ∷ neg_m p (at a 1) ∷ at a 2 ∷ neg_m p (at a 3) ∷ []

unfoldable pub conjugate2 : ℕ → List ℕ → List ℕ
conjugate2 p n = at n 0 ∷ at n 1 ∷ neg_m p (at n 2) ∷ at n 3 ∷ []

-- a(X)·a(-X) = n0 + n1·X²
unfoldable pub norm2 : ℕ → ℕ → List ℕ → List ℕ
norm2 p w a = mul4 p w a (conjugate p a)

-- (n0 + n1·X²)·(n0 - n1·X²) is a word
unfoldable pub norm : ℕ → ℕ → List ℕ → ℕ
norm p w a = at (mul4 p w (norm2 p w a) (conjugate2 p (norm2 p w a))) 0

-- a(-X)·(n0 - n1·X²): its product with a is the norm
abbrev pub cofactor : ℕ → ℕ → List ℕ → List ℕ
cofactor p w a = mul4 p w (conjugate p a) (conjugate2 p (norm2 p w a))

-- 1 ÷ a = cofactor ÷ norm, 0 where a is 0
unfoldable pub inverse4 : ℕ → ℕ → List ℕ → List ℕ
inverse4 p w a = mul4 p w (cofactor p w a) (lift (inverse1 p (norm p w a)))

unfoldable pub is_zero : List ℕ → Bool
is_zero a = eqb (at a 0) 0 && eqb (at a 1) 0 && eqb (at a 2) 0 && eqb (at a 3) 0

-- element i of a list of words, four to an element
unfoldable pub element : List ℕ → ℕ → List ℕ
element l i = at l (4 * i) ∷ at l (4 * i + 1) ∷ at l (4 * i + 2) ∷ at l (4 * i + 3) ∷ []
