-- What the code computes is the definition: reduced sums and differences, the product by four sums of four products, and a turn of the
-- loop that finds an inverse.
use Rattle.std.specs.Prelude.{◌≡◌, List, [], ◌∷◌, ℕ, zero, suc, ◌+◌, ◌*◌, ◌-◌, ◌<◌, ◌≤◌, ◌%◌, ◌/◌}
use Rattle.std.proofs.Common.{sym, ap, ◌∙◌, arith, mod-eq_of_lt, mul-le-mul, div-le_self, mod-lt, mul_assoc, lt_trans}
use Rattle.std.proofs.Math.Nat.{mod-eq-sub-mod, mod_self, zero-mod, add-mod, add-mod-mod, add-mod_right, div-add-mod, add-mul-mod_self_left}
use Rattle.algebra.proofs.laws.Remainder.{mul-mod-mod, mod-mul-mod}
use Rattle.field.specs.Word.{add_m, sub_m, mul_m, neg_m, dot}
use Rattle.field.specs.Element.{at, mul4}
use Rattle.field.specs.Modulus.{Modulus}

-- a number below 2·p, reduced
once : (p n : ℕ) → p ≤ n → n < p + p → n - p ≡ n % p
once p n h l = sym (mod-eq_of_lt (omega arith)) ∙ sym (mod-eq-sub-mod h)

-- the sum of two words, reduced at most once
pub add-lt : (p a b : ℕ) → a + b < p → a + b ≡ add_m p a b
unfolding add_m
add-lt p a b l = sym (mod-eq_of_lt l)

pub add_ge : (p a b : ℕ) → p ≤ a + b → a < p → b < p → a + b - p ≡ add_m p a b
unfolding add_m
add_ge p a b h k l = once p (a + b) h (omega arith)

-- a product of words fits 62 bits
pub prod : (p a b : ℕ) → Modulus p → a < p → b < p → a * b ≤ 2147483647 * 2147483647
prod p a b m h k = mul-le-mul {n₂ = 2147483647} {m₂ = 2147483647} (omega (arith, m.small)) (omega (arith, m.small))

sub_is : (p a b : ℕ) → b < p → sub_m p a b ≡ (a + (p - b)) % p
unfolding sub_m add_m neg_m
sub_is p a b l = add-mod-mod a (p - b % p) p ∙ ap (λ (n : ℕ). (a + (p - n)) % p) (mod-eq_of_lt l)

pub sub-lt : (p a b : ℕ) → a < b → b < p → a + (p - b) ≡ sub_m p a b
sub-lt p a b h l = sym (mod-eq_of_lt (omega arith)) ∙ sym (sub_is p a b l)

pub sub_ge : (p a b : ℕ) → b ≤ a → a < p → a - b ≡ sub_m p a b
sub_ge p a b h l =
    sym (mod-eq_of_lt (omega arith)) ∙ sym (add-mod_right (a - b) p) ∙ ap (λ (n : ℕ). n % p) e ∙ sym (sub_is p a b (omega arith))
  where
    e : a - b + p ≡ a + (p - b)
    e = omega arith

pub neg-zero : (p a : ℕ) → a ≡ 0 → 0 ≡ neg_m p a
unfolding neg_m
neg-zero p a e =
    let k : p ≡ p - a % p = omega (arith, ap (λ (n : ℕ). n % p) e ∙ zero-mod p) in
    sym (mod_self p) ∙ ap (λ (n : ℕ). n % p) k

pub neg-pos : (p a : ℕ) → 0 < a → a < p → p - a ≡ neg_m p a
unfolding neg_m
neg-pos p a h l = sym (mod-eq_of_lt (omega arith)) ∙ ap (λ (n : ℕ). (p - n) % p) (sym (mod-eq_of_lt l))

-- w·s may be reduced before it is multiplied
pub fold3 : (p w x s t s' t' s'' t'' : ℕ)
    → (x + (w * s % p) * t + (w * s' % p) * t' + (w * s'' % p) * t'') % p ≡ (x + w * (s * t + s' * t' + s'' * t'')) % p
fold3 p w x s t s' t' s'' t'' =
    sym (add-mul-mod_self_left _ p (w * s / p * t + w * s' / p * t' + w * s'' / p * t''))
    ∙ ap (λ (n : ℕ). n % p)
    (omega
    (arith, ap (λ (n : ℕ). n * t) (div-add-mod (w * s) p), ap (λ (n : ℕ). n * t') (div-add-mod (w * s') p), ap (λ (n : ℕ). n * t'') (div-add-mod (w * s'') p)))

pub fold2 : (p w x s t s' t' : ℕ) → (x + (w * s % p) * t + (w * s' % p) * t') % p ≡ (x + w * (s * t + s' * t')) % p
fold2 p w x s t s' t' =
    sym (add-mul-mod_self_left _ p (w * s / p * t + w * s' / p * t'))
    ∙ ap (λ (n : ℕ). n % p)
    (omega (arith, ap (λ (n : ℕ). n * t) (div-add-mod (w * s) p), ap (λ (n : ℕ). n * t') (div-add-mod (w * s') p)))

pub fold1 : (p w x s t : ℕ) → (x + (w * s % p) * t) % p ≡ (x + w * (s * t)) % p
fold1 p w x s t =
    sym (add-mul-mod_self_left _ p (w * s / p * t)) ∙ ap (λ (n : ℕ). n % p) (omega (arith, ap (λ (n : ℕ). n * t) (div-add-mod (w * s) p)))

-- the sum of four products by operations modulo p
pub dot-sums : (p a b c d e f g h : ℕ) → dot p a b c d e f g h ≡ add_m p (add_m p (add_m p (mul_m p a b) (mul_m p c d)) (mul_m p e f)) (mul_m p g h)
unfolding add_m mul_m
dot-sums p a b c d e f g h =
    add-mod (a * b + c * d + e * f) (g * h) p
    ∙ ap (λ (n : ℕ). add_m p n (mul_m p g h)) (add-mod (a * b + c * d) (e * f) p ∙ ap (λ (n : ℕ). add_m p n (mul_m p e f)) (add-mod (a * b) (c * d) p))

-- the product by four sums of four products
pub mul4_by : (p w : ℕ) (a b : List ℕ) (w1 w2 w3 c0 c1 c2 c3 : ℕ)
    → w1 ≡ mul_m p w (at a 1) → w2 ≡ mul_m p w (at a 2) → w3 ≡ mul_m p w (at a 3)
    → c0 ≡ dot p (at a 0) (at b 0) w1 (at b 3) w2 (at b 2) w3 (at b 1)
    → c1 ≡ dot p (at a 0) (at b 1) (at a 1) (at b 0) w2 (at b 3) w3 (at b 2)
    → c2 ≡ dot p (at a 0) (at b 2) (at a 1) (at b 1) (at a 2) (at b 0) w3 (at b 3)
    → c3 ≡ dot p (at a 0) (at b 3) (at a 1) (at b 2) (at a 2) (at b 1) (at a 3) (at b 0)
    → c0 ∷ c1 ∷ c2 ∷ c3 ∷ [] ≡ mul4 p w a b
unfolding mul4 mul_m
mul4_by p w a b w1 w2 w3 c0 c1 c2 c3 e1 e2 e3 f0 f1 f2 f3 =
    cc (
      fold3 p w (at a 0 * at b 0) (at a 1) (at b 3) (at a 2) (at b 2) (at a 3) (at b 1),
      fold2 p w (at a 0 * at b 1 + at a 1 * at b 0) (at a 2) (at b 3) (at a 3) (at b 2),
      fold1 p w (at a 0 * at b 2 + at a 1 * at b 1 + at a 2 * at b 0) (at a 3) (at b 3),
    )

-- One turn of the loop that finds an inverse, from x = a·t to p mod x.
step : (p k q m r : ℕ) → m + q ≡ p → suc k * q + r ≡ p → suc k * m ≡ r + p * k
step p k q m r e f = omega (arith, ap (λ (n : ℕ). suc k * n) e, f)

pub turn : (p a t x : ℕ) → 0 < x → x < p → mul_m p a t ≡ x → mul_m p a (mul_m p t (p - p / x)) ≡ p % x
unfolding mul_m
turn p a t zero h l e = absurd (omega arith)
turn p a t (suc k) h l e =
    mul-mod-mod a (t * (p - p / suc k)) p ∙ ap (λ (n : ℕ). n % p) (sym (mul_assoc a t (p - p / suc k)))
    ∙ sym (mod-mul-mod (a * t) (p - p / suc k) p) ∙ ap (λ (n : ℕ). (n * (p - p / suc k)) % p) e
    ∙ ap (λ (n : ℕ). n % p)
    (step p k (p / suc k) (p - p / suc k) (p % suc k) (omega (arith, div-le_self p (suc k))) (div-add-mod p (suc k)))
    ∙ add-mul-mod_self_left (p % suc k) p k ∙ mod-eq_of_lt (lt_trans (mod-lt p h) l)
