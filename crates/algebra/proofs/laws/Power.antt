-- Powers modulo p by squaring are powers; Euler's criterion for a number that is no square.
use Rattle.std.specs.Prelude.{◌≡◌, refl, ◌≢◌, Bool, true, false, cond, ℕ, zero, suc, pred, ◌+◌, ◌*◌, ◌^◌, ◌<◌, ◌/◌, ◌%◌, eqb}
use Rattle.std.proofs.Common.{sym, ap, ap₂, ◌∙◌, ⊎_elim, arith, pow-suc, mul_comm, one-mul, mod-eq_of_lt, eq-zero-or-pos, zero-mul, mod-lt, lit<, pow-add, eqb-true}
use Rattle.std.proofs.Math.Nat.{pow-zero, mul-mul-mul_comm, zero-mod}
use Rattle.std.proofs.lemmas.Bool.{eqb-false}
use Rattle.algebra.proofs.laws.Remainder.{mul-mod-mod, mod-mul-mod}
use Rattle.algebra.specs.Prime.{Prime}
use Rattle.algebra.specs.Power.{pow_m}
use Rattle.algebra.proofs.laws.Fermat.{fermat}

pub mul_pow : (a b n : ℕ) → (a * b) ^ n ≡ a ^ n * b ^ n
mul_pow a b zero = pow-zero (a * b) ∙ sym (ap₂ ◌*◌ (pow-zero a) (pow-zero b))
mul_pow a b (suc n) =
    pow-suc (a * b) n ∙ ap (λ (x : ℕ). x * (a * b)) (mul_pow a b n) ∙ mul-mul-mul_comm (a ^ n) (b ^ n) a b
    ∙ sym (ap₂ ◌*◌ (pow-suc a n) (pow-suc b n))

pub mod_pow : (a n p : ℕ) → (a % p) ^ n % p ≡ a ^ n % p
mod_pow a zero p = ap (λ (x : ℕ). x % p) (pow-zero (a % p) ∙ sym (pow-zero a))
mod_pow a (suc n) p =
    ap (λ (x : ℕ). x % p) (pow-suc (a % p) n) ∙ mul-mod-mod ((a % p) ^ n) a p ∙ sym (mod-mul-mod ((a % p) ^ n) a p)
    ∙ ap (λ (x : ℕ). (x * a) % p) (mod_pow a n p) ∙ mod-mul-mod (a ^ n) a p ∙ ap (λ (x : ℕ). x % p) (sym (pow-suc a n))

square : (p a n : ℕ) → ((a * a) % p) ^ n % p ≡ a ^ (n + n) % p
square p a n = mod_pow (a * a) n p ∙ ap (λ (x : ℕ). x % p) (mul_pow a a n ∙ sym (pow-add a n n))

-- n is twice its half, and one more where it is odd
halves : (n : ℕ) → n % 2 + (n / 2 + n / 2) ≡ n
halves n = omega arith

pow_m-step : (p a n h : ℕ) (even : Bool) → eqb (n % 2) 0 ≡ even → n % 2 + (h + h) ≡ n → n % 2 < 2
    → (cond even 1 a * (a ^ (h + h) % p)) % p ≡ a ^ n % p
pow_m-step p a n h true e f l =
    mul-mod-mod 1 (a ^ (h + h)) p ∙ ap (λ (x : ℕ). x % p) (one-mul (a ^ (h + h)))
    ∙ ap (λ (x : ℕ). a ^ x % p) (omega (arith, eqb-true (n % 2) 0 e))
pow_m-step p a n h false e f l =
    let odd : suc (h + h) ≡ n = omega (arith, eqb-false (n % 2) 0 e) in
    mul-mod-mod a (a ^ (h + h)) p ∙ ap (λ (x : ℕ). x % p) (mul_comm a (a ^ (h + h)) ∙ sym (pow-suc a (h + h)))
    ∙ ap (λ (x : ℕ). a ^ x % p) odd

-- what is computed by squaring is the power
pub pow_m_ok : (p : ℕ) → 1 < p → (digits a n : ℕ) → n < 2 ^ digits → pow_m p digits a n ≡ a ^ n % p
unfolding pow_m
pow_m_ok p big zero a n l =
    let z : n ≡ 0 = omega (arith, pow-zero 2) in
    sym (mod-eq_of_lt big) ∙ ap (λ (x : ℕ). x % p) (sym (pow-zero a) ∙ ap (λ (x : ℕ). a ^ x) (sym z))
pow_m_ok p big (suc digits) a n l =
    ap (λ (x : ℕ). (cond (eqb (n % 2) 0) 1 a * x) % p)
    (pow_m_ok p big digits ((a * a) % p) (n / 2) (omega (arith, pow-suc 2 digits)) ∙ square p a (n / 2))
    ∙ pow_m-step p a n (n / 2) (eqb (n % 2) 0) refl (halves n) (mod-lt n (lit< tt))

-- Euler: what does not come to 1 at the power h = (p - 1) ÷ 2 is no square
pub no_square : (p : ℕ) → Prime p → (w h digits : ℕ) → pred p ≡ h + h → h < 2 ^ digits → pow_m p digits w h ≢ 1 → w % p ≢ 0
    → (s : ℕ) → s < p → (s * s) % p ≢ w % p
no_square p P w k digits half few h nz s l e =
    ⊎_elim (λ (z : s ≡ 0). nz (sym e ∙ ap (λ (x : ℕ). (x * s) % p) z ∙ ap (λ (x : ℕ). x % p) (zero-mul s) ∙ zero-mod p))
    (λ (pos : 0 < s).
    h
    (pow_m_ok p P.big digits w k few ∙ sym (mod_pow w k p) ∙ ap (λ (x : ℕ). x ^ k % p) (sym e) ∙ square p s k
    ∙ ap (λ (x : ℕ). s ^ x % p) (sym half) ∙ fermat p P s pos l))
    (eq-zero-or-pos s)
