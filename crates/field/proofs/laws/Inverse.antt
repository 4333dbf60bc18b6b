-- The inverse of a word and of an element is the only one whose product with it is one; that of zero is zero.
use Rattle.std.specs.Prelude.{◌≡◌}
use Rattle.std.proofs.Math.Path.{sym, ap}
use Rattle.std.proofs.Common.{◌∙◌, subst, arith, mod-lt, mul_comm, mul_assoc, one-mul, pow-suc, mul-zero, lt_of_le_of_lt, lit<}
use Prim.Native.Nat.{ℕ, suc, pred, ◌*◌, ◌-◌, ◌^◌, ◌<◌, ◌%◌}
use Rattle.std.proofs.Math.Nat.{mod-eq_of_lt, zero-mod}
use Rattle.algebra.specs.Prime.{Prime}
use Rattle.algebra.proofs.laws.Remainder.{mul-mod-mod, mod-mul-mod}
use Rattle.algebra.proofs.laws.Fermat.{fermat}
use Rattle.algebra.proofs.laws.Power.{pow_m_ok}
use Rattle.field.specs.Word.{mul_m, inverse1}
use Rattle.field.specs.Modulus.{Modulus}

module _ (p : ℕ) (m : Modulus p) where
  -- the exponent has at most 32 binary digits
  few : p - 2 < 2 ^ 32
  few = lt_of_le_of_lt {m = 2147483648} (omega (arith, m.small)) (lit< tt)

  pub inverse1_is : (a : ℕ) → inverse1 p a ≡ a ^ (p - 2) % p
  unfolding inverse1
  inverse1_is a = pow_m_ok p (omega (arith, m.big)) 32 a (p - 2) few

  pub inverse1-below : (a : ℕ) → inverse1 p a < p
  inverse1-below a = subst (λ (n : ℕ). n < p) (sym (inverse1_is a)) (mod-lt _ (omega (arith, m.big)))

  pub inverse1-zero : inverse1 p 0 ≡ 0
  inverse1-zero =
      let e : p - 2 ≡ suc (p - 3) = omega (arith, m.big) in
      inverse1_is 0 ∙ ap (λ (n : ℕ). 0 ^ n % p) e ∙ ap (λ (n : ℕ). n % p) (pow-suc 0 (p - 3) ∙ mul-zero (0 ^ (p - 3))) ∙ zero-mod p

  pub inverse1_ok : Prime p → (a : ℕ) → 0 < a → a < p → mul_m p a (inverse1 p a) ≡ 1
  unfolding mul_m
  inverse1_ok P a h l =
      let e : suc (p - 2) ≡ pred p = omega (arith, m.big) in
      ap (λ (n : ℕ). (a * n) % p) (inverse1_is a) ∙ mul-mod-mod a (a ^ (p - 2)) p
      ∙ ap (λ (n : ℕ). n % p) (mul_comm a (a ^ (p - 2)) ∙ sym (pow-suc a (p - 2)) ∙ ap (λ (n : ℕ). a ^ n) e) ∙ fermat p P a h l

  -- r = r·(a·b) = (r·a)·b = b
  pub inverse_unique : (a b r : ℕ) → b < p → r < p → mul_m p a b ≡ 1 → mul_m p a r ≡ 1 → r ≡ b
  unfolding mul_m
  inverse_unique a b r k l e f =
      sym (mod-eq_of_lt l) ∙ ap (λ (n : ℕ). n % p) (omega arith) ∙ ap (λ (n : ℕ). (r * n) % p) (sym e) ∙ mul-mod-mod r (a * b) p
      ∙ ap (λ (n : ℕ). n % p) (sym (mul_assoc r a b) ∙ ap (λ (n : ℕ). n * b) (mul_comm r a)) ∙ sym (mod-mul-mod (a * r) b p)
      ∙ ap (λ (n : ℕ). (n * b) % p) f ∙ ap (λ (n : ℕ). n % p) (one-mul b) ∙ mod-eq_of_lt k

  pub inverse1_unique : Prime p → (a r : ℕ) → 0 < a → a < p → r < p → mul_m p a r ≡ 1 → r ≡ inverse1 p a
  inverse1_unique P a r h k l e = inverse_unique a (inverse1 p a) r (inverse1-below a) l (inverse1_ok P a h k) e
