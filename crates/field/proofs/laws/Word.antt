-- The laws of the operations on words. The crates above use these, and open no operation.
use Rattle.std.specs.Prelude.{◌≡◌, ℕ, ◌+◌, ◌*◌, ◌-◌, ◌<◌, ◌%◌}
use Rattle.std.proofs.Math.Path.{sym, ap}
use Rattle.std.proofs.Common.{◌∙◌, add_comm, add_assoc, add-zero, mul_comm, mul_assoc, mul-one, mul-zero}
use Rattle.std.proofs.Math.Nat.{mod-lt, mod-eq_of_lt, mod-mod, add-mod, mod-add-mod, add-mod-mod, zero-mod}
use Rattle.algebra.proofs.laws.Remainder.{mul-mod-mod, mod-mul-mod}
use Rattle.field.specs.Word.{add_m, sub_m, neg_m, mul_m}

module _ (p : ℕ) where
  -- every result is below p
  module _ (pos : 0 < p) where
    pub add_m-below : (a b : ℕ) → add_m p a b < p
    unfolding add_m
    add_m-below a b = mod-lt (a + b) pos

    pub neg_m-below : (a : ℕ) → neg_m p a < p
    unfolding neg_m
    neg_m-below a = mod-lt (p - a % p) pos

    pub sub_m-below : (a b : ℕ) → sub_m p a b < p
    unfolding sub_m
    sub_m-below a b = add_m-below a (neg_m p b)

    pub mul_m-below : (a b : ℕ) → mul_m p a b < p
    unfolding mul_m
    mul_m-below a b = mod-lt (a * b) pos

  -- sums
  pub add_m_comm : (a b : ℕ) → add_m p a b ≡ add_m p b a
  unfolding add_m
  add_m_comm a b = ap (λ (n : ℕ). n % p) (add_comm a b)

  pub add_m_assoc : (a b c : ℕ) → add_m p (add_m p a b) c ≡ add_m p a (add_m p b c)
  unfolding add_m
  add_m_assoc a b c = mod-add-mod (a + b) p c ∙ ap (λ (n : ℕ). n % p) (add_assoc a b c) ∙ sym (add-mod-mod a (b + c) p)

  pub add_m-zero : (a : ℕ) → a < p → add_m p a 0 ≡ a
  unfolding add_m
  add_m-zero a l = ap (λ (n : ℕ). n % p) (add-zero a) ∙ mod-eq_of_lt l

  pub zero-add_m : (a : ℕ) → a < p → add_m p 0 a ≡ a
  zero-add_m a l = add_m_comm 0 a ∙ add_m-zero a l

  -- many sums are one sum modulo p: a sum so far may be reduced or not, before a word is added and after it
  pub add_m-sum : (n a : ℕ) → add_m p (n % p) a ≡ (n + a) % p
  unfolding add_m
  add_m-sum n a = mod-add-mod n p a

  pub sum-add_m : (a n : ℕ) → add_m p a (n % p) ≡ (a + n) % p
  unfolding add_m
  sum-add_m a n = add-mod-mod a n p

  pub add_m-more : (a b n : ℕ) → (add_m p a b + n) % p ≡ (a + b + n) % p
  unfolding add_m
  add_m-more a b n = mod-add-mod (a + b) p n

  -- products
  pub mul_m_comm : (a b : ℕ) → mul_m p a b ≡ mul_m p b a
  unfolding mul_m
  mul_m_comm a b = ap (λ (n : ℕ). n % p) (mul_comm a b)

  pub mul_m_assoc : (a b c : ℕ) → mul_m p (mul_m p a b) c ≡ mul_m p a (mul_m p b c)
  unfolding mul_m
  mul_m_assoc a b c = mod-mul-mod (a * b) c p ∙ ap (λ (n : ℕ). n % p) (mul_assoc a b c) ∙ sym (mul-mod-mod a (b * c) p)

  pub mul_m-one : (a : ℕ) → a < p → mul_m p a 1 ≡ a
  unfolding mul_m
  mul_m-one a l = ap (λ (n : ℕ). n % p) (mul-one a) ∙ mod-eq_of_lt l

  pub one-mul_m : (a : ℕ) → a < p → mul_m p 1 a ≡ a
  one-mul_m a l = mul_m_comm 1 a ∙ mul_m-one a l

  pub mul_m-zero : (a : ℕ) → mul_m p a 0 ≡ 0
  unfolding mul_m
  mul_m-zero a = ap (λ (n : ℕ). n % p) (mul-zero a) ∙ zero-mod p

  pub zero-mul_m : (a : ℕ) → mul_m p 0 a ≡ 0
  zero-mul_m a = mul_m_comm 0 a ∙ mul_m-zero a

  -- a number may be reduced before it is added, multiplied or negated, and a product after it is added
  pub add_m-mod : (n a : ℕ) → add_m p (n % p) a ≡ add_m p n a
  unfolding add_m
  add_m-mod n a = mod-add-mod n p a

  pub mul_m-mod : (n a : ℕ) → mul_m p (n % p) a ≡ mul_m p n a
  unfolding mul_m
  mul_m-mod n a = mod-mul-mod n a p

  pub neg_m-mod : (n : ℕ) → neg_m p (n % p) ≡ neg_m p n
  unfolding neg_m
  neg_m-mod n = ap (λ (k : ℕ). (p - k) % p) (mod-mod n p)

  pub mul_m_added : (n a b : ℕ) → (n + a * b) % p ≡ add_m p (n % p) (mul_m p a b)
  unfolding add_m mul_m
  mul_m_added n a b = add-mod n (a * b) p
