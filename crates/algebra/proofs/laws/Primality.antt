-- Primality by trial division, inverses modulo a prime, and Euclid's lemma.
use Rattle.std.specs.Prelude.{◌≡◌, Bool, true, false, ◌⊎◌, ◌≢◌, ℕ, zero, suc, pred, ◌+◌, ◌*◌, ◌<◌, ◌≤◌, ◌%◌, ◌/◌, ltb, T}
use Rattle.std.proofs.Common.{sym, ap, ◌∙◌, ⊎_elim, inl, inr, arith, mod-lt, mod-eq_of_lt, mul-one, mul-zero, one-mul, le_refl, le_of_suc-le-suc, pos_of_ne-zero, lt_trans, mul-le-mul, eq-zero-or-pos, eq-or-lt_of_le, leb→le}
use Rattle.std.proofs.Math.Nat.{zero-mod, div-add-mod, add-mul-mod_self_left, suc-pred-eq_of_pos, mul-mod_left}
use Rattle.std.proofs.Math.Decide.{dec_lt}
use Rattle.algebra.specs.Prime.{Prime}
use Rattle.algebra.proofs.laws.Remainder.{mul-mod-mod, mod-mul-mod}

abbrev pub and : Bool → Bool → Bool
and true b = b
and false b = false

-- no d from 2 to n + 1 divides p
abbrev pub trial : ℕ → ℕ → Bool
trial p zero = true
trial p (suc n) = and (ltb 0 (p % suc (suc n))) (trial p n)

and_left : (a b : Bool) → T (and a b) → T a
and_left true b t = tt
and_left false b t = t

and_right : (a b : Bool) → T (and a b) → T b
and_right true b t = t
and_right false b t = absurd t

pub lt_or_le : (a b : ℕ) → (a < b) ⊎ (b ≤ a)
lt_or_le a b = go (dec_lt a b)
  where
    go : Dec (a < b) → (a < b) ⊎ (b ≤ a)
    go (yes h) = inl h
    go (no h) = inr (omega arith)

trial_ok : (p n : ℕ) → T (trial p n) → (d : ℕ) → 1 < d → d < suc (suc n) → p % d ≢ 0
trial_ok p zero t d h l e = omega arith
trial_ok p (suc n) t d h l e =
    ⊎_elim
    (λ (q : d ≡ suc (suc n)).
    let k : 1 ≤ p % suc (suc n) = leb→le 1 (p % suc (suc n)) (and_left (ltb 0 (p % suc (suc n))) (trial p n) t) in
    omega (arith, ap (λ (x : ℕ). p % x) q))
    (λ (m : d < suc (suc n)). trial_ok p n (and_right (ltb 0 (p % suc (suc n))) (trial p n) t) d h m e)
    (eq-or-lt_of_le (le_of_suc-le-suc l))

-- p is a prime where no number up to its root divides it: `by_trial p n (lit< tt) (lit< tt) tt`
pub by_trial : (p n : ℕ) → 1 < p → p < suc (suc n) * suc (suc n) → T (trial p n) → Prime p
by_trial p n h sq t =
    record {
      big = h;
      only =
          λ d l m e.
          let q : ℕ = p / d in
          let f : d * q ≡ p = sym (omega (arith, div-add-mod p d)) in
          ⊎_elim (λ (s : d < suc (suc n)). trial_ok p n t d l s e)
          (λ (s : suc (suc n) ≤ d).
          ⊎_elim
          (λ (r : q < suc (suc n)).
          trial_ok p n t q (above d q f l m) r (ap (λ (x : ℕ). x % q) (sym f) ∙ mul-mod_left d q))
          (λ (r : suc (suc n) ≤ q). absurd (omega (arith, mul-le-mul s r)))
          (lt_or_le q (suc (suc n))))
          (lt_or_le d (suc (suc n)));
    }
  where
    above : (d q : ℕ) → d * q ≡ p → 1 < d → d < p → 1 < q
    above d zero f l m = omega (arith, mul-zero d)
    above d (suc zero) f l m = omega (arith, mul-one d)
    above d (suc (suc q)) f l m = omega arith

-- every number below a prime but 0 has an inverse: p = a·q + r, and r's inverse gives a's
inv-step : (p a q r c s : ℕ) → a * q + r ≡ p → suc s ≡ p → (r * c) % p ≡ 1 → (a * (s * q * c)) % p ≡ 1
inv-step p a q r c s e f h =
    sym (add-mul-mod_self_left (a * (s * q * c)) p (r * c)) ∙ ap (λ (x : ℕ). x % p) main ∙ add-mul-mod_self_left (r * c) p (s * c) ∙ h
  where
    main : a * (s * q * c) + p * (r * c) ≡ r * c + p * (s * c)
    main = omega (arith, ap (λ (x : ℕ). x * (s * c)) e, ap (λ (x : ℕ). x * (r * c)) f)

abbrev Inv : ℕ → ℕ → Type 0
Inv p a = (b : ℕ) × ((a * b) % p ≡ 1)

inv-one : (p : ℕ) → Prime p → (n a : ℕ) → ((r : ℕ) → r ≤ n → 0 < r → r < p → Inv p r) → a ≤ suc n → 0 < a → a < p → Inv p a
inv-one p P n zero ih m h l = absurd (omega arith)
inv-one p P n (suc zero) ih m h l = (1, mod-eq_of_lt P.big)
inv-one p P n (suc (suc k)) ih m h l =
    let a : ℕ = suc (suc k) in
    let less : p % a < a = mod-lt p (omega arith) in
    let rec : Inv p (p % a) = ih (p % a) (omega arith) (pos_of_ne-zero (P.only a (omega arith) l)) (lt_trans less l) in
    (pred p * (p / a) * rec.0, inv-step p a (p / a) (p % a) rec.0 (pred p) (div-add-mod p a) (suc-pred-eq_of_pos (omega arith)) rec.1)

go_inv : (p : ℕ) → Prime p → (n a : ℕ) → a ≤ n → 0 < a → a < p → Inv p a
go_inv p P zero a m h l = absurd (omega arith)
go_inv p P (suc n) a m h l = inv-one p P n a (λ r. go_inv p P n r) m h l

pub inverse : (p : ℕ) → Prime p → (a : ℕ) → 0 < a → a < p → (b : ℕ) × ((a * b) % p ≡ 1)
inverse p P a h l = go_inv p P a a (le_refl a) h l

pub euclid : (p : ℕ) → Prime p → (a b : ℕ) → (a * b) % p ≡ 0 → (a % p ≡ 0) ⊎ (b % p ≡ 0)
euclid p P a b e = ⊎_elim inl (λ (h : 0 < a % p). inr (go h (inverse p P (a % p) h (mod-lt a (omega (arith, P.big)))))) (eq-zero-or-pos (a % p))
  where
    go : 0 < a % p → ((c : ℕ) × ((a % p * c) % p ≡ 1)) → b % p ≡ 0
    go h i =
        let c : ℕ = i.0 in
        let one : (a * c) % p ≡ 1 = sym (mod-mul-mod a c p) ∙ i.1 in
        ap (λ (x : ℕ). x % p) (sym (one-mul b)) ∙ ap (λ (x : ℕ). (x * b) % p) (sym one) ∙ mod-mul-mod (a * c) b p
        ∙ ap (λ (x : ℕ). x % p) (omega arith) ∙ sym (mul-mod-mod c (a * b) p)
        ∙ ap (λ (x : ℕ). (c * x) % p) e ∙ ap (λ (x : ℕ). x % p) (mul-zero c) ∙ zero-mod p
