-- Fermat's little theorem, by binomials.
use Rattle.std.specs.Prelude.{◌≡◌, refl, ℕ, zero, suc, pred, ◌+◌, ◌*◌, ◌^◌, ◌<◌, ◌≤◌, ◌%◌}
use Rattle.std.proofs.Common.{sym, ap, ap₂, ◌∙◌, subst, ⊎_elim, arith, mod-eq_of_lt, pow-suc, mul_assoc, mul-one, mul-zero, zero-mul, add-zero}
use Rattle.std.proofs.Math.Nat.{mod-add-mod, add-mod-mod, zero-mod, mul-mod_right, pow-zero, suc-pred-eq_of_pos}
use Rattle.algebra.proofs.laws.Remainder.{mul-mod-mod, mod-mul-mod}
use Rattle.algebra.specs.Prime.{Prime}
use Rattle.algebra.proofs.laws.Primality.{inverse, euclid}

bin : ℕ → ℕ → ℕ
bin n zero = 1
bin zero (suc k) = 0
bin (suc n) (suc k) = bin n k + bin n (suc k)

sum : ℕ → ℕ → ℕ → ℕ
sum n zero x = 0
sum n (suc m) x = sum n m x + bin n m * x ^ m

bin_zero : (n : ℕ) → bin n zero ≡ 1
unfolding bin
bin_zero zero = refl
bin_zero (suc n) = refl

bin_step : (n k : ℕ) → bin (suc n) (suc k) ≡ bin n k + bin n (suc k)
unfolding bin
bin_step n k = refl

bin_over : (n k : ℕ) → n < k → bin n k ≡ 0
unfolding bin
bin_over n zero h = absurd (omega arith)
bin_over zero (suc k) h = refl
bin_over (suc n) (suc k) h = omega (arith, bin_over n k (omega arith), bin_over n (suc k) (omega arith))

bin_self : (n : ℕ) → bin n n ≡ 1
unfolding bin
bin_self zero = refl
bin_self (suc n) = omega (arith, bin_self n, bin_over n (suc n) (omega arith))

-- (k+1)·C(n+1,k+1) = (n+1)·C(n,k)
absorb : (n k : ℕ) → suc k * bin (suc n) (suc k) ≡ suc n * bin n k
unfolding bin
absorb zero zero = refl
absorb zero (suc k) = omega (arith, bin_over zero (suc (suc k)) (omega arith))
absorb (suc n) zero = omega (arith, absorb n zero, bin_zero n, bin_zero (suc n))
absorb (suc n) (suc k) = omega (arith, absorb n k, absorb n (suc k))

sum_step : (n m x : ℕ) → sum (suc n) (suc m) x ≡ suc x * sum n m x + bin n m * x ^ m
unfolding sum
sum_step n zero x = omega (arith, ap₂ ◌*◌ (bin_zero n) (pow-zero x), ap₂ ◌*◌ (bin_zero (suc n)) (pow-zero x))
sum_step n (suc m) x = omega (arith, sum_step n m x, ap (λ (y : ℕ). bin n m * y) (pow-suc x m), ap (λ (y : ℕ). y * x ^ suc m) (bin_step n m))

sum-all : (n x : ℕ) → sum n (suc n) x ≡ suc x ^ n
unfolding sum
sum-all zero x = omega (arith, ap₂ ◌*◌ (bin_zero 0) (pow-zero x), pow-zero (suc x))
sum-all (suc n) x =
    omega
    (arith, sum_step n (suc n) x, ap (λ (y : ℕ). suc x * y) (sum-all n x), ap (λ (y : ℕ). y * x ^ suc n) (bin_over n (suc n) (omega arith)), pow-suc (suc x) n)

bin_mod : (n : ℕ) → Prime (suc n) → (k : ℕ) → k < n → bin (suc n) (suc k) % suc n ≡ 0
bin_mod n P k h =
    ⊎_elim (λ (e : suc k % suc n ≡ 0). absurd (omega (arith, mod-eq_of_lt {n = suc k} {m = suc n} (omega arith)))) (λ e. e)
    (euclid (suc n) P (suc k) (bin (suc n) (suc k)) (ap (λ (y : ℕ). y % suc n) (absorb n k) ∙ mul-mod_right (suc n) (bin n k)))

-- what stands below the last term is 1
sum-mod : (n : ℕ) → Prime (suc n) → (m x : ℕ) → m ≤ n → sum (suc n) (suc m) x % suc n ≡ 1
unfolding sum
sum-mod n P zero x h = ap (λ (y : ℕ). y % suc n) (omega (arith, ap₂ ◌*◌ (bin_zero (suc n)) (pow-zero x))) ∙ mod-eq_of_lt P.big
sum-mod n P (suc m) x h =
    sym (add-mod-mod (sum (suc n) (suc m) x) (bin (suc n) (suc m) * x ^ suc m) (suc n))
    ∙ ap (λ (y : ℕ). (sum (suc n) (suc m) x + y) % suc n) zeroed
    ∙ ap (λ (y : ℕ). y % suc n) (add-zero (sum (suc n) (suc m) x)) ∙ sum-mod n P m x (omega arith)
  where
    zeroed : (bin (suc n) (suc m) * x ^ suc m) % suc n ≡ 0
    zeroed =
        sym (mod-mul-mod (bin (suc n) (suc m)) (x ^ suc m) (suc n))
        ∙ ap (λ (y : ℕ). (y * x ^ suc m) % suc n) (bin_mod n P m (omega arith)) ∙ ap (λ (y : ℕ). y % suc n) (zero-mul (x ^ suc m)) ∙ zero-mod (suc n)

freshman : (n : ℕ) → Prime (suc n) → (x : ℕ) → suc x ^ suc n % suc n ≡ (1 + x ^ suc n) % suc n
unfolding sum
freshman n P x =
    ap (λ (y : ℕ). y % suc n) (sym (sum-all (suc n) x) ∙ omega (arith, ap (λ (y : ℕ). y * x ^ suc n) (bin_self (suc n))))
    ∙ sym (mod-add-mod (sum (suc n) (suc n) x) (suc n) (x ^ suc n))
    ∙ ap (λ (y : ℕ). (y + x ^ suc n) % suc n) (sum-mod n P n x (omega arith))

fermat_suc : (n : ℕ) → Prime (suc n) → (x : ℕ) → x ^ suc n % suc n ≡ x % suc n
fermat_suc n P zero = ap (λ (y : ℕ). y % suc n) (pow-suc 0 n ∙ mul-zero (0 ^ n))
fermat_suc n P (suc x) =
    freshman n P x ∙ sym (add-mod-mod 1 (x ^ suc n) (suc n)) ∙ ap (λ (y : ℕ). (1 + y) % suc n) (fermat_suc n P x)
    ∙ add-mod-mod 1 x (suc n) ∙ ap (λ (y : ℕ). y % suc n) (omega arith)

little_suc : (n : ℕ) → Prime (suc n) → (x : ℕ) → 0 < x → x < suc n → x ^ n % suc n ≡ 1
little_suc n P x h l = go (inverse (suc n) P x h l)
  where
    p : ℕ
    p = suc n

    go : ((b : ℕ) × ((x * b) % suc n ≡ 1)) → x ^ n % suc n ≡ 1
    go i =
        let b : ℕ = i.0 in
        ap (λ (y : ℕ). y % suc n) (sym (mul-one (x ^ n))) ∙ ap (λ (y : ℕ). (x ^ n * y) % suc n) (sym i.1)
        ∙ mul-mod-mod (x ^ n) (x * b) (suc n) ∙ ap (λ (y : ℕ). y % suc n) (sym (mul_assoc (x ^ n) x b) ∙ ap (λ (y : ℕ). y * b) (sym (pow-suc x n)))
        ∙ sym (mod-mul-mod (x ^ suc n) b (suc n)) ∙ ap (λ (y : ℕ). (y * b) % suc n) (fermat_suc n P x)
        ∙ mod-mul-mod x b (suc n) ∙ i.1

-- x^(p-1) = 1
pub fermat : (p : ℕ) → Prime p → (x : ℕ) → 0 < x → x < p → x ^ pred p % p ≡ 1
fermat p P x h l = subst (λ (q : ℕ). Prime q → x < q → x ^ pred p % q ≡ 1) e (λ Q m. little_suc (pred p) Q x h m) P l
  where
    e : suc (pred p) ≡ p
    e = suc-pred-eq_of_pos (omega (arith, P.big))
