-- As many different things as are asked for, the values of a function at n - 1, .., 0; all extension elements, and all pairs of them.
use Prim.Native.Nat.{ℕ, zero, suc, ◌<◌, ◌+◌, ◌*◌, ◌/◌, ◌%◌, ◌^◌}
use Rattle.std.specs.Prelude.{◌≡◌, length}
use Rattle.std.proofs.Math.Path.{refl, ap, subst}
use Rattle.std.proofs.Common.{◌∙◌, sym, ap₂, mod-lt, div-lt_iff_lt-mul, pow-suc}
use Rattle.std.proofs.Math.Logic.{⊎_elim}
use mathlib.Core.List.Memᴰ
use mathlib.Core.List.{List, [], ◌∷◌, Memᴰ}
use native.Mathlib.Omega.{arith}
use Rattle.std.proofs.Math.Nat.{le_refl, div-add-mod, pow-zero, mul-pos}
use Rattle.theorems_logup.specs.Distinct.{Distinct}
use Rattle.theorems_logup.specs.Sets.{Pair}
use Rattle.field.specs.Element.{at}
use Rattle.logup.specs.Ledger.{Element}
use Rattle.theorems_soundness.specs.Error.{Challenges}

module _ {A : Type 0} (point : ℕ → A) where
  pub points : ℕ → List A
  points zero = []
  points (suc n) = point n ∷ points n

  pub points_length : (n : ℕ) → length (points n) ≡ n
  unfolding points
  points_length zero = refl
  points_length (suc n) = ap suc (points_length n)

  pub points_member : (n : ℕ) (x : A) → Memᴰ x (points n) → (k : ℕ) × (k < n) × (x ≡ point k)
  unfolding points
  points_member zero x m = absurd (Memᴰ.not-nil m)
  points_member (suc n) x m =
      ⊎_elim (λ e. (n, le_refl (suc n), e)) (λ q. let (k, l, e) = points_member n x q in (k, omega arith, e)) (Memᴰ.cases_cons m)

  pub points_distinct : ((j k : ℕ) → point j ≡ point k → j ≡ k) → (n : ℕ) → Distinct (points n)
  unfolding points
  points_distinct injective zero = tt
  points_distinct injective (suc n) = (
    λ y m e. let (k, l, q) = points_member n y m in let same : n ≡ k = injective n k (e ∙ q) in omega arith,
    points_distinct injective n,
  )

pub fourth_power : (p : ℕ) → p * p * p * p ≡ p ^ 4
fourth_power p = rw (pow-suc p 3, pow-suc p 2, pow-suc p 1, pow-suc p 0, pow-zero) (omega arith)

pub eighth_power : (p : ℕ) → p * p * p * p * (p * p * p * p) ≡ p ^ 8
eighth_power p =
    rw (pow-suc p 7, pow-suc p 6, pow-suc p 5, pow-suc p 4, pow-suc p 3, pow-suc p 2, pow-suc p 1, pow-suc p 0, pow-zero) (omega arith)

-- a number is told by its remainder and quotient
told : (q j k : ℕ) → j % q ≡ k % q → j / q ≡ k / q → j ≡ k
told q j k e f = sym (div-add-mod j q) ∙ ap₂ (λ (a b : ℕ). q * a + b) f e ∙ div-add-mod k q

smaller : (q x y : ℕ) → 0 < q → x < y * q → x / q < y
smaller q x y pos l = (div-lt_iff_lt-mul {k = q} {x = x} {y = y} pos).1 l

-- all elements: the base-p digits of the numbers below p⁴
module _ (p : ℕ) (pos : 0 < p) where
  abbrev digits : ℕ → List ℕ
  digits k = k % p ∷ k / p % p ∷ k / p / p % p ∷ k / p / p / p ∷ []

  digits_injective : (j k : ℕ) → digits j ≡ digits k → j ≡ k
  digits_injective j k e =
      told p j k (ap (λ (l : List ℕ). at l 0) e)
      (told p (j / p) (k / p) (ap (λ (l : List ℕ). at l 1) e)
      (told p (j / p / p) (k / p / p) (ap (λ (l : List ℕ). at l 2) e) (ap (λ (l : List ℕ). at l 3) e)))

  digits-element : (k : ℕ) → k < p * p * p * p → Element p (digits k)
  digits-element k l =
      record {
        four = refl;
        below =
            record {
              w0 = mod-lt k pos;
              w1 = mod-lt (k / p) pos;
              w2 = mod-lt (k / p / p) pos;
              w3 = smaller p (k / p / p) p pos (smaller p (k / p) (p * p) pos (smaller p k (p * p * p) pos l));
            };
      }

  pub elements : List (List ℕ)
  elements = points digits (p * p * p * p)

  pub elements-many : length elements ≡ p * p * p * p
  unfolding elements
  elements-many = points_length digits (p * p * p * p)

  pub elements-distinct : Distinct elements
  unfolding elements
  elements-distinct = points_distinct digits digits_injective (p * p * p * p)

  pub elements_are : (x : List ℕ) → Memᴰ x elements → Element p x
  unfolding elements
  elements_are x m = let (k, l, e) = points_member digits (p * p * p * p) x m in subst (Element p) (sym e) (digits-element k l)

  -- all pairs: an element for the remainder of a number by p⁴, and one for the quotient
  abbrev q : ℕ
  q = p * p * p * p

  abbrev pair : ℕ → Pair (List ℕ)
  pair k = record { alpha = digits (k % q); beta = digits (k / q) }

  pair_injective : (j k : ℕ) → pair j ≡ pair k → j ≡ k
  pair_injective j k e =
      told q j k (digits_injective (j % q) (k % q) (ap (λ (c : Pair (List ℕ)). c.alpha) e))
      (digits_injective (j / q) (k / q) (ap (λ (c : Pair (List ℕ)). c.beta) e))

  pub element-pairs : List (Pair (List ℕ))
  element-pairs = points pair (q * q)

  pub element-pairs-many : length element-pairs ≡ p ^ 8
  unfolding element-pairs
  element-pairs-many = points_length pair (q * q) ∙ eighth_power p

  pub element-pairs-distinct : Distinct element-pairs
  unfolding element-pairs
  element-pairs-distinct = points_distinct pair pair_injective (q * q)

  pub element_pairs_are : (c : Pair (List ℕ)) → Memᴰ c element-pairs → Challenges p c
  unfolding element-pairs
  element_pairs_are c m =
      let (k, l, e) = points_member pair (q * q) c m in
      let some : 0 < q = mul-pos (mul-pos (mul-pos pos pos) pos) pos in
      subst (Challenges p) (sym e)
      (record { alpha_element = digits-element (k % q) (mod-lt k some); beta_element = digits-element (k / q) (smaller q k q some l) })
