-- The pairs of a list, their number, and the pigeonhole: where each of the pairs has at most d bad points, more points than d times the
-- pairs leave one that is bad for no pair.
use Rattle.std.specs.Prelude.{◌≡◌, ◌≢◌, ◌⊎◌, length}
use Rattle.std.proofs.Math.Path.{refl, ap, subst}
use Rattle.std.proofs.Common.{sym, ◌∙◌, inl, mul_assoc, mul-div_cancel, length-append}
use Rattle.std.proofs.Math.Logic.{inr, ⊎_elim, ⊎_map}
use mathlib.Core.List.Memᴰ
use mathlib.Core.List.{List, [], ◌∷◌, ◌++◌, map, Memᴰ}
use Prim.Native.Nat.{ℕ, zero, suc, ◌+◌, ◌*◌, ◌-◌, ◌/◌, ◌≤◌, ◌<◌}
use Rattle.std.proofs.Math.Nat.{suc-sub-suc, sub-zero}
use native.Mathlib.Omega.{arith}
use Rattle.std.proofs.lemmas.List.{length-map}
use Rattle.theorems_logup.specs.Distinct.{Distinct}
use Rattle.theorems_logup.specs.inner.Distinct.{Apart}

halves : (n h : ℕ) → 2 * h + n ≡ n * n → n * (n - 1) ≡ h * 2
halves zero h e = omega arith
halves (suc k) h e = ap (λ m. suc k * m) (suc-sub-suc k 0 ∙ sub-zero k) ∙ (omega arith)

module _ {A : Type 0} where
  abbrev pub pairs : List A → List (A × A)
  pairs [] = []
  pairs (x ∷ l) = map (λ y. (x, y)) l ++ pairs l

  pairs_square : (l : List A) → 2 * length (pairs l) + length l ≡ length l * length l
  pairs_square [] = refl
  pairs_square (x ∷ l) =
      let ih : 2 * length (pairs l) + length l ≡ length l * length l = pairs_square l in
      simp (length-append, length-map) (omega arith)

  -- The number of the pairs, as the document has it.
  pub pairs-count : (d : ℕ) (l : List A) → d * length l * (length l - 1) / 2 ≡ d * length (pairs l)
  pairs-count d l =
      ap (λ m. m / 2) (mul_assoc d (length l) (length l - 1)
      ∙ ap (λ m. d * m) (halves (length l) (length (pairs l)) (pairs_square l)) ∙ sym (mul_assoc d (length (pairs l)) 2))
      ∙ mul-div_cancel (d * length (pairs l)) (omega arith)

  pub apart_of_pairs : {B : Type 0} (c : A → B) (l : List A) → ((x y : A) → Memᴰ (x, y) (pairs l) → c x ≢ c y) → Apart c l
  apart_of_pairs c [] h = tt
  apart_of_pairs c (x ∷ l) h = (
    λ y m. h x y (Memᴰ.append_left (pairs l) (Memᴰ.map (λ y. (x, y)) m)),
    apart_of_pairs c l (λ u v m. h u v (Memᴰ.append_right (map (λ y. (x, y)) l) m)),
  )

  pub pairs_facts : (l : List A) → Distinct l → (p : A × A) → Memᴰ p (pairs l) → Memᴰ p.0 l × Memᴰ p.1 l × (p.0 ≢ p.1)
  pairs_facts [] dist p m = absurd (Memᴰ.not-nil m)
  pairs_facts (x ∷ l) dist p m = step (pairs_facts l dist.1 p) (Memᴰ.append_cases (map (λ y. (x, y)) l) m)
    where
      Facts : Type 0
      Facts = Memᴰ p.0 (x ∷ l) × Memᴰ p.1 (x ∷ l) × (p.0 ≢ p.1)

      step : (Memᴰ p (pairs l) → Memᴰ p.0 l × Memᴰ p.1 l × (p.0 ≢ p.1)) → Memᴰ p (map (λ y. (x, y)) l) ⊎ Memᴰ p (pairs l) → Facts
      step below (inl m) =
          let (y, k, e) = Memᴰ.of_map (λ y. (x, y)) l m in (
            Memᴰ.head (ap (λ q. q.0) (sym e)),
            Memᴰ.cast (ap (λ q. q.1) (sym e)) (Memᴰ.tail k),
            λ same. dist.0 y k (ap (λ q. q.0) e ∙ same ∙ ap (λ q. q.1) (sym e)),
          )
      step below (inr m) = let f = below m in (Memᴰ.tail f.0, Memᴰ.tail f.1, f.2)

-- One member, kept or left out by the answer to a test.
module _ {B : Type 0} {R : Type 0} where
  keep : Dec R → B → List B → List B
  keep (yes _) b l = b ∷ l
  keep (no _) b l = l

  leave : Dec R → B → List B → List B
  leave (yes _) b l = l
  leave (no _) b l = b ∷ l

  keep_leave : (d : Dec R) (b : B) (l l' : List B) → length (keep d b l) + length (leave d b l') ≡ suc (length l + length l')
  unfolding keep leave
  keep_leave (yes _) b l l' = omega arith
  keep_leave (no _) b l l' = omega arith

  keep-cases : (d : Dec R) (b : B) (l : List B) (x : B) → Memᴰ x (keep d b l) → ((x ≡ b) × R) ⊎ Memᴰ x l
  unfolding keep
  keep-cases (yes r) b l x m = ⊎_map (λ e. (e, r)) (λ k. k) (Memᴰ.cases_cons m)
  keep-cases (no _) b l x m = inr m

  leave_cases : (d : Dec R) (b : B) (l : List B) (x : B) → Memᴰ x (leave d b l) → ((x ≡ b) × ¬ R) ⊎ Memᴰ x l
  unfolding leave
  leave_cases (yes _) b l x m = inr m
  leave_cases (no n) b l x m = ⊎_map (λ e. (e, n)) (λ k. k) (Memᴰ.cases_cons m)

  keep-distinct : (d : Dec R) (b : B) (l : List B) → ((y : B) → Memᴰ y l → b ≢ y) → Distinct l → Distinct (keep d b l)
  unfolding keep
  keep-distinct (yes _) b l new dist = (new, dist)
  keep-distinct (no _) b l new dist = dist

  leave_distinct : (d : Dec R) (b : B) (l : List B) → ((y : B) → Memᴰ y l → b ≢ y) → Distinct l → Distinct (leave d b l)
  unfolding leave
  leave_distinct (yes _) b l new dist = dist
  leave_distinct (no _) b l new dist = (new, dist)

module _ {B : Type 0} (Q : B → Type 0) (test : (b : B) → Dec (Q b)) where
  -- The members that pass the test, and those that do not.
  pub passing : List B → List B
  passing [] = []
  passing (b ∷ l) = keep (test b) b (passing l)

  pub failing : List B → List B
  failing [] = []
  failing (b ∷ l) = leave (test b) b (failing l)

  pub split_length : (l : List B) → length (passing l) + length (failing l) ≡ length l
  unfolding passing failing
  split_length [] = refl
  split_length (b ∷ l) = keep_leave (test b) b (passing l) (failing l) ∙ ap suc (split_length l)

  pub passing_member : (l : List B) (x : B) → Memᴰ x (passing l) → Memᴰ x l
  unfolding passing
  passing_member [] x m = m
  passing_member (b ∷ l) x m = ⊎_elim (λ e. Memᴰ.head e.0) (λ k. Memᴰ.tail (passing_member l x k)) (keep-cases (test b) b (passing l) x m)

  pub failing_member : (l : List B) (x : B) → Memᴰ x (failing l) → Memᴰ x l
  unfolding failing
  failing_member [] x m = m
  failing_member (b ∷ l) x m = ⊎_elim (λ e. Memᴰ.head e.0) (λ k. Memᴰ.tail (failing_member l x k)) (leave_cases (test b) b (failing l) x m)

  pub passing_passes : (l : List B) (x : B) → Memᴰ x (passing l) → Q x
  unfolding passing
  passing_passes [] x m = absurd (Memᴰ.not-nil m)
  passing_passes (b ∷ l) x m = ⊎_elim (λ e. subst Q (sym e.0) e.1) (passing_passes l x) (keep-cases (test b) b (passing l) x m)

  pub failing_fails : (l : List B) (x : B) → Memᴰ x (failing l) → ¬ Q x
  unfolding failing
  failing_fails [] x m = absurd (Memᴰ.not-nil m)
  failing_fails (b ∷ l) x m = ⊎_elim (λ e. subst (λ y. ¬ Q y) (sym e.0) e.1) (failing_fails l x) (leave_cases (test b) b (failing l) x m)

  pub passing_distinct : (l : List B) → Distinct l → Distinct (passing l)
  unfolding passing
  passing_distinct [] dist = tt
  passing_distinct (b ∷ l) dist = keep-distinct (test b) b (passing l) (λ y m. dist.0 y (passing_member l y m)) (passing_distinct l dist.1)

  pub failing_distinct : (l : List B) → Distinct l → Distinct (failing l)
  unfolding failing
  failing_distinct [] dist = tt
  failing_distinct (b ∷ l) dist = leave_distinct (test b) b (failing l) (λ y m. dist.0 y (failing_member l y m)) (failing_distinct l dist.1)

-- Where each of the ps is bad at no more than d points, these are left of the points bs: they are bad for none of the ps.
pub record Left {P B : Type 0} (Bad : P → B → Type 0) (d : ℕ) (ps : List P) (bs l : List B) : Type 0 where
  pub distinct : Distinct l
  pub within : (b : B) → Memᴰ b l → Memᴰ b bs
  pub good : (b : B) → Memᴰ b l → (p : P) → Memᴰ p ps → ¬ Bad p b
  pub many : length bs ≤ length l + d * length ps

pub left : {P B : Type 0} (Bad : P → B → Type 0) (test : (p : P) (b : B) → Dec (Bad p b)) (d : ℕ) (ps : List P) (bs : List B)
    → ((p : P) → Memᴰ p ps → (xs : List B) → Distinct xs → ((x : B) → Memᴰ x xs → Bad p x) → length xs ≤ d)
    → Distinct bs → (l : List B) × Left Bad d ps bs l
left Bad test d [] bs few dist = (bs, record { distinct = dist; within = λ b m. m; good = λ b m p k. absurd (Memᴰ.not-nil k); many = omega arith })
left {P} {B} Bad test d (p ∷ ps) bs few dist =
    let rest : List B = failing (Bad p) (test p) bs in
    let bad : length (passing (Bad p) (test p) bs) ≤ d
    = few p (Memᴰ.head refl) (passing (Bad p) (test p) bs) (passing_distinct (Bad p) (test p) bs dist) (passing_passes (Bad p) (test p) bs) in
    let both : length (passing (Bad p) (test p) bs) + length rest ≡ length bs = split_length (Bad p) (test p) bs in
    let (l, f) = left Bad test d ps rest (λ q m. few q (Memᴰ.tail m)) (failing_distinct (Bad p) (test p) bs dist) in (
      l,
      record {
        distinct = f.distinct;
        within = λ b m. failing_member (Bad p) (test p) bs b (f.within b m);
        good = λ b m q k. ⊎_elim (λ e. subst (λ q. ¬ Bad q b) (sym e) (failing_fails (Bad p) (test p) bs b (f.within b m))) (f.good b m q) (Memᴰ.cases_cons k);
        many = let more : length rest ≤ length l + d * length ps = f.many in omega arith;
      },
    )

pub pigeonhole : {P B : Type 0} (Bad : P → B → Type 0) (test : (p : P) (b : B) → Dec (Bad p b)) (d : ℕ) (ps : List P) (bs : List B)
    → ((p : P) → Memᴰ p ps → (xs : List B) → Distinct xs → ((x : B) → Memᴰ x xs → Bad p x) → length xs ≤ d)
    → Distinct bs → d * length ps < length bs → (b : B) × Memᴰ b bs × ((p : P) → Memᴰ p ps → ¬ Bad p b)
pigeonhole {P} {B} Bad test d ps bs few dist more = let (l, f) = left Bad test d ps bs few dist in first l f
  where
    first : (l : List B) → Left Bad d ps bs l → (b : B) × Memᴰ b bs × ((p : P) → Memᴰ p ps → ¬ Bad p b)
    first [] f = let none : length bs ≤ 0 + d * length ps = f.many in absurd (omega arith)
    first (b ∷ l) f = (b, f.within b (Memᴰ.head refl), f.good b (Memᴰ.head refl))
