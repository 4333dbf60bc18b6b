-- A full set exists wherever the field has enough elements: the balance theorem speaks of something.
use Rattle.std.specs.Prelude.{◌≡◌, refl, ◌≢◌, ℕ, zero, suc, ◌+◌, ◌*◌, ◌-◌, ◌/◌, ◌≤◌, length, take}
use Rattle.std.proofs.Common.{sym, ◌∙◌, ap, ap₂, subst, ⊎_elim, arith, length-take-le}
use mathlib.Core.List.Memᴰ
use mathlib.Core.List.{List, [], ◌∷◌, ◌++◌, map, Memᴰ}
use Rattle.std.proofs.lemmas.List.{length-map}
use Rattle.algebra.specs.Field.{Field}
use Rattle.theorems_logup.specs.Distinct.{Distinct}
use Rattle.theorems_logup.specs.Tables.{Entries, combine}
use Rattle.theorems_logup.specs.Sets.{Pairing, Support, FullSet}
use Rattle.theorems_logup.proofs.laws.Arithmetic as Arithmetic
use Rattle.theorems_logup.proofs.laws.Pigeonhole.{Left, left}

module _ {A : Type 0} where
  pub take-member : (n : ℕ) (l : List A) (x : A) → Memᴰ x (take n l) → Memᴰ x l
  take-member zero l x m = absurd (Memᴰ.not-nil m)
  take-member (suc n) [] x m = m
  take-member (suc n) (y ∷ l) x m = ⊎_elim (λ e. Memᴰ.head e) (λ k. Memᴰ.tail (take-member n l x k)) (Memᴰ.cases_cons m)

  pub take-distinct : (n : ℕ) (l : List A) → Distinct l → Distinct (take n l)
  take-distinct zero l dist = tt
  take-distinct (suc n) [] dist = tt
  take-distinct (suc n) (y ∷ l) dist = (λ x m. dist.0 x (take-member n l x m), take-distinct n l dist.1)

  -- different things that are all equal to one are one at most.
  pub one_only : (c : A) (xs : List A) → Distinct xs → ((x : A) → Memᴰ x xs → x ≡ c) → length xs ≤ 1
  one_only c [] dist all = omega arith
  one_only c (x ∷ []) dist all = omega arith
  one_only c (x ∷ (y ∷ l)) dist all =
      absurd (dist.0 y (Memᴰ.head refl) (all x (Memᴰ.head refl) ∙ sym (all y (Memᴰ.tail (Memᴰ.head refl)))))

-- Pairings whose betas and alphas are among given points, and whose alphas avoid what is given for each beta.
module _ {A : Type 0} (same : Discrete A) (points : List A) (dist : Distinct points) (avoid : A → List A) (n : ℕ)
    (enough : (beta : A) → n + length (avoid beta) ≤ length points) where
  pub record Fine (r : Pairing A) : Type 0 where
    pub distinct : Distinct r.alphas
    pub many : length r.alphas ≡ n
    pub within : (a : A) → Memᴰ a r.alphas → Memᴰ a points
    pub off : (a : A) → Memᴰ a r.alphas → (b : A) → Memᴰ b (avoid r.beta) → a ≢ b

  pairing : (beta : A) → (r : Pairing A) × (r.beta ≡ beta) × Fine r
  pairing beta = let (l, f) = left (λ b a. a ≡ b) (λ b a. same a b) 1 (avoid beta) points (λ b _ xs d all. one_only b xs d all) dist in build l f
    where
      build : (l : List A) → Left (λ b a. a ≡ b) 1 (avoid beta) points l → (r : Pairing A) × (r.beta ≡ beta) × Fine r
      build l f = (
        record { beta = beta; alphas = take n l },
        refl,
        record {
          distinct = take-distinct n l f.distinct;
          many =
              length-take-le n l
              (let m : length points ≤ length l + 1 * length (avoid beta) = f.many in
              let e : n + length (avoid beta) ≤ length points = enough beta in
              omega arith);
          within = λ a m. f.within a (take-member n l a m);
          off = λ a m. f.good a (take-member n l a m);
        },
      )

  -- one for each of the betas
  pub pairings : (bs : List A) → (set : List (Pairing A)) × (map (λ (r : Pairing A). r.beta) set ≡ bs) × ((r : Pairing A) → Memᴰ r set → Fine r)
  pairings [] = ([], refl, λ r m. absurd (Memᴰ.not-nil m))
  pairings (beta ∷ bs) =
      let (r, at, fine) = pairing beta in
      let (set, ats, fines) = pairings bs in
      (r ∷ set, ap₂ ◌∷◌ at ats, λ q m. ⊎_elim (λ e. subst Fine (sym e) fine) (fines q) (Memᴰ.cases_cons m))

module _ (F : Field) (N : Entries F) where
  open F.ring use {El as K}
  open N use {word as W, Entry, tuple}

  pub full_set_exists : (w : ℕ) (E₁ E₂ : List Entry) (S : List (List W)) → Support F N (E₁ ++ E₂) S → (points : List K) → Distinct points
      → 2 * length S ≤ length points → 1 + (w - 1) * length S * (length S - 1) / 2 ≤ length points → (set : List (Pairing K)) × FullSet F N w (length S) E₁ E₂ set
  full_set_exists w E₁ E₂ S supp points dist enough many =
      let betas : ℕ = 1 + (w - 1) * length S * (length S - 1) / 2 in
      let (set, at, fines) =
      pairings (Arithmetic.equal? F) points dist (λ beta. map (combine F N beta) S) (length S) (λ beta. rw length-map (omega arith)) (take betas points)
      in (
        set,
        record {
          betas = subst Distinct (sym at) (take-distinct betas points dist);
          betas_many = sym (length-map set (λ (r : Pairing K). r.beta)) ∙ ap length at ∙ length-take-le betas points many;
          alphas = λ r m. (fines r m).distinct;
          alphas_many = λ r m. (fines r m).many;
          accepted = λ r m alpha k. (
            λ e h n. Arithmetic.sub_ne F ((fines r m).off alpha k _ (Memᴰ.map (combine F N r.beta) (supp.covers e (Memᴰ.append_left E₂ h) n))),
            λ e h n. Arithmetic.sub_ne F ((fines r m).off alpha k _ (Memᴰ.map (combine F N r.beta) (supp.covers e (Memᴰ.append_right E₁ h) n))),
          );
        },
      )
