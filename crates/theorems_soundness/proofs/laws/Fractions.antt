-- The constraint of a lookup vanishes at the generated fraction and at no other.
use Rattle.std.specs.Prelude.{◌≡◌, ◌≢◌, ◌↔◌, Bool, List, [], ◌∷◌}
use Rattle.std.proofs.Math.Path.{refl, ap, ap₂}
use Rattle.std.proofs.Common.{sym, ◌∙◌, subst, arith, le_refl}
use Rattle.std.proofs.Math.Bool.{true, false, cond}
use Rattle.std.proofs.Math.Option.{Option, none, some}
use Prim.Native.Nat.{ℕ, zero, suc, ◌+◌, ◌<◌, ◌≤◌}
use Rattle.std.proofs.Math.Dec.{eqb}
use Rattle.algebra.specs.laws.Solve.{O, I, X, ◌⊕◌, ◌⊗◌, ⊝◌}
use Rattle.algebra.proofs.laws.Solve.{solve, z_add, mul_z}
use Rattle.lists.specs.Count.{total}
use Rattle.lists.specs.laws.Count.{eq_of_eqb}
use Rattle.field.specs.Element.{lift, one4, add4, sub4, mul4, scale4, sum4, is_zero}
use Rattle.field.specs.Modulus.{Modulus, Certificate}
use Rattle.field.specs.Extension.{K, KEl, el}
use Rattle.field.specs.laws.Extension.{h}
use Rattle.field.proofs.laws.Homomorphism.{el_add, el_sub, el_mul}
use Rattle.theorems_logup.specs.Inverse.{inverse}
use Rattle.theorems_logup.specs.Sums.{sum_to}
use Rattle.theorems_logup.specs.inner.Products.{product_to}
use Rattle.theorems_logup.proofs.laws.Arithmetic.{mul-inverse, mul_cancel}
use Rattle.theorems_logup.proofs.laws.Common.{sum_to_cong, product_to_cong, product_to_ne, but, common}
use Rattle.expression.specs.Values.{bit}
use Rattle.lookup.specs.Lookups.{exclusive}
use Rattle.logup.specs.Tuple.{quotient4}
use Rattle.logup.specs.Column.{Place, branches, multiplicity, flag, chosen, denom, used_denom, additive_fraction, additive_fault, branch_fraction, exclusive_fraction, exclusive_fault, fraction, fault}
use Rattle.logup.specs.Constraints.{others, additive_numerator, additive_denominator, exclusive_numerator, exclusive_denominator, numerator, common_denominator, Regular}
use Rattle.logup.specs.Ledger.{Element}
use Rattle.theorems_soundness.specs.Entries.{into}
use Rattle.theorems_soundness.proofs.laws.Setting.{same_of_el}
use Rattle.theorems_soundness.proofs.laws.Elements.{element-lift, element-add, element-quotient, nonzero, sub_zero_iff, sum_is, product_is, scale_is}
use Rattle.theorems_soundness.proofs.laws.Columns.{ones, ones_pos, lawful, flag-zero, chosen_sound, denom-element, additive-element, branch-quotient, used-quotient}

module _ (p w : ℕ) (M : Modulus p) (C : Certificate p w) where
  open (K p w C).ring use {z as 𝟘, u as 𝟙, add, mul, neg}

  abbrev ⟦◌⟧ : List ℕ → KEl p w C
  ⟦ a ⟧ = el p w C a

  -- a - b - c vanishes where a is b + c
  pub step_iff : (a b c : List ℕ) → Element p a → (is_zero (sub4 p (sub4 p a b) c) ≡ true) ↔ (a ≡ add4 p b c)
  step_iff a b c ea = (
    λ e. same_of_el p w C a (add4 p b c) ea (element-add p w C b c) (into-sum (sym (el_sub p w C a b) ∙ (sub_zero_iff p w C (sub4 p a b) c).0 e) ∙ sym (el_add p w C b c)),
    λ e. (sub_zero_iff p w C (sub4 p a b) c).1
        (el_sub p w C a b ∙ ap (λ (x : KEl p w C). add x (neg ⟦ b ⟧)) (ap (el p w C) e ∙ el_add p w C b c)
        ∙ solve (K p w C).ring (⟦ b ⟧ ∷ ⟦ c ⟧ ∷ []) (X 0 ⊕ X 1 ⊕ ⊝ X 0) (X 1) tt),
  )
    where
      into-sum : add ⟦ a ⟧ (neg ⟦ b ⟧) ≡ ⟦ c ⟧ → ⟦ a ⟧ ≡ add ⟦ b ⟧ ⟦ c ⟧
      into-sum e =
          solve (K p w C).ring (⟦ a ⟧ ∷ ⟦ b ⟧ ∷ []) (X 0) (X 1 ⊕ (X 0 ⊕ ⊝ X 1)) tt ∙ ap (add ⟦ b ⟧) e

  -- where D is not zero and D · f is N, the constraint D · x - N vanishes at f only
  vanishes_at : (d n f x : List ℕ) → ⟦ d ⟧ ≢ 𝟘 → mul ⟦ d ⟧ ⟦ f ⟧ ≡ ⟦ n ⟧ → Element p f → Element p x
      → (is_zero (sub4 p (mul4 p w d x) n) ≡ true) ↔ (x ≡ f)
  vanishes_at d n f x ne e ef ex = (
    λ q. same_of_el p w C x f ex ef
        (mul_cancel (K p w C) ⟦ d ⟧ ne ((K p w C).ring.mul_comm ⟦ x ⟧ ⟦ d ⟧ ∙ sym (el_mul p w C d x)
        ∙ (sub_zero_iff p w C (mul4 p w d x) n).0 q ∙ sym e ∙ (K p w C).ring.mul_comm ⟦ d ⟧ ⟦ f ⟧)),
    λ q. (sub_zero_iff p w C (mul4 p w d x) n).1 (el_mul p w C d x ∙ ap (λ (x : List ℕ). mul ⟦ d ⟧ ⟦ x ⟧) q ∙ e),
  )

  module _ (c : Place) where
    abbrev den : ℕ → KEl p w C
    den k = ⟦ denom p w c k ⟧

    -- additive
    module _ (all : (k : ℕ) → k < branches c → is_zero (denom p w c k) ≡ false) where
      den_ne : (k : ℕ) → k < branches c → den k ≢ 𝟘
      den_ne k l = nonzero p w C (denom p w c k) (denom-element p w C c k) (all k l)

      additive-den : ⟦ additive_denominator p w c ⟧ ≡ product_to (K p w C) den (branches c)
      unfolding additive_denominator
      additive-den = product_is p w C (denom p w c) (branches c)

      others_is : (k : ℕ) → ⟦ others p w c k ⟧ ≡ but (K p w C) den (branches c) k
      unfolding others
      others_is k = product_is p w C (λ j. cond (eqb j k) one4 (denom p w c j)) (branches c) ∙ product_to_cong (K p w C) _ _ (branches c) (λ j _. go (eqb j k) j)
        where
          go : (b : Bool) (j : ℕ) → ⟦ cond b one4 (denom p w c j) ⟧ ≡ cond b 𝟙 (den j)
          go true j = refl
          go false j = refl

      additive_num : ⟦ additive_numerator p w c ⟧ ≡ sum_to (K p w C) (λ k. mul (into p w C (multiplicity c k)) (but (K p w C) den (branches c) k)) (branches c)
      unfolding additive_numerator
      additive_num =
          sum_is p w C (λ k. scale4 p (multiplicity c k) (others p w c k)) (branches c)
          ∙ sum_to_cong (K p w C) _ _ (branches c) (λ k _. scale_is p w C (multiplicity c k) (others p w c k) ∙ ap (mul (into p w C (multiplicity c k))) (others_is k))

      additive-frac : ⟦ additive_fraction p w c ⟧ ≡ sum_to (K p w C) (λ k. mul (into p w C (multiplicity c k)) (inverse (K p w C) (den k))) (branches c)
      unfolding additive_fraction
      additive-frac = sum_is p w C (λ k. quotient4 p w (multiplicity c k) (used_denom p w c k)) (branches c)
          ∙ sum_to_cong (K p w C) _ _ (branches c) (λ k _. used-quotient p w M C c k)

      additive_constraint : (x : List ℕ) → Element p x
          → (is_zero (sub4 p (mul4 p w (additive_denominator p w c) x) (additive_numerator p w c)) ≡ true) ↔ (x ≡ additive_fraction p w c)
      additive_constraint x ex =
          vanishes_at (additive_denominator p w c) (additive_numerator p w c) (additive_fraction p w c) x
          (subst (λ (x : KEl p w C). x ≢ 𝟘) (sym additive-den) (product_to_ne (K p w C) den (branches c) den_ne))
          (ap₂ mul additive-den additive-frac ∙ common (K p w C) den (λ k. into p w C (multiplicity c k)) (branches c) den_ne ∙ sym additive_num)
          (additive-element p w C c) ex

    -- exclusive
    abbrev flags : ℕ → KEl p w C
    flags n = sum_to (K p w C) (λ k. into p w C (flag c k)) n

    abbrev chosen_den : ℕ → KEl p w C
    chosen_den n = sum_to (K p w C) (λ k. mul (into p w C (flag c k)) (den k)) n

    abbrev chosen_num : ℕ → KEl p w C
    chosen_num n = sum_to (K p w C) (λ k. mul (into p w C (flag c k)) (into p w C (multiplicity c k))) n

    -- what the three sums over the first n branches are
    abbrev Sums : ℕ → Option ℕ → Type 0
    Sums n none = (flags n ≡ 𝟘) × (chosen_den n ≡ 𝟘) × (chosen_num n ≡ 𝟘)
    Sums n (some k) = (flags n ≡ 𝟙) × (chosen_den n ≡ den k) × (chosen_num n ≡ into p w C (multiplicity c k)) × (k < n) × (flag c k ≡ 1)

    zero_more : (s f x y : KEl p w C) → f ≡ 𝟘 → s ≡ y → add s (mul f x) ≡ y
    zero_more s f x y e q =
        ap (λ (f : KEl p w C). add s (mul f x)) e
        ∙ solve (K p w C).ring (s ∷ x ∷ []) (X 0 ⊕ O ⊗ X 1) (X 0) tt ∙ q

    one_more : (s f x : KEl p w C) → f ≡ 𝟙 → s ≡ 𝟘 → add s (mul f x) ≡ x
    one_more s f x e q =
        ap₂ (λ (s f : KEl p w C). add s (mul f x)) q e ∙ solve (K p w C).ring (x ∷ []) (O ⊕ I ⊗ X 0) (X 0) tt

    off : (n : ℕ) (o : Option ℕ) → flag c n ≡ 0 → Sums n o → Sums (suc n) o
    off n none z (a, b, d) =
        let e : into p w C (flag c n) ≡ 𝟘 = ap (into p w C) z in
        (ap₂ add a e ∙ (K p w C).ring.add_z 𝟘, zero_more (chosen_den n) _ (den n) _ e b, zero_more (chosen_num n) _ (into p w C (multiplicity c n)) _ e d)
    off n (some k) z (a, b, d, l, o) =
        let e : into p w C (flag c n) ≡ 𝟘 = ap (into p w C) z in
        (ap₂ add a e ∙ (K p w C).ring.add_z 𝟙, zero_more (chosen_den n) _ (den n) _ e b, zero_more (chosen_num n) _ (into p w C (multiplicity c n)) _ e d, omega arith, o)

    on : (n : ℕ) (o : Option ℕ) → flag c n ≡ 1 → ones c n ≡ 0 → Sums n o → Sums (suc n) (some n)
    on n none q z (a, b, d) =
        let e : into p w C (flag c n) ≡ 𝟙 = ap (into p w C) q in
        (ap₂ add a e ∙ z_add (K p w C).ring 𝟙, one_more (chosen_den n) _ (den n) e b, one_more (chosen_num n) _ (into p w C (multiplicity c n)) e d, le_refl (suc n), q)
    on n (some k) q z (a, b, d, l, o) = absurd (let one : 1 ≤ ones c n = ones_pos c n k l o in omega arith)

    module _ (ex : exclusive c.lookups.lookups c.lookup ≡ true) (ok : exclusive_fault p w c ≡ 0) where
      sums_to : (n : ℕ) → n ≤ branches c → ones c n ≤ 1 → Sums n (chosen (flag c) n)
      unfolding chosen total
      sums_to zero l f = (refl, refl, refl)
      sums_to (suc n) l f = go (eqb (flag c n) 1) refl f (λ f. sums_to n (omega arith) f)
        where
          go : (b : Bool) → eqb (flag c n) 1 ≡ b → ones c n + bit b ≤ 1 → (ones c n ≤ 1 → Sums n (chosen (flag c) n)) → Sums (suc n) (cond b (some n) (chosen (flag c) n))
          go true q f ih = on n (chosen (flag c) n) (eq_of_eqb (flag c n) 1 q) (omega arith) (ih (omega arith))
          go false q f ih = off n (chosen (flag c) n) (flag-zero c (lawful p w c ok) n l q) (ih (omega arith))

      exclusive-den : ⟦ exclusive_denominator p w c ⟧ ≡ add (chosen_den (branches c)) (add 𝟙 (neg (flags (branches c))))
      unfolding exclusive_denominator
      exclusive-den =
          el_add p w C (sum4 p (λ k. scale4 p (flag c k) (denom p w c k)) (branches c)) (sub4 p one4 (sum4 p (λ k. lift (flag c k)) (branches c)))
          ∙ ap₂ add
          (sum_is p w C (λ k. scale4 p (flag c k) (denom p w c k)) (branches c) ∙ sum_to_cong (K p w C) _ _ (branches c) (λ k _. scale_is p w C (flag c k) (denom p w c k)))
          (el_sub p w C one4 (sum4 p (λ k. lift (flag c k)) (branches c)) ∙ ap (λ (x : KEl p w C). add 𝟙 (neg x)) (sum_is p w C (λ k. lift (flag c k)) (branches c)))

      exclusive_num : ⟦ exclusive_numerator p w c ⟧ ≡ chosen_num (branches c)
      unfolding exclusive_numerator
      exclusive_num =
          sum_is p w C (λ k. scale4 p (flag c k) (lift (multiplicity c k))) (branches c)
          ∙ sum_to_cong (K p w C) _ _ (branches c) (λ k _. scale_is p w C (flag c k) (lift (multiplicity c k)))

      -- D is not zero, and D · f is N
      abbrev Exact : List ℕ → Type 0
      Exact f = (⟦ exclusive_denominator p w c ⟧ ≢ 𝟘) × (mul ⟦ exclusive_denominator p w c ⟧ ⟦ f ⟧ ≡ ⟦ exclusive_numerator p w c ⟧) × Element p f

      exact : (o : Option ℕ) → Sums (branches c) o → Exact (branch_fraction p w c o)
      exact none (a, b, d) =
          let one : ⟦ exclusive_denominator p w c ⟧ ≡ 𝟙 =
          exclusive-den ∙ ap₂ (λ (x y : KEl p w C). add x (add 𝟙 (neg y))) b a ∙ solve (K p w C).ring [] (O ⊕ (I ⊕ ⊝ O)) I tt in
          (λ z. (K p w C).u≢z (sym one ∙ z), mul_z (K p w C).ring ⟦ exclusive_denominator p w c ⟧ ∙ sym (exclusive_num ∙ d), element-lift p w C 0 (h p w C))
      exact (some k) (a, b, d, l, o) =
          let is : ⟦ exclusive_denominator p w c ⟧ ≡ den k =
          exclusive-den ∙ ap₂ (λ (x y : KEl p w C). add x (add 𝟙 (neg y))) b a ∙ solve (K p w C).ring (den k ∷ []) (X 0 ⊕ (I ⊕ ⊝ I)) (X 0) tt in
          let sound : is_zero (denom p w c k) ≡ false = chosen_sound p w c ok k l o in
          let ne : den k ≢ 𝟘 = nonzero p w C (denom p w c k) (denom-element p w C c k) sound in (
            λ z. ne (sym is ∙ z),
            ap₂ mul is (branch-quotient p w M C c k)
                ∙ solve (K p w C).ring (den k ∷ into p w C (multiplicity c k) ∷ inverse (K p w C) (den k) ∷ []) (X 0 ⊗ (X 1 ⊗ X 2)) (X 1 ⊗ (X 0 ⊗ X 2)) tt
                ∙ ap (mul (into p w C (multiplicity c k))) (mul-inverse (K p w C) (den k) ne) ∙ (K p w C).ring.mul_u (into p w C (multiplicity c k)) ∙ sym (exclusive_num ∙ d),
            element-quotient p w C (multiplicity c k) (denom p w c k),
          )

      exclusive_constraint : (x : List ℕ) → Element p x
          → (is_zero (sub4 p (mul4 p w (exclusive_denominator p w c) x) (exclusive_numerator p w c)) ≡ true) ↔ (x ≡ exclusive_fraction p w c)
      unfolding exclusive_fraction
      exclusive_constraint x ex' =
          let (ne, e, ef) = exact (chosen (flag c) (branches c)) (sums_to (branches c) (le_refl (branches c)) (lawful p w c ok).few) in
          vanishes_at (exclusive_denominator p w c) (exclusive_numerator p w c) (branch_fraction p w c (chosen (flag c) (branches c))) x ne e ef ex'

    -- the constraint vanishes at the generated fraction only
    pub fraction_constraint : Regular p w c → (x : List ℕ) → Element p x
        → (is_zero (sub4 p (mul4 p w (common_denominator p w c) x) (numerator p w c)) ≡ true) ↔ (x ≡ fraction p w c)
    unfolding common_denominator numerator fraction fault
    fraction_constraint reg x ex = go (exclusive c.lookups.lookups c.lookup) refl reg.no_fault reg.all_nonzero
      where
        go : (b : Bool) → exclusive c.lookups.lookups c.lookup ≡ b → cond b (exclusive_fault p w c) (additive_fault p w c) ≡ 0
            → (b ≡ false → (k : ℕ) → k < branches c → is_zero (denom p w c k) ≡ false)
            → (is_zero (sub4 p (mul4 p w (cond b (exclusive_denominator p w c) (additive_denominator p w c)) x)
            (cond b (exclusive_numerator p w c) (additive_numerator p w c))) ≡ true)
            ↔ (x ≡ cond b (exclusive_fraction p w c) (additive_fraction p w c))
        go true q ok _ = exclusive_constraint q ok x ex
        go false q _ all = additive_constraint (all refl) x ex
