-- The balance theorem: two tables have the same ledger exactly where their terminals agree at every pair of a full set.
use Rattle.std.specs.Prelude.{◌≡◌, refl, ◌≢◌, ◌↔◌, ◌⊎◌, ℕ, ◌+◌, ◌*◌, ◌-◌, ◌/◌, ◌≤◌, ◌<◌, length}
use Rattle.std.proofs.Math.Path.{sym, ap, subst}
use Rattle.std.proofs.Common.{◌∙◌, ap₂, inl, inr, ⊎_elim, arith, le_of_eq}
use Rattle.std.proofs.Math.Logic.{ite, if_pos, if_neg}
use mathlib.Core.List.Memᴰ
use mathlib.Core.List.{List, [], ◌∷◌, ◌++◌, append-nil, map, List-discrete, Memᴰ, nil≢cons, head-eq_of_cons-eq, tail-eq_of_cons-eq}
use Rattle.std.proofs.Math.Decide.{dec_le}
use Rattle.std.proofs.lemmas.List.{length-map}
use Rattle.algebra.specs.Field.{Field}
use Rattle.algebra.proofs.laws.Solve.{z_add, z_mul, add_left_comm, add-mul, cancel}
use Rattle.theorems_logup.specs.Inverse.{inverse}
use Rattle.theorems_logup.specs.Distinct.{Distinct}
use Rattle.theorems_logup.specs.inner.Distinct.{Apart}
use Rattle.theorems_logup.specs.Sums.{sum}
use Rattle.theorems_logup.specs.Tables.{Entries, ledger, combine, terminal, Accepts, Table}
use Rattle.theorems_logup.specs.Sets.{Pairing, Support, FullSet}
use Rattle.theorems_logup.proofs.laws.Arithmetic as Arithmetic
use Rattle.theorems_logup.proofs.laws.Sums.{sum_cong, sum-zero, sum-add, Off, numerators_zero}
use Rattle.theorems_logup.proofs.laws.Polynomial.{determined}
use Rattle.theorems_logup.proofs.laws.Pigeonhole.{pairs, pairs-count, pairs_facts, apart_of_pairs, pigeonhole}
use Rattle.theorems_logup.proofs.laws.Support.{member?, support, support_is}

module _ (F : Field) where
  open F.ring use {El as K, z as 𝟘, u as 𝟙, add as ◌⊕◌, mul as ◌⊗◌, neg}

  infixl 65 ◌⊕◌ ◌⊖◌
  infixl 70 ◌⊗◌
  abbrev ◌⊖◌ : K → K → K
  a ⊖ b = a ⊕ neg b

  -- Two functions that differ at one member of the list only.
  sum_bump : {A : Type 0} (f g : A → K) (u : K) (t : A) (l : List A) → Distinct l → Memᴰ t l → f t ≡ u ⊕ g t → ((s : A) → t ≢ s → f s ≡ g s)
      → sum F l f ≡ u ⊕ sum F l g
  sum_bump f g u t [] dist m at off = absurd (Memᴰ.not-nil m)
  sum_bump {A} f g u t (x ∷ l) dist m at off = step (λ k. sum_bump f g u t l dist.1 k at off) (Memᴰ.cases_cons m)
    where
      step : (Memᴰ t l → sum F l f ≡ u ⊕ sum F l g) → (t ≡ x) ⊎ Memᴰ t l → f x ⊕ sum F l f ≡ u ⊕ (g x ⊕ sum F l g)
      step below (inl e) =
          ap₂ ◌⊕◌ (subst (λ x. f x ≡ u ⊕ g x) e at) (sum_cong F l (λ y k. off y (λ e'. dist.0 y k (sym e ∙ e')))) ∙ F.ring.add_assoc u (g x) (sum F l g)
      step below (inr k) =
          ap₂ ◌⊕◌ (off x (λ e. dist.0 t k (sym e))) (below k) ∙ add_left_comm F.ring (g x) u (sum F l g)

  module _ (N : Entries F) where
    open N use {word as W, same, zero, add, Good, good_zero, good_add, into, into_zero, into_add, into_injective, Entry, tuple, count}

    ledger-good : (E : List Entry) (t : List W) → ((e : Entry) → Memᴰ e E → Good (count e)) → Good (ledger F N E t)
    ledger-good [] t good = good_zero
    ledger-good (e ∷ E) t good = pick (List-discrete same (tuple e) t) (ledger-good E t (λ e m. good e (Memᴰ.tail m)))
      where
        pick : (d : Dec (tuple e ≡ t)) → Good (ledger F N E t) → Good (ite d (add (count e) (ledger F N E t)) (ledger F N E t))
        pick (yes _) g = good_add (count e) (ledger F N E t) (good e (Memᴰ.head refl)) g
        pick (no _) g = g

    -- The ledger of a table with one entry more.
    module _ (e : Entry) (E : List Entry) (good : (e' : Entry) → Memᴰ e' (e ∷ E) → Good (count e')) where
      rest-good : (t : List W) → Good (ledger F N E t)
      rest-good t = ledger-good E t (λ e m. good e (Memᴰ.tail m))

      ledger_same : into (ledger F N (e ∷ E) (tuple e)) ≡ into (count e) ⊕ into (ledger F N E (tuple e))
      ledger_same =
          ap into (if_pos (List-discrete same (tuple e) (tuple e)) refl (add (count e) (ledger F N E (tuple e))) (ledger F N E (tuple e)))
          ∙ into_add (count e) (ledger F N E (tuple e)) (good e (Memᴰ.head refl)) (rest-good (tuple e))

      ledger_other : (t : List W) → tuple e ≢ t → ledger F N (e ∷ E) t ≡ ledger F N E t
      ledger_other t n = if_neg (List-discrete same (tuple e) t) n (add (count e) (ledger F N E t)) (ledger F N E t)

      ledger_none : count e ≡ zero → (t : List W) → into (ledger F N (e ∷ E) t) ≡ into (ledger F N E t)
      ledger_none z t = pick (List-discrete same (tuple e) t)
        where
          pick : (d : Dec (tuple e ≡ t)) → into (ite d (add (count e) (ledger F N E t)) (ledger F N E t)) ≡ into (ledger F N E t)
          pick (yes _) =
              into_add (count e) (ledger F N E t) (good e (Memᴰ.head refl)) (rest-good t)
              ∙ ap (λ x. x ⊕ into (ledger F N E t)) (ap into z ∙ into_zero) ∙ z_add F.ring (into (ledger F N E t))
          pick (no _) = refl

    abbrev weighted : (List W → K) → List Entry → K
    weighted g E = sum F E (λ e. into (count e) ⊗ g (tuple e))

    -- The weighted sum over the entries is the weighted sum of the ledger over the tuples.
    regroup : (g : List W → K) (S : List (List W)) → Distinct S → (E : List Entry) → ((e : Entry) → Memᴰ e E → Good (count e))
        → ((e : Entry) → Memᴰ e E → count e ≢ zero → Memᴰ (tuple e) S)
        → weighted g E ≡ sum F S (λ t. into (ledger F N E t) ⊗ g t)
    regroup g S dist [] good covers = sym (sum_cong F S (λ t _. ap (λ x. x ⊗ g t) into_zero ∙ z_mul F.ring (g t)) ∙ sum-zero F S)
    regroup g S dist (e ∷ E) good covers =
        pick (same (count e) zero) (regroup g S dist E (λ e m. good e (Memᴰ.tail m)) (λ e m. covers e (Memᴰ.tail m)))
      where
        after : List W → K
        after t = into (ledger F N (e ∷ E) t) ⊗ g t

        before : List W → K
        before t = into (ledger F N E t) ⊗ g t

        pick : (d : Dec (count e ≡ zero)) → weighted g E ≡ sum F S before → into (count e) ⊗ g (tuple e) ⊕ weighted g E ≡ sum F S after
        pick (yes z) ih =
            ap₂ ◌⊕◌ (ap (λ x. x ⊗ g (tuple e)) (ap into z ∙ into_zero) ∙ z_mul F.ring (g (tuple e))) ih ∙ z_add F.ring (sum F S before)
            ∙ sum_cong F S (λ t _. ap (λ x. x ⊗ g t) (sym (ledger_none e E good z t)))
        pick (no n) ih =
            ap (λ x. into (count e) ⊗ g (tuple e) ⊕ x) ih
            ∙ sym (sum_bump after before (into (count e) ⊗ g (tuple e)) (tuple e) S dist (covers e (Memᴰ.head refl) n)
            (ap (λ x. x ⊗ g (tuple e)) (ledger_same e E good) ∙ add-mul F.ring (into (count e)) (into (ledger F N E (tuple e))) (g (tuple e)))
            (λ s ne. ap (λ x. into x ⊗ g s) (ledger_other e E good s ne)))

    -- A tuple that no entry has, but with the multiplicity zero, has the sum zero.
    outside : (t : List W) (E : List Entry) → ((e : Entry) → Memᴰ e E → Good (count e))
        → ((e : Entry) → Memᴰ e E → count e ≢ zero → tuple e ≢ t) → into (ledger F N E t) ≡ 𝟘
    outside t [] good none = into_zero
    outside t (e ∷ E) good none = pick (same (count e) zero) (outside t E (λ e m. good e (Memᴰ.tail m)) (λ e m. none e (Memᴰ.tail m)))
      where
        pick : Dec (count e ≡ zero) → into (ledger F N E t) ≡ 𝟘 → into (ledger F N (e ∷ E) t) ≡ 𝟘
        pick (yes z) ih = ledger_none e E good z t ∙ ih
        pick (no n) ih = ap into (ledger_other e E good t (none e (Memᴰ.head refl) n)) ∙ ih

    map_injective : (t s : List W) → ((a : W) → Memᴰ a t → Good a) → ((a : W) → Memᴰ a s → Good a) → map into t ≡ map into s → t ≡ s
    map_injective [] [] gt gs e = refl
    map_injective [] (y ∷ s) gt gs e = absurd (nil≢cons e)
    map_injective (x ∷ t) [] gt gs e = absurd (nil≢cons (sym e))
    map_injective (x ∷ t) (y ∷ s) gt gs e =
        ap₂ ◌∷◌ (into_injective x y (gt x (Memᴰ.head refl)) (gs y (Memᴰ.head refl)) (head-eq_of_cons-eq e))
        (map_injective t s (λ a m. gt a (Memᴰ.tail m)) (λ a m. gs a (Memᴰ.tail m)) (tail-eq_of_cons-eq e))

    -- Two different tuples have the same combination at fewer than w points.
    few : (w : ℕ) (t s : List W) → ((a : W) → Memᴰ a t → Good a) → ((a : W) → Memᴰ a s → Good a) → length t ≡ w → length s ≡ w → t ≢ s
        → (xs : List K) → Distinct xs → ((x : K) → Memᴰ x xs → combine F N x t ≡ combine F N x s) → length xs ≤ w - 1
    few w t s gt gs lt ls ne xs dist agree = pick (dec_le w (length xs))
      where
        pick : Dec (w ≤ length xs) → length xs ≤ w - 1
        pick (yes h) = absurd (ne (map_injective t s gt gs (determined F xs (map into t) (map into s)
            (length-map t into ∙ lt ∙ sym ls ∙ sym (length-map s into)) (rw length-map (omega arith)) dist agree)))
        pick (no h) = omega arith

    module _ (w : ℕ) (E₁ E₂ : List Entry) (S : List (List W))
        (T₁ : Table F N w E₁) (T₂ : Table F N w E₂) (supp : Support F N (E₁ ++ E₂) S) where
      regroup₁ : (g : List W → K) → weighted g E₁ ≡ sum F S (λ t. into (ledger F N E₁ t) ⊗ g t)
      regroup₁ g = regroup g S supp.once E₁ T₁.counts (λ e m. supp.covers e (Memᴰ.append_left E₂ m))

      regroup₂ : (g : List W → K) → weighted g E₂ ≡ sum F S (λ t. into (ledger F N E₂ t) ⊗ g t)
      regroup₂ g = regroup g S supp.once E₂ T₂.counts (λ e m. supp.covers e (Memᴰ.append_right E₁ m))

      forth : ((t : List W) → ledger F N E₁ t ≡ ledger F N E₂ t) → (g : List W → K) → weighted g E₁ ≡ weighted g E₂
      forth same g = regroup₁ g ∙ sum_cong F S (λ t _. ap (λ x. into x ⊗ g t) (same t)) ∙ sym (regroup₂ g)

      tuple_facts : (t : List W) → Memᴰ t S → (length t ≡ w) × ((a : W) → Memᴰ a t → Good a)
      tuple_facts t m =
          let (e, k, _, at) = supp.occurs t m in
          subst (λ t. (length t ≡ w) × ((a : W) → Memᴰ a t → Good a)) at
          (⊎_elim (λ h. (T₁.width e h, T₁.words e h)) (λ h. (T₂.width e h, T₂.words e h)) (Memᴰ.append_cases E₁ k))

      -- A beta at which all the tuples have different combinations.
      pub separating : (bs : List K) → Distinct bs → (w - 1) * length S * (length S - 1) / 2 < length bs → (β : K) × Memᴰ β bs × Apart (combine F N β) S
      separating bs dist many =
          let (β, m, good) = pigeonhole (λ p β. combine F N β p.0 ≡ combine F N β p.1) (λ p β. Arithmetic.equal? F (combine F N β p.0) (combine F N β p.1))
          (w - 1) (pairs S) bs
          (λ p k. let (m₀, m₁, ne) = pairs_facts S supp.once p k in
          few w p.0 p.1 (tuple_facts p.0 m₀).1 (tuple_facts p.1 m₁).1 (tuple_facts p.0 m₀).0 (tuple_facts p.1 m₁).0 ne)
          dist (rw pairs-count at many) in
          (β, m, apart_of_pairs (combine F N β) S (λ x y k. good (x, y) k))

      difference : List W → K
      difference t = into (ledger F N E₁ t) ⊖ into (ledger F N E₂ t)

      difference_sum : (g : List W → K) → weighted g E₁ ≡ weighted g E₂ → sum F S (λ t. difference t ⊗ g t) ≡ 𝟘
      unfolding difference
      difference_sum g agree = cancel F.ring _ _ (weighted g E₂)
          (ap (λ x. sum F S (λ t. difference t ⊗ g t) ⊕ x) (regroup₂ g)
          ∙ sym (sum-add F (λ t. difference t ⊗ g t) (λ t. into (ledger F N E₂ t) ⊗ g t) S)
          ∙ sum_cong F S (λ t _. sym (add-mul F.ring (difference t) (into (ledger F N E₂ t)) (g t))
          ∙ ap (λ x. x ⊗ g t) (Arithmetic.sub-add F (into (ledger F N E₁ t)) (into (ledger F N E₂ t))))
          ∙ sym (regroup₁ g) ∙ agree ∙ sym (z_add F.ring (weighted g E₂)))

      same_of_into : (t : List W) → into (ledger F N E₁ t) ≡ into (ledger F N E₂ t) → ledger F N E₁ t ≡ ledger F N E₂ t
      same_of_into t = into_injective (ledger F N E₁ t) (ledger F N E₂ t) (ledger-good E₁ t T₁.counts) (ledger-good E₂ t T₂.counts)

      -- At a separating beta, terminals that agree at as many alphas as there are tuples.
      pub back : (β : K) (αs : List K) → Apart (combine F N β) S → length S ≤ length αs → Distinct αs
          → ((α : K) → Memᴰ α αs → Accepts F N α β E₁ × Accepts F N α β E₂)
          → ((α : K) → Memᴰ α αs → terminal F N α β E₁ ≡ terminal F N α β E₂)
          → (t : List W) → ledger F N E₁ t ≡ ledger F N E₂ t
      unfolding difference
      back β αs apart len dist accepts agree t = same_of_into t (pick (member? (List-discrete same) t S))
        where
          off : (α : K) → Memᴰ α αs → Off F (combine F N β) S α
          off α m s k =
              let (e, h, n, at) = supp.occurs s k in
              subst (λ s. α ⊖ combine F N β s ≢ 𝟘) at
              (⊎_elim (λ h. (accepts α m).0 e h n) (λ h. (accepts α m).1 e h n) (Memᴰ.append_cases E₁ h))

          pick : Dec (Memᴰ t S) → into (ledger F N E₁ t) ≡ into (ledger F N E₂ t)
          pick (yes m) = Arithmetic.eq_of_sub F (numerators_zero F (combine F N β) S difference αs len dist apart off
              (λ α k. difference_sum (λ s. inverse F (α ⊖ combine F N β s)) (agree α k)) t m)
          pick (no n) =
              outside t E₁ T₁.counts (λ e k z at. n (Memᴰ.cast (sym at) (supp.covers e (Memᴰ.append_left E₂ k) z)))
              ∙ sym (outside t E₂ T₂.counts (λ e k z at. n (Memᴰ.cast (sym at) (supp.covers e (Memᴰ.append_right E₁ k) z))))

    -- two tables have the same ledger exactly where their terminals agree at every pair of a full set
    pub balance : (w : ℕ) (E₁ E₂ : List Entry) (S : List (List W)) (set : List (Pairing K))
        → Table F N w E₁ → Table F N w E₂ → Support F N (E₁ ++ E₂) S → FullSet F N w (length S) E₁ E₂ set
        → ((t : List W) → ledger F N E₁ t ≡ ledger F N E₂ t)
        ↔ ((r : Pairing K) → Memᴰ r set → (α : K) → Memᴰ α r.alphas → terminal F N α r.beta E₁ ≡ terminal F N α r.beta E₂)
    balance w E₁ E₂ S set T₁ T₂ supp full =
        (λ same r _ α _. forth w E₁ E₂ S T₁ T₂ supp same (λ t. inverse F (α ⊖ combine F N r.beta t)), converse)
      where
        converse : ((r : Pairing K) → Memᴰ r set → (α : K) → Memᴰ α r.alphas → terminal F N α r.beta E₁ ≡ terminal F N α r.beta E₂)
            → (t : List W) → ledger F N E₁ t ≡ ledger F N E₂ t
        converse agree =
            let many : length set ≡ 1 + (w - 1) * length S * (length S - 1) / 2 = full.betas_many in
            let (β, m, apart) = separating w E₁ E₂ S T₁ T₂ supp (map (λ (r : Pairing K). r.beta) set) full.betas
            (rw length-map (omega arith)) in
            let (r, k, at) = Memᴰ.of_map (λ (r : Pairing K). r.beta) set m in
            back w E₁ E₂ S T₁ T₂ supp r.beta r.alphas (subst (λ β. Apart (combine F N β) S) (sym at) apart)
            (le_of_eq (sym (full.alphas_many r k))) (full.alphas r k) (full.accepted r k) (agree r k)

    -- one table against none: its ledger is zero exactly where its terminal is at every pair of a full set
    pub vanishes : (w : ℕ) (E : List Entry) (S : List (List W)) (set : List (Pairing K)) → Table F N w E → Support F N E S → FullSet F N w (length S) E [] set
        → ((t : List W) → ledger F N E t ≡ zero)
        ↔ ((r : Pairing K) → Memᴰ r set → (α : K) → Memᴰ α r.alphas → terminal F N α r.beta E ≡ 𝟘)
    vanishes w E S set T supp full =
        balance w E [] S set T
        (record {
          width = λ e m. absurd (Memᴰ.not-nil m);
          words = λ e m. absurd (Memᴰ.not-nil m);
          counts = λ e m. absurd (Memᴰ.not-nil m);
        })
        (subst (λ l. Support F N l S) (sym (append-nil E)) supp) full

    -- a ledger that is zero makes the terminal zero at every pair, whatever the widths
    pub zero_everywhere : (E : List Entry) → ((e : Entry) → Memᴰ e E → Good (count e)) → ((t : List W) → ledger F N E t ≡ zero) → (α β : K)
        → terminal F N α β E ≡ 𝟘
    zero_everywhere E good none α β =
        let S : List (List W) = support F N E in
        let g : List W → K = λ t. inverse F (α ⊖ combine F N β t) in
        regroup g S (support_is F N E).once E good (support_is F N E).covers
        ∙ sum_cong F S (λ t _. ap (λ x. x ⊗ g t) (ap into (none t) ∙ into_zero) ∙ z_mul F.ring (g t)) ∙ sum-zero F S
