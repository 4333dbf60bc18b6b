-- A set of pairs of words as pairs of the field.
use Rattle.std.specs.Prelude.{◌≡◌, refl, ◌↔◌, ℕ, length}
use Rattle.std.proofs.Common.{sym, ap, ◌∙◌, subst}
use mathlib.Core.List.Memᴰ
use mathlib.Core.List.{List, [], ◌∷◌, map, Memᴰ}
use Rattle.std.proofs.lemmas.List.{length-map}
use Rattle.field.specs.Modulus.{Certificate}
use Rattle.field.specs.Extension.{K, KEl, el}
use Rattle.theorems_logup.specs.Distinct.{Distinct}
use Rattle.theorems_logup.specs.Tables as Tables
use Rattle.theorems_logup.specs.Sets as Sets
use Rattle.theorems_logup.specs.Sets.{Pairing}
use Rattle.theorems_logup.proofs.laws.Counting.{distinct-map}
use Rattle.logup.specs.Ledger.{Entry, Element}
use Rattle.theorems_soundness.specs.Soundness.{FullSet, AtEachPair}
use Rattle.theorems_soundness.specs.Entries.{N}
use Rattle.theorems_soundness.proofs.laws.Setting.{same_of_el}

module _ (p w : ℕ) (C : Certificate p w) where
  -- a beta and its alphas, as elements of the field
  abbrev pub in_field : Pairing (List ℕ) → Pairing (KEl p w C)
  in_field r = record { beta = el p w C r.beta; alphas = map (el p w C) r.alphas }

  betas-map : (set : List (Pairing (List ℕ)))
      → map (λ (r : Pairing (KEl p w C)). r.beta) (map in_field set) ≡ map (el p w C) (map (λ (r : Pairing (List ℕ)). r.beta) set)
  betas-map [] = refl
  betas-map (r ∷ set) = ap (λ l. el p w C r.beta ∷ l) (betas-map set)

  -- what holds of the set's pairs holds of the pairs in the field, and back
  pub each-pair : (set : List (Pairing (List ℕ))) (P : KEl p w C → KEl p w C → Type 0)
      → AtEachPair set (λ a b. P (el p w C a) (el p w C b))
      ↔ ((r : Pairing (KEl p w C)) → Memᴰ r (map in_field set) → (α : KEl p w C) → Memᴰ α r.alphas → P α r.beta)
  each-pair set P = (
    λ each r k.
        let (r₀, k₀, at) = Memᴰ.of_map in_field set k in
        subst (λ (r : Pairing (KEl p w C)). (α : KEl p w C) → Memᴰ α r.alphas → P α r.beta) at
        (λ α m. let (a, ma, e) = Memᴰ.of_map (el p w C) r₀.alphas m in subst (λ (α : KEl p w C). P α (el p w C r₀.beta)) e (each r₀ k₀ a ma)),
    λ each r k a ma. each (in_field r) (Memᴰ.map in_field k) (el p w C a) (Memᴰ.map (el p w C) ma),
  )

  -- the set in the field
  pub full : (width n : ℕ) (E₁ E₂ : List Entry) (set : List (Pairing (List ℕ))) → FullSet p width n set
      → AtEachPair set (λ a b. Tables.Accepts (K p w C) (N p w C) (el p w C a) (el p w C b) E₁ × Tables.Accepts (K p w C) (N p w C) (el p w C a) (el p w C b) E₂)
      → Sets.FullSet (K p w C) (N p w C) width n E₁ E₂ (map in_field set)
  full width n E₁ E₂ set f acc =
      record {
        betas =
            subst Distinct (sym (betas-map set))
            (distinct-map (el p w C) (map (λ (r : Pairing (List ℕ)). r.beta) set) (λ x y mx my. same_of_el p w C x y (beta_ok x mx) (beta_ok y my)) f.betas);
        betas_many = length-map set in_field ∙ f.betas_many;
        alphas =
            λ r k.
            let (r₀, k₀, at) = Memᴰ.of_map in_field set k in
            subst (λ (r : Pairing (KEl p w C)). Distinct r.alphas) at
            (distinct-map (el p w C) r₀.alphas (λ x y mx my. same_of_el p w C x y (f.alpha_element r₀ k₀ x mx) (f.alpha_element r₀ k₀ y my)) (f.alphas r₀ k₀));
        alphas_many =
            λ r k.
            let (r₀, k₀, at) = Memᴰ.of_map in_field set k in
            subst (λ (r : Pairing (KEl p w C)). length r.alphas ≡ n) at (length-map r₀.alphas (el p w C) ∙ f.alphas_many r₀ k₀);
        accepted = (each-pair set (λ α β. Tables.Accepts (K p w C) (N p w C) α β E₁ × Tables.Accepts (K p w C) (N p w C) α β E₂)).0 acc;
      }
    where
      beta_ok : (x : List ℕ) → Memᴰ x (map (λ (r : Pairing (List ℕ)). r.beta) set) → Element p x
      beta_ok x mx =
          let (r, k, at) = Memᴰ.of_map (λ (r : Pairing (List ℕ)). r.beta) set mx in
          subst (Element p) at (f.beta_element r k)
