-- The soundness error over any field: two tables with different ledgers agree at few pairs.
use Rattle.std.specs.Prelude.{◌≡◌, refl, ℕ, suc, ◌+◌, ◌*◌, ◌-◌, ◌/◌, ◌≤◌, ◌<◌, length}
use Rattle.std.proofs.Common.{sym, ◌∙◌, subst, arith}
use mathlib.Core.List.Memᴰ
use mathlib.Core.List.{List, [], ◌∷◌, ◌++◌, map, Memᴰ}
use Rattle.std.proofs.Math.Decide.{dec_le}
use Rattle.std.proofs.lemmas.List.{length-map}
use Rattle.algebra.specs.Field.{Field}
use Rattle.theorems_logup.specs.Distinct.{Distinct, AtMost}
use Rattle.theorems_logup.specs.inner.Distinct.{Apart}
use Rattle.theorems_logup.specs.Tables.{Entries, ledger, combine, Table}
use Rattle.theorems_logup.specs.Sets.{Pair, Support}
use Rattle.theorems_logup.specs.Error.{error, Agrees, FewAgree}
use Rattle.theorems_logup.proofs.laws.Arithmetic as Arithmetic
use Rattle.theorems_logup.proofs.laws.Pigeonhole.{passing, failing, split_length, passing_member, passing_passes, failing_fails, passing_distinct, failing_distinct}
use Rattle.theorems_logup.proofs.laws.Balance.{separating, back}
use Rattle.theorems_logup.proofs.laws.Counting.{distinct-map, by_groups, apart?}

-- the two kinds of pairs together
both_kinds : (q b m good bad all : ℕ) → good + bad ≡ all → good ≤ q * m → bad ≤ b * q → all ≤ q * (b + m)
both_kinds q b m good bad all e g k = omega arith

module _ (F : Field) (N : Entries F) where
  open F.ring use {El as K}
  open N use {word as W, Entry}

  module _ (w : ℕ) (E₁ E₂ : List Entry) (S : List (List W)) (T₁ : Table F N w E₁) (T₂ : Table F N w E₂) (supp : Support F N (E₁ ++ E₂) S)
      (differ : ¬ ((t : List W) → ledger F N E₁ t ≡ ledger F N E₂ t)) where
    abbrev Separates : K → Type 0
    Separates β = Apart (combine F N β) S

    -- at a beta that separates the tuples, fewer alphas than tuples
    few-alphas : (β : K) → Separates β → (αs : List K) → Distinct αs → ((α : K) → Memᴰ α αs → Agrees F N E₁ E₂ (record { alpha = α; beta = β }))
        → length αs ≤ length S - 1
    few-alphas β apart αs dist all = pick (dec_le (length S) (length αs))
      where
        pick : Dec (length S ≤ length αs) → length αs ≤ length S - 1
        pick (yes h) =
            absurd (differ (back F N w E₁ E₂ S T₁ T₂ supp β αs apart h dist (λ α m. ((all α m).accepted₁, (all α m).accepted₂)) (λ α m. (all α m).agree)))
        pick (no h) = omega arith

    -- the betas that do not
    few-betas : (b : ℕ) → (w - 1) * length S * (length S - 1) / 2 ≡ b → (bs : List K) → Distinct bs → ((β : K) → Memᴰ β bs → ¬ Separates β) → length bs ≤ b
    few-betas b is bs dist bad = pick (dec_le (suc b) (length bs))
      where
        pick : Dec (b < length bs) → length bs ≤ b
        pick (yes h) = let (β, m, apart) = separating F N w E₁ E₂ S T₁ T₂ supp bs dist (rw is h) in absurd (bad β m apart)
        pick (no h) = omega arith

    -- the alphas of pairs with one beta
    alphas-distinct : (β : K) (l : List (Pair K)) → ((c : Pair K) → Memᴰ c l → c.beta ≡ β) → Distinct l → Distinct (map (λ (c : Pair K). c.alpha) l)
    alphas-distinct β l at =
        distinct-map (λ (c : Pair K). c.alpha) l
        (λ c d mc md e. let e' : c.beta ≡ d.beta = at c mc ∙ sym (at d md) in λ i. record { alpha = e i; beta = e' i })

    -- pairs with one beta, that separates the tuples
    one-beta : (β : K) (l : List (Pair K)) → Distinct l → ((c : Pair K) → Memᴰ c l → Separates c.beta × Agrees F N E₁ E₂ c × (c.beta ≡ β))
        → length l ≤ length S - 1
    one-beta β [] dist at = omega arith
    one-beta β (c ∷ l) dist at =
        let first = at c (Memᴰ.head refl) in
        rw length-map at
        (few-alphas β (subst Separates first.2 first.0) (map (λ (c : Pair K). c.alpha) (c ∷ l)) (alphas-distinct β (c ∷ l) (λ d m. (at d m).2) dist)
        (λ α m.
        let (d, k, is) = Memᴰ.of_map (λ (c : Pair K). c.alpha) (c ∷ l) m in
        subst (Agrees F N E₁ E₂) (λ i. record { alpha = is i; beta = (at d k).2 i }) (at d k).1))

    agreeing : (q : ℕ) → AtMost q K → (l : List (Pair K)) → Distinct l → ((c : Pair K) → Memᴰ c l → Agrees F N E₁ E₂ c) → length l ≤ q * error w (length S)
    agreeing q few l dist all =
        both_kinds q ((w - 1) * length S * (length S - 1) / 2) (length S - 1) (length good) (length bad) (length l) (split_length Good good? l)
        (by_groups (Arithmetic.equal? F) (λ (c : Pair K). c.beta) (length S - 1) q good (passing_distinct Good good? l dist) (λ bs d _. few bs d)
        (λ β xs d at. one-beta β xs d (λ c m. (passing_passes Good good? l c (at c m).0, all c (passing_member Good good? l c (at c m).0), (at c m).1))))
        (by_groups (Arithmetic.equal? F) (λ (c : Pair K). c.beta) q ((w - 1) * length S * (length S - 1) / 2) bad (failing_distinct Good good? l dist)
        (λ bs d in_bad. few-betas _ refl bs d (λ β m apart. let (c, k, is) = Memᴰ.of_map (λ (c : Pair K). c.beta) bad (in_bad β m) in
        failing_fails Good good? l c k (subst Separates (sym is) apart)))
        (λ β xs d at. rw length-map at (few (map (λ (c : Pair K). c.alpha) xs) (alphas-distinct β xs (λ c m. (at c m).1) d))))
      where
        Good : Pair K → Type 0
        Good c = Separates c.beta

        good? : (c : Pair K) → Dec (Good c)
        good? c = apart? (Arithmetic.equal? F) (combine F N c.beta) S

        good : List (Pair K)
        good = passing Good good? l

        bad : List (Pair K)
        bad = failing Good good? l

  pub few-agree : (w : ℕ) (E₁ E₂ : List Entry) (S : List (List W)) → Table F N w E₁ → Table F N w E₂ → Support F N (E₁ ++ E₂) S
      → (q : ℕ) → FewAgree F N q w (length S) E₁ E₂
  few-agree w E₁ E₂ S T₁ T₂ supp q few differ = agreeing w E₁ E₂ S T₁ T₂ supp differ q few
