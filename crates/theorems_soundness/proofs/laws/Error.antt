-- The soundness error, over generation's own answers, for every field with a certificate and so for each known one.
use Rattle.std.specs.Prelude.{◌≡◌, ℕ, ◌*◌, ◌^◌, ◌<◌, ◌≤◌, T, length}
use Rattle.std.proofs.Common.{sym, ap, ap₂, ◌∙◌, subst}
use mathlib.Core.List.Memᴰ
use mathlib.Core.List.{List, ◌++◌, map, Memᴰ}
use Rattle.std.proofs.lemmas.List.{length-map}
use Rattle.field.specs.Modulus.{Modulus, Certificate}
use Rattle.field.specs.laws.Ring.{El, eq}
use Rattle.field.specs.Extension.{K, KEl, el}
use Rattle.field.specs.laws.Extension.{F1, h}
use Rattle.theorems_logup.specs.Distinct.{Distinct, AtMost}
use Rattle.theorems_logup.specs.Sets.{Pair}
use Rattle.theorems_logup.specs.Error as AnyField
use Rattle.theorems_logup.proofs.laws.Arithmetic.{equal?}
use Rattle.theorems_logup.proofs.laws.Support.{support, support_is}
use Rattle.theorems_logup.proofs.laws.Counting.{distinct-map, at_most_by, at_most_pairs, numbers-below}
use Rattle.theorems_logup.proofs.laws.Error.{few-agree}
use Rattle.expression.specs.declared.sizes.Limits.{Limits}
use Rattle.lookup.specs.Table.{Table}
use Rattle.logup.specs.Rule.{table_under}
use Rattle.logup.specs.Generation.{generation}
use Rattle.logup.specs.Ledger.{has_ledger, Entry, entries, tuples_met, at_pair}
use Rattle.theorems_soundness.specs.Soundness.{AllWide, Buffers, SameLedger}
use Rattle.theorems_soundness.specs.Error.{Challenges, Passes, AtMostPass, passing_pairs, SoundnessError, KnownSoundnessError, AllPairs}
use Rattle.theorems_soundness.specs.Entries.{N}
use Rattle.theorems_soundness.proofs.laws.Choices.{UnderEachRule, of_every_field}
use Rattle.theorems_soundness.proofs.laws.Setting.{same_of_el}
use Rattle.theorems_soundness.proofs.laws.Points.{fourth_power, eighth_power, element-pairs, element-pairs-many, element-pairs-distinct, element_pairs_are}
use Rattle.theorems_soundness.proofs.laws.Ledgers.{ledger_is, table_of}
use Rattle.theorems_soundness.proofs.laws.Rule.{met_under, same_ledger_under, comparable_under}
use Rattle.theorems_soundness.proofs.laws.Soundness.{met-count, words_of, fits_of, sums}

-- how many elements the field has
module _ (p w : ℕ) (C : Certificate p w) where
  few_words : AtMost p (El p)
  few_words l dist =
      rw length-map at
      (numbers-below p (map (λ (x : El p). x.0) l) (distinct-map (λ (x : El p). x.0) l (λ x y _ _ e. eq p (h p w C) e) dist)
      (λ n m. let (x, k, at) = Memᴰ.of_map (λ (x : El p). x.0) l m in subst (λ (n : ℕ). n < p) at x.1))

  pub few-elements : AtMost (p ^ 4) (KEl p w C)
  few-elements =
      subst (λ (n : ℕ). AtMost n (KEl p w C)) (fourth_power p)
      (at_most_by (λ (x : KEl p w C). (((x.0, x.1), x.2), x.3)) (p * p * p * p) (λ x y e i. ((e i).0.0.0, (e i).0.0.1, (e i).0.1, (e i).1))
      (at_most_pairs same (p * p * p) p (at_most_pairs same (p * p) p (at_most_pairs same p p few_words few_words) few_words) few_words))
    where
      same : Discrete (El p)
      same = equal? (F1 p w C)

  -- a pair in the field, and that it tells the pair
  abbrev in_field : Pair (List ℕ) → Pair (KEl p w C)
  in_field c = record { alpha = el p w C c.alpha; beta = el p w C c.beta }

  told : (c d : Pair (List ℕ)) → Challenges p c → Challenges p d → in_field c ≡ in_field d → c ≡ d
  told c d kc kd e =
      let a : c.alpha ≡ d.alpha =
      same_of_el p w C c.alpha d.alpha kc.alpha_element kd.alpha_element (ap (λ (c : Pair (KEl p w C)). c.alpha) e) in
      let b : c.beta ≡ d.beta =
      same_of_el p w C c.beta d.beta kc.beta_element kd.beta_element (ap (λ (c : Pair (KEl p w C)). c.beta) e) in
      λ i. record { alpha = a i; beta = b i }

  few-pairs : AtMost (p ^ 8) (Pair (KEl p w C))
  few-pairs =
      subst (λ (n : ℕ). AtMost n (Pair (KEl p w C))) (ap₂ ◌*◌ (sym (fourth_power p)) (sym (fourth_power p)) ∙ eighth_power p)
      (at_most_by (λ (c : Pair (KEl p w C)). (c.alpha, c.beta)) (p ^ 4 * p ^ 4) (λ c d e i. record { alpha = (e i).0; beta = (e i).1 })
      (at_most_pairs (equal? (K p w C)) (p ^ 4) (p ^ 4) few-elements few-elements))

  pub all-pairs : AllPairs p
  all-pairs = (
    (element-pairs p (h p w C), element-pairs-distinct p (h p w C), element_pairs_are p (h p w C), element-pairs-many p (h p w C)),
    λ l dist all. rw length-map at (few-pairs (map in_field l) (distinct-map in_field l (λ c d mc md. told c d (all c mc) (all d md)) dist)),
  )

-- tables on any buses and tuples of any width
module _ (m : Limits) (p w : ℕ) (M : Modulus p) (C : Certificate p w) (t₁ t₂ : Table) (width : ℕ) (buffers₁ buffers₂ : Buffers)
    (ok₁ : T (has_ledger m p t₁)) (ok₂ : T (has_ledger m p t₂)) where
  abbrev E₁ : List Entry
  E₁ = entries p t₁

  abbrev E₂ : List Entry
  E₂ = entries p t₂

  agrees : (c : Pair (List ℕ)) → Passes p (generation m p w) t₁ t₂ buffers₁ buffers₂ c → AnyField.Agrees (K p w C) (N p w C) E₁ E₂ (in_field p w C c)
  agrees c q =
      let ea = q.challenges.alpha_element in
      let eb = q.challenges.beta_element in
      let s₁ = sums m p w M C t₁ ok₁ buffers₁ c.alpha c.beta ea eb q.accepted₁ in
      let s₂ = sums m p w M C t₂ ok₂ buffers₂ c.alpha c.beta ea eb q.accepted₂ in
      record { accepted₁ = s₁.accepted; accepted₂ = s₂.accepted; agree = sym s₁.is ∙ ap (el p w C) q.agree ∙ s₂.is }

  bounded : AllWide width t₁ → AllWide width t₂ → ¬ SameLedger p width t₁ t₂ → (pairs : List (Pair (List ℕ))) → Distinct pairs
      → ((c : Pair (List ℕ)) → Memᴰ c pairs → Passes p (generation m p w) t₁ t₂ buffers₁ buffers₂ c) → length pairs ≤ passing_pairs p width (tuples_met p t₁ t₂)
  bounded wide₁ wide₂ differ pairs dist all =
      rw (met-count p w C t₁ t₂)
      (rw length-map at
      (few-agree (K p w C) (N p w C) width E₁ E₂ (support (K p w C) (N p w C) (E₁ ++ E₂))
      (table_of p w M C t₁ (words_of m p t₁ ok₁) (fits_of m p t₁ ok₁) width wide₁)
      (table_of p w M C t₂ (words_of m p t₂ ok₂) (fits_of m p t₂ ok₂) width wide₂)
      (support_is (K p w C) (N p w C) (E₁ ++ E₂)) (p ^ 4) (few-elements p w C)
      (λ same. differ (λ l _. ledger_is p w C t₁ l ∙ same l ∙ sym (ledger_is p w C t₂ l)))
      (map (in_field p w C) pairs)
      (distinct-map (in_field p w C) pairs (λ c d mc md. told p w C c d (all c mc).challenges (all d md).challenges) dist)
      (λ c k.
      let (c₀, k₀, at) = Memᴰ.of_map (in_field p w C) pairs k in
      subst (AnyField.Agrees (K p w C) (N p w C) E₁ E₂) at (agrees c₀ (all c₀ k₀)))))

-- for every prime and value of X⁴ that make a field
pub soundness_error : (m : Limits) (p w : ℕ) → Modulus p → Certificate p w → SoundnessError m p (generation m p w)
soundness_error m p w M C t₁ t₂ bus width pairs buffers₁ buffers₂ c differ =
    bounded m p w M C t₁ t₂ width buffers₁ buffers₂ c.ledger₁ c.ledger₂ c.wide₁ c.wide₂ differ pairs

-- two tables pass under a rule exactly where they pass as the rule reads them, so whatever the bound, it is the same
pub at_most_under : (bound : ℕ → ℕ → ℕ → ℕ) → UnderEachRule (λ m p g. AtMostPass m p g (bound p))
unfolding at_pair
at_most_under bound m p g rule few t₁ t₂ bus width pairs buffers₁ buffers₂ c differ dist pass =
    subst (λ (n : ℕ). length pairs ≤ bound p width n) (met_under rule p t₁ t₂)
    (few (table_under rule t₁) (table_under rule t₂) bus width pairs buffers₁ buffers₂ (comparable_under rule c)
    (λ same. differ ((same_ledger_under rule p width t₁ t₂).0 same)) dist
    (λ d k.
    let q = pass d k in
    record { challenges = q.challenges; accepted₁ = q.accepted₁; accepted₂ = q.accepted₂; agree = q.agree }))

-- and so in each field, at the entry point
pub logup_soundness_error : KnownSoundnessError
logup_soundness_error = of_every_field SoundnessError (at_most_under passing_pairs) soundness_error
