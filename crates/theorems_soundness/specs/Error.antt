-- The soundness error, as a statement: at how few pairs of challenges two tables with different ledgers can have terminals that agree.
-- SPECIFICATION, section 9.5. Its proof is laws/Error.antt; laws/Needed.antt shows that no part of the bound can be left out.
use Rattle.std.specs.Prelude.{ℕ, ◌+◌, ◌*◌, ◌-◌, ◌/◌, ◌^◌, ◌≤◌, ◌≡◌, length}
use mathlib.Core.List.{List, Memᴰ}
use Rattle.theorems_logup.specs.Distinct.{Distinct}
use Rattle.theorems_logup.specs.Sets.{Pair}
use Rattle.expression.specs.declared.sizes.Limits.{Limits}
use Rattle.lookup.specs.Table.{Table}
use Rattle.logup.specs.Ledger.{tuples_met, Element}
use Rattle.logup.specs.Generation.{Generation}
use Rattle.theorems_soundness.specs.Soundness.{Comparable, SameLedger, Buffers, AcceptedAt, AgreeAt, AtKnownChoices}

-- a pair of extension elements
pub record Challenges (p : ℕ) (c : Pair (List ℕ)) : Type 0 where
  pub alpha_element : Element p c.alpha
  pub beta_element : Element p c.beta

-- a pair at which generation accepts both tables and the terminals agree
pub record Passes (p : ℕ) (g : Generation) (t₁ t₂ : Table) (buffers₁ buffers₂ : Buffers) (c : Pair (List ℕ)) : Type 0 where
  pub challenges : Challenges p c
  pub accepted₁ : AcceptedAt g t₁ buffers₁ c.alpha c.beta
  pub accepted₂ : AcceptedAt g t₂ buffers₂ c.alpha c.beta
  pub agree : AgreeAt g t₁ t₂ buffers₁ buffers₂ c.alpha c.beta

-- "Take two tables as in 9.3 whose ledgers are not equal": different pairs that pass are at most the bound for the tuples' width and for n.
abbrev pub AtMostPass : Limits → ℕ → Generation → (ℕ → ℕ → ℕ) → Type 0
AtMostPass m p g bound =
    (t₁ t₂ : Table) (bus : List ℕ) (width : ℕ) (pairs : List (Pair (List ℕ))) (buffers₁ buffers₂ : Buffers)
    → Comparable m p t₁ t₂ bus width → ¬ SameLedger p width t₁ t₂
    → Distinct pairs → ((c : Pair (List ℕ)) → Memᴰ c pairs → Passes p g t₁ t₂ buffers₁ buffers₂ c)
    → length pairs ≤ bound width (tuples_met p t₁ t₂)

-- "at most p⁴ · ((w - 1) · n · (n - 1) / 2 + n - 1) of them": every alpha with a beta that combines two of the n tuples to one value, of which there
-- are at most (w - 1) · n · (n - 1) / 2, and at most n - 1 alphas with each other beta
abbrev pub passing_pairs : ℕ → ℕ → ℕ → ℕ
passing_pairs p width n = p ^ 4 * ((width - 1) * n * (n - 1) / 2 + (n - 1))

abbrev pub SoundnessError : Limits → ℕ → Generation → Type 0
SoundnessError m p g = AtMostPass m p g (passing_pairs p)

-- in each field
abbrev pub KnownSoundnessError : Type 0
KnownSoundnessError = AtKnownChoices SoundnessError

-- "Within the limits of section 11 it is less than one pair in 2⁶⁷."
abbrev pub OneIn2To67 : Limits → ℕ → Generation → Type 0
OneIn2To67 m p g = AtMostPass m p g (λ width n. p ^ 8 / 2 ^ 67)

-- in each field
abbrev pub KnownError : Type 0
KnownError = AtKnownChoices OneIn2To67

-- "There are p⁸ pairs": so many different ones, and no more
abbrev pub AllPairs : ℕ → Type 0
AllPairs p =
    ((pairs : List (Pair (List ℕ))) × Distinct pairs × ((c : Pair (List ℕ)) → Memᴰ c pairs → Challenges p c) × (length pairs ≡ p ^ 8))
    × ((pairs : List (Pair (List ℕ))) → Distinct pairs → ((c : Pair (List ℕ)) → Memᴰ c pairs → Challenges p c) → length pairs ≤ p ^ 8)
