-- The sets of pairs at which two tables are compared.
use Rattle.std.specs.Prelude.{◌≡◌, ◌≢◌, ℕ, ◌+◌, ◌*◌, ◌-◌, ◌/◌, length}
use mathlib.Core.List.{List, map, Memᴰ}
use Rattle.algebra.specs.Field.{Field}
use Rattle.theorems_logup.specs.Distinct.{Distinct}
use Rattle.theorems_logup.specs.Tables.{Entries, Accepts}

-- one beta, and the alphas that go with it
pub record Pairing (K : Type 0) : Type 0 where
  pub beta : K
  pub alphas : List K

-- an alpha and a beta
pub record Pair (K : Type 0) : Type 0 where
  pub alpha : K
  pub beta : K

module _ (F : Field) (N : Entries F) where
  open N use {word as W, zero, Entry, tuple, count}

  -- S holds each tuple that occurs with a count that is not zero, once, and no other
  pub record Support (E : List Entry) (S : List (List W)) : Type 0 where
    pub once : Distinct S
    pub covers : (e : Entry) → Memᴰ e E → count e ≢ zero → Memᴰ (tuple e) S
    pub occurs : (t : List W) → Memᴰ t S → (e : Entry) × Memᴰ e E × (count e ≢ zero) × (tuple e ≡ t)

  -- so many different betas, each with n different alphas, and every pair accepted by both tables
  pub record FullSet (w n : ℕ) (E₁ E₂ : List Entry) (set : List (Pairing F.ring.El)) : Type 0 where
    pub betas : Distinct (map (λ (r : Pairing F.ring.El). r.beta) set)
    pub betas_many : length set ≡ 1 + (w - 1) * n * (n - 1) / 2
    pub alphas : (r : Pairing F.ring.El) → Memᴰ r set → Distinct r.alphas
    pub alphas_many : (r : Pairing F.ring.El) → Memᴰ r set → length r.alphas ≡ n
    pub accepted : (r : Pairing F.ring.El) → Memᴰ r set → (alpha : F.ring.El) → Memᴰ alpha r.alphas
        → Accepts F N alpha r.beta E₁ × Accepts F N alpha r.beta E₂
