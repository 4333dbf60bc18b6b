-- How many pairs two tables with different ledgers can pass: the soundness error, over any field.
use Rattle.std.specs.Prelude.{◌≡◌, ℕ, ◌+◌, ◌*◌, ◌-◌, ◌/◌, ◌≤◌, length}
use mathlib.Core.List.{List, Memᴰ}
use Rattle.algebra.specs.Field.{Field}
use Rattle.theorems_logup.specs.Distinct.{Distinct, AtMost}
use Rattle.theorems_logup.specs.Tables.{Entries, ledger, terminal, Accepts}
use Rattle.theorems_logup.specs.Sets.{Pair}

-- the betas that may combine two of n tuples of w words to one value, and the alphas that may pass at each other beta
abbrev pub error : ℕ → ℕ → ℕ
error w n = (w - 1) * n * (n - 1) / 2 + (n - 1)

module _ (F : Field) (N : Entries F) where
  open N use {word as W, Entry}

  -- both tables are accepted at the pair, and their terminals agree there
  pub record Agrees (E₁ E₂ : List Entry) (c : Pair F.ring.El) : Type 0 where
    pub accepted₁ : Accepts F N c.alpha c.beta E₁
    pub accepted₂ : Accepts F N c.alpha c.beta E₂
    pub agree : terminal F N c.alpha c.beta E₁ ≡ terminal F N c.alpha c.beta E₂

  -- in a field of at most q elements, different pairs at which two tables with different ledgers agree are no more than this
  abbrev pub FewAgree : ℕ → ℕ → ℕ → List Entry → List Entry → Type 0
  FewAgree q w n E₁ E₂ =
      AtMost q F.ring.El → ¬ ((t : List W) → ledger F N E₁ t ≡ ledger F N E₂ t)
      → (l : List (Pair F.ring.El)) → Distinct l → ((c : Pair F.ring.El) → Memᴰ c l → Agrees E₁ E₂ c) → length l ≤ q * error w n
