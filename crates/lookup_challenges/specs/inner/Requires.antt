-- What the code asks of its lists.
use Rattle.std.specs.Prelude.{◌≡◌, List, ℕ, ◌*◌, ◌≤◌, length}
use Rattle.expression.specs.Requires.{Below}

-- alpha, beta and the lent list
pub record ChallengeLists : Type 0 where
  pub alpha : List ℕ
  pub beta : List ℕ
  pub out : List ℕ

abbrev pub challenge_lists : List ℕ → List ℕ → List ℕ → ChallengeLists
challenge_lists alpha beta out = record { alpha = alpha; beta = beta; out = out }

-- what the tests leave: what the writing requires
pub record Writable (p : ℕ) (alpha beta : List ℕ) (width n : ℕ) (out : List ℕ) : Type 0 where
  pub alpha_four : length alpha ≡ 4
  pub beta_four : length beta ≡ 4
  pub alpha_below : Below p alpha
  pub beta_below : Below p beta
  pub narrow : width ≤ 4294967295
  pub few : n ≤ 4294967295
  pub room : 4 * n ≤ length out
