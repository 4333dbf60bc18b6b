-- Balance refuses nothing exactly where the paper's sum of every group is identically zero.
use Rattle.std.proofs.Common.{sym, ◌∙◌, subst}
use Rattle.std.specs.Prelude.{List, [], ◌∷◌, ℕ, length}
use Rattle.field.specs.Modulus.{Modulus, Certificate}
use Rattle.field.specs.Known.{prime_of, w_of}
use Rattle.field.specs.Extension.{K, el}
use Rattle.field.specs.laws.Extension.{h}
use Rattle.field.proofs.laws.Known.{modulus_of}
use Rattle.theorems_logup.proofs.laws.Balance.{zero_everywhere}
use Rattle.expression.specs.Choices.{limits_of}
use Rattle.expression.specs.declared.sizes.Limits.{Limits}
use Rattle.balance.specs.Groups.{Member}
use Rattle.balance.specs.Entries.{entries}
use Rattle.balance.specs.Balance.{check}
use Rattle.balance.specs.Passes.{Passes, AllGroups, groups_of}
use Rattle.balance.proofs.laws.Passes.{counted, check-passes}
use Rattle.balance.proofs.laws.Balance.{check-known}
use Rattle.theorems_soundness.specs.Entries.{N}
use Rattle.theorems_balance.specs.Sums.{IdenticallyZero, Sampled}
use Rattle.theorems_balance.specs.Balance.{AllVanish, SamplesExist, BalanceIsTheIdentity, KnownIdentity}
use Rattle.theorems_balance.proofs.laws.Nets.{net_is}
use Rattle.theorems_balance.proofs.laws.Balance.{sums_determine_balance}
use Rattle.theorems_balance.proofs.laws.Exists.{known_samples}

module _ (p w : ℕ) (M : Modulus p) (C : Certificate p w) where
  -- nets that are zero make the sum zero at every pair
  all_identical : (room : ℕ) (gs : List (List Member)) → AllGroups (Passes p room) gs → AllGroups (IdenticallyZero p w C) gs
  all_identical room [] pass = tt
  all_identical room (ms ∷ gs) (one, rest) = (
    λ alpha beta _ _ _.
        zero_everywhere (K p w C) (N p w C) (entries p ms) (counted p (h p w C) ms) (λ t. sym (net_is p w C (entries p ms) t) ∙ one.1 t)
        (el p w C alpha) (el p w C beta),
    all_identical room gs rest,
  )

  -- a sum that is identically zero vanishes at the pairs of any set
  all_vanish : (gs : List (List Member)) (samples : AllGroups (Sampled p w C) gs) → AllGroups (IdenticallyZero p w C) gs → AllVanish p w C gs samples
  all_vanish [] samples zeros = tt
  all_vanish (ms ∷ gs) (s, samples) (one, rest) = (
    λ r k a ma. one a r.beta (s.full.alpha_element r k a ma) (s.full.beta_element r k) (s.no_pole r k a ma),
    all_vanish gs samples rest,
  )

  pub balance_is_the_identity : (m : Limits) → SamplesExist m p w C → BalanceIsTheIdentity m p w C (check m p)
  balance_is_the_identity m exist l workspace e fits wide = (
    λ x. all_identical (length workspace) (groups_of l) ((check-passes m p (h p w C) l workspace).0 x).1,
    λ x. let samples = exist l e wide in (sums_determine_balance p w M C m l workspace e fits samples).1 (all_vanish (groups_of l) samples x),
  )

-- at the entry point, in each field
pub known_identity : KnownIdentity
known_identity c k C =
    subst (BalanceIsTheIdentity (limits_of c.profile) (prime_of c.field) (w_of c.field) C) (sym (check-known c k))
    (balance_is_the_identity (prime_of c.field) (w_of c.field) (modulus_of c.field) C (limits_of c.profile)
    (known_samples c k C))
