-- Nets are zero exactly where the paper's sums vanish: for one group, and for the answer of balance over all groups of all tables.
use Rattle.std.specs.Prelude.{◌≡◌, refl, ◌↔◌, ◌⊎◌, ℕ, length}
use Rattle.std.proofs.Common.{sym, ap, ◌∙◌, subst, inl, inr}
use Rattle.std.proofs.Math.Logic.{⊎_elim}
use mathlib.Core.List.Memᴰ
use mathlib.Core.List.{List, [], ◌∷◌, map, Memᴰ}
use Rattle.field.specs.Modulus.{Modulus, Certificate}
use Rattle.field.specs.Known.{prime_of, w_of}
use Rattle.field.specs.Extension.{K, KEl}
use Rattle.field.specs.laws.Extension.{h}
use Rattle.field.proofs.laws.Known.{modulus_of}
use Rattle.theorems_logup.specs.Tables as Tables
use Rattle.theorems_logup.specs.Sets as Sets
use Rattle.theorems_logup.specs.Sets.{Pairing}
use Rattle.theorems_logup.proofs.laws.Support.{support, support_is}
use Rattle.theorems_logup.proofs.laws.Balance.{vanishes}
use Rattle.expression.specs.Choices.{limits_of}
use Rattle.expression.specs.declared.sizes.Limits.{Limits}
use Rattle.logup.specs.Ledger.{Entry, met}
use Rattle.balance.specs.Groups.{Member}
use Rattle.balance.specs.Entries.{entries}
use Rattle.balance.specs.Balance.{check}
use Rattle.balance.specs.Passes.{Fits, Passes, AllGroups, groups_of}
use Rattle.balance.proofs.laws.Passes.{check-passes}
use Rattle.balance.proofs.laws.Balance.{check-known}
use Rattle.theorems_soundness.specs.Entries.{N}
use Rattle.theorems_soundness.proofs.laws.Ledgers.{met_is}
use Rattle.theorems_soundness.proofs.laws.Pairs.{in_field, each-pair, full}
use Rattle.theorems_balance.specs.Sums.{group_sum, Sampled}
use Rattle.theorems_balance.specs.Balance.{WordsBelow, AllVanish, SumsDetermineNets, NetsAreSeen, SumsDetermineBalance, KnownSums}
use Rattle.theorems_balance.proofs.laws.Nets.{net_is}
use Rattle.theorems_balance.proofs.laws.Groups.{words_of-groups, table_of-group}

module _ (p w : ℕ) (M : Modulus p) (C : Certificate p w) where
  pub sums_determine_nets : SumsDetermineNets p w C
  sums_determine_nets ms below s = (
    λ zero. (each-pair p w C s.set sum_is-zero).1 (claim.0 (λ t. sym (net_is p w C E t) ∙ zero t)),
    λ vanish t. net_is p w C E t ∙ claim.1 ((each-pair p w C s.set sum_is-zero).0 vanish) t,
  )
    where
      E : List Entry
      E = entries p ms

      sum_is-zero : KEl p w C → KEl p w C → Type 0
      sum_is-zero α β = Tables.terminal (K p w C) (N p w C) α β E ≡ (K p w C).ring.z

      claim : ((t : List ℕ) → Tables.ledger (K p w C) (N p w C) E t ≡ 0)
          ↔ ((r : Pairing (KEl p w C)) → Memᴰ r (map (in_field p w C) s.set) → (α : KEl p w C) → Memᴰ α r.alphas
          → sum_is-zero α r.beta)
      claim =
          vanishes (K p w C) (N p w C) s.width E (support (K p w C) (N p w C) E) (map (in_field p w C) s.set)
          (table_of-group p w M C ms below s.width s.wide) (support_is (K p w C) (N p w C) E)
          (subst (λ (n : ℕ). Sets.FullSet (K p w C) (N p w C) s.width n E [] (map (in_field p w C) s.set)) (ap length (met_is p w C E))
          (full p w C s.width (length (met E)) E [] s.set s.full (λ r k a ma. (s.no_pole r k a ma, λ e m. absurd (Memᴰ.not-nil m)))))

-- what does not hold of all members fails of one
module _ {A : Type 0} (P : A → Type 0) (test : (a : A) → Dec (P a)) where
  all_or_one : (l : List A) → ((a : A) → Memᴰ a l → P a) ⊎ ((a : A) × Memᴰ a l × ¬ P a)
  all_or_one [] = inl (λ a m. absurd (Memᴰ.not-nil m))
  all_or_one (x ∷ l) = go (test x) (all_or_one l)
    where
      go : Dec (P x) → ((a : A) → Memᴰ a l → P a) ⊎ ((a : A) × Memᴰ a l × ¬ P a)
          → ((a : A) → Memᴰ a (x ∷ l) → P a) ⊎ ((a : A) × Memᴰ a (x ∷ l) × ¬ P a)
      go (no n) r = inr (x, Memᴰ.head refl, n)
      go (yes y) (inl f) = inl (λ a m. ⊎_elim (λ e. subst P (sym e) y) (f a) (Memᴰ.cases_cons m))
      go (yes y) (inr (a, m, n)) = inr (a, Memᴰ.tail m, n)

module _ (p w : ℕ) (M : Modulus p) (C : Certificate p w) where
  module _ (ms : List Member) where
    Zero : Pairing (List ℕ) → List ℕ → Type 0
    Zero r a = group_sum p w C ms a r.beta ≡ (K p w C).ring.z

    Seen : Pairing (List ℕ) → Type 0
    Seen r = (a : List ℕ) × Memᴰ a r.alphas × ¬ Zero r a

    at_beta : (r : Pairing (List ℕ)) → ((a : List ℕ) → Memᴰ a r.alphas → Zero r a) ⊎ Seen r
    unfolding Zero Seen
    at_beta r = all_or_one (Zero r) (λ a. (K p w C).dec (group_sum p w C ms a r.beta)) r.alphas

    zeros? : (r : Pairing (List ℕ)) → Dec ((a : List ℕ) → Memᴰ a r.alphas → Zero r a)
    unfolding Seen
    zeros? r = ⊎_elim (λ f. yes f) (λ s. no (λ f. s.2 (f s.0 s.1))) (at_beta r)

  pub nets_are_seen : NetsAreSeen p w C
  unfolding Zero Seen
  nets_are_seen ms below s tuple n =
      ⊎_elim (λ f. absurd (n ((sums_determine_nets p w M C ms below s).1 f tuple)))
      (λ x. let (r, k, some) = x in ⊎_elim (λ f. absurd (some f)) (λ y. (r, k, y.0, y.1, y.2)) (at_beta ms r))
      (all_or_one (λ r. (a : List ℕ) → Memᴰ a r.alphas → Zero ms r a) (zeros? ms) s.set)

  -- group by group
  all-groups : (room : ℕ) (gs : List (List Member)) → ((ms : List Member) → Memᴰ ms gs → WordsBelow p ms) → AllGroups (Fits p room) gs
      → (samples : AllGroups (Sampled p w C) gs)
      → AllGroups (Passes p room) gs ↔ AllVanish p w C gs samples
  all-groups room [] below fits samples = (λ x. tt, λ x. tt)
  all-groups room (ms ∷ gs) below (f, fits) (s, samples) =
      let (there, back) = sums_determine_nets p w M C ms (below ms (Memᴰ.head refl)) s in
      let (theres, backs) = all-groups room gs (λ g k. below g (Memᴰ.tail k)) fits samples in
      (λ x. (there x.0.1, theres x.1), λ x. ((f, back x.0), backs x.1))

  pub sums_determine_balance : (m : Limits) → SumsDetermineBalance m p w C (check m p)
  sums_determine_balance m l workspace e fits samples =
      let (there, back) = check-passes m p (h p w C) l workspace in
      let (theres, backs) = all-groups (length workspace) (groups_of l) (words_of-groups m p l e) fits samples in
      (λ x. theres (there x).1, λ x. back (e, backs x))

-- at the entry point, in each field
pub known-sums : KnownSums
known-sums c k C =
    subst (SumsDetermineBalance (limits_of c.profile) (prime_of c.field) (w_of c.field) C) (sym (check-known c k))
    (sums_determine_balance (prime_of c.field) (w_of c.field) (modulus_of c.field) C (limits_of c.profile))
