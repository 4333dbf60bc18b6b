-- The soundness error for tables within the limits of a profile: at most 2^27 tuples of at most 8 words.
use Rattle.std.specs.Prelude.{◌≡◌, refl, ℕ, ◌+◌, ◌*◌, ◌-◌, ◌/◌, ◌^◌, ◌≤◌, T, length}
use Rattle.std.proofs.Common.{sym, subst, ⊎_elim, arith, le_trans, le-div_iff_mul-le, mul_assoc, mul-le-mul, mul-le-mul_left, mul-le-mul_right, lit<, lit≤}
use mathlib.Core.List.Memᴰ
use mathlib.Core.List.{List, [], ◌∷◌, ◌++◌, Memᴰ}
use Rattle.lists.specs.laws.Count.{and_left, and_right, true_of}
use Rattle.field.specs.Modulus.{Modulus, Certificate}
use Rattle.field.specs.Known.{babybear, prime_of, w_of}
use Rattle.field.specs.Extension.{K}
use Rattle.field.proofs.laws.Known.{modulus_of, certificate_of}
use Rattle.theorems_logup.proofs.laws.Support.{support, support_is}
use Rattle.expression.specs.Choices.{limits_of}
use Rattle.expression.specs.Words.{all_within}
use Rattle.expression.specs.Limits.{Sane}
use Rattle.expression.specs.laws.Tested.{limits_sane}
use Rattle.expression.specs.declared.sizes.Limits.{Limits}
use Rattle.expression.specs.laws.Below.{within-tested}
use Rattle.lookup.specs.Lookups.{tuple_start, tuple_width}
use Rattle.lookup.specs.Table.{Table}
use Rattle.lookup.specs.Tests.{lookups_within, sizes}
use Rattle.logup.specs.Generation.{generation}
use Rattle.logup.specs.Ledger.{has_ledger, Entry, entries, tuples_met}
use Rattle.theorems_soundness.specs.Soundness.{AllWide}
use Rattle.theorems_soundness.specs.Error.{passing_pairs, OneIn2To67, KnownError}
use Rattle.theorems_soundness.specs.Entries.{N}
use Rattle.theorems_soundness.proofs.laws.Choices.{prime_least, at_known}
use Rattle.theorems_soundness.proofs.laws.Points.{fourth_power, eighth_power}
use Rattle.theorems_soundness.proofs.laws.Ledgers.{whence}
use Rattle.theorems_soundness.proofs.laws.Soundness.{met-count}
use Rattle.theorems_soundness.proofs.laws.Entered.{ledgered}
use Rattle.theorems_soundness.proofs.laws.Error.{soundness_error, at_most_under}
use Rattle.theorems_soundness.proofs.laws.FullSets.{fourth_least, met-few}

-- 8 words a tuple at most, if there is one
width_low : (m : Limits) (p width : ℕ) (t : Table) → Sane m → T (sizes m t) → AllWide width t → (e : Entry) → Memᴰ e (entries p t) → width ≤ 8
unfolding sizes lookups_within tuple_width
width_low m p width t g ok wide e mem =
    let o = whence p t mem in
    let low : T (all_within m.tuple_words t.lookups.tuples) = search (and_left, and_right) depth 14 in
    le_trans
    (subst (λ (n : ℕ). n ≤ m.tuple_words) (wide o.lookup o.number o.lookup_there o.number_there)
    (within-tested m.tuple_words t.lookups.tuples (true_of (all_within m.tuple_words t.lookups.tuples) low)
    (tuple_start t.lookups.lookups o.lookup + o.number)))
    g.tuple_words

few_of : (p a b : ℕ) → babybear ≤ p → a ≤ 939524096 → b ≤ 134217728 → p ^ 4 * (a * b / 2 + b) * 2 ^ 67 ≤ p ^ 8
few_of p a b lp la lb =
    let c : a * b ≤ 939524096 * 134217728 = mul-le-mul la lb in
    let d : a * b / 2 + b ≤ 63050394917404672 = omega arith in
    let elements : babybear * babybear * babybear * babybear ≤ p ^ 4 =
    subst (λ (n : ℕ). babybear * babybear * babybear * babybear ≤ n) (fourth_power p) (fourth_least p lp) in
    let few : (a * b / 2 + b) * 2 ^ 67 ≤ p ^ 4 = le_trans (mul-le-mul_right (2 ^ 67) d) (le_trans (lit≤ tt) elements) in
    rw (mul_assoc (p ^ 4) (a * b / 2 + b) (2 ^ 67), sym (eighth_power p), fourth_power p) (mul-le-mul_left (p ^ 4) few)

module _ (m : Limits) (g : Sane m) (p w : ℕ) (C : Certificate p w) (t₁ t₂ : Table) (width : ℕ) (wide₁ : AllWide width t₁) (wide₂ : AllWide width t₂)
    (ok₁ : T (has_ledger m p t₁)) (ok₂ : T (has_ledger m p t₂)) where
  abbrev both : List Entry
  both = entries p t₁ ++ entries p t₂

  abbrev S : List (List ℕ)
  S = support (K p w C) (N p w C) both

  -- a list that is met has at most 8 words
  narrow_of : (l : List ℕ) → Memᴰ l S → width ≤ 8
  narrow_of l member =
      let (e, k, _, _) = (support_is (K p w C) (N p w C) both).occurs l member in
      ⊎_elim (width_low m p width t₁ g (ledgered m p t₁ ok₁).one wide₁ e) (width_low m p width t₂ g (ledgered m p t₂ ok₂).one wide₂ e)
      (Memᴰ.append_cases (entries p t₁) k)

  words-few : (s : List (List ℕ)) → ((l : List ℕ) → Memᴰ l s → width ≤ 8) → length s ≤ 134217728 → (width - 1) * length s ≤ 939524096
  words-few [] narrow few = omega arith
  words-few (l ∷ s) narrow few =
      let w : width ≤ 8 = narrow l (Memᴰ.head refl) in
      let v : width - 1 ≤ 7 = omega arith in
      mul-le-mul {n₁ = width - 1} {m₁ = length (l ∷ s)} {n₂ = 7} {m₂ = 134217728} v few

  few_pass : babybear ≤ p → passing_pairs p width (tuples_met p t₁ t₂) * 2 ^ 67 ≤ p ^ 8
  few_pass lp =
      let few : tuples_met p t₁ t₂ ≤ 134217728 = met-few m p t₁ t₂ g ok₁ ok₂ in
      let count : tuples_met p t₁ t₂ ≡ length S = met-count p w C t₁ t₂ in
      few_of p ((width - 1) * tuples_met p t₁ t₂) (tuples_met p t₁ t₂ - 1) lp (rw count (words-few S narrow_of (rw count at few))) (omega arith)

-- in a field whose prime is no less than babybear
error-low : (m : Limits) (p w : ℕ) → Sane m → Modulus p → Certificate p w → babybear ≤ p → OneIn2To67 m p (generation m p w)
error-low m p w g M C lp t₁ t₂ bus width pairs buffers₁ buffers₂ c differ dist pass =
    le_trans (soundness_error m p w M C t₁ t₂ bus width pairs buffers₁ buffers₂ c differ dist pass)
    ((le-div_iff_mul-le (lit< tt)).1 (few_pass m g p w C t₁ t₂ width c.wide₁ c.wide₂ c.ledger₁ c.ledger₂ lp))

-- and so in each known one, at the entry point
pub logup_error : KnownError
logup_error =
    at_known OneIn2To67 (at_most_under (λ p width n. p ^ 8 / 2 ^ 67))
    (λ c k. error-low (limits_of c.profile) (prime_of c.field) (w_of c.field) (limits_sane c.profile) (modulus_of c.field) (certificate_of c.field) (prime_least c.field))
