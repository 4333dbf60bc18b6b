-- Balance (SPECIFICATION, section 8) and the paper's sums, as statements: nets are zero exactly where sums vanish. The proofs are in laws: Balance,
-- Exists and Identity.
use Rattle.std.specs.Prelude.{ℕ, ◌≡◌, ◌≢◌, ◌↔◌, T, length}
use Rattle.std.proofs.Math.Option.{none}
use mathlib.Core.List.{List, [], ◌∷◌, Memᴰ}
use Rattle.field.specs.Modulus.{Certificate}
use Rattle.field.specs.Known.{prime_of, w_of}
use Rattle.field.specs.Extension.{K}
use Rattle.theorems_logup.specs.Sets.{Pairing}
use Rattle.expression.specs.Choices.{known, limits_of}
use Rattle.expression.specs.declared.choices.Choices.{Choices}
use Rattle.expression.specs.declared.sizes.Limits.{Limits}
use Rattle.lookup.specs.Tests.{words_below}
use Rattle.balance_slots.specs.Nets.{net_of}
use Rattle.balance.specs.Tables.{TableLists}
use Rattle.balance.specs.Groups.{Member}
use Rattle.balance.specs.Entries.{entries}
use Rattle.balance.specs.Refusals.{tables_refusal}
use Rattle.balance.specs.Balance.{Check, check_at}
use Rattle.balance.specs.Passes.{Fits, Balanced, AllGroups, groups_of}
use Rattle.theorems_balance.specs.Sums.{Wide, group_sum, IdenticallyZero, Vanishes, Sampled}

-- the words of the group's tables are below p
abbrev pub WordsBelow : ℕ → List Member → Type 0
WordsBelow p ms = (m : Member) → Memᴰ m ms → T (words_below p m.table)

-- One group: all its nets are zero exactly where its sum vanishes at every pair of a full set for it.
abbrev pub SumsDetermineNets : (p w : ℕ) → Certificate p w → Type 0
SumsDetermineNets p w C = (ms : List Member) → WordsBelow p ms → (s : Sampled p w C ms) → Balanced p ms ↔ Vanishes p w C ms s.set

-- a net that is not zero is seen at some pair of the set
abbrev pub NetsAreSeen : (p w : ℕ) → Certificate p w → Type 0
NetsAreSeen p w C =
    (ms : List Member) → WordsBelow p ms → (s : Sampled p w C ms) (tuple : List ℕ) → net_of p (entries p ms) tuple ≢ 0
    → (r : Pairing (List ℕ)) × Memᴰ r s.set × (alpha : List ℕ) × Memᴰ alpha r.alphas
    × (group_sum p w C ms alpha r.beta ≢ (K p w C).ring.z)

-- the sum of each group vanishes at every pair of its set
abbrev pub AllVanish : (p w : ℕ) (C : Certificate p w) (gs : List (List Member)) → AllGroups (Sampled p w C) gs → Type 0
AllVanish p w C [] ss = Unit {0}
AllVanish p w C (ms ∷ gs) (s, ss) = Vanishes p w C ms s.set × AllVanish p w C gs ss

-- Where refusals 1 to 5 and 9 are not given and the different tuples of each group have slots, balance refuses nothing exactly where the sum of every
-- group over all tables vanishes at every pair of a full set for that group.
abbrev pub SumsDetermineBalance : Limits → (p w : ℕ) → Certificate p w → Check → Type 0
SumsDetermineBalance m p w C check =
    (l : TableLists) (workspace : List ℕ) → tables_refusal m p l ≡ none → AllGroups (Fits p (length workspace)) (groups_of l)
    → (samples : AllGroups (Sampled p w C) (groups_of l))
    → ((check l workspace).refusal ≡ none) ↔ AllVanish p w C (groups_of l) samples

-- the tuples of a group are of one width
abbrev pub OneWidth : List Member → Type 0
OneWidth ms = (width : ℕ) × Wide width ms

-- Such sets exist for all groups of tables that get none of refusals 1 to 5 and 9, where the tuples of each group are of one width.
abbrev pub SamplesExist : Limits → (p w : ℕ) → Certificate p w → Type 0
SamplesExist m p w C = (l : TableLists) → tables_refusal m p l ≡ none → AllGroups OneWidth (groups_of l) → AllGroups (Sampled p w C) (groups_of l)

-- So, as the paper has it for functions: balance refuses nothing exactly where the sum of every group over all tables is identically zero.
abbrev pub BalanceIsTheIdentity : Limits → (p w : ℕ) → Certificate p w → Check → Type 0
BalanceIsTheIdentity m p w C check =
    (l : TableLists) (workspace : List ℕ) → tables_refusal m p l ≡ none → AllGroups (Fits p (length workspace)) (groups_of l)
    → AllGroups OneWidth (groups_of l)
    → ((check l workspace).refusal ≡ none) ↔ AllGroups (IdenticallyZero p w C) (groups_of l)

-- What holds of the entry point at every known field and profile, by the definition that its contract cites, with that profile's limits and that
-- field's prime and value of X⁴.
abbrev pub AtKnownChoices : ((m : Limits) (p w : ℕ) → Certificate p w → Check → Type 0) → Type 0
AtKnownChoices S =
    (c : Choices) → T (known c) → (C : Certificate (prime_of c.field) (w_of c.field))
    → S (limits_of c.profile) (prime_of c.field) (w_of c.field) C (check_at c)

-- the three in each field
abbrev pub KnownSums : Type 0
KnownSums = AtKnownChoices SumsDetermineBalance

abbrev pub KnownSamples : Type 0
KnownSamples = AtKnownChoices (λ m p w C check. SamplesExist m p w C)

abbrev pub KnownIdentity : Type 0
KnownIdentity = AtKnownChoices BalanceIsTheIdentity
