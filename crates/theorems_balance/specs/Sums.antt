-- The sum of Haböck's paper (ePrint 2022/1530, section 3) for a group of balance: m ÷ (X - z) over the entries of all its lookups in all tables
-- (SPECIFICATION, section 8.2), where m is an entry's count, z its tuple's combined value at beta and X is alpha; and the pairs at which it is taken.
use Rattle.std.specs.Prelude.{ℕ, ◌≡◌, length}
use mathlib.Core.List.{List, Memᴰ}
use Rattle.field.specs.Modulus.{Certificate}
use Rattle.field.specs.Extension.{K, KEl, el}
use Rattle.theorems_logup.specs.Tables as Tables
use Rattle.theorems_logup.specs.Sets.{Pairing}
use Rattle.logup.specs.Ledger.{Element, met}
use Rattle.balance.specs.Groups.{Member}
use Rattle.balance.specs.Entries.{entries}
use Rattle.theorems_soundness.specs.Soundness.{FullSet, AtEachPair}
use Rattle.theorems_soundness.specs.Entries.{N}

-- every tuple of the group's lookups has this width
abbrev pub Wide : ℕ → List Member → Type 0
Wide width ms = (m : Member) → Memᴰ m ms → (nodes : List ℕ) → Memᴰ nodes m.lookup.tuples → length nodes ≡ width

module _ (p w : ℕ) (C : Certificate p w) where
  -- over the entries of a group
  abbrev pub group_sum : List Member → List ℕ → List ℕ → KEl p w C
  group_sum ms alpha beta = Tables.terminal (K p w C) (N p w C) (el p w C alpha) (el p w C beta) (entries p ms)

  -- the pair is no pole of the sum: every entry that counts has a denominator that is not zero
  abbrev pub NoPole : List Member → List ℕ → List ℕ → Type 0
  NoPole ms alpha beta = Tables.Accepts (K p w C) (N p w C) (el p w C alpha) (el p w C beta) (entries p ms)

  -- the sum is zero at every pair that is no pole
  abbrev pub IdenticallyZero : List Member → Type 0
  IdenticallyZero ms = (alpha beta : List ℕ) → Element p alpha → Element p beta → NoPole ms alpha beta → group_sum ms alpha beta ≡ (K p w C).ring.z

  -- the sum is zero at each pair of the set
  abbrev pub Vanishes : List Member → List (Pairing (List ℕ)) → Type 0
  Vanishes ms set = AtEachPair set (λ alpha beta. group_sum ms alpha beta ≡ (K p w C).ring.z)

  -- A group with a full set of pairs (SPECIFICATION, section 9.2) for the number of different tuples that it meets with a count that is not zero,
  -- none of the pairs a pole. All its tuples are of one width, 0 too, since a combined value does not tell (3) from (0, 3). Width and set are the
  -- group's own: another group may have others.
  pub record Sampled (ms : List Member) : Type 0 where
    pub width : ℕ
    pub wide : Wide width ms
    pub set : List (Pairing (List ℕ))
    pub full : FullSet p width (length (met (entries p ms))) set
    pub no_pole : AtEachPair set (NoPole ms)
