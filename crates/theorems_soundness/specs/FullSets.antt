-- Full sets exist, as a statement: the theorem of SPECIFICATION, section 9.3, is not empty. Its proof is laws/FullSets.antt.
use Rattle.std.specs.Prelude.{ℕ, ◌≤◌, List, T, length}
use Rattle.theorems_logup.specs.Sets.{Pairing}
use Rattle.expression.specs.declared.sizes.Limits.{Limits}
use Rattle.lookup.specs.Table.{Table}
use Rattle.logup.specs.Rows.{used}
use Rattle.logup.specs.Ledger.{has_ledger, tuples_met}
use Rattle.logup.specs.Generation.{Generation}
use Rattle.theorems_soundness.specs.Soundness.{Buffers, AcceptedAt, FullSet, AtEachPair, AtKnownChoices}
use Rattle.theorems_soundness.specs.Lawful.{LawfulFlags}

-- "buffers that are long enough"
abbrev pub LongEnough : Table → Buffers → Type 0
LongEnough t buffers = (alpha beta : List ℕ) → used t.lookups.lookups t.traces.shape.height ≤ length (buffers alpha beta)

-- "for any two tables with ledgers, tuples of at most 8 words, lawful flags on every row, and buffers that are long enough, there is a full
-- set at each pair of which generation accepts both"
abbrev pub FullSetsExist : Limits → ℕ → Generation → Type 0
FullSetsExist m p g =
    (t₁ t₂ : Table) (width : ℕ) (buffers₁ buffers₂ : Buffers)
    → width ≤ 8 → T (has_ledger m p t₁) → T (has_ledger m p t₂) → LawfulFlags p t₁ → LawfulFlags p t₂
    → LongEnough t₁ buffers₁ → LongEnough t₂ buffers₂
    → (set : List (Pairing (List ℕ))) × FullSet p width (tuples_met p t₁ t₂) set
    × AtEachPair set (AcceptedAt g t₁ buffers₁) × AtEachPair set (AcceptedAt g t₂ buffers₂)

-- in each field
abbrev pub KnownFullSets : Type 0
KnownFullSets = AtKnownChoices FullSetsExist
