-- Generation accepts only tables that have a ledger, as a statement. SPECIFICATION, section 9.1. Its proof is laws/Accepted.antt.
use Rattle.std.specs.Prelude.{ℕ, List, T}
use Rattle.expression.specs.declared.sizes.Limits.{Limits}
use Rattle.lookup.specs.Table.{Table}
use Rattle.logup.specs.Generation.{Generation, accepts}
use Rattle.logup.specs.Ledger.{has_ledger}
use Rattle.theorems_soundness.specs.Soundness.{AtKnownChoices}

-- "A table has a ledger where generation finds none of refusals 1 to 5 and 9 in it": so it has one where generation accepts it, whatever
-- the challenges and the buffer
abbrev pub LedgerOfAccepted : Limits → ℕ → Generation → Type 0
LedgerOfAccepted m p g = (t : Table) (challenges buffer : List ℕ) → T (accepts (g t challenges buffer).answer) → T (has_ledger m p t)

-- in each field
abbrev pub KnownLedgers : Type 0
KnownLedgers = AtKnownChoices LedgerOfAccepted
