use Rattle.logup.specs.Rows.{fault_refusal}
use Rattle.logup_rows.proofs.row.refusal_of.Goals as goal

pub returns-in-FlagNotBinary : goal.returns-in-FlagNotBinary
unfolding fault_refusal
returns-in-FlagNotBinary c = rw c.in-FlagNotBinary.is

pub returns-in-TwoFlags : goal.returns-in-TwoFlags
unfolding fault_refusal
returns-in-TwoFlags c = rw c.in-TwoFlags.is

pub returns-in-DenominatorZero : goal.returns-in-DenominatorZero
unfolding fault_refusal
returns-in-DenominatorZero c = rw c.in-DenominatorZero.is
