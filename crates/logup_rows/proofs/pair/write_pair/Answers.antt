use native.Mathlib.Omega.{arith}
use Rattle.logup_column.specs.laws.Refusals.{and_refusal}
use Rattle.logup_rows.proofs.PairLoops.{lent, first-row, one_row, two_rows}
use Rattle.logup_rows.proofs.pair.write_pair.Goals as goal

pub returns-then-n-lt2 : goal.returns-then-n-lt2
returns-then-n-lt2 c =
    λ values e _. one_row (first-row _ _ c.write_row_terms-fault.result (lent c.args.term_multiplicities.now
    c.args.term_denominators.now (omega (arith, c.well_formed)) c.requires.4 c.requires.6 c.requires.7)
    c.requires.0.lists.fitting.tuples c.write_row_terms-fault.ensures) c.write_row_terms-fault.result c.requires.4 c.if-n-lt2.true
    c.write_row_terms-fault.ensures.fault≡ values e

pub returns : goal.returns
returns c =
    let t = first-row _ _ c.write_row_terms-fault.result (lent c.args.term_multiplicities.now c.args.term_denominators.now
    (omega (arith, c.well_formed)) c.requires.4 c.requires.6 c.requires.7) c.requires.0.lists.fitting.tuples
    c.write_row_terms-fault.ensures in
    two_rows t c.if-n-lt2.false c.requires.5 _ c.write_row_terms-other.result c.write_row_terms-other.ensures c.write_row_terms-fault.result
    c.and.result c.write_row_terms-fault.ensures.fault≡ (and_refusal c.write_row_terms-fault.result c.write_row_terms-other.result c.and.ensures)
