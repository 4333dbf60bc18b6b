use Rattle.logup_column.specs.inner.Source.{as_row}
use Rattle.logup_rows.proofs.RowLoops.{LookupsLoop}
use Rattle.logup_rows.proofs.row.write_row_terms.Given as goal

abbrev pub invariant-loop-i : goal.invariant-loop-i
invariant-loop-i l =
    LookupsLoop l.p l.w (as_row l.lookups l.challenges l.vals) l.r l.initial.term_multiplicities l.initial.term_denominators l.n
    l.term_multiplicities l.term_denominators l.verdict l.at l.i
