use Rattle.logup_column.specs.inner.Source.{as_row}
use Rattle.logup_terms.proofs.EvalRowLoops.{LookupsLoop}
use Rattle.logup_terms.proofs.eval_row.eval_fractions.Given as goal

abbrev pub invariant-loop-i : goal.invariant-loop-i
invariant-loop-i l =
    LookupsLoop l.p l.w (as_row l.lookups l.challenges l.vals) l.words l.base l.r l.n l.sum l.at l.i
