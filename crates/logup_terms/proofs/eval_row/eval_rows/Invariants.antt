use lib.ListN.{replicate}
use mathlib.Core.Path.{◌≡◌}
use Rattle.field.specs.Ext.{ext_words}
use Rattle.lookup.specs.Lookups.{lookup_count}
use Rattle.logup.specs.Constraints.{row_verdict}
use Rattle.logup_column.specs.inner.Source.{as_source, node_values}
use Rattle.logup_terms.proofs.EvalRowsLoops.{RowsLoop}
use Rattle.logup_terms.proofs.eval_row.eval_rows.Given as goal

abbrev pub invariant-loop-r : goal.invariant-loop-r
invariant-loop-r l =
    let s = as_source l.table l.challenges in
    RowsLoop (row_verdict l.p l.w s.lookups s.challenges (node_values l.p s) l.width l.words (ext_words l.terminal.0) l.height)
    l.p l.height l.width (lookup_count s.lookups.lookups) l.words l.base l.r
    × (l.vals ≡ replicate 1024 0)
