use Rattle.logup_rows.proofs.SumLoops.{write_rows_begins, write_rows_turn}
use mathlib.Core.Path.{refl}
use borrow.Author.Rules.{rules}
use Rattle.logup_rows.proofs.writing.write_rows.Goals as goal

pub loop-j-init : goal.loop-j-init
loop-j-init c =
    write_rows_begins c.requires.0 c.requires.1 (search rules) (search rules)
    c.requires.5 refl c.requires.2 c.requires.3
    c.requires.4 c.requires.6

pub loop-j-preserved : goal.loop-j-preserved
loop-j-preserved c =
    write_rows_turn c.loop-j.invariant c.loop-j-test.true _ c.write_row-sum.ensures c.add-accumulator.ensures
