use Rattle.balance.proofs.RowsLoops.{count-exclusive, count-additive}
use mathlib.Core.Path.{refl}
use Rattle.balance.proofs.rows.entry_count.Goals as goal

pub returns-then-starts : goal.returns-then-starts
returns-then-starts c =
    count-exclusive _ _ _ _ _ _ c.if-starts.true c.word_at-multiplicity.ensures refl c.word_at-flag.ensures refl c.mul.ensures.1

pub returns : goal.returns
returns c = count-additive _ _ _ _ _ _ c.if-starts.false c.word_at-multiplicity.ensures refl
