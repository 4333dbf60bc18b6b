use Rattle.packing_columns.specs.laws.Numbers.{numbered}
use Rattle.packing_columns.proofs.ColumnsLoops.{merged-small, fill_begins, fill_turn, fill_stops, fill-ends}
use borrow.Author.Rules.{rules}
use Rattle.packing_columns.proofs.columns.next_column.Goals as goal

pub loop-end-init : goal.loop-end-init
loop-end-init c =
    fill_begins c.requires.2 c.requires.1.short c.to_usize-first.ensures.0 (numbered c.requires.1 c.requires.2 c.to_usize-first.ensures.0) c.opened-open.ensures

pub fits-requires : goal.fits-requires
fits-requires c = (
  c.requires.0.named,
  c.loop-end.invariant.head,
  numbered c.requires.1 (search rules) c.to_usize-i.ensures.0,
  merged-small
      c.loop-end.invariant c.opened-alone.ensures.1 c.merge-merged.ensures,
)

pub returns-then-not-fits : goal.returns-then-not-fits
returns-then-not-fits c =
    fill_stops c.loop-end.invariant (search rules) c.to_usize-i.ensures.0 c.opened-alone.ensures c.merge-merged.ensures c.fits.ensures c.if-not-fits.true

pub loop-end-preserved : goal.loop-end-preserved
loop-end-preserved c =
    fill_turn c.loop-end.invariant (search rules) c.to_usize-i.ensures.0 c.opened-alone.ensures c.merge-merged.ensures c.fits.ensures c.if-not-fits.false

pub returns : goal.returns
returns c = fill-ends c.loop-end.invariant (search rules)
