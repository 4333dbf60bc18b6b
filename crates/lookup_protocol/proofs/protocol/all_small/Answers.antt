use Rattle.lookup_protocol.proofs.laws.Height.{small_none, small-next, part_in}
use borrow.Author.Rules.{rules}
use Rattle.lookup_protocol.proofs.protocol.all_small.Goals as goal

pub loop-t-init : goal.loop-t-init
loop-t-init c = small_none

pub slice_bounds-lookups_small-end : goal.slice_bounds-lookups_small-end
slice_bounds-lookups_small-end c =
    part_in c.requires c.loop-t.invariant.start (search rules) c.size.ensures.0

pub loop-t-preserved : goal.loop-t-preserved
loop-t-preserved c =
    small-next c.requires.few c.loop-t.invariant (search rules) c.size.ensures.0 c.lookups_small-ok.ensures
