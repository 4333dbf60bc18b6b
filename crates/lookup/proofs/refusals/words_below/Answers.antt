use Rattle.lookup.specs.Tests.{words_below}
use Rattle.lookup.proofs.refusals.words_below.Goals as goal

pub returns : goal.returns
unfolding words_below
returns c = rw (c.traces_below.ensures, c.constants_below.ensures)
