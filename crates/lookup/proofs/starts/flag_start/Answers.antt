use Rattle.lookup.specs.Lookups.{flag_start}
use Rattle.lookup.proofs.starts.flag_start.Goals as goal

pub returns : goal.returns
unfolding flag_start
returns c = c.total_of.ensures
