use Rattle.lookup.specs.Tests.{lengths_agree}
use Rattle.lookup.proofs.tests.lengths_agree.Goals as goal

pub returns : goal.returns
unfolding lengths_agree
returns c =
    rw (
      c.multiplicity_count.ensures,
      c.tuple_count.ensures,
      c.flag_count.ensures,
      c.flags_due.ensures,
    )
