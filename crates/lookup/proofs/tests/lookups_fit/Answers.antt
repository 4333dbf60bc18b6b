use Rattle.lookup.specs.Tests.{lookups_fit}
use Rattle.lookup.proofs.tests.lookups_fit.Goals as goal

pub returns : goal.returns
unfolding lookups_fit
returns c =
    rw (
      c.name_start.ensures.0,
      c.tuple_start.ensures.0,
      c.multiplicity_start.ensures.0,
      c.flag_start.ensures.0,
      c.element_start.ensures.0,
    )
