use mathlib.Core.Path.{◌∙◌}
use Rattle.lookup.proofs.SameBus.{same_by_byte}
use Rattle.lookup.proofs.buses.same_bytes.Goals as goal

pub returns : goal.returns
returns c = c.eq.ensures ∙ same_by_byte _ _
