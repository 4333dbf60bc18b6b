use mathlib.Core.Path.{◌∙◌}
use Rattle.wire.specs.Wire.{word_bytes}
use Rattle.wire.proofs.words.put.Goals as goal

pub returns : goal.returns
unfolding word_bytes
returns c = c.copy_from_slice.ensures.after ∙ c.to_le_bytes.ensures
