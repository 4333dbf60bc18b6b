use native.Mathlib.Omega.{arith}
use Rattle.wire.specs.Wire.{word_of, word_at}
use Rattle.wire.proofs.words.word_at.Goals as goal

pub returns : goal.returns
unfolding word_at word_of
returns c = omega (arith, c.from_le_bytes.ensures)
