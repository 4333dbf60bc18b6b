use mathlib.Core.Path.{refl, ap, ◌∙◌}
use lib.ListN.{length}
use Rattle.lists.specs.laws.Writing.{begins, turn, ends}
use Rattle.wire.specs.Wire.{bytes_of}
use Rattle.wire.specs.laws.Trip.{four}
use borrow.Author.Rules.{rules}
use Rattle.wire.proofs.words.encode.Goals as goal

pub loop-i-init : goal.loop-i-init
loop-i-init c = begins (search rules)

pub loop-i-preserved : goal.loop-i-preserved
loop-i-preserved c = turn c.loop-i.invariant (search rules) refl refl c.put.ensures (ap length c.put.ensures ∙ four _)

pub returns : goal.returns
unfolding bytes_of
returns c = ends c.loop-i.invariant (search rules)
