use lib.ListN.{length}
use mathlib.Core.Path.{refl, ◌∙◌, ap}
use Rattle.lookup_builder.specs.Building.{built}
use Rattle.lists.specs.laws.Writing.{begins, turn, ends}
use Rattle.lookup_builder.proofs.Built.{words-nine}
use borrow.Author.Rules.{rules}
use Rattle.lookup_builder.proofs.words.write_lookups.Goals as goal

pub loop-i-init : goal.loop-i-init
loop-i-init c = begins (search rules)

pub loop-i-preserved : goal.loop-i-preserved
loop-i-preserved c =
    turn c.loop-i.invariant (search rules) refl refl c.write_lookup.ensures (ap length c.write_lookup.ensures ∙ words-nine c.args.kinds c.args.interactions.now c.args.weights.now c.loop-i.i)

pub returns : goal.returns
unfolding built
returns c = rw (← c.interaction_count-i-end.ensures) (ends c.loop-i.invariant (search rules))
