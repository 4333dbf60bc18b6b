use lib.ListN.{length}
use mathlib.Core.Path.{refl, ◌∙◌, ap}
use Rattle.lists.specs.laws.Writing.{begins, turn}
use borrow.Author.Rules.{rules}
use Rattle.lookup_challenges.proofs.challenges.fill.Goals as goal

pub loop-i-init : goal.loop-i-init
loop-i-init c = begins (search rules)

pub loop-i-preserved : goal.loop-i-preserved
loop-i-preserved c =
    turn c.loop-i.invariant (search rules) refl refl (c.store.ensures ∙ c.prefix.ensures) (ap length c.store.ensures)
