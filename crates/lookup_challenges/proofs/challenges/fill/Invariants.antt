use Rattle.field.specs.Ext.{ext_words}
use Rattle.lists.specs.laws.Writing.{Writing}
use Rattle.lookup_challenges.specs.Prefixes.{prefix_by}
use Rattle.lookup_challenges.proofs.challenges.fill.Given as goal

abbrev pub invariant-loop-i : goal.invariant-loop-i
invariant-loop-i l = Writing (prefix_by l.p (ext_words l.alpha) (ext_words l.gamma)) 4 l.count l.initial.out l.i l.out
