use Rattle.lookup.specs.Lookups.{lookup_words}
use Rattle.lookup_builder.specs.Building.{built_words}
use Rattle.lists.specs.laws.Writing.{Writing}
use Rattle.lookup_builder.proofs.words.write_lookups.Given as goal

abbrev pub invariant-loop-i : goal.invariant-loop-i
invariant-loop-i l = Writing (built_words l.kinds l.interactions l.weights) lookup_words l.i-end l.initial.out l.i l.out
