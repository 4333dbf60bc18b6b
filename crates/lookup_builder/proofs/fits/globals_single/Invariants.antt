use Prim.Native.Nat.{◌+◌}
use lib.Dec.{eqb}
use Rattle.lookup_builder.specs.Building.{tuple_number}
use Rattle.lists.specs.laws.Turns.{Testing}
use Rattle.lookup_builder.proofs.fits.globals_single.Given as goal

abbrev pub invariant-loop-j : goal.invariant-loop-j
invariant-loop-j l = Testing (λ j. eqb (tuple_number l.interactions (l.kinds.locals + j)) 1) l.kinds.globals l.j l.ok
