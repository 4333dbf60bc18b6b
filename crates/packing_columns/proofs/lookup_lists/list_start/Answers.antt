use Rattle.packing_columns.specs.inner.LookupLists.{list_start}
use Rattle.lookup.specs.Lookups.{element_start}
use mathlib.Core.Path.{◌∙◌, ap}
use native.Mathlib.Omega.{arith}
use Rattle.packing_columns.proofs.lookup_lists.list_start.Goals as goal

pub returns-in-Names : goal.returns-in-Names
unfolding list_start
returns-in-Names c =
    (rw c.in-Names.is c.name_start.ensures.0, omega (arith, c.name_start.ensures.1, c.requires.0.few, c.requires.1))

pub returns-in-Tuples : goal.returns-in-Tuples
unfolding list_start
returns-in-Tuples c =
    (rw c.in-Tuples.is c.tuple_start.ensures.0, omega (arith, c.tuple_start.ensures.1, c.requires.0.few, c.requires.1))

pub returns-in-Multiplicities : goal.returns-in-Multiplicities
unfolding list_start
returns-in-Multiplicities c = (
  rw c.in-Multiplicities.is c.multiplicity_start.ensures.0,
  omega (
    arith,
    c.multiplicity_start.ensures.1,
    c.requires.0.few,
    c.requires.1,
  ),
)

pub returns-in-Flags : goal.returns-in-Flags
unfolding list_start
returns-in-Flags c =
    (rw c.in-Flags.is c.flag_start.ensures.0, omega (arith, c.flag_start.ensures.1, c.requires.0.few, c.requires.1))

pub returns-in-Elements : goal.returns-in-Elements
unfolding list_start
returns-in-Elements c = (
  rw c.in-Elements.is (c.element_start.ensures.0 ∙ ap (element_start c.args.tuples.now) c.tuple_start-in-Elements.ensures.0),
  omega (
    arith,
    c.element_start.ensures.1,
    c.tuple_start-in-Elements.ensures.0,
    c.requires.0.short _ c.requires.1,
  ),
)
