use Rattle.lists.specs.Same.{same_list}
use Rattle.lookup.proofs.SameBus.{bus-first, bus-second, bus-both}
use Rattle.lookup.specs.laws.Buses.{name_in, name_is}
use Prim.Native.Nat.{ℕ}
use mathlib.Core.List.{List}
use mathlib.Core.Path.{◌∙◌, refl, ap₂}
use Rattle.lookup.proofs.buses.same_bus.Goals.{then-alone-via-then-alone, then-alone-via-else-alone+then-alone-2}
use Rattle.lookup.proofs.buses.same_bus.Goals as goal

pub returns-then-alone : goal.returns-then-alone
returns-then-alone c =
    elim c.then-alone.branch [
      | then-alone-via-then-alone w ↦ bus-first _ _ _ _ c.alone.ensures w.if-alone.true
      | then-alone-via-else-alone+then-alone-2 w ↦ bus-second _ _ _ _ c.alone.ensures w.if-alone.false w.alone-else-alone.ensures w.if-alone-2.true
    ]

pub slice_bounds-same_bytes-end : goal.slice_bounds-same_bytes-end
slice_bounds-same_bytes-end c =
    name_in c.args.lookups.now c.args.names.now c.args.i c.requires.0 c.requires.1 c.name_start-first.ensures.0 c.name_length.ensures

pub slice_bounds-same_bytes-end-2 : goal.slice_bounds-same_bytes-end-2
slice_bounds-same_bytes-end-2 c =
    name_in c.args.lookups.now c.args.names.now c.args.j c.requires.0 c.requires.2 c.name_start-second.ensures.0 c.name_length-2.ensures

pub returns : goal.returns
returns c =
    bus-both _ _ _ _ c.alone.ensures c.if-alone.false c.alone-else-alone.ensures c.if-alone-2.false (c.same_bytes.ensures ∙ ap₂ (λ (x y :
    List ℕ). same_list x y) (name_is c.args.lookups.now c.args.names.now c.args.i c.name_start-first.ensures.0 c.name_length.ensures refl) (name_is c.args.lookups.now c.args.names.now c.args.j c.name_start-second.ensures.0 c.name_length-2.ensures refl))
