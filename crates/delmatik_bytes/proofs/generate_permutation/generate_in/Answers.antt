use mathlib.Core.Path.{ap, ◌∙◌}
use Rattle.expression.specs.Window.{lent_traces}
use Rattle.lookup.specs.Lookups.{Lookups}
use Rattle.wire.specs.inner.Place.{parts, both_ends}
use Rattle.logup.specs.Generation.{generation_at}
use Rattle.delmatik_bytes.specs.inner.Words.{list}
use Rattle.delmatik_bytes.proofs.Rooms.{back_after}
use Rattle.delmatik_bytes.proofs.generate_permutation.generate_in.Goals as goal

pub lookups_in-requires : goal.lookups_in-requires
lookups_in-requires c = back_after c.requires

pub returns : goal.returns
returns c =
    let a = c.args in
    let x = parts a.room.now 0 (both_ends a.front a.back) in
    c.generate.ensures
    ∙ ap (λ (l : Lookups). generation_at a.choices a.rule (record { traces = lent_traces a.shape (list x 0) (list x 1) (list x 2); nodes = list x 3; lookups = l }) (list x 4) a.trace.now)
    c.lookups_in.ensures
