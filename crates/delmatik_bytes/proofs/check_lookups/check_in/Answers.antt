use mathlib.Core.Path.{ap, ◌∙◌}
use Rattle.lookup.specs.Lookups.{Lookups}
use Rattle.wire.specs.inner.Place.{parts, both_ends}
use Rattle.balance.specs.Balance.{check_at}
use Rattle.balance.proofs.laws.Balance.{in_numbers_injective}
use Rattle.delmatik_bytes.specs.inner.Words.{list}
use Rattle.delmatik_bytes.proofs.Rooms.{back_after}
use Rattle.delmatik_bytes.proofs.check_lookups.check_in.Goals as goal

pub lookups_in-requires : goal.lookups_in-requires
lookups_in-requires c = back_after c.requires

pub returns : goal.returns
returns c =
    let a = c.args in
    let x = parts a.room.now 0 (both_ends a.front a.back) in
    in_numbers_injective _ _ c.check_lookups.ensures
    ∙ ap (λ (l : Lookups). check_at a.choices (record { sizes = list x 4; main = list x 0; preprocessed = list x 1; public_values = list x 2; nodes = list x 3; lookups = l }) a.workspace.now)
    c.lookups_in.ensures
