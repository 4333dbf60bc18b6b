use lib.ListN.{length}
use mathlib.Core.Path.{refl}
use Rattle.balance_groups.specs.laws.Visits.{entered, left}
use Rattle.balance_groups.proofs.CheckLoops.{group_passes, group_stops}
use Rattle.balance_groups.proofs.check.check_group.Goals as goal

pub group_refusal-requires : goal.group_refusal-requires
group_refusal-requires c = (
  (entered _ _ c.requires.0 _ (length c.args.workspace.now) c.clear.ensures c.accumulate_group-u.ensures).room_in,
  (entered _ _ c.requires.0 _ (length c.args.workspace.now) c.clear.ensures c.accumulate_group-u.ensures).widths,
)

pub returns-in-Err : goal.returns-in-Err
returns-in-Err c =
    group_stops c.in-Err.is (left _ _ c.requires.0 _ _ c.group_refusal.result _ (entered _ _ c.requires.0 _ _ c.clear.ensures c.accumulate_group-u.ensures) c.group_refusal.ensures refl).0

pub returns-in-Ok : goal.returns-in-Ok
returns-in-Ok c =
    group_passes c.in-Ok.is (left _ _ c.requires.0 _ _ c.group_refusal.result _ (entered _ _ c.requires.0 _ _ c.clear.ensures c.accumulate_group-u.ensures) c.group_refusal.ensures refl).0
