use Rattle.balance_groups.proofs.TestsLoops.{table_ranges_are}
use Rattle.balance_groups.proofs.ranges.table_ranges.Goals as goal

pub returns : goal.returns
returns c =
    table_ranges_are _ _ c.part_start.ensures.0 c.part_end.ensures.0 c.part_start-2.ensures.0 c.part_end-2.ensures.0 c.part_start-3.ensures.0 c.part_end-3.ensures.0 c.part_start-4.ensures.0 c.part_end-4.ensures.0 c.part_start-5.ensures.0 c.part_end-5.ensures.0 c.part_start-6.ensures.0 c.part_end-6.ensures.0 c.part_start-7.ensures.0 c.part_end-7.ensures.0 c.part_start-8.ensures.0 c.part_end-8.ensures.0 c.part_start-9.ensures.0 c.part_end-9.ensures.0 c.part_start-10.ensures.0 c.part_end-10.ensures.0
