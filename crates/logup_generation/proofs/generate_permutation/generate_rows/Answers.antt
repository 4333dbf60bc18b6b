use native.Mathlib.Omega.{arith}
use Rattle.logup.specs.Rows.{first_fault}
use Rattle.logup_column.specs.laws.Table.{powered}
use Rattle.logup_column.specs.laws.Rule.{few-elements, front_is, listed_under}
use Rattle.logup_generation.proofs.Finishing.{rows_finished}
use Rattle.logup_generation.proofs.generate_permutation.generate_rows.Goals as goal

pub write_elements-requires : goal.write_elements-requires
write_elements-requires c =
    (c.requires.1.fitting.elements, omega (arith, few-elements c.requires.1 c.requires.7))

pub slice_bounds-all_rows-end : goal.slice_bounds-all_rows-end
slice_bounds-all_rows-end c =
    omega (arith, few-elements c.requires.1 c.requires.7)

pub all_rows-progress-requires : goal.all_rows-progress-requires
all_rows-progress-requires c = (
  record {
    field = c.requires.0;
    lists = listed_under c.args.rule (front_is _ _ _ _ c.write_elements.ensures) c.requires.1;
    below = c.requires.3;
    enough = c.requires.4;
    powered = powered _ _ _ _ _ c.write_table.ensures;
  },
  c.requires.2,
  c.requires.5,
  c.requires.7,
  c.requires.8,
)

pub returns : goal.returns
unfolding first_fault
returns c =
    λ m names. rows_finished m _ _ _ _ _ _ _ _ names _ _ _ _ _ _ (front_is _ _ _ _ c.write_elements.ensures) c.all_rows-progress.ensures.0.accumulator≡
    c.all_rows-progress.ensures.0.verdict≡ c.all_rows-progress.ensures.1 c.used_words.ensures c.finish.ensures
