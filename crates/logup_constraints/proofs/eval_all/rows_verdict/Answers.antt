use mathlib.Core.Path.{◌∙◌}
use native.Mathlib.Omega.{arith}
use Rattle.logup_column.specs.laws.Table.{powered}
use Rattle.logup_column.specs.laws.Rule.{few-elements, front_is, listed_under}
use Rattle.logup_constraints.specs.laws.Unnamed.{unnamed-verdict}
use Rattle.logup_constraints.proofs.eval_all.rows_verdict.Goals as goal

pub write_elements-requires : goal.write_elements-requires
write_elements-requires c =
    (c.requires.1.fitting.elements, omega (arith, few-elements c.requires.1 c.requires.6))

pub slice_bounds-eval_rows-end : goal.slice_bounds-eval_rows-end
slice_bounds-eval_rows-end c =
    omega (arith, few-elements c.requires.1 c.requires.6)

pub eval_rows-requires : goal.eval_rows-requires
eval_rows-requires c = (
  record {
    field = c.requires.0;
    lists = listed_under c.args.rule (front_is _ _ _ _ c.write_elements.ensures) c.requires.1;
    below = c.requires.3;
    enough = c.requires.4;
    powered = powered _ _ _ _ _ c.write_table.ensures;
  },
  c.requires.2,
  c.requires.7,
  c.requires.8,
  c.requires.5,
)

pub returns : goal.returns
returns c =
    λ names. c.eval_rows.ensures ∙ unnamed-verdict _ _ _ names _ _ _ _ _ _ _ _ _ _ (front_is _ _ _ _ c.write_elements.ensures)
