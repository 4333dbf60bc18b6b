use Rattle.lookup_builder.proofs.Sizes.{held_sum}
use native.Mathlib.Omega.{arith}
use Rattle.lookup_builder.proofs.fits.few_kinds.Goals as goal

pub returns : goal.returns
returns c =
    rw (c.saturating_add-2.ensures, c.saturating_add.ensures)
    (held_sum c.args.kinds.locals c.args.kinds.globals c.args.kinds.exclusives c.args.most 18446744073709551615 (omega arith))
