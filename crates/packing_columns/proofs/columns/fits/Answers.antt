use Rattle.packing_columns.specs.inner.Columns.{fits}
use Rattle.packing_columns.proofs.columns.fits.Goals as goal

pub returns : goal.returns
unfolding fits
returns c = cc
