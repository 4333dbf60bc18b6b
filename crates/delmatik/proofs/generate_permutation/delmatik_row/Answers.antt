use Rattle.delmatik.proofs.Parts.{start_fits, row_told}
use Rattle.delmatik.proofs.generate_permutation.delmatik_row.Goals as goal

pub write_part-requires : goal.write_part-requires
write_part-requires c =
    start_fits c.args.trace.now c.args.lookups c.args.height c.args.r c.well_formed.0.1 c.row.ensures.words

pub returns : goal.returns
returns c =
    row_told c.args.trace.now c.args.lookups c.args.height c.args.r c.row.ensures.words c.write_part.ensures
