use mathlib.Core.Path.{refl}
use Prim.Native.Nat.{◌+◌, ◌*◌}
use lib.ListN.{length}
use native.Mathlib.Omega.{arith}
use Rattle.logup_generation.proofs.Reading.{row_fits, empty_first, empty_second, first-left, whole_row}
use Rattle.logup_generation.proofs.generate_permutation.row.Goals as goal

pub returns-then-lookups-trace : goal.returns-then-lookups-trace
returns-then-lookups-trace c =
    record {
      words = empty_first c.args.trace.now _ _ _ c.if-lookups-trace.true;
      same_memory = refl;
      begins = λ h. absurd (omega arith);
    }

pub returns-then-trace-width : goal.returns-then-trace-width
returns-then-trace-width c =
    record {
      words = empty_second c.args.trace.now _ _ _ c.if-trace-width.true;
      same_memory = refl;
      begins = λ h. absurd (omega arith);
    }

pub returns : goal.returns
returns c =
    let args = c.args in
    let inside = first-left (length args.trace.now) args.lookups args.height args.r c.if-lookups-trace.false in
    let fits = row_fits (length args.trace.now) ((args.lookups + 1) * 4) args.r c.if-trace-width.false in
    record {
      words = whole_row args.trace.now _ _ _ inside.0 inside.2 fits;
      same_memory = refl;
      begins = λ h. omega arith;
    }
