-- The soundness error for these widths and numbers of tuples, computed in each field.
use Rattle.std.specs.Prelude.{T}
use Rattle.field.specs.Known.{prime_of}
use Rattle.theorems_soundness.specs.ErrorBits.{all_exact, error_bits}

pub error_bits-exact : T (all_exact error_bits)
unfolding prime_of
error_bits-exact = tt
