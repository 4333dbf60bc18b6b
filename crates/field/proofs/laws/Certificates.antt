-- The certificates of the two fields.
use Rattle.std.specs.Prelude.{refl}
use Rattle.std.proofs.Common.{arith, lit<}
use Rattle.algebra.specs.Power.{pow_m}
use Rattle.algebra.proofs.laws.Primality.{by_trial}
use Rattle.algebra.proofs.laws.Power.{no_square}
use Rattle.field.specs.Modulus.{Certificate}
use Rattle.field.specs.Known.{babybear, babybear_w, koalabear, koalabear_w}

-- prime by trial division up to its root; w is no square, since its power (p - 1) / 2 is not 1; and a root of -1
pub babybear-certificate : Certificate babybear babybear_w
unfolding pow_m
babybear-certificate =
    let prime : _ = by_trial babybear 44870 (lit< tt) (lit< tt) tt in
    record {
      prime = prime;
      nonsquare = no_square babybear prime babybear_w 1006632960 30 refl (lit< tt) (λ e. omega arith) (λ e. omega arith);
      root = 1728404513;
      root_squared = refl;
    }

pub koalabear-certificate : Certificate koalabear koalabear_w
unfolding pow_m
koalabear-certificate =
    let prime : _ = by_trial koalabear 46159 (lit< tt) (lit< tt) tt in
    record {
      prime = prime;
      nonsquare = no_square koalabear prime koalabear_w 1065353216 30 refl (lit< tt) (λ e. omega arith) (λ e. omega arith);
      root = 2113994754;
      root_squared = refl;
    }
