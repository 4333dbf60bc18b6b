use mathlib.Core.Path.{ap, ◌∙◌}
use lib.ListN.{replicate}
use Rattle.field.specs.Word.{mul_m}
use Rattle.field.proofs.laws.Known.{modulus}
use Rattle.field_batch.specs.laws.Quotients.{all_inverted}
use Rattle.field_batch.proofs.DivisionLoops.{again_is}
use Rattle.field_batch.proofs.division.divide_by.Goals as goal

pub quotients-requires : goal.quotients-requires
quotients-requires g c =
    let t = c.requires.0 in let r = c.products-product in let v = c.inv-inverse in (
      t,
      v.ensures.0,
      again_is (replicate 1024 0) _ _ _ _ _ r.ensures.2,
      ap
          (mul_m _ _) v.ensures.1 ∙ all_inverted _ _ t.certificate (modulus t.modulus) _ _ _ r.ensures.1,
    )
