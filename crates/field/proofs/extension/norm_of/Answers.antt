use Rattle.field.proofs.laws.Norm.{norm_by}
use mathlib.Core.Path.{◌∙◌, ap₂}
use Prim.Native.Nat.{ℕ}
use Rattle.field.specs.Word.{add_m, mul_m}
use Rattle.field.specs.Ext.{ext_words}
use Rattle.field.proofs.extension.norm_of.Goals as goal

pub returns : goal.returns
returns c =
    let s = c.args in (
      c.dot2.ensures.0,
      norm_by _ _ c.requires.2 (ext_words s.a) _ _ _ c.requires.5 c.requires.6
          (c.dot2.ensures.1 ∙ ap₂ (λ (m n : ℕ). add_m s.p (mul_m s.p s.x s.x) (mul_m s.p m n)) c.mul.ensures.1 c.neg.ensures.1),
    )
