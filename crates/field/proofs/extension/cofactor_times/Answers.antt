use mathlib.Core.Path.{◌∙◌, ap}
use Prim.Native.Nat.{ℕ}
use Rattle.field.specs.Word.{mul_m}
use Rattle.field.proofs.laws.Norm.{cofactor_by}
use Rattle.field.specs.Ext.{ext_words}
use borrow.Author.Rules.{rules}
use Rattle.field.proofs.extension.cofactor_times.Goals as goal

pub returns : goal.returns
returns c = (
  search rules,
  cofactor_by _ _ c.requires.2
      (ext_words c.args.a) _ _ _ _ _ _ _ _ _ _ _ _ _ c.requires.7 c.requires.8 c.mul-e0.ensures.1 (c.mul-e1.ensures.1 ∙ ap (λ (n : ℕ). mul_m c.args.p n c.args.i) c.neg.ensures.1) c.neg-f0.ensures.1 c.neg-f1.ensures.1 c.mul-v2.ensures.1 c.mul-v3.ensures.1 c.dot2.ensures.1 c.dot2-2.ensures.1 c.dot2-3.ensures.1 c.dot2-4.ensures.1,
)
