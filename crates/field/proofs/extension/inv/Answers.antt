use mathlib.Core.Path.{◌∙◌, ap}
use Prim.Native.Nat.{ℕ}
use Rattle.field.specs.Word.{inverse1}
use Rattle.field.specs.Element.{mul4, lift, cofactor, inverse4}
use Rattle.field.specs.Ext.{ext_words}
use Rattle.field.proofs.extension.inv.Goals as goal

pub returns : goal.returns
unfolding inverse4
returns c =
    let s = c.args in (
      c.cofactor_times.ensures.0,
      c.cofactor_times.ensures.1 ∙ ap (λ (i : ℕ). mul4 s.p s.w (cofactor s.p s.w (ext_words s.a)) (lift i)) (c.inv-i.ensures.1 ∙ ap (inverse1 s.p) c.norm_of.ensures.1),
    )
