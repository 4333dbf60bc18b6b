use Rattle.field.specs.Ext.{ext_words}
use Rattle.field.proofs.laws.Element.{scale4_added}
use borrow.Author.Rules.{rules}
use Rattle.field_batch.proofs.dot.more.Goals as goal

pub returns : goal.returns
returns c =
    let s = c.args in (
      search rules,
      scale4_added s.p s.s.s0 s.s.s1 s.s.s2 s.s.s3 s.z (ext_words s.a) c.product.ensures.0 c.product-2.ensures.0
          c.product-3.ensures.0 c.product-4.ensures.0,
    )
