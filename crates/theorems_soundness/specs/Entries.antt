-- The entries of a table over the extension field: a word below p stands for the element that has it first and three zeros.
use Rattle.std.specs.Prelude.{ℕ, ◌<◌, refl}
use Rattle.std.proofs.Common.{ap, ◌∙◌}
use Rattle.std.proofs.Math.Decide.{ℕ_discrete}
use Rattle.field.specs.Word.{add_m}
use Rattle.field.specs.Element.{lift}
use Rattle.field.specs.Modulus.{Certificate}
use Rattle.field.specs.Extension.{K, KEl, el}
use Rattle.field.specs.laws.Extension.{h}
use Rattle.field.proofs.laws.Word.{add_m-below}
use Rattle.field.proofs.laws.Homomorphism.{el_add, word_same}
use Rattle.field.proofs.laws.Element.{lift-add}
use Rattle.theorems_logup.specs.Tables.{Entries}
use Rattle.logup.specs.Ledger.{Entry}

module _ (p w : ℕ) (C : Certificate p w) where
  abbrev pub into : ℕ → KEl p w C
  into a = el p w C (lift a)

  abbrev pub N : Entries (K p w C)
  N =
      record {
        word = ℕ;
        same = ℕ_discrete;
        zero = 0;
        add = add_m p;
        Good = λ a. a < p;
        good_zero = h p w C;
        good_add = λ a b l k. add_m-below p (h p w C) a b;
        into = into;
        into_zero = refl;
        into_add = λ a b l k. ap (el p w C) (lift-add p w C a b) ∙ el_add p w C (lift a) (lift b);
        into_injective = λ a b l k e. word_same p w C a b l k (ap (λ (x : KEl p w C). x.0) e);
        Entry = Entry;
        tuple = λ e. e.tuple;
        count = λ e. e.count;
      }
