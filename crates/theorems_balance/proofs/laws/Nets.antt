-- The net of a tuple is the ledger's word that the sums speak of.
use Rattle.std.specs.Prelude.{◌≡◌, ℕ, ◌%◌}
use Rattle.std.proofs.Math.Path.{sym, ap}
use Rattle.std.proofs.Common.{◌∙◌, mod-eq_of_lt, zero-add}
use Rattle.std.proofs.Math.Logic.{ite}
use mathlib.Core.List.{List, [], ◌∷◌, List-discrete}
use Rattle.std.proofs.Math.Decide.{ℕ_discrete}
use Rattle.field.specs.Word.{add_m}
use Rattle.field.specs.Modulus.{Certificate}
use Rattle.field.specs.Extension.{K}
use Rattle.field.specs.laws.Extension.{h}
use Rattle.field.proofs.laws.Word.{sum-add_m}
use Rattle.theorems_logup.specs.Tables as Tables
use Rattle.logup.specs.Ledger.{Entry}
use Rattle.balance_slots.specs.Nets.{net_of}
use Rattle.balance.proofs.laws.Sums.{tally, net-tally}
use Rattle.balance.proofs.laws.Ledger.{net-below}
use Rattle.theorems_soundness.specs.Entries.{N}
use Rattle.theorems_soundness.proofs.laws.Ledgers.{same_true, same_false}

module _ (p w : ℕ) (C : Certificate p w) where
  abbrev L : List Entry → List ℕ → ℕ
  L = Tables.ledger (K p w C) (N p w C)

  -- both are the sum of the tuple's counts, modulo p
  ledger-tally : (es : List Entry) (l : List ℕ) → L es l ≡ tally es l % p
  unfolding tally
  ledger-tally [] l = sym (mod-eq_of_lt (h p w C))
  ledger-tally (e ∷ es) l = pick (List-discrete ℕ_discrete e.tuple l) (ledger-tally es l)
    where
      pick : (d : Dec (e.tuple ≡ l)) → L es l ≡ tally es l % p → ite d (add_m p e.count (L es l)) (L es l) ≡ tally (e ∷ es) l % p
      pick (yes q) ih = rw (same_true q) (ap (add_m p e.count) ih ∙ sum-add_m p e.count (tally es l))
      pick (no q) ih = rw (same_false q) (ih ∙ ap (λ (n : ℕ). n % p) (sym (zero-add (tally es l))))

  pub net_is : (es : List Entry) (l : List ℕ) → net_of p es l ≡ L es l
  net_is es l = sym (mod-eq_of_lt (net-below p (h p w C) es l)) ∙ net-tally p es l ∙ sym (ledger-tally es l)
