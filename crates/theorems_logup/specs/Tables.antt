-- Tables of entries, their ledgers and their terminals, over any field.
use Rattle.std.specs.Prelude.{◌≡◌, ◌≢◌, ℕ, length}
use Rattle.std.proofs.Math.Logic.{ite}
use mathlib.Core.List.{List, [], ◌∷◌, map, List-discrete, Memᴰ}
use Rattle.algebra.specs.Field.{Field}
use Rattle.theorems_logup.specs.Inverse.{minus}
use Rattle.theorems_logup.specs.Sums.{fractions}
use Rattle.theorems_logup.specs.Polynomial.{horner}

-- The words of a base field and how they stand in the field F: `Good` says that a word is one (below the modulus). An entry is a tuple of words
-- and how often it is counted.
pub record Entries (F : Field) : Type 1 where
  pub word : Type 0
  pub same : Discrete word
  pub zero : word
  pub add : word → word → word
  pub Good : word → Type 0
  pub good_zero : Good zero
  pub good_add : (a b : word) → Good a → Good b → Good (add a b)
  pub into : word → F.ring.El
  pub into_zero : into zero ≡ F.ring.z
  pub into_add : (a b : word) → Good a → Good b → into (add a b) ≡ F.ring.add (into a) (into b)
  pub into_injective : (a b : word) → Good a → Good b → into a ≡ into b → a ≡ b
  pub Entry : Type 0
  pub tuple : Entry → List word
  pub count : Entry → word

module _ (F : Field) (N : Entries F) where
  open N use {word as W, same, zero, add, Good, into, Entry, tuple, count}

  -- the sum of the counts of the entries with the tuple t
  abbrev pub ledger : List Entry → List W → W
  ledger [] t = zero
  ledger (e ∷ E) t = ite (List-discrete same (tuple e) t) (add (count e) (ledger E t)) (ledger E t)

  -- the sum over j of t_j · beta^(w - 1 - j)
  abbrev pub combine : F.ring.El → List W → F.ring.El
  combine beta t = horner F beta F.ring.z (map into t)

  -- the sum of m ÷ (alpha - combined t) over the entries (t, m)
  abbrev pub terminal : F.ring.El → F.ring.El → List Entry → F.ring.El
  terminal alpha beta E = fractions F (λ e. combine beta (tuple e)) (λ e. into (count e)) E alpha

  -- the pair is accepted by the table: no entry that counts has the denominator zero
  abbrev pub Accepts : F.ring.El → F.ring.El → List Entry → Type 0
  Accepts alpha beta E = (e : Entry) → Memᴰ e E → count e ≢ zero → minus F alpha (combine beta (tuple e)) ≢ F.ring.z

  -- every entry of the table has a tuple of w words and a word for its count
  pub record Table (w : ℕ) (E : List Entry) : Type 0 where
    pub width : (e : Entry) → Memᴰ e E → length (tuple e) ≡ w
    pub words : (e : Entry) → Memᴰ e E → (a : W) → Memᴰ a (tuple e) → Good a
    pub counts : (e : Entry) → Memᴰ e E → Good (count e)
