-- What the functions over a lookup's tuples on one row give.
use Rattle.std.specs.Prelude.{◌≡◌, Bool, cond, List, ℕ, eqb, ltb}
use Rattle.lists.specs.Count.{some_of, total, joined}
use Rattle.lists.specs.Tab.{tab}
use Rattle.field.specs.Element.{Word4, one4, is_zero}
use Rattle.field.specs.Ext.{ext_words}
use Rattle.expression.specs.Values.{bit}
use Rattle.logup.specs.Column.{Place, branches, chosen, fault}
use Rattle.logup_column.specs.inner.Own.{branch_code, Fits}
use Rattle.logup_column.specs.inner.Terms.{multiplicity_by, denominator_by, term_multiplicity, term_denominator}
use Rattle.logup_column.specs.inner.Kinds.{chosen_number}
use Rattle.logup_column.specs.declared.column.Flags.{Flags}
use Rattle.logup_column.specs.declared.column.Term.{Term}

-- the parts of a lookup that stands alone, as they must be
abbrev pub PartsFit : Place → Type 0
PartsFit c = Fits c.lookups.lookups c.lookups.tuples c.lookups.multiplicities c.lookups.elements

-- what the first n flags say, by their values
pub record FlagsRead (flags : ℕ → ℕ) (n : ℕ) (f : Flags) : Type 0 where
  pub over≡ : f.over ≡ some_of (λ k. ltb 1 (flags k)) n
  pub ones≡ : f.ones ≡ total (λ k. bit (eqb (flags k) 1)) n
  pub chosen≡ : chosen_number f.chosen ≡ branch_code (chosen flags n)

-- the term of a tuple with multiplicity m and denominator d: 0 ÷ 1 where it contributes nothing
pub record IsTerm (p : ℕ) (nothing : Bool) (m : ℕ) (d : List ℕ) (t : Term) : Type 0 where
  pub multiplicity≡ : t.multiplicity ≡ cond nothing 0 m
  pub below : Word4 p (ext_words t.denominator)
  pub denominator≡ : ext_words t.denominator ≡ cond nothing one4 d

-- the terms of the first n tuples, and whether a denominator is zero
pub record TermsWritten (p w : ℕ) (c : Place) (exclusive : Bool) (branch n : ℕ) (zero : Bool) (multiplicities denominators : List ℕ) : Type 0 where
  pub zero≡ : zero ≡ some_of (λ k. is_zero (denominator_by p w c exclusive branch k)) n
  pub multiplicities≡ : multiplicities ≡ tab (multiplicity_by c exclusive branch) 0 n
  pub denominators≡ : denominators ≡ joined (denominator_by p w c exclusive branch) 0 n

-- what a lookup gives on a row: its fault, and the terms of its tuples
pub record LookupTerms (p w : ℕ) (c : Place) (f : ℕ) (multiplicities denominators : List ℕ) : Type 0 where
  pub fault≡ : f ≡ fault p w c
  pub multiplicities≡ : multiplicities ≡ tab (term_multiplicity c) 0 (branches c)
  pub denominators≡ : denominators ≡ joined (term_denominator p w c) 0 (branches c)
