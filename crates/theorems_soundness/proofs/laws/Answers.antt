-- What an accepting answer of generation says: there are no lookups and no terminal, or no row has a fault and the terminal is the last sum.
use Rattle.std.specs.Prelude.{◌≡◌, ◌⊎◌, Bool, true, false, cond, List, ℕ, ◌<◌, ◌≤◌, eqb, ltb}
use Rattle.std.proofs.Math.Path.{refl}
use Rattle.std.proofs.Common.{sym, ap, ◌∙◌, subst, inl, ⊎_elim, arith, nltb→le}
use Rattle.std.proofs.Math.Logic.{inr}
use Rattle.std.proofs.Math.Option.{Option, none, some, some-ne-none}
use Rattle.std.proofs.Math.Dec.{T, not_T}
use Rattle.lists.specs.Count.{some_of, total}
use Rattle.lists.specs.laws.Count.{first_none, not_of_false}
use Rattle.field.specs.Element.{is_zero}
use Rattle.expression.specs.Values.{bit, row_values}
use Rattle.expression.specs.laws.Refusal.{number-nonzero}
use Rattle.expression.specs.declared.sizes.Limits.{Limits}
use Rattle.expression.specs.declared.refusal.Refusal.{Refusal}
use Rattle.expression.specs.declared.refusal.Refusal.TheVariants.{FlagNotBinary, TwoFlags, DenominatorZero}
use Rattle.lookup.specs.Lookups.{Lookups, lookup_count, exclusive}
use Rattle.lookup.specs.Table.{Table}
use Rattle.lookup.specs.Tests.{has_lookups}
use Rattle.logup.specs.Column.{Place, branches, flag, chosen, denom, used_denom, additive_fault, branch_fault, exclusive_fault, fault}
use Rattle.logup.specs.Rows.{fault_refusal, place, fault_at, row_fault, first_fault, accumulator}
use Rattle.logup.specs.Generation.{Answer, absent, terminal, entry_refusal, rows_outcome, entry_outcome, generation, accepts}

-- the numbers that a fault has
abbrev Code : ℕ → Type 0
Code n = (n ≡ 0) ⊎ ((n ≡ 13) ⊎ ((n ≡ 14) ⊎ (n ≡ 15)))

last_code : (b : Bool) → Code (cond b 15 0)
last_code true = inr (inr (inr refl))
last_code false = inl refl

fault_code : (p w : ℕ) (c : Place) → Code (fault p w c)
unfolding fault exclusive_fault additive_fault
fault_code p w c = go (exclusive c.lookups.lookups c.lookup)
  where
    branch : (o : Option ℕ) → Code (branch_fault p w c o)
    branch none = inl refl
    branch (some k) = last_code (is_zero (denom p w c k))

    flags : (a b : Bool) (n : ℕ) → Code n → Code (cond a 13 (cond b 14 n))
    flags true b n k = inr (inl refl)
    flags false true n k = inr (inr (inl refl))
    flags false false n k = k

    go : (b : Bool) → Code (cond b (exclusive_fault p w c) (additive_fault p w c))
    go true =
        flags (some_of (λ k. ltb 1 (flag c k)) (branches c)) (ltb 1 (total (λ k. bit (eqb (flag c k) 1)) (branches c)))
        (branch_fault p w c (chosen (flag c) (branches c))) (branch (chosen (flag c) (branches c)))
    go false = last_code (some_of (λ k. is_zero (used_denom p w c k)) (branches c))

refusal-zero : (n r i : ℕ) → Code n → fault_refusal n r i ≡ none → n ≡ 0
unfolding fault_refusal
refusal-zero n r i k e =
    ⊎_elim (λ z. z)
    (⊎_elim (λ z. absurd (some-ne-none (FlagNotBinary r i) (sym (ap (λ (n : ℕ). fault_refusal n r i) z) ∙ e)))
    (⊎_elim (λ z. absurd (some-ne-none (TwoFlags r i) (sym (ap (λ (n : ℕ). fault_refusal n r i) z) ∙ e)))
    (λ z. absurd (some-ne-none (DenominatorZero r i) (sym (ap (λ (n : ℕ). fault_refusal n r i) z) ∙ e)))))
    k

module _ (p w : ℕ) (l : Lookups) (challenges : List ℕ) (values : ℕ → List ℕ) (height : ℕ) where
  -- no row has a fault
  pub no_fault : first_fault p w l challenges values height ≡ none → (r i : ℕ) → r < height → i < lookup_count l.lookups
      → fault p w (place p w l challenges values r i) ≡ 0
  unfolding first_fault row_fault fault_at
  no_fault fine r i lr li =
      refusal-zero (fault p w (place p w l challenges values r i)) r i (fault_code p w (place p w l challenges values r i))
      (first_none (fault_at p w l challenges values r) (lookup_count l.lookups) i
      (first_none (row_fault p w l challenges values) height r fine lr) li)

-- an accepting answer
module _ (m : Limits) (p w : ℕ) (t : Table) (challenges buffer : List ℕ) where
  abbrev values : ℕ → List ℕ
  values = row_values p t.nodes t.traces

  abbrev height : ℕ
  height = t.traces.shape.height

  abbrev fault_of : Option Refusal
  fault_of = first_fault p w t.lookups challenges values height

  pub record Accepted (a : Answer) : Type 0 where
    pub entered : entry_refusal m p w t challenges buffer ≡ none
    pub either : ((lookup_count t.lookups.lookups ≡ 0) × (a ≡ absent))
        ⊎ ((fault_of ≡ none) × (a ≡ terminal (accumulator p w t.lookups challenges values height)))

  pub accepted_of : T (accepts (generation m p w t challenges buffer).answer) → Accepted (generation m p w t challenges buffer).answer
  unfolding generation entry_outcome rows_outcome has_lookups
  accepted_of ok = go (entry_refusal m p w t challenges buffer) refl ok
    where
      rows : entry_refusal m p w t challenges buffer ≡ none → (o : Option Refusal) → fault_of ≡ o
          → T (accepts (rows_outcome m p w t challenges buffer o).answer) → Accepted (rows_outcome m p w t challenges buffer o).answer
      rows q none e ok = record { entered = q; either = inr (e, refl) }
      rows q (some f) e ok = absurd (subst T (number-nonzero f) ok)

      after : entry_refusal m p w t challenges buffer ≡ none → (b : Bool) → ltb 0 (lookup_count t.lookups.lookups) ≡ b
          → T (accepts (cond b (rows_outcome m p w t challenges buffer fault_of) (record { answer = absent; buffer = buffer })).answer)
          → Accepted (cond b (rows_outcome m p w t challenges buffer fault_of) (record { answer = absent; buffer = buffer })).answer
      after q true k ok = rows q fault_of refl ok
      after q false k ok =
          record {
            entered = q;
            either =
                inl (
                  let few : lookup_count t.lookups.lookups ≤ 0 =
                      nltb→le 0 (lookup_count t.lookups.lookups) (not_T (ltb 0 (lookup_count t.lookups.lookups)) (not_of_false k)) in
                      omega arith,
                  refl,
                );
          }

      go : (o : Option Refusal) → entry_refusal m p w t challenges buffer ≡ o
          → T (accepts (entry_outcome m p w t challenges buffer o).answer) → Accepted (entry_outcome m p w t challenges buffer o).answer
      go (some f) q ok = absurd (subst T (number-nonzero f) ok)
      go none q ok = after q (ltb 0 (lookup_count t.lookups.lookups)) refl ok
