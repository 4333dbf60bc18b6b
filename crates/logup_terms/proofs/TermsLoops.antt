-- The turns of the loops over the tuples of a lookup.
use mathlib.Core.Path.{◌≡◌, refl, sym, ap, ap₂, ◌∙◌, subst}
use mathlib.Core.Bool.{Bool, true, false, cond}
use mathlib.Core.List.{List, [], map}
use lib.Dec.{eqb}
use Prim.Native.Nat.{ℕ, ◌+◌, ◌*◌, ◌-◌, ◌<◌, ◌≤◌, zero-le}
use native.Mathlib.Numerals.{add-one}
use native.Mathlib.Omega.{arith}
use lib.ListN.{length, take, drop}
use Rattle.lists.specs.Count.{total}
use Rattle.field.specs.Modulus.{Certificate}
use Rattle.field.specs.Word.{mul_m}
use Rattle.field.specs.Ext.{ext_words}
use Rattle.field.specs.declared.extension.Ext.{Ext}
use Rattle.field.specs.laws.Extension.{h}
use Rattle.field.proofs.laws.Element.{word-lift, lift-add}
use Rattle.field.specs.Element.{Word4, zero4, one4, lift, add4, sub4, mul4, scale4, sum4, product4}
use Rattle.expression.specs.Words.{word}
use Rattle.lookup.specs.Lookups.{tuple_count, element_start, exclusive, tuple_nodes, tuple_width, multiplicity_node}
use Rattle.logup.specs.Tuple.{tuple, denominator}
use Rattle.logup.specs.Column.{Place, branches, multiplicity, flag, denom}
use Rattle.logup.specs.Constraints.{others, additive_numerator, additive_denominator, exclusive_numerator, exclusive_denominator, numerator, common_denominator}
use Rattle.logup_column.specs.inner.Powers.{beta_of}
use Rattle.logup_column.specs.inner.Own.{own_place, Fits}
use Rattle.logup_column.specs.laws.Own.{start-next, start_in, own-multiplicity, own-flag, own-tuple}
use Rattle.logup_terms.specs.inner.Constraint.{TermAdded, BranchAdded, Summed, FractionIs, LookupFraction, vanishing}
use Rattle.logup_terms.specs.laws.Sums.{numerator-next, first-numerator, first-denominator, lift_scaled}
use Rattle.logup_terms.specs.declared.compute.Fraction.{Fraction}
use Rattle.logup_terms.specs.declared.compute.Branches.{Branches}

-- where a loop stands in the lookup's node list: at the nodes of tuple k
pub record TuplesLoop (own widths mults nodes : List ℕ) (n at k : ℕ) : Type 0 where
  pub fits : Fits own widths mults nodes
  pub size : n ≡ tuple_count own 0
  pub within : k ≤ n
  pub at≡ : at ≡ element_start widths k
  pub room : at ≤ length nodes
  -- that indexes and places in memory fit 64 bits: here, so that omega reads it
  pub few : n ≤ 4294967295
  pub memory : 4 * length nodes ≤ 18446744073709551615

pub tuples_loop_begins : {own widths mults nodes : List ℕ} {n : ℕ} → Fits own widths mults nodes → n ≡ tuple_count own 0 → n ≤ 4294967295 → 4 * length nodes ≤ 18446744073709551615
    → TuplesLoop own widths mults nodes n 0 0
unfolding element_start total
tuples_loop_begins f e few memory = record { fits = f; size = e; within = zero-le; at≡ = refl; room = zero-le; few = few; memory = memory }

pub tuples_loop_in : {own widths mults nodes : List ℕ} {n at k r : ℕ} → TuplesLoop own widths mults nodes n at k → k < n → r ≡ word widths k → at + r ≤ length nodes
tuples_loop_in {widths = widths} {k = k} s h g = omega (arith, start_in (k + 1) s.fits (omega (arith, s.size)), start-next widths k, s.at≡)

pub tuples_loop_turn : {own widths mults nodes : List ℕ} {n at k r : ℕ} → TuplesLoop own widths mults nodes n at k → k < n → r ≡ word widths k → TuplesLoop own widths mults nodes n (at + r) (k + 1)
tuples_loop_turn {widths = widths} {k = k} s h g =
    record { fits = s.fits; size = s.size; within = omega arith; at≡ = ap₂ ◌+◌ s.at≡ g ∙ sym (start-next widths k); room = tuples_loop_in s h g; few = s.few; memory = s.memory }

tuples_loop_denom : {own widths mults nodes : List ℕ} {n at k r : ℕ} (p w : ℕ) (flags vals alpha beta : List ℕ) → TuplesLoop own widths mults nodes n at k → r ≡ word widths k
    → denominator p w alpha beta (map (word vals) (take (at + r - at) (drop at nodes))) ≡ denom p w (own_place own widths mults flags nodes vals alpha beta) k
unfolding denom
tuples_loop_denom {own} {widths} {mults} {nodes} {n} {at} {k} {r} p w flags vals alpha beta s g =
    ap (denominator p w alpha beta) (own-tuple own widths mults flags nodes vals alpha beta k at r s.at≡ g)

-- an additive lookup: N and D of the first k tuples
pub record Added (p w : ℕ) (c : Place) (t : Fraction) (k : ℕ) : Type 0 where
  pub numerator_below : Word4 p (ext_words t.numerator)
  pub denominator_below : Word4 p (ext_words t.denominator)
  pub numerator_is : ext_words t.numerator ≡ sum4 p (λ i. scale4 p (multiplicity c i) (product4 p w (λ j. cond (eqb j i) one4 (denom p w c j)) k)) k
  pub denominator_is : ext_words t.denominator ≡ product4 p w (denom p w c) k

word_of : {p : ℕ} {a b : List ℕ} → a ≡ b → Word4 p b → Word4 p a
word_of {p} e k = subst (Word4 p) (sym e) k

pub adding_begins : {p w : ℕ} {c : Place} {t : Fraction} → 1 < p → ext_words t.numerator ≡ zero4 → ext_words t.denominator ≡ one4 → Added p w c t 0
unfolding sum4 product4
adding_begins big e f =
    record {
      numerator_below = word_of e (record { w0 = omega arith; w1 = omega arith; w2 = omega arith; w3 = omega arith });
      denominator_below = word_of f (record { w0 = omega arith; w1 = omega arith; w2 = omega arith; w3 = omega arith });
      numerator_is = e;
      denominator_is = f;
    }

-- before the first tuple
pub adding_none : {p w : ℕ} {c : Place} {t : Fraction} {k : ℕ} → Added p w c t k → k ≡ 0 → (ext_words t.numerator ≡ zero4) × (ext_words t.denominator ≡ one4)
unfolding sum4 product4
adding_none {p} {w} {c} {t} {k} s e =
    let none : Added p w c t 0 = subst (Added p w c t) e s in
    (none.numerator_is, none.denominator_is)

-- the first term stands alone
pub first_added : {p w : ℕ} {t : Fraction} {m : ℕ} {d : Ext} → Certificate p w → (ext_words t.numerator ≡ zero4) × (ext_words t.denominator ≡ one4) → m < p
    → Word4 p (ext_words d)
    → TermAdded p w t m (ext_words d) (record { numerator = record { c0 = m; c1 = 0; c2 = 0; c3 = 0 }; denominator = d })
first_added {p} {w} {t} {m} {d} C (en, ed) l k =
    record {
      numerator_below = word-lift p (h p w C) m l;
      denominator_below = k;
      numerator_is = first-numerator p w C m (ext_words d) l ∙ sym (ap₂ (λ (x y : List ℕ). add4 p (mul4 p w x (ext_words d)) (scale4 p m y)) en ed);
      denominator_is = first-denominator p w C (ext_words d) refl k ∙ sym (ap (λ (x : List ℕ). mul4 p w x (ext_words d)) ed);
    }

pub adding_turn : {p w : ℕ} {c : Place} {t t' : Fraction} {k m : ℕ} {d : List ℕ} → Certificate p w → Added p w c t k → m ≡ multiplicity c k → d ≡ denom p w c k
    → TermAdded p w t m d t'
    → Added p w c t' (k + 1)
unfolding product4
adding_turn {p} {w} {c} {t} {t'} {k} {m} {d} C s em ed a =
    record {
      numerator_below = a.numerator_below;
      denominator_below = a.denominator_below;
      numerator_is =
          rw (add-one k)
          (a.numerator_is ∙ ap₂ (add4 p) (ap₂ (mul4 p w) s.numerator_is ed) (ap₂ (scale4 p) em s.denominator_is)
          ∙ sym (numerator-next p w C (multiplicity c) (denom p w c) k));
      denominator_is = rw (add-one k) (a.denominator_is ∙ ap₂ (mul4 p w) s.denominator_is ed);
    }

pub adding_ends : {p w : ℕ} {c : Place} {t : Fraction} {k : ℕ} → Added p w c t k → k ≡ branches c
    → FractionIs p (additive_numerator p w c) (additive_denominator p w c) t
unfolding additive_numerator additive_denominator others
adding_ends {p} {w} {c} {t} {k} s e =
    record {
      numerator_below = s.numerator_below;
      denominator_below = s.denominator_below;
      numerator_is = s.numerator_is ∙ ap (λ (n : ℕ). sum4 p (λ i. scale4 p (multiplicity c i) (product4 p w (λ j. cond (eqb j i) one4 (denom p w c j)) n)) n) e;
      denominator_is = s.denominator_is ∙ ap (product4 p w (denom p w c)) e;
    }

-- an exclusive lookup
pub summed-begins : {p w : ℕ} {c : Place} {t : Branches} → 1 < p → t.numerator ≡ 0 → ext_words t.denominator ≡ zero4 → t.flags ≡ 0 → Summed p w c t 0
unfolding sum4
summed-begins big e f g =
    record {
      numerator_below = omega arith;
      denominator_below = word_of f (record { w0 = omega arith; w1 = omega arith; w2 = omega arith; w3 = omega arith });
      flags_below = omega arith;
      numerator_is = ap lift e;
      denominator_is = f;
      flags_are = ap lift g;
    }

pub summed_turn : {p w : ℕ} {c : Place} {t t' : Branches} {k f m : ℕ} {d : List ℕ} → Certificate p w → Summed p w c t k → f ≡ flag c k → m ≡ multiplicity c k
    → d ≡ denom p w c k
    → BranchAdded p t f m d t'
    → Summed p w c t' (k + 1)
unfolding sum4
summed_turn {p} {w} {c} {t} {t'} {k} {f} {m} {d} C s ef em ed a =
    record {
      numerator_below = a.numerator_below;
      denominator_below = a.denominator_below;
      flags_below = a.flags_below;
      numerator_is =
          rw (add-one k)
          (ap lift a.numerator_is ∙ lift-add p w C t.numerator (mul_m p f m)
          ∙ ap₂ (add4 p) s.numerator_is (lift_scaled p w C f m ∙ ap₂ (λ (a b : ℕ). scale4 p a (lift b)) ef em));
      denominator_is = rw (add-one k) (a.denominator_is ∙ ap₂ (add4 p) s.denominator_is (ap₂ (scale4 p) ef ed));
      flags_are = rw (add-one k) (ap lift a.flags_are ∙ lift-add p w C t.flags f ∙ ap₂ (add4 p) s.flags_are (ap lift ef));
    }

-- the two loops: where they stand, and what they have summed up
pub record AdditiveLoop (p w : ℕ) (powers : List (List ℕ)) (alpha : Ext) (own widths mults nodes vals : List ℕ) (n : ℕ) (t : Fraction) (at k : ℕ) : Type 0 where
  pub walk : TuplesLoop own widths mults nodes n at k
  pub sums : Added p w (own_place own widths mults [] nodes vals (ext_words alpha) (beta_of powers)) t k

pub record ExclusiveLoop (p w : ℕ) (powers : List (List ℕ)) (alpha : Ext) (own widths mults flags nodes vals : List ℕ) (n : ℕ) (t : Branches) (at k : ℕ) : Type 0 where
  pub walk : TuplesLoop own widths mults nodes n at k
  pub sums : Summed p w (own_place own widths mults flags nodes vals (ext_words alpha) (beta_of powers)) t k

pub additive_turn : {p w : ℕ} {powers : List (List ℕ)} {alpha : Ext} {own widths mults nodes vals : List ℕ} {n at k r m : ℕ} {t t' : Fraction} {d : List ℕ} → Certificate p w
    → AdditiveLoop p w powers alpha own widths mults nodes vals n t at k → k < n → m ≡ word vals (word mults k) → r ≡ word widths k
    → d ≡ denominator p w (ext_words alpha) (beta_of powers) (map (word vals) (take (at + r - at) (drop at nodes)))
    → TermAdded p w t m d t'
    → AdditiveLoop p w powers alpha own widths mults nodes vals n t' (at + r) (k + 1)
additive_turn {p} {w} {powers} {alpha} {own} {widths} {mults} {nodes} {vals} {n} {at} {k} C s h em er ed e =
    record {
      walk = tuples_loop_turn s.walk h er;
      sums =
          adding_turn C s.sums (em ∙ own-multiplicity own widths mults [] nodes vals (ext_words alpha) (beta_of powers) k)
          (ed ∙ tuples_loop_denom p w [] vals (ext_words alpha) (beta_of powers) s.walk er) e;
    }

pub exclusive_turn : {p w : ℕ} {powers : List (List ℕ)} {alpha : Ext} {own widths mults flags nodes vals : List ℕ} {n at k r f m : ℕ} {t t' : Branches} {d : List ℕ} → Certificate p w
    → ExclusiveLoop p w powers alpha own widths mults flags nodes vals n t at k → k < n → f ≡ word vals (word flags k) → m ≡ word vals (word mults k) → r ≡ word widths k
    → d ≡ denominator p w (ext_words alpha) (beta_of powers) (map (word vals) (take (at + r - at) (drop at nodes)))
    → BranchAdded p t f m d t'
    → ExclusiveLoop p w powers alpha own widths mults flags nodes vals n t' (at + r) (k + 1)
exclusive_turn {p} {w} {powers} {alpha} {own} {widths} {mults} {flags} {nodes} {vals} {n} {at} {k} C s h ef em er ed e =
    record {
      walk = tuples_loop_turn s.walk h er;
      sums =
          summed_turn C s.sums (ef ∙ own-flag own widths mults flags nodes vals (ext_words alpha) (beta_of powers) k)
          (em ∙ own-multiplicity own widths mults flags nodes vals (ext_words alpha) (beta_of powers) k)
          (ed ∙ tuples_loop_denom p w flags vals (ext_words alpha) (beta_of powers) s.walk er) e;
    }

pub additive-end : {p w : ℕ} {powers : List (List ℕ)} {alpha : Ext} {own widths mults nodes vals : List ℕ} {n at k : ℕ} {t : Fraction}
    → AdditiveLoop p w powers alpha own widths mults nodes vals n t at k → n ≤ k
    → FractionIs p (additive_numerator p w (own_place own widths mults [] nodes vals (ext_words alpha) (beta_of powers)))
    (additive_denominator p w (own_place own widths mults [] nodes vals (ext_words alpha) (beta_of powers))) t
unfolding branches
additive-end {own = own} {n = n} {k = k} s h =
    let e : k ≡ tuple_count own 0 = omega (arith, s.walk.within, s.walk.size) in adding_ends s.sums e

pub exclusive-ends : {p w : ℕ} {c : Place} {n : ℕ} {t : Branches} {rest denominator : Ext} → Summed p w c t n → n ≡ branches c
    → Word4 p (ext_words rest) × (ext_words rest ≡ sub4 p one4 (lift t.flags))
    → Word4 p (ext_words denominator) × (ext_words denominator ≡ add4 p (ext_words t.denominator) (ext_words rest))
    → FractionIs p (exclusive_numerator p w c) (exclusive_denominator p w c)
    (record { numerator = record { c0 = t.numerator; c1 = 0; c2 = 0; c3 = 0 }; denominator = denominator })
unfolding exclusive_numerator exclusive_denominator
exclusive-ends {p} {w} {c} {n} {t} s e (_, er) (k, ed) =
    record {
      numerator_below = word-lift p (omega (arith, s.numerator_below)) t.numerator s.numerator_below;
      denominator_below = k;
      numerator_is = s.numerator_is ∙ ap (sum4 p _) e;
      denominator_is = ed ∙ ap₂ (add4 p) (s.denominator_is ∙ ap (sum4 p _) e) (er ∙ ap (sub4 p one4) (s.flags_are ∙ ap (sum4 p _) e));
    }

pub exclusive_is : {p w : ℕ} {t : Fraction} (c : Place) → exclusive c.lookups.lookups c.lookup ≡ true
    → FractionIs p (exclusive_numerator p w c) (exclusive_denominator p w c) t → LookupFraction p w c t
unfolding numerator common_denominator
exclusive_is c e f = record { numerator_below = f.numerator_below; denominator_below = f.denominator_below; numerator_is = f.numerator_is ∙ rw e; denominator_is = f.denominator_is ∙ rw e }

pub additive_is : {p w : ℕ} {t : Fraction} (c : Place) → exclusive c.lookups.lookups c.lookup ≡ false
    → FractionIs p (additive_numerator p w c) (additive_denominator p w c) t → LookupFraction p w c t
unfolding numerator common_denominator
additive_is c e f = record { numerator_below = f.numerator_below; denominator_below = f.denominator_below; numerator_is = f.numerator_is ∙ rw e; denominator_is = f.denominator_is ∙ rw e }

-- an additive lookup reads no flags
pub without_flags : (p w : ℕ) (own widths mults flags nodes vals alpha beta : List ℕ)
    → (additive_numerator p w (own_place own widths mults [] nodes vals alpha beta) ≡ additive_numerator p w (own_place own widths mults flags nodes vals alpha beta))
    × (additive_denominator p w (own_place own widths mults [] nodes vals alpha beta) ≡ additive_denominator p w (own_place own widths mults flags nodes vals alpha beta))
unfolding additive_numerator additive_denominator others branches multiplicity denom tuple tuple_nodes tuple_width multiplicity_node
without_flags p w own widths mults flags nodes vals alpha beta = (refl, refl)

pub additive_without_flags : {e : Bool} {p w : ℕ} {t : Fraction} (own widths mults flags nodes vals alpha beta : List ℕ) → e ≡ exclusive own 0 → e ≡ false
    → FractionIs p (additive_numerator p w (own_place own widths mults [] nodes vals alpha beta)) (additive_denominator p w (own_place own widths mults [] nodes vals alpha beta)) t
    → LookupFraction p w (own_place own widths mults flags nodes vals alpha beta) t
additive_without_flags {p = p} {w = w} own widths mults flags nodes vals alpha beta x y f =
    let k = without_flags p w own widths mults flags nodes vals alpha beta in
    additive_is (own_place own widths mults flags nodes vals alpha beta) (sym x ∙ y)
    (record { numerator_below = f.numerator_below; denominator_below = f.denominator_below; numerator_is = f.numerator_is ∙ k.0; denominator_is = f.denominator_is ∙ k.1 })

pub constraint_ends : {p w : ℕ} {c : Place} {t : Fraction} {product r : List ℕ} (cell : List ℕ) → LookupFraction p w c t
    → product ≡ mul4 p w (ext_words t.denominator) cell → r ≡ sub4 p product (ext_words t.numerator) → r ≡ vanishing p w c cell
unfolding vanishing
constraint_ends {p} {w} cell s e f = f ∙ ap₂ (sub4 p) (e ∙ ap (λ (x : List ℕ). mul4 p w x cell) s.denominator_is) s.numerator_is
