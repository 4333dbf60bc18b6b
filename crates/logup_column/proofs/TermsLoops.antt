-- The turns of the loop over a lookup's tuples.
use mathlib.Core.Path.{◌≡◌, refl, sym, ap, ap₂, ◌∙◌, subst}
use mathlib.Core.Bool.{Bool, true, false, cond, ◌||◌}
use mathlib.Core.List.{List, [], ◌∷◌, ◌++◌, map}
use Prim.Native.Nat.{ℕ, ◌+◌, ◌*◌, ◌-◌, ◌<◌, ◌≤◌, zero-le}
use native.Mathlib.Nat.{zero-add}
use native.Mathlib.Numerals.{add-one}
use native.Mathlib.Omega.{arith}
use lib.Dec.{eqb, ltb}
use lib.ListN.{length, take, drop, set}
use borrow.Rule.Slice.PartMut.{put_mid}
use Rattle.lists.specs.Count.{some_of, total, joined}
use Rattle.lists.specs.Tab.{tab}
use Rattle.lists.specs.laws.Count.{joined-one}
use Rattle.lists.specs.laws.Tab.{tab-one}
use Rattle.lists.specs.laws.Filled.{Filled, filled_none, filled-one, filled-part, filled-whole}
use Rattle.lists.specs.laws.Parts.{part_length}
use Rattle.field.specs.declared.extension.Ext.{Ext}
use Rattle.field.specs.Ext.{ext_words}
use Rattle.field.specs.Element.{one4, is_zero}
use Rattle.expression.specs.Words.{word}
use Rattle.expression.specs.Values.{bit}
use Rattle.lookup.specs.Lookups.{exclusive, tuple_count, element_start, tuple_start, multiplicity_start, tuple_width, multiplicity_node, tuple_nodes}
use Rattle.logup.specs.Tuple.{tuple, denominator}
use Rattle.logup.specs.Column.{Place, branches, multiplicity, flag, chosen, denom}
use Rattle.logup_column.specs.inner.Powers.{beta_of}
use Rattle.logup_column.specs.inner.Own.{own_place, Fits, branch_code, faults}
use Rattle.logup_column.specs.inner.Kinds.{chosen_number}
use Rattle.logup_column.specs.inner.Terms.{contributes_nothing, exclusive_lookup, multiplicity_by, denominator_by, branch_taken, term_multiplicity, term_denominator}
use Rattle.logup_column.specs.inner.Results.{FlagsRead, IsTerm, TermsWritten, LookupTerms}
use Rattle.logup_column.specs.declared.column.Flags.{Flags}
use Rattle.logup_column.specs.declared.column.Term.{Term}
use Rattle.logup_column.specs.laws.Own.{start-next, start_in, own-multiplicity, own-flag, own-tuple}
use Rattle.logup_column.specs.laws.Terms.{terms_fault}

-- the nodes of tuple k are in the node list, and few
pub nodes_in : {own widths mults nodes : List ℕ} {at r : ℕ} (k : ℕ) → Fits own widths mults nodes → k < tuple_count own 0 → at ≡ element_start widths k → r ≡ word widths k
    → at + r ≤ length nodes
nodes_in {widths = widths} k s h e g = omega (arith, start_in (k + 1) s (omega arith), start-next widths k)

pub nodes_few : {own widths mults nodes : List ℕ} {at r : ℕ} (k : ℕ) → Fits own widths mults nodes → k < tuple_count own 0 → at ≡ element_start widths k → r ≡ word widths k
    → length (take (at + r - at) (drop at nodes)) ≤ 8
nodes_few {nodes = nodes} {at = at} {r = r} k s h e g = omega (arith, part_length nodes at (at + r) (omega arith) (nodes_in k s h e g), s.narrow k)

module _ (p w : ℕ) (own widths mults flags nodes vals alpha beta : List ℕ) (k s r : ℕ) (e : s ≡ element_start widths k) (g : r ≡ word widths k) where
  pub denom_is : denominator p w alpha beta (map (word vals) (take (s + r - s) (drop s nodes))) ≡ denom p w (own_place own widths mults flags nodes vals alpha beta) k
  unfolding denom
  denom_is = ap (denominator p w alpha beta) (own-tuple own widths mults flags nodes vals alpha beta k s r e g)

-- the lookup without its flags: a term's multiplicity and denominator read none
abbrev bare : List (List ℕ) → Ext → List ℕ → List ℕ → List ℕ → List ℕ → List ℕ → Place
bare ps alpha own widths mults nodes vals = own_place own widths mults [] nodes vals (ext_words alpha) (beta_of ps)

pub record TermsLoop (p w : ℕ) (ps : List (List ℕ)) (alpha : Ext) (own widths mults nodes vals : List ℕ) (ex : Bool) (branch : ℕ) (dm dd : List ℕ) (n : ℕ) (ms ds : List ℕ) (at : ℕ) (zero : Bool) (k : ℕ) : Type 0 where
  pub fits : Fits own widths mults nodes
  pub cap : 4 * length dd < 18446744073709551616
  pub size : n ≡ tuple_count own 0
  pub ms_size : length dm ≡ n
  pub ds_size : length dd ≡ 4 * n
  pub ms_len : length ms ≡ n
  pub ds_len : length ds ≡ 4 * n
  pub few : 4 * n < 18446744073709551616
  pub within : k ≤ n
  pub at≡ : at ≡ element_start widths k
  pub room : at ≤ length nodes
  pub ms≡ : Filled dm (tab (multiplicity_by (bare ps alpha own widths mults nodes vals) ex branch) 0 k) k ms
  pub ds≡ : Filled dd (joined (denominator_by p w (bare ps alpha own widths mults nodes vals) ex branch) 0 k) (4 * k) ds
  pub zero≡ : zero ≡ some_of (λ k. is_zero (denominator_by p w (bare ps alpha own widths mults nodes vals) ex branch k)) k

pub terms_begin : {p w : ℕ} {ps : List (List ℕ)} {alpha : Ext} {own widths mults nodes vals : List ℕ} {ex : Bool} {branch : ℕ} {dm dd : List ℕ} {n : ℕ} → Fits own widths mults nodes
    → 4 * length dd < 18446744073709551616 → 4 * length dm < 18446744073709551616 → n ≡ length dm → length dm ≡ tuple_count own 0 → length dd ≡ 4 * tuple_count own 0
    → TermsLoop p w ps alpha own widths mults nodes vals ex branch dm dd n dm dd 0 false 0
unfolding joined tab some_of element_start total
terms_begin f c lo e em ed =
    record {
      fits = f;
      cap = c;
      size = e ∙ em;
      ms_size = sym e;
      ds_size = omega arith;
      ms_len = sym e;
      ds_len = omega arith;
      few = omega arith;
      within = zero-le;
      at≡ = refl;
      room = zero-le;
      ms≡ = filled_none;
      ds≡ = filled_none;
      zero≡ = refl;
    }

module _ {p w : ℕ} {ps : List (List ℕ)} {alpha : Ext} {own widths mults nodes vals : List ℕ} {ex : Bool} {branch : ℕ} {dm dd : List ℕ} {n : ℕ} {ms ds : List ℕ} {at : ℕ} {zero : Bool} {k : ℕ}
    (s : TermsLoop p w ps alpha own widths mults nodes vals ex branch dm dd n ms ds at zero k) (h : k < n) where
  pub terms_in : {r : ℕ} → r ≡ word widths k → at + r ≤ length nodes
  terms_in e = nodes_in k s.fits (omega (arith, s.size)) s.at≡ e

  pub terms_few : {r : ℕ} → r ≡ word widths k → length (take (at + r - at) (drop at nodes)) ≤ 8
  terms_few e = nodes_few k s.fits (omega (arith, s.size)) s.at≡ e

  pub terms_part : length (take (4 * k + 4 - 4 * k) (drop (4 * k) ds)) ≡ 4
  terms_part = part_length ds (4 * k) (4 * k + 4) (omega arith) (omega (arith, s.ds_len)) ∙ omega arith

  pub terms_turn : {r m : ℕ} {nothing z zero' : Bool} {t : Term} (ys : List ℕ) → m ≡ word vals (word mults k) → r ≡ word widths k → nothing ≡ contributes_nothing ex branch k m
      → IsTerm p nothing m (denominator p w (ext_words alpha) (beta_of ps) (map (word vals) (take (at + r - at) (drop at nodes)))) t
      → ys ≡ ext_words t.denominator → z ≡ is_zero (ext_words t.denominator) → zero' ≡ (zero || z)
      → TermsLoop p w ps alpha own widths mults nodes vals ex branch dm dd n (set ms k t.multiplicity) (put_mid (4 * k) (4 * k + 4 - 4 * k) ds ys) (at + r) zero' (k + 1)
  unfolding some_of multiplicity_by denominator_by
  terms_turn {r} {m} {nothing} {z} {zero'} {t} ys em er en et ey ez eo =
      record {
        fits = s.fits;
        cap = s.cap;
        size = s.size;
        ms_size = s.ms_size;
        ds_size = s.ds_size;
        ms_len = more.len ∙ s.ms_size;
        ds_len = grown.len ∙ s.ds_size;
        few = s.few;
        within = omega arith;
        at≡ = ap₂ ◌+◌ s.at≡ er ∙ sym (start-next widths k);
        room = terms_in er;
        ms≡ = more;
        ds≡ = subst (λ (x : ℕ). Filled dd (joined (denominator_by p w c ex branch) 0 (k + 1)) x (put_mid (4 * k) (4 * k + 4 - 4 * k) ds ys)) next grown;
        zero≡ = rw (add-one k) (eo ∙ ap₂ ◌||◌ s.zero≡ (ez ∙ ap is_zero den));
      }
    where
      c : Place
      c = bare ps alpha own widths mults nodes vals

      next : 4 * k + 4 ≡ 4 * (k + 1)
      next = omega arith

      mm : m ≡ multiplicity c k
      mm = em ∙ own-multiplicity own widths mults [] nodes vals (ext_words alpha) (beta_of ps) k

      nothing_is : nothing ≡ contributes_nothing ex branch k (multiplicity c k)
      nothing_is = en ∙ ap (contributes_nothing ex branch k) mm

      den : ext_words t.denominator ≡ denominator_by p w c ex branch k
      den = et.denominator≡ ∙ ap₂ (λ (b : Bool) (x : List ℕ). cond b one4 x) nothing_is (denom_is p w own widths mults [] nodes vals (ext_words alpha) (beta_of ps) k at r s.at≡ er)

      mul : t.multiplicity ≡ multiplicity_by c ex branch k
      mul = et.multiplicity≡ ∙ ap₂ (λ (b : Bool) (x : ℕ). cond b 0 x) nothing_is mm

      more : Filled dm (tab (multiplicity_by c ex branch) 0 (k + 1)) (k + 1) (set ms k t.multiplicity)
      more =
          filled-one t.multiplicity 0 s.ms≡ (omega (arith, s.ms_size))
          (tab-one (multiplicity_by c ex branch) 0 k
          ∙ ap (λ (x : ℕ). tab (multiplicity_by c ex branch) 0 k ++ (x ∷ [])) (ap (multiplicity_by c ex branch) (zero-add k) ∙ sym mul))

      grown : Filled dd (joined (denominator_by p w c ex branch) 0 (k + 1)) (4 * k + 4) (put_mid (4 * k) (4 * k + 4 - 4 * k) ds ys)
      grown =
          filled-part ys s.ds≡ (omega arith) (omega (arith, s.ds_size)) (ap length ey ∙ omega arith)
          (joined-one (denominator_by p w c ex branch) 0 k
          ∙ ap (λ (y : List ℕ). joined (denominator_by p w c ex branch) 0 k ++ y) (ap (denominator_by p w c ex branch) (zero-add k) ∙ sym den ∙ sym ey))

pub terms_end : {p w : ℕ} {ps : List (List ℕ)} {alpha : Ext} {own widths mults nodes vals : List ℕ} {ex : Bool} {branch : ℕ} {dm dd : List ℕ} {n : ℕ} {ms ds : List ℕ} {at : ℕ} {zero : Bool} {k : ℕ}
    → TermsLoop p w ps alpha own widths mults nodes vals ex branch dm dd n ms ds at zero k → n ≤ k
    → TermsWritten p w (bare ps alpha own widths mults nodes vals) ex branch (tuple_count own 0) zero ms ds
terms_end {p} {w} {ps} {alpha} {own} {widths} {mults} {nodes} {vals} {ex} {branch} {n = n} {k = k} s h =
    let e : k ≡ tuple_count own 0 = omega (arith, s.within, s.size) in
    record {
      zero≡ = s.zero≡ ∙ ap (some_of _) e;
      multiplicities≡ = filled-whole s.ms≡ (omega (arith, s.ms_size)) ∙ ap (tab (multiplicity_by (bare ps alpha own widths mults nodes vals) ex branch) 0) e;
      denominators≡ = filled-whole s.ds≡ (omega (arith, s.ds_size)) ∙ ap (joined (denominator_by p w (bare ps alpha own widths mults nodes vals) ex branch) 0) e;
    }

-- the whole lookup: what its flags say, then its terms
module _ (p w : ℕ) (own widths mults flags nodes vals alpha beta : List ℕ) where
  abbrev whole : Place
  whole = own_place own widths mults flags nodes vals alpha beta

  multiplicities-bare : (ex : Bool) (branch : ℕ) → multiplicity_by (own_place own widths mults [] nodes vals alpha beta) ex branch ≡ multiplicity_by whole ex branch
  unfolding multiplicity_by multiplicity multiplicity_node multiplicity_start total
  multiplicities-bare ex branch = refl

  denominators_bare : (ex : Bool) (branch : ℕ) → denominator_by p w (own_place own widths mults [] nodes vals alpha beta) ex branch ≡ denominator_by p w whole ex branch
  unfolding denominator_by denom tuple tuple_nodes tuple_width tuple_start multiplicity multiplicity_node multiplicity_start total element_start
  denominators_bare ex branch = refl

  -- the flags of an exclusive lookup are as many as its tuples; an additive one has none
  pub record Read (over : Bool) (ones branch : ℕ) : Type 0 where
    pub over≡ : over ≡ cond (exclusive_lookup whole) (some_of (λ k. ltb 1 (flag whole k)) (branches whole)) false
    pub ones≡ : ones ≡ cond (exclusive_lookup whole) (total (λ k. bit (eqb (flag whole k) 1)) (branches whole)) 0
    pub branch≡ : branch ≡ branch_taken whole

  pub flags-read : {f : Flags} → length flags ≡ cond (exclusive own 0) (tuple_count own 0) 0 → FlagsRead (λ k. word vals (word flags k)) (length flags) f
      → Read f.over f.ones (chosen_number f.chosen)
  unfolding branches branch_taken some_of total chosen
  flags-read e r =
      let (a, b, c) = go (exclusive_lookup whole) in
      record {
        over≡ = r.over≡ ∙ ap₂ (λ (g : ℕ → ℕ) (n : ℕ). some_of (λ k. ltb 1 (g k)) n) fl e ∙ a;
        ones≡ = r.ones≡ ∙ ap₂ (λ (g : ℕ → ℕ) (n : ℕ). total (λ k. bit (eqb (g k) 1)) n) fl e ∙ b;
        branch≡ = r.chosen≡ ∙ ap₂ (λ (g : ℕ → ℕ) (n : ℕ). branch_code (chosen g n)) fl e ∙ c;
      }
    where
      fl : (λ (k : ℕ). word vals (word flags k)) ≡ flag whole
      fl = λ j k. own-flag own widths mults flags nodes vals alpha beta k j

      go : (b : Bool)
          → (some_of (λ k. ltb 1 (flag whole k)) (cond b (tuple_count own 0) 0) ≡ cond b (some_of (λ k. ltb 1 (flag whole k)) (tuple_count own 0)) false)
          × (total (λ k. bit (eqb (flag whole k) 1)) (cond b (tuple_count own 0) 0) ≡ cond b (total (λ k. bit (eqb (flag whole k) 1)) (tuple_count own 0)) 0)
          × (branch_code (chosen (flag whole) (cond b (tuple_count own 0) 0)) ≡ cond b (branch_code (chosen (flag whole) (tuple_count own 0))) 0)
      go true = (refl, refl, refl)
      go false = (refl, refl, refl)

  -- an additive lookup has no flags to read
  pub no_flags : false ≡ exclusive own 0 → Read false 0 0
  unfolding branch_taken
  no_flags e =
      record {
        over≡ = ap (λ (b : Bool). cond b (some_of (λ k. ltb 1 (flag whole k)) (branches whole)) false) e;
        ones≡ = ap (λ (b : Bool). cond b (total (λ k. bit (eqb (flag whole k) 1)) (branches whole)) 0) e;
        branch≡ = ap (λ (b : Bool). cond b (branch_code (chosen (flag whole) (branches whole))) 0) e;
      }

  pub lookup_is : {over ex zero : Bool} {ones branch f : ℕ} {ms ds : List ℕ} → Read over ones branch → ex ≡ exclusive own 0
      → TermsWritten p w (own_place own widths mults [] nodes vals alpha beta) ex branch (tuple_count own 0) zero ms ds → f ≡ faults over ones zero
      → LookupTerms p w whole f ms ds
  unfolding term_multiplicity term_denominator branches
  lookup_is {over} {ex} {zero} {ones} {branch} r ee t ef =
      record {
        fault≡ =
            ef ∙ ap (faults over ones) (t.zero≡ ∙ ap (λ (g : ℕ → List ℕ). some_of (λ k. is_zero (g k)) (tuple_count own 0)) dens)
            ∙ terms_fault p w whole over ones r.over≡ r.ones≡;
        multiplicities≡ = t.multiplicities≡ ∙ ap (λ (g : ℕ → ℕ). tab g 0 (tuple_count own 0)) muls;
        denominators≡ = t.denominators≡ ∙ ap (λ (g : ℕ → List ℕ). joined g 0 (tuple_count own 0)) dens;
      }
    where
      dens : denominator_by p w (own_place own widths mults [] nodes vals alpha beta) ex branch ≡ term_denominator p w whole
      dens = denominators_bare ex branch ∙ ap₂ (denominator_by p w whole) ee r.branch≡

      muls : multiplicity_by (own_place own widths mults [] nodes vals alpha beta) ex branch ≡ term_multiplicity whole
      muls = multiplicities-bare ex branch ∙ ap₂ (multiplicity_by whole) ee r.branch≡
