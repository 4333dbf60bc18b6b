-- A lookup's own parts of a table's lists: taken alone, they give the fraction and the fault that the table's lists give.
use Rattle.std.specs.Prelude.{◌≡◌, Bool, not, eqb, length, drop}
use Rattle.std.proofs.Math.Path.{refl, ap, ap₂}
use Rattle.std.proofs.Common.{sym, ◌∙◌, zero-add, add-zero, add-suc, get_or-take, get_or-drop, take-take, drop-drop}
use Rattle.std.proofs.Math.Bool.{true, false, cond}
use Rattle.std.proofs.Math.Option.{Option, some}
use mathlib.Core.List.{List, [], ◌∷◌, map}
use Prim.Native.Nat.{ℕ, zero, suc, ◌+◌, ◌*◌, ◌-◌, ◌<◌, ◌≤◌, zero-le}
use native.Mathlib.Omega.{arith}
use Rattle.std.proofs.Math.Dec.{ltb}
use Rattle.std.proofs.Math.ListN.{take}
use Rattle.std.proofs.Math.Seq.{take-nil}
use Rattle.lists.specs.Count.{total, some_of}
use Rattle.lists.specs.laws.Count.{total-le, total_in, total-one, some_of-same}
use Rattle.lists.specs.laws.Parts.{part_length}
use Rattle.lists.specs.laws.Sums.{total_cong}
use Rattle.field.specs.Element.{sum4, is_zero}
use Rattle.field.proofs.laws.Element.{sum4_cong}
use Rattle.expression.specs.Words.{word}
use Rattle.expression.specs.Values.{bit}
use Rattle.lookup.specs.Lookups.{lookup_words, Lookups, lookup_count, lookup_word, exclusive, tuple_count, multiplicity_count, flag_count, tuple_start, multiplicity_start, flag_start, element_start, tuple_width, multiplicity_node, flag_node, tuple_nodes}
use Rattle.lookup.specs.Requires.{Fitting, Agreeing}
use Rattle.lookup.specs.laws.Tested.{placed, element_start-le}
use Rattle.logup.specs.Tuple.{tuple, denominator, quotient4}
use Rattle.logup.specs.Column.{Place, branches, multiplicity, flag, chosen, denom, used_denom, branch_fraction, branch_fault, additive_fraction, additive_fault, exclusive_fraction, exclusive_fault, fraction, fault}
use Rattle.logup_column.specs.inner.Own.{Fits, slice, own_words, own_widths, own_multiplicities, own_flags, own_nodes, parted}

-- choices that agree term by term
chosen-same : (f g : ℕ → ℕ) (n : ℕ) → ((k : ℕ) → k < n → f k ≡ g k) → chosen f n ≡ chosen g n
unfolding chosen
chosen-same f g zero e = refl
chosen-same f g (suc n) e = ap₂ (λ (x : ℕ) (o : Option ℕ). cond (eqb x 1) (some n) o) (e n (omega arith)) (chosen-same f g n (λ k h. e k (omega arith)))

-- a lookup at two places that agree in what is read
pub record Same (p w : ℕ) (c d : Place) : Type 0 where
  pub marks : exclusive c.lookups.lookups c.lookup ≡ exclusive d.lookups.lookups d.lookup
  pub counts : branches c ≡ branches d
  pub mults : (k : ℕ) → k < branches d → multiplicity c k ≡ multiplicity d k
  pub denoms : (k : ℕ) → k < branches d → denom p w c k ≡ denom p w d k
  pub flags : exclusive d.lookups.lookups d.lookup ≡ true → (k : ℕ) → k < branches d → flag c k ≡ flag d k

module _ {p w : ℕ} {c d : Place} (s : Same p w c d) where
  used-same : (k : ℕ) → k < branches d → used_denom p w c k ≡ used_denom p w d k
  unfolding used_denom
  used-same k h = rw (s.mults k h, s.denoms k h)

  additive-same : additive_fraction p w c ≡ additive_fraction p w d
  unfolding additive_fraction
  additive-same =
      ap (sum4 p (λ k. quotient4 p w (multiplicity c k) (used_denom p w c k))) s.counts
      ∙ sum4_cong p (λ k. quotient4 p w (multiplicity c k) (used_denom p w c k)) (λ k. quotient4 p w (multiplicity d k) (used_denom p w d k)) (branches d)
      (λ k h. ap₂ (quotient4 p w) (s.mults k h) (used-same k h))

  additive_fault-same : additive_fault p w c ≡ additive_fault p w d
  unfolding additive_fault
  additive_fault-same =
      ap (λ (b : Bool). cond b 15 0)
      (ap (some_of (λ k. is_zero (used_denom p w c k))) s.counts
      ∙ some_of-same (λ k. is_zero (used_denom p w c k)) (λ k. is_zero (used_denom p w d k)) (branches d) (λ k h. ap is_zero (used-same k h)))

  module _ (x : exclusive d.lookups.lookups d.lookup ≡ true) where
    pub choice : chosen (flag c) (branches c) ≡ chosen (flag d) (branches d)
    choice = ap (chosen (flag c)) s.counts ∙ chosen-same (flag c) (flag d) (branches d) (s.flags x)

    -- of the branch chosen among the first n
    branch_same : (f : ℕ → ℕ) (n : ℕ) → n ≤ branches d → branch_fraction p w c (chosen f n) ≡ branch_fraction p w d (chosen f n)
    unfolding chosen
    branch_same f zero l = refl
    branch_same f (suc n) l = go (eqb (f n) 1) (branch_same f n (omega arith))
      where
        go : (b : Bool) → branch_fraction p w c (chosen f n) ≡ branch_fraction p w d (chosen f n)
            → branch_fraction p w c (cond b (some n) (chosen f n)) ≡ branch_fraction p w d (cond b (some n) (chosen f n))
        go true e = ap₂ (quotient4 p w) (s.mults n (omega arith)) (s.denoms n (omega arith))
        go false e = e

    branch_fault-same : (f : ℕ → ℕ) (n : ℕ) → n ≤ branches d → branch_fault p w c (chosen f n) ≡ branch_fault p w d (chosen f n)
    unfolding chosen
    branch_fault-same f zero l = refl
    branch_fault-same f (suc n) l = go (eqb (f n) 1) (branch_fault-same f n (omega arith))
      where
        go : (b : Bool) → branch_fault p w c (chosen f n) ≡ branch_fault p w d (chosen f n)
            → branch_fault p w c (cond b (some n) (chosen f n)) ≡ branch_fault p w d (cond b (some n) (chosen f n))
        go true e = ap (λ (e : List ℕ). cond (is_zero e) 15 0) (s.denoms n (omega arith))
        go false e = e

    exclusive-same : exclusive_fraction p w c ≡ exclusive_fraction p w d
    unfolding exclusive_fraction
    exclusive-same = ap (branch_fraction p w c) choice ∙ branch_same (flag d) (branches d) (omega arith)

    exclusive_fault-same : exclusive_fault p w c ≡ exclusive_fault p w d
    unfolding exclusive_fault
    exclusive_fault-same =
        λ j.
        cond (over j) 13 (cond (ltb 1 (ones j)) 14 (last j))
      where
        over : some_of (λ k. ltb 1 (flag c k)) (branches c) ≡ some_of (λ k. ltb 1 (flag d k)) (branches d)
        over = ap (some_of (λ k. ltb 1 (flag c k))) s.counts ∙ some_of-same (λ k. ltb 1 (flag c k)) (λ k. ltb 1 (flag d k)) (branches d) (λ k h. ap (ltb 1) (s.flags x k h))

        ones : total (λ k. bit (eqb (flag c k) 1)) (branches c) ≡ total (λ k. bit (eqb (flag d k) 1)) (branches d)
        ones =
            ap (total (λ k. bit (eqb (flag c k) 1))) s.counts
            ∙ total_cong (λ k. bit (eqb (flag c k) 1)) (λ k. bit (eqb (flag d k) 1)) (branches d) (λ k h. ap (λ (n : ℕ). bit (eqb n 1)) (s.flags x k h))

        last : branch_fault p w c (chosen (flag c) (branches c)) ≡ branch_fault p w d (chosen (flag d) (branches d))
        last = ap (branch_fault p w c) choice ∙ branch_fault-same (flag d) (branches d) (omega arith)

  by_mark : {A : Type 0} (b : Bool) (x y x' y' : A) → (b ≡ true → x ≡ x') → y ≡ y' → cond b x y ≡ cond b x' y'
  by_mark true x y x' y' e f = e refl
  by_mark false x y x' y' e f = f

  pub fraction-same : fraction p w c ≡ fraction p w d
  unfolding fraction
  fraction-same =
      ap (λ (b : Bool). cond b (exclusive_fraction p w c) (additive_fraction p w c)) s.marks
      ∙ by_mark (exclusive d.lookups.lookups d.lookup) (exclusive_fraction p w c) (additive_fraction p w c) (exclusive_fraction p w d) (additive_fraction p w d) exclusive-same additive-same

  pub fault-same : fault p w c ≡ fault p w d
  unfolding fault
  fault-same =
      ap (λ (b : Bool). cond b (exclusive_fault p w c) (additive_fault p w c)) s.marks
      ∙ by_mark (exclusive d.lookups.lookups d.lookup) (exclusive_fault p w c) (additive_fault p w c) (exclusive_fault p w d) (additive_fault p w d) exclusive_fault-same additive_fault-same

-- a word of a slice
word-part : (l : List ℕ) (a e k : ℕ) → a + k < e → word (slice l a e) k ≡ word l (a + k)
word-part l a e k h = get_or-take (e - a) (drop a l) k 0 (omega arith) ∙ get_or-drop a l k 0

within-take : (n : ℕ) (l : List ℕ) (m : ℕ) → ((j : ℕ) → word l j ≤ m) → (k : ℕ) → word (take n l) k ≤ m
within-take zero l m h k = zero-le
within-take (suc n) [] m h k = zero-le
within-take (suc n) (x ∷ l) m h zero = h 0
within-take (suc n) (x ∷ l) m h (suc k) = within-take n l m (λ j. h (suc j)) k

-- the middle of a slice is the middle of the whole
take_within : (m s e : ℕ) (l : List ℕ) → s + m ≤ e → take m (drop s (take e l)) ≡ take m (drop s l)
take_within m zero e l h = take-take m e l (omega arith)
take_within m (suc s) e [] h = rw (take-nil e)
take_within m (suc s) zero (x ∷ l) h = absurd (omega arith)
take_within m (suc s) (suc e) (x ∷ l) h = take_within m s e l (omega arith)

part-part : (l : List ℕ) (a e s m : ℕ) → a + (s + m) ≤ e → take m (drop s (slice l a e)) ≡ take m (drop (a + s) l)
part-part l a e s m h = take_within m s (e - a) (drop a l) (omega arith) ∙ ap (take m) (drop-drop s a l)

module _ (l : Lookups) (n : ℕ) (f : Fitting l) (g : Agreeing n l) (i : ℕ) (h : i < lookup_count l.lookups) where
  own-word : (e : ℕ) → e < lookup_words → word (own_words l i) e ≡ lookup_word l.lookups i e
  own-word e k = word-part l.lookups (lookup_words * i) (lookup_words * i + lookup_words) e (omega arith)

  own-count : tuple_count (own_words l i) 0 ≡ tuple_count l.lookups i
  own-count = own-word 5 (omega arith)

  own_mark : exclusive (own_words l i) 0 ≡ exclusive l.lookups i
  own_mark = ap (λ (x : ℕ). not (eqb x 0)) (own-word 4 (omega arith))

  tuples-next : tuple_start l.lookups (i + 1) ≡ tuple_start l.lookups i + tuple_count l.lookups i
  unfolding tuple_start
  tuples-next = total-one (tuple_count l.lookups) i

  multiplicities-next : multiplicity_start l.lookups (i + 1) ≡ multiplicity_start l.lookups i + tuple_count l.lookups i
  unfolding multiplicity_start
  multiplicities-next = total-one (multiplicity_count l.lookups) i ∙ ap (λ (x : ℕ). multiplicity_start l.lookups i + x) (g.multiplicities_agree i h)

  flags-next : flag_start l.lookups (i + 1) ≡ flag_start l.lookups i + cond (exclusive l.lookups i) (tuple_count l.lookups i) 0
  unfolding flag_start
  flags-next = total-one (flag_count l.lookups) i ∙ ap (λ (x : ℕ). flag_start l.lookups i + x) (g.flags_agree i h)

  -- the widths of the lookup's tuples
  own-width : (k : ℕ) → k < tuple_count l.lookups i → word (own_widths l i) k ≡ word l.tuples (tuple_start l.lookups i + k)
  own-width k t = word-part l.tuples (tuple_start l.lookups i) (tuple_start l.lookups (i + 1)) k (omega (arith, tuples-next))

  own-start : (k : ℕ) → k ≤ tuple_count l.lookups i
      → element_start l.tuples (tuple_start l.lookups i) + element_start (own_widths l i) k ≡ element_start l.tuples (tuple_start l.lookups i + k)
  unfolding element_start total
  own-start zero t = rw (add-zero (tuple_start l.lookups i)) (omega arith)
  own-start (suc k) t = rw (add-suc (tuple_start l.lookups i) k) (omega (arith, own-start k (omega arith), own-width k (omega arith)))

  own_multiplicity_at : (k : ℕ) → k < tuple_count l.lookups i → word (own_multiplicities l i) k ≡ word l.multiplicities (multiplicity_start l.lookups i + k)
  own_multiplicity_at k t = word-part l.multiplicities (multiplicity_start l.lookups i) (multiplicity_start l.lookups (i + 1)) k (omega (arith, multiplicities-next))

  own-flag_at : exclusive l.lookups i ≡ true → (k : ℕ) → k < tuple_count l.lookups i → word (own_flags l i) k ≡ word l.flags (flag_start l.lookups i + k)
  own-flag_at x k t =
      word-part l.flags (flag_start l.lookups i) (flag_start l.lookups (i + 1)) k
      (omega (arith, flags-next ∙ ap (λ (b : Bool). flag_start l.lookups i + cond b (tuple_count l.lookups i) 0) x))

  tuple_in : (k : ℕ) → k < tuple_count l.lookups i
      → element_start l.tuples (tuple_start l.lookups i) + (element_start (own_widths l i) k + word (own_widths l i) k) ≤ element_start l.tuples (tuple_start l.lookups (i + 1))
  unfolding element_start
  tuple_in k t =
      omega (
        arith,
        own-start k (omega arith),
        own-width k t,
        tuples-next,
        total_in (word l.tuples) (tuple_start l.lookups i + k) (tuple_start l.lookups (i + 1)) (omega (arith, tuples-next)),
      )

  own_nodes_at : (k : ℕ) → k < tuple_count l.lookups i → tuple_nodes (parted l i) 0 k ≡ tuple_nodes l i k
  unfolding tuple_nodes tuple_width tuple_start total
  own_nodes_at k t =
      rw (zero-add k)
      (part-part l.elements (element_start l.tuples (tuple_start l.lookups i)) (element_start l.tuples (tuple_start l.lookups (i + 1))) (element_start (own_widths l i) k) (word (own_widths l i) k) (tuple_in k t)
      ∙ ap₂ (λ (m a : ℕ). take m (drop a l.elements)) (own-width k t) (own-start k (omega arith)))

  module _ (p w : ℕ) (vals alpha beta : List ℕ) where
    abbrev here : Place
    here = record { lookups = parted l i; vals = vals; lookup = 0; alpha = alpha; beta = beta }

    abbrev there : Place
    there = record { lookups = l; vals = vals; lookup = i; alpha = alpha; beta = beta }

    same-multiplicity : (k : ℕ) → k < tuple_count l.lookups i → multiplicity here k ≡ multiplicity there k
    unfolding multiplicity multiplicity_node multiplicity_start total
    same-multiplicity k t = ap (word vals) (ap (word (own_multiplicities l i)) (zero-add k) ∙ own_multiplicity_at k t)

    same_flag : exclusive l.lookups i ≡ true → (k : ℕ) → k < tuple_count l.lookups i → flag here k ≡ flag there k
    unfolding flag flag_node flag_start total
    same_flag x k t = ap (word vals) (ap (word (own_flags l i)) (zero-add k) ∙ own-flag_at x k t)

    same-denom : (k : ℕ) → k < tuple_count l.lookups i → denom p w here k ≡ denom p w there k
    unfolding denom tuple
    same-denom k t = ap (λ (es : List ℕ). denominator p w alpha beta (map (word vals) es)) (own_nodes_at k t)

    pub parted-same : Same p w here there
    unfolding branches
    parted-same = record { marks = own_mark; counts = own-count; mults = same-multiplicity; denoms = same-denom; flags = same_flag }

  -- the parts are as they must be
  nodes_grow : element_start l.tuples (tuple_start l.lookups i) ≤ element_start l.tuples (tuple_start l.lookups (i + 1))
  unfolding element_start
  nodes_grow = total-le (word l.tuples) (tuple_start l.lookups i) (tuple_start l.lookups (i + 1)) (omega (arith, tuples-next))

  nodes-size : length (own_nodes l i) ≡ element_start l.tuples (tuple_start l.lookups (i + 1)) - element_start l.tuples (tuple_start l.lookups i)
  nodes-size =
      part_length l.elements (element_start l.tuples (tuple_start l.lookups i)) (element_start l.tuples (tuple_start l.lookups (i + 1))) nodes_grow
      (element_start-le l f (tuple_start l.lookups (i + 1)) (omega (arith, tuples-next, (placed l f i h).tuples)))

  pub parted-fits : ((j : ℕ) → word l.tuples j ≤ 8) → Fits (own_words l i) (own_widths l i) (own_multiplicities l i) (own_nodes l i)
  parted-fits few =
      record {
        words = part_length l.lookups (lookup_words * i) (lookup_words * i + lookup_words) (omega arith) (placed l f i h).words ∙ omega arith;
        tuples =
            part_length l.tuples (tuple_start l.lookups i) (tuple_start l.lookups (i + 1)) (omega (arith, tuples-next)) (omega (arith, tuples-next, (placed l f i h).tuples))
            ∙ omega (arith, tuples-next, own-count);
        mults =
            part_length l.multiplicities (multiplicity_start l.lookups i) (multiplicity_start l.lookups (i + 1)) (omega (arith, multiplicities-next))
            (omega (arith, multiplicities-next, (placed l f i h).multiplicities, g.multiplicities_agree i h))
            ∙ omega (arith, multiplicities-next, own-count);
        elements =
            omega (arith, nodes-size, own-start (tuple_count l.lookups i) (omega arith), ap (element_start l.tuples) tuples-next, ap (element_start (own_widths l i)) own-count);
        narrow = within-take (tuple_start l.lookups (i + 1) - tuple_start l.lookups i) (drop (tuple_start l.lookups i) l.tuples) 8 (λ j. rw (get_or-drop (tuple_start l.lookups i) l.tuples j 0) (few (tuple_start l.lookups i + j)));
      }

  pub parted-flags : length (own_flags l i) ≡ cond (exclusive (own_words l i) 0) (tuple_count (own_words l i) 0) 0
  parted-flags =
      part_length l.flags (flag_start l.lookups i) (flag_start l.lookups (i + 1)) (omega (arith, flags-next)) (omega (arith, flags-next, (placed l f i h).flags, g.flags_agree i h))
      ∙ less ∙ ap₂ (λ (b : Bool) (x : ℕ). cond b x 0) (sym own_mark) (sym own-count)
    where
      less : flag_start l.lookups (i + 1) - flag_start l.lookups i ≡ cond (exclusive l.lookups i) (tuple_count l.lookups i) 0
      less = omega (arith, flags-next)
