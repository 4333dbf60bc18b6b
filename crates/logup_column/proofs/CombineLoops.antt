-- The turns of the loop over a tuple's elements.
use mathlib.Core.Path.{◌≡◌, refl, sym, ap, ap₂, ◌∙◌, subst}
use mathlib.Core.List.{List, [], ◌∷◌, map}
use mathlib.Core.Logic.{◌⊎◌, inl, inr}
use Prim.Native.Nat.{ℕ, zero, suc, ◌+◌, ◌-◌, ◌<◌, ◌≤◌, zero-le}
use native.Mathlib.Nat.{eq-or-lt_of_le}
use native.Mathlib.Numerals.{add-one}
use native.Mathlib.Omega.{arith}
use lib.ListN.{length, get_or}
use Rattle.algebra.proofs.laws.Primality.{lt_or_le}
use Rattle.field.specs.declared.extension.Ext.{Ext}
use Rattle.field_batch.specs.declared.dot.Sum.{Sum}
use Rattle.field_batch.specs.inner.Dot.{residues, Room}
use Rattle.field.specs.Ext.{ext_words}
use Rattle.field.specs.Element.{at, Word4, zero4, add4, scale4, power4, sum4}
use Rattle.field.proofs.laws.Slice.{four-words}
use Rattle.field.proofs.laws.Powers.{four-power4}
use Rattle.expression.specs.Words.{word}
use Rattle.logup.specs.Tuple.{exponent, combine}
use Rattle.logup_column.specs.inner.Powers.{beta_of, Powers}
use Rattle.logup_column.specs.laws.Powers.{power_at, power_word}

-- element j with its power
abbrev term : ℕ → ℕ → List ℕ → List ℕ → ℕ → List ℕ
term p w beta es j = scale4 p (word es j) (power4 p w beta (exponent 1 (length es) j))

-- the first j elements are added; the sum was reduced before the fifth, so what fits is counted from there
pub record CombineLoop (p w : ℕ) (ps : List (List ℕ)) (vals nodes : List ℕ) (k j : ℕ) (sum : Sum) : Type 0 where
  pub powers : Powers p w ps
  pub small : k ≤ 8
  pub size : k ≡ length nodes
  pub within : j ≤ k
  pub first_four : j ≤ 4 → Room (4 - j) sum
  pub last_four : 4 < j → Room (8 - j) sum
  pub sum≡ : residues p sum ≡ sum4 p (term p w (beta_of ps) (map (word vals) nodes)) j

pub combine_loop_begins : {p w : ℕ} {ps : List (List ℕ)} {vals nodes : List ℕ} {k : ℕ} {sum : Sum} → Powers p w ps → k ≤ 8 → k ≡ length nodes → Room 4 sum × (residues p sum ≡ zero4)
    → CombineLoop p w ps vals nodes k 0 sum
unfolding sum4
combine_loop_begins pw sm l (r, e) = record { powers = pw; small = sm; size = l; within = zero-le; first_four = λ _. r; last_four = λ h. absurd (omega arith); sum≡ = e }

map-length : (f : ℕ → ℕ) (l : List ℕ) → length (map f l) ≡ length l
map-length f [] = refl
map-length f (x ∷ l) = ap suc (map-length f l)

map_at : (f : ℕ → ℕ) (l : List ℕ) (j : ℕ) → j < length l → word (map f l) j ≡ f (word l j)
map_at f [] j h = absurd (omega arith)
map_at f (x ∷ l) zero h = refl
map_at f (x ∷ l) (suc j) h = map_at f l j (omega arith)

-- the four words of a power
abbrev words : List ℕ → List ℕ
words l = at l 0 ∷ at l 1 ∷ at l 2 ∷ at l 3 ∷ []

-- what `ready` makes of the sum before element j
abbrev pub Ready : ℕ → ℕ → Sum → Sum → Type 0
Ready p j sum held = (j ≡ 4 → Room 4 held) × ((n : ℕ) → Room n sum → Room n held) × (residues p held ≡ residues p sum)

-- of at most four elements none needs it
pub unready : {k j : ℕ} (p : ℕ) (sum : Sum) → j < k → k ≤ 4 → Ready p j sum sum
unready p sum h l = (λ e. absurd (omega arith), λ n r. r, refl)

-- element j's product fits, and those after it up to the fourth or the eighth
module _ {p w : ℕ} {ps : List (List ℕ)} {vals nodes : List ℕ} {k j : ℕ} {sum held : Sum} (s : CombineLoop p w ps vals nodes k j sum) (h : j < k) (q : Ready p j sum held) where
  low : j < 4 → Room (1 + (3 - j)) held
  low l =
      let e : 4 - j ≡ 1 + (3 - j) = omega arith in q.1 (1 + (3 - j)) (subst (λ (n : ℕ). Room n sum) e (s.first_four (omega arith)))

  high : 4 ≤ j → Room (1 + (7 - j)) held
  high l = go (eq-or-lt_of_le l)
    where
      go : (4 ≡ j) ⊎ (4 < j) → Room (1 + (7 - j)) held
      go (inl e) = let n : 4 ≡ 1 + (7 - j) = omega arith in subst (λ (n : ℕ). Room n held) n (q.0 (sym e))
      go (inr g) =
          let e : 8 - j ≡ 1 + (7 - j) = omega (arith, s.small) in
          q.1 (1 + (7 - j)) (subst (λ (n : ℕ). Room n sum) e (s.last_four g))

  pub one-fits : Room 1 held
  one-fits = go (lt_or_le j 4)
    where
      fewer : (n : ℕ) → Room (1 + n) held → Room 1 held
      fewer n r = record { r0 = omega (arith, r.r0); r1 = omega (arith, r.r1); r2 = omega (arith, r.r2); r3 = omega (arith, r.r3) }

      go : (j < 4) ⊎ (4 ≤ j) → Room 1 held
      go (inl l) = fewer (3 - j) (low l)
      go (inr l) = fewer (7 - j) (high l)

pub combine_loop_turn : {p w : ℕ} {ps : List (List ℕ)} {vals nodes : List ℕ} {k j v : ℕ} {sum held next : Sum} {m : List ℕ} → CombineLoop p w ps vals nodes k j sum → j < k
    → v ≡ word vals (word nodes j) → m ≡ words (get_or ps (k - 1 - j) []) → Ready p j sum held
    → ((n : ℕ) → Room (1 + n) held → Room n next) × (residues p next ≡ add4 p (residues p held) (scale4 p v m)) → CombineLoop p w ps vals nodes k (j + 1) next
unfolding sum4
combine_loop_turn {p} {w} {ps} {vals} {nodes} {k} {j} {v} {sum} {held} {next} {m} s h ev em q (r, e) =
    record {
      powers = s.powers;
      small = s.small;
      size = s.size;
      within = omega arith;
      first_four = λ l. let n : 3 - j ≡ 4 - (j + 1) = omega arith in subst (λ (n : ℕ). Room n next) n (r (3 - j) (low s h q (omega arith)));
      last_four = λ l. let n : 7 - j ≡ 8 - (j + 1) = omega arith in subst (λ (n : ℕ). Room n next) n (r (7 - j) (high s h q (omega arith)));
      sum≡ = rw (add-one j) (e ∙ ap₂ (add4 p) (q.2 ∙ s.sum≡) (ap₂ (scale4 p) value (em ∙ power)));
    }
  where
    len : length (map (word vals) nodes) ≡ k
    len = map-length (word vals) nodes ∙ sym s.size

    power_is : get_or ps (k - 1 - j) [] ≡ power4 p w (beta_of ps) (exponent 1 (length (map (word vals) nodes)) j)
    power_is = power_at p w ps (k - 1 - j) s.powers (omega (arith, s.small)) ∙ ap (λ (n : ℕ). power4 p w (beta_of ps) (exponent 1 n j)) (sym len)

    power : words (get_or ps (k - 1 - j) []) ≡ power4 p w (beta_of ps) (exponent 1 (length (map (word vals) nodes)) j)
    power =
        let n : ℕ = exponent 1 (length (map (word vals) nodes)) j in
        ap words power_is ∙ four-words (power4 p w (beta_of ps) n) (four-power4 p w (beta_of ps) n)

    value : v ≡ word (map (word vals) nodes) j
    value = ev ∙ sym (map_at (word vals) nodes j (omega (arith, s.size)))

pub combine_loop_ends : {p w : ℕ} {ps : List (List ℕ)} {vals nodes : List ℕ} {k j : ℕ} {sum : Sum} {r : Ext} → CombineLoop p w ps vals nodes k j sum → k ≤ j
    → Word4 p (ext_words r) × (ext_words r ≡ residues p sum) → Word4 p (ext_words r) × (ext_words r ≡ combine p w (beta_of ps) (map (word vals) nodes))
unfolding combine
combine_loop_ends {p} {w} {ps} {vals} {nodes} {k} {j} s h (q, t) =
    let e : j ≡ length nodes = omega (arith, s.within, s.size) in
    (q, t ∙ s.sum≡ ∙ ap (sum4 p (term p w (beta_of ps) (map (word vals) nodes))) (e ∙ sym (map-length (word vals) nodes)))

-- the power that a turn takes
pub power_taken : {p w : ℕ} {ps : List (List ℕ)} {vals nodes : List ℕ} {k j : ℕ} {sum : Sum} {m : List ℕ} → CombineLoop p w ps vals nodes k j sum → 1 < p → j < k
    → m ≡ words (get_or ps (k - 1 - j) []) → Word4 p m
power_taken {p} {w} {ps} {k = k} {j} s big h e =
    let t : Word4 p (get_or ps (k - 1 - j) []) = power_word p w ps (k - 1 - j) big s.powers (omega (arith, s.small)) in
    subst (Word4 p) (sym e) (record { w0 = t.w0; w1 = t.w1; w2 = t.w2; w3 = t.w3 })
