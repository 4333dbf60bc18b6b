-- Where the words of the generated trace stand.
use Rattle.std.specs.Prelude.{◌≡◌, List, [], ◌∷◌, ◌++◌}
use Rattle.std.proofs.Math.Path.{refl, sym, ap}
use Rattle.std.proofs.Common.{◌∙◌, mod-lt, div-lt_iff_lt-mul, ext_get_or}
use Prim.Native.Nat.{ℕ, zero, suc, ◌+◌, ◌*◌, ◌/◌, ◌%◌, ◌<◌}
use native.Mathlib.Omega.{arith}
use Rattle.std.proofs.Math.Nat.{div-add-mod}
use Rattle.std.proofs.Math.ListN.{length, length-append, get_or-append}
use Rattle.std.proofs.Math.Seq.{get_or-append-add}
use Rattle.lists.specs.Count.{joined}
use Rattle.field.specs.Element.{element}
use Rattle.field.specs.Modulus.{Certificate}
use Rattle.expression.specs.Words.{word}
use Rattle.lookup.specs.Lookups.{Lookups, lookup_count}
use Rattle.logup.specs.Rows.{place, fraction_at, row_sum, accumulator, row_words, trace, used}
use Rattle.logup.specs.Constraints.{cell, IsGenerated}
use Rattle.theorems_soundness.proofs.laws.Joined.{length-joined, word-joined}
use Rattle.theorems_soundness.proofs.laws.Setting.{as_four}
use Rattle.theorems_soundness.proofs.laws.Elements.{element-sum}
use Rattle.theorems_soundness.proofs.laws.Columns.{fraction-element}

-- an element's words
pub element-word : (l : List ℕ) (k j : ℕ) → j < 4 → word (element l k) j ≡ word l (4 * k + j)
unfolding element
element-word l k zero q = ap (word l) (omega arith)
element-word l k (suc zero) q = refl
element-word l k (suc (suc zero)) q = refl
element-word l k (suc (suc (suc zero))) q = refl
element-word l k (suc (suc (suc (suc j)))) q = absurd (omega arith)

pub element_is : (l e : List ℕ) (k : ℕ) → length e ≡ 4 → ((j : ℕ) → j < 4 → word l (4 * k + j) ≡ word e j) → element l k ≡ e
unfolding element
element_is l e k four each =
    (λ x. (ap (word l) first ∙ each 0 (omega arith)) x ∷ each 1 (omega arith) x ∷ each 2 (omega arith) x ∷ each 3 (omega arith) x ∷ []) ∙ sym (as_four e four)
  where
    first : 4 * k ≡ 4 * k + 0
    first = omega arith

-- two lists of n elements are equal where their elements are
pub same-elements : (a b : List ℕ) (n : ℕ) → length a ≡ 4 * n → length b ≡ 4 * n → ((k : ℕ) → k < n → element a k ≡ element b k) → a ≡ b
same-elements a b n la lb each = ext_get_or 0 a b (la ∙ sym lb) at_word
  where
    at_word : (i : ℕ) → i < length a → word a i ≡ word b i
    at_word i l =
        let d : 4 * (i / 4) + i % 4 ≡ i = div-add-mod i 4 in
        let r : i % 4 < 4 = mod-lt i (omega arith) in
        let k : i / 4 < n = omega arith in
        ap (word a) (sym d) ∙ sym (element-word a (i / 4) (i % 4) r) ∙ ap (λ (x : List ℕ). word x (i % 4)) (each (i / 4) k)
        ∙ element-word b (i / 4) (i % 4) r ∙ ap (word b) d

module _ (p w : ℕ) (C : Certificate p w) (l : Lookups) (challenges : List ℕ) (values : ℕ → List ℕ) (height : ℕ) where
  abbrev n : ℕ
  n = lookup_count l.lookups

  abbrev line : ℕ → List ℕ
  line = row_words p w l challenges values

  abbrev whole : List ℕ
  whole = trace p w l challenges values height

  abbrev acc : ℕ → List ℕ
  acc = accumulator p w l challenges values

  abbrev frac : ℕ → ℕ → List ℕ
  frac = fraction_at p w l challenges values

  acc-four : (r : ℕ) → length (acc r) ≡ 4
  unfolding accumulator
  acc-four r = (element-sum p w C (row_sum p w l challenges values) r).four

  frac-four : (r i : ℕ) → length (frac r i) ≡ 4
  unfolding fraction_at
  frac-four r i = (fraction-element p w C (place p w l challenges values r i)).four

  pub row-length : (r : ℕ) → length (line r) ≡ 4 * (n + 1)
  unfolding row_words
  row-length r = length-append (acc r) (joined (frac r) 0 n) ∙ omega (arith, acc-four r, length-joined (frac r) 4 (frac-four r) 0 n)

  pub trace-length : length whole ≡ 4 * (height * (n + 1))
  unfolding trace
  trace-length = length-joined line (4 * (n + 1)) row-length 0 height ∙ omega arith

  pub trace-used : length whole ≡ used l.lookups height
  unfolding used
  trace-used = trace-length ∙ omega arith

  -- word j of element c of row r
  in_row : (r c j : ℕ) → r < height → c < n + 1 → j < 4 → word whole (4 * (r * (n + 1) + c) + j) ≡ word (line r) (4 * c + j)
  unfolding trace
  in_row r c j l k q =
      let e : 4 * (r * (n + 1) + c) + j ≡ 4 * (n + 1) * r + (4 * c + j) = omega arith in
      ap (word (joined line 0 height)) e
      ∙ word-joined line (4 * (n + 1)) row-length height r (4 * c + j) l (omega arith)

  pub trace-accumulator : (r : ℕ) → r < height → element whole (r * (n + 1) + 0) ≡ acc r
  unfolding row_words
  trace-accumulator r l =
      element_is whole (acc r) (r * (n + 1) + 0) (acc-four r)
      (λ j q. in_row r 0 j l (omega arith) q
      ∙ (let e : 4 * 0 + j ≡ j = omega arith in ap (word (acc r ++ joined (frac r) 0 n)) e)
      ∙ get_or-append (acc r) (joined (frac r) 0 n) 0 j (omega (arith, acc-four r)))

  pub trace-fraction : (r i : ℕ) → r < height → i < n → element whole (r * (n + 1) + (i + 1)) ≡ frac r i
  unfolding row_words
  trace-fraction r i l k =
      element_is whole (frac r i) (r * (n + 1) + (i + 1)) (frac-four r i)
      (λ j q. in_row r (i + 1) j l (omega arith) q
      ∙ (let e : 4 * (i + 1) + j ≡ length (acc r) + (4 * i + j) = omega (arith, acc-four r) in ap (word (acc r ++ joined (frac r) 0 n)) e)
      ∙ get_or-append-add (acc r) (joined (frac r) 0 n) (4 * i + j) 0
      ∙ word-joined (frac r) 4 (frac-four r) n i j k q)

  -- the generated trace is generated
  pub trace-generated : IsGenerated p w l challenges values height (n + 1) whole (acc height)
  unfolding cell
  trace-generated = record { accumulators = trace-accumulator; fractions = trace-fraction; last = refl }

  -- and a trace of this width that is generated is the generated trace
  pub generated_is_trace : (words e : List ℕ) → length words ≡ 4 * (height * (n + 1)) → IsGenerated p w l challenges values height (n + 1) words e → words ≡ whole
  unfolding cell
  generated_is_trace words e size g = same-elements words whole (height * (n + 1)) size trace-length each
    where
      same-cell : (r c : ℕ) → r < height → c < n + 1 → element words (r * (n + 1) + c) ≡ element whole (r * (n + 1) + c)
      same-cell r zero l k = g.accumulators r l ∙ sym (trace-accumulator r l)
      same-cell r (suc i) l k =
          let q : suc i ≡ i + 1 = omega arith in
          ap (λ (c : ℕ). element words (r * (n + 1) + c)) q ∙ g.fractions r i l (omega arith) ∙ sym (trace-fraction r i l (omega arith))
          ∙ ap (λ (c : ℕ). element whole (r * (n + 1) + c)) (sym q)

      each : (k : ℕ) → k < height * (n + 1) → element words k ≡ element whole k
      each k l =
          let d : (n + 1) * (k / (n + 1)) + k % (n + 1) ≡ k = div-add-mod k (n + 1) in
          let c : k % (n + 1) < n + 1 = mod-lt k (omega arith) in
          let e : k / (n + 1) * (n + 1) + k % (n + 1) ≡ k = omega arith in
          ap (element words) (sym e) ∙ same-cell (k / (n + 1)) (k % (n + 1)) (below k l) c ∙ ap (element whole) e
        where
          below : (k : ℕ) → k < height * (n + 1) → k / (n + 1) < height
          below k l = (div-lt_iff_lt-mul {k = n + 1} {x = k} {y = height} (omega arith)).1 l
