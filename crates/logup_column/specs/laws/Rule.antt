-- The lists of a table that passed the tests, with its elements as a rule takes them: they pass too.
use Rattle.std.specs.Prelude.{◌≡◌, true, List, ◌++◌, ℕ, zero, suc, ◌*◌, ◌-◌, ◌≤◌, take, drop}
use Rattle.std.proofs.Common.{◌∙◌, arith, take_at}
use Rattle.std.proofs.Math.Path.{ap}
use Rattle.std.proofs.Math.Dec.{ltb}
use Rattle.std.proofs.Math.ListN.{length}
use borrow.Author.Tests.{ltb-true, lt-ltb}
use Rattle.lists.specs.Count.{total}
use Rattle.lists.specs.laws.Tests.{every_true, every_of}
use Rattle.expression.specs.Words.{word, all_below}
use Rattle.lookup.specs.Lookups.{element_start}
use Rattle.logup.specs.Rule.{elements_under}
use Rattle.logup.proofs.laws.Rule.{length_under, below_under}
use Rattle.logup_column.specs.inner.Requires.{LookupLists}

total-few : (f : ℕ → ℕ) (n : ℕ) → ((i : ℕ) → f i ≤ 8) → total f n ≤ 8 * n
unfolding total
total-few f zero h = omega arith
total-few f (suc n) h = omega (arith, total-few f n h, h n)

-- tuples of at most 8 words, at most 64 of them
pub few-elements : {lookups tuples multiplicities flags elements : List ℕ} → LookupLists lookups tuples multiplicities flags elements → length tuples ≤ 64
    → length elements ≤ 512
unfolding element_start
few-elements {tuples = tuples} k h = omega (arith, k.fitting.elements, total-few (word tuples) (length tuples) k.narrow)

-- what stands in an array at whose front the elements were written
pub front_is : {x : List ℕ} (rule : ℕ) (tuples elements d : List ℕ) → x ≡ elements_under rule tuples elements ++ drop (length elements) d
    → take (length elements - 0) (drop 0 x) ≡ elements_under rule tuples elements
front_is rule tuples elements d e =
    let all : length elements - 0 ≡ length elements = omega arith in
    ap (λ (q : List ℕ). take (length elements - 0) q) e ∙ ap (λ (n : ℕ). take n (elements_under rule tuples elements ++ drop (length elements) d)) all
    ∙ take_at (elements_under rule tuples elements) (drop (length elements) d) (length elements) (length_under rule tuples elements)

module _ {lookups tuples multiplicities flags elements x : List ℕ} (rule : ℕ) (e : x ≡ elements_under rule tuples elements)
    (k : LookupLists lookups tuples multiplicities flags elements) where
  all-low : all_below k.nodes x ≡ true
  unfolding all_below
  all-low =
      ap (all_below k.nodes) e ∙ below_under rule k.nodes tuples elements
      ∙ every_of (λ i. ltb (word elements i) k.nodes) (length elements) (λ i h. lt-ltb (word elements i) k.nodes (k.agreeing.element i h))

  pub listed_under : LookupLists lookups tuples multiplicities flags x
  unfolding all_below
  listed_under =
      record {
        names = k.names;
        nodes = k.nodes;
        fitting =
            record {
              lookups = k.fitting.lookups;
              names = k.fitting.names;
              tuples = k.fitting.tuples;
              multiplicities = k.fitting.multiplicities;
              flags = k.fitting.flags;
              elements = ap length e ∙ length_under rule tuples elements ∙ k.fitting.elements;
            };
        agreeing =
            record {
              multiplicities_agree = k.agreeing.multiplicities_agree;
              flags_agree = k.agreeing.flags_agree;
              multiplicity = k.agreeing.multiplicity;
              flag = k.agreeing.flag;
              element = λ i h. ltb-true (word x i) k.nodes (every_true (λ i. ltb (word x i) k.nodes) (length x) i all-low h);
            };
        narrow = k.narrow;
      }
