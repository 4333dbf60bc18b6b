-- A lookup's weight and its words.
use Rattle.std.proofs.lemmas.List.{get_or-take, get_or-drop}
use mathlib.Core.Path.{◌≡◌, refl, ap, ◌∙◌}
use mathlib.Core.Bool.{Bool, true, false, cond, not}
use mir.Val.{bool_byte}
use mathlib.Core.List.{List, [], ◌∷◌}
use Prim.Native.Nat.{ℕ, ◌+◌, ◌-◌, ◌<◌, ◌≤◌}
use native.Mathlib.Omega.{arith}
use lib.ListN.{length, take, drop, set, length-take, length-drop}
use borrow.Author.Tests.{lt-ltb, le-ltb}
use Rattle.lists.specs.Count.{total}
use Rattle.lists.specs.laws.Count.{total_in}
use Rattle.lists.specs.laws.Sums.{total_cong}
use Rattle.lists.specs.laws.Writing.{nine-set}
use Rattle.expression.specs.Words.{word, low_half, high_half}
use Rattle.lookup.specs.Lookups.{lookup_words}
use Rattle.lookup_degree.specs.Sums.{greatest}
use Rattle.lookup_degree.specs.laws.Degree.{greatest_cong}
use Rattle.lookup_builder.specs.Building.{interaction_count, name_bytes, tuple_number, first_tuple, is_local, is_exclusive, weight_sum, weight_top, built_weight, built_words}
use Rattle.lookup_builder.specs.declared.answer.Kinds.{Kinds}
use Rattle.lookup_builder.specs.inner.Requires.{InteractionsSized}

module _ (k : Kinds) (interactions weights : List ℕ) (i : ℕ) where
  -- the weights of lookup i lie in the list
  pub weights_in : {s n : ℕ} → InteractionsSized k interactions weights → i < interaction_count k → s ≡ first_tuple interactions i → n ≡ tuple_number interactions i → s + n ≤ length weights
  unfolding first_tuple
  weights_in z h es en = omega (arith, z.weighed, total_in (tuple_number interactions) i (interaction_count k) h)

  -- weight j of the part of the weights that the code goes through
  weight_at : (s n j : ℕ) → j < n → word (take (s + n - s) (drop s weights)) j ≡ word weights (s + j)
  weight_at s n j h = get_or-take (s + n - s) (drop s weights) j 0 (omega arith) ∙ get_or-drop s weights j 0

  weights-many : (s n : ℕ) → s + n ≤ length weights → length (take (s + n - s) (drop s weights)) ≡ n
  weights-many s n h = simp (length-take, length-drop) (omega arith)

  pub weight-local : {s n t : ℕ} → InteractionsSized k interactions weights → i < interaction_count k → i < k.locals → s ≡ first_tuple interactions i → n ≡ tuple_number interactions i
      → t ≡ total (word (take (s + n - s) (drop s weights))) (length (take (s + n - s) (drop s weights))) → t ≡ built_weight k interactions weights i
  unfolding built_weight weight_sum
  weight-local {s} {n} z b h es en et =
      rw (lt-ltb i k.locals h, ← es, ← en)
      (et ∙ ap (total (word (take (s + n - s) (drop s weights)))) (weights-many s n (weights_in z b es en)) ∙ total_cong _ (λ j. word weights (s + j)) n (weight_at s n))

  pub weight_other : {s n t w : ℕ} → InteractionsSized k interactions weights → i < interaction_count k → k.locals ≤ i → s ≡ first_tuple interactions i → n ≡ tuple_number interactions i
      → t ≡ greatest (word (take (s + n - s) (drop s weights))) (length (take (s + n - s) (drop s weights))) → w ≡ t → w ≡ built_weight k interactions weights i
  unfolding built_weight weight_top
  weight_other {s} {n} z b h es en et ew =
      rw (le-ltb i k.locals h, ← es, ← en)
      (ew ∙ et ∙ ap (greatest (word (take (s + n - s) (drop s weights)))) (weights-many s n (weights_in z b es en)) ∙ greatest_cong _ (λ j. word weights (s + j)) n (weight_at s n))

-- a flag as a word
pub flag_word : (b : Bool) → bool_byte b ≡ cond b 1 0
flag_word true = refl
flag_word false = refl

pub words-nine : (k : Kinds) (interactions weights : List ℕ) (i : ℕ) → length (built_words k interactions weights i) ≡ lookup_words
unfolding built_words
words-nine k interactions weights i = refl

-- the words of lookup i, one by one
pub words_put : {a b w v x f : ℕ} (l : List ℕ) (k : Kinds) (interactions weights : List ℕ) (i : ℕ) → length l ≡ lookup_words → a ≡ cond (not (is_local k i)) 1 0 → b ≡ cond (is_local k i) 0 (name_bytes interactions i)
    → w ≡ low_half (built_weight k interactions weights i) → x ≡ cond (is_exclusive k i) 1 0 → f ≡ cond (is_exclusive k i) (tuple_number interactions i) 0 → v ≡ high_half (built_weight k interactions weights i)
    → set (set (set (set (set (set (set (set (set l 0 a) 1 b) 2 w) 3 i) 4 x) 5 (tuple_number interactions i)) 6 (tuple_number interactions i)) 7 f) 8 v ≡ built_words k interactions weights i
unfolding built_words
words_put {a} {b} {w} {v} {x} {f} l k interactions weights i h ea eb ew ex ef ev =
    let n : ℕ = tuple_number interactions i in
    nine-set l a b w i x n n f v h ∙ (λ j. ea j ∷ eb j ∷ ew j ∷ i ∷ ex j ∷ n ∷ n ∷ ef j ∷ ev j ∷ [])
