-- The lent terminal after an answer.
use Prim.Native.Nat.{ℕ}
use mathlib.Core.Path.{◌≡◌, sym, ap, ◌∙◌}
use mathlib.Core.Bool.{Bool, true, false, cond, ◌&&◌}
use mathlib.Core.List.{List}
use lib.Dec.{leb, ltb}
use Rattle.logup.specs.Generation.{Answer}
use Rattle.delmatik_answers.specs.Generation.{generation_number, marked_words, generation_terminal}

module _ {n : ℕ} (a : Answer) (lent : List ℕ) (e : n ≡ generation_number a) where
  as_tested : {b : Bool} → (ltb 0 n && leb n 12) ≡ b → cond b lent (marked_words a.terminal) ≡ generation_terminal a lent
  unfolding generation_terminal
  as_tested h = ap (λ (b : Bool). cond b lent (marked_words a.terminal)) (sym h) ∙ ap (λ (k : ℕ). cond (ltb 0 k && leb k 12) lent (marked_words a.terminal)) e

  pub untouched : (ltb 0 n && leb n 12) ≡ true → lent ≡ generation_terminal a lent
  untouched h = as_tested h

  pub told : {out : List ℕ} → (ltb 0 n && leb n 12) ≡ false → out ≡ marked_words a.terminal → out ≡ generation_terminal a lent
  told h o = o ∙ as_tested h
