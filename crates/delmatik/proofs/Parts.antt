-- A row is that part of the trace which begins after as many rows.
use Prim.Native.Nat.{ℕ, suc, ◌+◌, ◌*◌, ◌<◌, ◌≤◌, zero-le}
use mathlib.Core.Path.{◌≡◌, refl, ap, ◌∙◌}
use mathlib.Core.Bool.{Bool, true, false, cond, ◌&&◌}
use mathlib.Core.List.{List, []}
use native.Mathlib.Nat.{suc-mul}
use native.Mathlib.Omega.{arith}
use lib.Dec.{leb, ltb}
use lib.ListN.{length, take, drop, length-take, length-drop}
use borrow.Author.Tests.{leb-true}
use Rattle.lists.specs.laws.Tests.{both_right}
use Rattle.expression.specs.Words.{word}
use Rattle.logup.specs.Reader.{row_part}
use Rattle.delmatik_answers.specs.Row.{start_and_length, exported_row}

-- its start and its length
pub record Within (trace : List ℕ) (r : ℕ) (row : List ℕ) : Type 0 where
  pub inside : r * length row ≤ length trace
  pub is : take (length row) (drop (r * length row) trace) ≡ row

-- a whole row of w words, or none
within : (trace : List ℕ) (w r : ℕ) (b : Bool) → (b ≡ true → r * w + w ≤ length trace) → Within trace r (cond b (take w (drop (r * w) trace)) [])
within trace w r true h =
    let e : length (take w (drop (r * w) trace)) ≡ w = simp (length-take, length-drop) (omega (arith, h refl)) in
    record { inside = rw e (omega (arith, h refl)); is = ap (λ (n : ℕ). take n (drop (r * n) trace)) e }
within trace w r false h = let e : r * 0 ≡ 0 = omega arith in record { inside = rw e zero-le; is = refl }

pub row_within : (trace : List ℕ) (n height r : ℕ) → Within trace r (row_part trace n height r)
unfolding row_part
row_within trace n height r =
    within trace ((n + 1) * 4) r (ltb 0 n && ltb r height && leb (suc r * ((n + 1) * 4)) (length trace))
    (λ t. rw suc-mul at (leb-true (suc r * ((n + 1) * 4)) (length trace) (both_right (ltb 0 n && ltb r height) (leb (suc r * ((n + 1) * 4)) (length trace)) t)))

-- the start fits a word of 64 bits
pub start_fits : {row : List ℕ} (trace : List ℕ) (n height r : ℕ) → length trace * 4 < 9223372036854775808 → row ≡ row_part trace n height r
    → r * length row ≤ 18446744073709551615
start_fits trace n height r s e = rw e (omega (arith, (row_within trace n height r).inside, s))

pub row_told : {part row : List ℕ} (trace : List ℕ) (n height r : ℕ) → row ≡ row_part trace n height r → part ≡ start_and_length r (length row)
    → record { part = part; words = take (word part 1) (drop (word part 0) trace) } ≡ exported_row trace n height r
unfolding exported_row
row_told {part} {row} trace n height r e p =
    let q : part ≡ start_and_length r (length (row_part trace n height r)) = p ∙ ap (λ (x : List ℕ). start_and_length r (length x)) e in
    (λ i. record { part = q i; words = take (word (q i) 1) (drop (word (q i) 0) trace) })
    ∙ (λ i. record { part = start_and_length r (length (row_part trace n height r)); words = (row_within trace n height r).is i })
