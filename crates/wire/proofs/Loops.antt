-- The turns of the loops between words and bytes, over plain lists and numbers.
use mathlib.Core.Path.{◌≡◌, refl, sym, ap, ◌∙◌}
use mathlib.Core.List.{List, [], ◌∷◌, ◌++◌}
use Prim.Native.Nat.{ℕ, ◌+◌, ◌/◌, ◌<◌, ◌≤◌, zero-le}
use native.Mathlib.Nat.{zero-add}
use native.Mathlib.Omega.{arith}
use lib.ListN.{length, drop, set}
use Rattle.lists.specs.Tab.{tab}
use Rattle.lists.specs.laws.Tab.{tab-one}
use Rattle.lists.specs.laws.Filled.{Filled, filled_none, filled-one}
use Rattle.wire.specs.Wire.{word_at, words_of}

-- the first i of n words are written
pub record Decoding (bytes d : List ℕ) (n : ℕ) (out : List ℕ) (i : ℕ) : Type 0 where
  pub within : i ≤ n
  pub count : n ≡ length bytes / 4
  pub room : n ≤ length d
  pub out_is : Filled d (tab (word_at bytes) 0 i) i out
  pub len : length out ≡ length d

pub decode-begins : {bytes d : List ℕ} {n : ℕ} → n ≡ length bytes / 4 → length bytes / 4 ≤ length d → Decoding bytes d n d 0
unfolding tab
decode-begins {bytes} {d} {n} e h = record { within = zero-le; count = e; room = omega arith; out_is = filled_none; len = refl }

pub decode_turn : {bytes d out : List ℕ} {n i w : ℕ} → Decoding bytes d n out i → i < n → w ≡ word_at bytes i → Decoding bytes d n (set out i w) (i + 1)
decode_turn {bytes} {d} {out} {n} {i} {w} s h e =
    let f : Filled d (tab (word_at bytes) 0 (i + 1)) (i + 1) (set out i w) =
    filled-one w 0 s.out_is (omega (arith, s.room))
    (tab-one (word_at bytes) 0 i ∙ ap (λ (x : ℕ). tab (word_at bytes) 0 i ++ (x ∷ [])) (ap (word_at bytes) (zero-add i) ∙ sym e)) in
    record { within = omega arith; count = s.count; room = s.room; out_is = f; len = f.len }

pub decode-ends : {bytes d out : List ℕ} {n i : ℕ} → Decoding bytes d n out i → n ≤ i → out ≡ words_of bytes ++ drop (length bytes / 4) d
unfolding words_of
decode-ends {bytes} {d} {out} {n} {i} s h =
    let e : i ≡ length bytes / 4 = omega (arith, s.within, s.count) in
    s.out_is.is ∙ ap (λ (j : ℕ). tab (word_at bytes) 0 j ++ drop j d) e
