-- The soundness error in bits: for n = 2^tuples tuples of w words, the bound is at most one pair in 2^bits, and above one in 2^(bits + 1), in each
-- field. laws/ErrorBits.antt computes it.
use Rattle.std.specs.Prelude.{ℕ, ◌+◌, ◌*◌, ◌^◌, Bool, true, ◌&&◌, List, [], ◌∷◌, leb, ltb}
use Rattle.field.specs.Known.{prime_of}
use Rattle.theorems_soundness.specs.Error.{passing_pairs}

-- the bits in field 1 and in field 2
pub record Bits : Type 0 where
  pub width : ℕ
  pub tuples : ℕ
  pub bits₁ : ℕ
  pub bits₂ : ℕ

-- for the prime p: the bound is at most p⁸ ÷ 2^bits, and above p⁸ ÷ 2^(bits + 1)
abbrev pub exact : ℕ → ℕ → ℕ → ℕ → Bool
exact p width tuples bits =
    leb (passing_pairs p width (2 ^ tuples) * 2 ^ bits) (p ^ 8) && ltb (p ^ 8) (passing_pairs p width (2 ^ tuples) * 2 ^ (bits + 1))

abbrev pub all_exact : List Bits → Bool
all_exact [] = true
all_exact (b ∷ bs) =
    exact (prime_of 1) b.width b.tuples b.bits₁ && exact (prime_of 2) b.width b.tuples b.bits₂ && all_exact bs

abbrev pub error_bits : List Bits
error_bits =
    record { width = 1; tuples = 10; bits₁ = 113; bits₂ = 113 }
    ∷ record { width = 1; tuples = 16; bits₁ = 107; bits₂ = 107 }
    ∷ record { width = 1; tuples = 20; bits₁ = 103; bits₂ = 103 }
    ∷ record { width = 1; tuples = 27; bits₁ = 96; bits₂ = 96 }
    ∷ record { width = 2; tuples = 10; bits₁ = 104; bits₂ = 104 }
    ∷ record { width = 2; tuples = 16; bits₁ = 92; bits₂ = 92 }
    ∷ record { width = 2; tuples = 20; bits₁ = 84; bits₂ = 84 }
    ∷ record { width = 2; tuples = 27; bits₁ = 70; bits₂ = 70 }
    ∷ record { width = 4; tuples = 10; bits₁ = 103; bits₂ = 103 }
    ∷ record { width = 4; tuples = 16; bits₁ = 91; bits₂ = 91 }
    ∷ record { width = 4; tuples = 20; bits₁ = 83; bits₂ = 83 }
    ∷ record { width = 4; tuples = 27; bits₁ = 69; bits₂ = 69 }
    ∷ record { width = 8; tuples = 10; bits₁ = 101; bits₂ = 102 }
    ∷ record { width = 8; tuples = 16; bits₁ = 89; bits₂ = 90 }
    ∷ record { width = 8; tuples = 20; bits₁ = 81; bits₂ = 82 }
    ∷ record { width = 8; tuples = 27; bits₁ = 67; bits₂ = 68 }
    ∷ []
