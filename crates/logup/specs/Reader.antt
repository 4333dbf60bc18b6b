-- The row reader. SPECIFICATION, section 4.6: "the part of the buffer that holds row r", or "an empty part".
use Rattle.std.specs.Prelude.{ℕ, suc, ◌+◌, ◌*◌, ◌<◌, ◌≡◌, cond, ◌&&◌, List, [], leb, ltb, length, take, drop}
use Rattle.std.specs.Borrow.{Bor}

-- where row r begins in a trace of n lookups
abbrev pub row_start : ℕ → ℕ → ℕ
row_start n r = r * ((n + 1) * 4)

-- row r of a buffer with the trace of n lookups and `height` rows: its accumulator and fractions
unfoldable pub row_part : List ℕ → ℕ → ℕ → ℕ → List ℕ
row_part words n height r =
    cond (ltb 0 n && ltb r height && leb (suc r * ((n + 1) * 4)) (length words)) (take ((n + 1) * 4) (drop (row_start n r) words)) []

-- a lent slice is that part of the lent buffer, no copy of it: it has these words, lies in the buffer's own block of memory, and begins where
-- the row begins there, four bytes a word
pub record IsRowOf (buffer : Bor (List ℕ)) (n height r : ℕ) (part : Bor (List ℕ)) : Type 0 where
  pub words : part.now ≡ row_part buffer.now n height r
  pub same_memory : part.ref_ptr.0 ≡ buffer.ref_ptr.0
  pub begins : 0 < length part.now → part.ref_ptr.1 ≡ buffer.ref_ptr.1 + 4 * row_start n r
