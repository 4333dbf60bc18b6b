-- The sum of the height bound fits a number of 64 bits, as a statement. SPECIFICATION, section 7.2: "it stays below 2⁶³ for any tables within the
-- limits". Its proof is laws/HeightSum.antt.
use Rattle.std.specs.Prelude.{◌≡◌, true, List, ℕ, ◌<◌}
use Rattle.expression.specs.Choices.{limits_of}
use Rattle.lookup_protocol.specs.Height.{height_sum, tables_fit}

abbrev pub HeightSumFits : Type 0
HeightSumFits =
    (profile : ℕ) (lookups counts heights : List ℕ) → tables_fit (limits_of profile) lookups counts heights ≡ true
    → height_sum lookups counts heights < 9223372036854775808
