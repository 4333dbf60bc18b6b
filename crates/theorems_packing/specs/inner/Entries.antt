-- What a lookup enters on a row, read off its own lists.
use Rattle.std.specs.Prelude.{◌≡◌, true, cond, ℕ, length}
use mathlib.Core.List.{List, [], map, zip_with}
use Rattle.field.specs.Word.{mul_m}
use Rattle.expression.specs.Words.{word}
use Rattle.lookup.specs.Lookups.{Lookup}
use Rattle.logup.specs.Ledger.{Entry}

-- how often each tuple of a lookup is counted, from the values of the nodes
unfoldable pub record_counts : ℕ → List ℕ → Lookup → List ℕ
record_counts p vals x = cond x.exclusive (zip_with (λ m f. mul_m p (word vals m) (word vals f)) x.multiplicities x.flags) (map (word vals) x.multiplicities)

abbrev pub entered : List ℕ → List ℕ → ℕ → Entry
entered vals t n = record { tuple = map (word vals) t; count = n }

-- what a lookup enters on a row
unfoldable pub record_entries : ℕ → List ℕ → Lookup → List Entry
record_entries p vals x = zip_with (entered vals) x.tuples (record_counts p vals x)

-- a lookup as a valid table has it: its lists are as long as each other
pub record Aligned (x : Lookup) : Type 0 where
  pub aligned : length x.multiplicities ≡ length x.tuples
  pub flagged : x.exclusive ≡ true → length x.flags ≡ length x.tuples
  pub unnamed : x.local ≡ true → x.name ≡ []
