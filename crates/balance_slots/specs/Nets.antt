-- The net of a tuple. SPECIFICATION, section 8.3.
use Rattle.std.specs.Prelude.{ℕ, List}
use Rattle.lists.specs.Fold.{fold}
use Rattle.logup.specs.Ledger.{Entry, post}

-- "its net: the sum of its counts, modulo p", over these entries, as the ledger of a table adds them (section 9.1)
unfoldable pub net_of : ℕ → List Entry → List ℕ → ℕ
net_of p es = fold (post p) (λ l. 0) es
