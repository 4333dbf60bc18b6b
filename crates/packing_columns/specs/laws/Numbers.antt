-- A number of the order is a lookup's.
use Rattle.std.specs.Prelude.{◌≡◌, List, ℕ, ◌<◌, length}
use Rattle.expression.specs.Words.{word}
use Rattle.packing_columns.specs.inner.LookupListsRequires.{LookupNumbers}

pub numbered : {n i k : ℕ} {order : List ℕ} → LookupNumbers n order → k < length order → i ≡ word order k → i < n
numbered {n} {i} {k} {order} s h e = rw e (s.below k h)
