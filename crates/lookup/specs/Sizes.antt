-- Several tables: their lists one after the other, and a record of sizes for each table, of so many words (`words`).
use Rattle.std.specs.Prelude.{Bool, List, ℕ, ◌+◌, ◌*◌, ◌/◌, eqb, length, take, drop}
use Rattle.lists.specs.Count.{total}
use Rattle.expression.specs.Words.{word}

abbrev pub table_count : ℕ → List ℕ → ℕ
table_count words sizes = length sizes / words

-- size f of table t
abbrev pub size : ℕ → List ℕ → ℕ → ℕ → ℕ
size words sizes f t = word sizes (words * t + f)

-- what the tables before table t have of it
unfoldable pub size_start : ℕ → List ℕ → ℕ → ℕ → ℕ
size_start words sizes f t = total (size words sizes f) t

-- table t's part of a list, of which size f counts units of so many words
unfoldable pub table_part : ℕ → List ℕ → ℕ → ℕ → ℕ → List ℕ → List ℕ
table_part words sizes f unit t l = take (unit * size words sizes f t) (drop (unit * size_start words sizes f t) l)

-- refusal 1, SPECIFICATION, section 2.7: "The tables' parts of a list must be the whole list"
abbrev pub covers : ℕ → List ℕ → ℕ → ℕ → List ℕ → Bool
covers words sizes f unit l = eqb (length l) (unit * size_start words sizes f (table_count words sizes))
