-- Worked cases: what a definition computes, beside what is expected of it.
use Rattle.std.specs.Prelude.{Bool, true, ◌&&◌, List, [], ◌∷◌, ℕ}
use Rattle.lists.specs.Same.{same_list}

pub record Case : Type 0 where
  pub computed : List ℕ
  pub expected : List ℕ

-- each case computes to what is expected
abbrev pub hold : List Case → Bool
hold [] = true
hold (c ∷ cs) = same_list c.computed c.expected && hold cs
