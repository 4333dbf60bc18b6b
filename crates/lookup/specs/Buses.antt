-- Which lookups of a table are on one bus: those whose names are equal.
use Rattle.std.specs.Prelude.{Bool, cond, not, ◌&&◌, ◌||◌, List, ℕ, take, drop}
use Rattle.lists.specs.Same.{same_list}
use Rattle.lookup.specs.Lookups.{on_bus, exclusive, name_length, name_start}

-- the name of lookup i
unfoldable pub name_at : List ℕ → List ℕ → ℕ → List ℕ
name_at lookups names i = take (name_length lookups i) (drop (name_start lookups i) names)

-- the lookups that share nothing: locals; in packing exclusives too
unfoldable pub alone_at : Bool → List ℕ → ℕ → Bool
alone_at packing lookups i = cond packing (not (on_bus lookups i) || exclusive lookups i) (not (on_bus lookups i))

-- lookups i and j are on one bus; the lookups that are `alone` are on none
unfoldable pub same_bus : (ℕ → Bool) → (ℕ → List ℕ) → ℕ → ℕ → Bool
same_bus alone name i j = not (alone i) && (not (alone j) && same_list (name i) (name j))
