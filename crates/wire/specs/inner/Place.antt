-- Places in a room: words from a place on, how much of a room is left, and where each of five lists ends.
use Rattle.std.specs.Prelude.{ℕ, ◌+◌, ◌-◌, ◌/◌, ◌%◌, ◌≤◌, ◌≡◌, Bool, false, cond, ◌&&◌, List, [], ◌∷◌, ◌++◌, eqb, leb, length, take, drop, Option, None, Some}
use borrow.Rule.Slice.PartMut.{put_mid}
use Rattle.wire.specs.Room.{all_words}
use Rattle.wire.specs.declared.room.Ends.{Ends}

-- these words in the room from a place on, all else as it was
unfoldable pub placed : ℕ → List ℕ → List ℕ → List ℕ
placed at words room = take at room ++ (words ++ drop (at + length words) room)

-- how many words the lists hold
unfoldable pub word_count : List (List ℕ) → ℕ
word_count [] = 0
word_count (bytes ∷ lists) = length bytes / 4 + word_count lists

-- a list of so many bytes takes its words of what is left; none is left of a room that it does not fit
abbrev pub less : Option ℕ → ℕ → Option ℕ
less None bytes = None
less (Some words) bytes = cond (eqb (bytes % 4) 0 && leb (bytes / 4) words) (Some (words - bytes / 4)) None

abbrev pub all_less : Option ℕ → List ℕ → Option ℕ
all_less left [] = left
all_less left (bytes ∷ sizes) = all_less (less left bytes) sizes

-- the lists fit, and the room is filled
abbrev pub filled : Option ℕ → Bool
filled None = false
filled (Some words) = eqb words 0

-- five lists stand in the room from a place on; where each ends
pub record Five (a b c d e : List ℕ) (at : ℕ) (before after : List ℕ) (ends : Ends) : Type 0 where
  pub first : ends.first ≡ at + length a / 4
  pub second : ends.second ≡ ends.first + length b / 4
  pub third : ends.third ≡ ends.second + length c / 4
  pub fourth : ends.fourth ≡ ends.third + length d / 4
  pub fifth : ends.fifth ≡ ends.fourth + length e / 4
  pub within : ends.fifth ≤ length before
  pub same : length after ≡ length before
  pub words : after ≡ placed at (all_words (a ∷ b ∷ c ∷ d ∷ e ∷ [])) before

-- the parts of a room from a place on that end at these places
abbrev pub parts : List ℕ → ℕ → List ℕ → List (List ℕ)
parts room at [] = []
parts room at (end ∷ ends) = take (end - at) (drop at room) ∷ parts room end ends

-- the part from a place to an end becomes what f makes of it
abbrev pub put_part : ℕ → ℕ → (List ℕ → List ℕ) → List ℕ → List ℕ
put_part at end f room = put_mid at (end - at) room (f (take (end - at) (drop at room)))

-- pieces of these sizes from a place on end at these places
abbrev pub Steps : ℕ → List ℕ → List ℕ → Type 0
Steps at [] [] = Unit
Steps at [] (end ∷ ends) = ⊥
Steps at (size ∷ sizes) [] = ⊥
Steps at (size ∷ sizes) (end ∷ ends) = (end ≡ at + size) × Steps end sizes ends

-- two times five parts, one after the other: each ends at or after the one before it, and within so many words
pub record Ordered (x y : Ends) (room : ℕ) : Type 0 where
  pub second : x.first ≤ x.second
  pub third : x.second ≤ x.third
  pub fourth : x.third ≤ x.fourth
  pub fifth : x.fourth ≤ x.fifth
  pub sixth : x.fifth ≤ y.first
  pub seventh : y.first ≤ y.second
  pub eighth : y.second ≤ y.third
  pub ninth : y.third ≤ y.fourth
  pub tenth : y.fourth ≤ y.fifth
  pub first_in : x.first ≤ room
  pub second_in : x.second ≤ room
  pub third_in : x.third ≤ room
  pub fourth_in : x.fourth ≤ room
  pub fifth_in : x.fifth ≤ room
  pub sixth_in : y.first ≤ room
  pub seventh_in : y.second ≤ room
  pub eighth_in : y.third ≤ room
  pub ninth_in : y.fourth ≤ room
  pub tenth_in : y.fifth ≤ room

abbrev pub both_ends : Ends → Ends → List ℕ
both_ends x y =
    x.first ∷ x.second ∷ x.third ∷ x.fourth ∷ x.fifth ∷ y.first ∷ y.second ∷ y.third ∷ y.fourth ∷ y.fifth ∷ []

-- five parts, likewise
pub record Split (x : Ends) (room : ℕ) : Type 0 where
  pub second : x.first ≤ x.second
  pub third : x.second ≤ x.third
  pub fourth : x.third ≤ x.fourth
  pub fifth : x.fourth ≤ x.fifth
  pub first_in : x.first ≤ room
  pub second_in : x.second ≤ room
  pub third_in : x.third ≤ room
  pub fourth_in : x.fourth ≤ room
  pub fifth_in : x.fifth ≤ room

abbrev pub five_ends : Ends → List ℕ
five_ends x = x.first ∷ x.second ∷ x.third ∷ x.fourth ∷ x.fifth ∷ []

-- a first part that ends at n, and five after it
pub record After (n : ℕ) (x : Ends) (room : ℕ) : Type 0 where
  pub first : n ≤ x.first
  pub first_in : n ≤ room
  pub rest : Split x room
