-- The words of the workspace. SPECIFICATION, sections 8.3 and 8.5: "slots of ten words"; zeros "reach to the end, words that make no whole
-- slot included".
use Rattle.std.specs.Prelude.{ℕ, ◌*◌, ◌-◌, ◌/◌, Bool, cond, ltb, length, replicate}
use mathlib.Core.List.{List, [], ◌∷◌, ◌++◌, flat_map}
use Rattle.balance_slots.specs.Slots.{Slot}

-- a slot has ten words: the width, the eight words for a tuple, and the net
abbrev pub slot_words : ℕ
slot_words = 10

abbrev pub tuple_words : ℕ
tuple_words = 8

-- where the tuple and the net stand in a slot; the width is its first word
abbrev pub tuple_word : ℕ
tuple_word = 1

abbrev pub net_word : ℕ
net_word = 9

abbrev pub words_of_slot : Slot → List ℕ
words_of_slot s = length s.tuple ∷ (s.tuple ++ replicate (tuple_words - length s.tuple) 0) ++ (s.net ∷ [])

-- refusal 16: "a group has more different tuples, skipped ones aside, than slots"
unfoldable pub full : ℕ → List Slot → Bool
full room ss = ltb (room / slot_words) (length ss)

-- what a workspace of `room` words holds after a group, zeros after 16 (SPECIFICATION, section 8.5)
unfoldable pub workspace_of : ℕ → List Slot → List ℕ
workspace_of room ss = cond (full room ss) (replicate room 0) (flat_map words_of_slot ss ++ replicate (room - slot_words * length ss) 0)
