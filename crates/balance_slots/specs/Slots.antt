-- The slots of a group. SPECIFICATION, section 8.3: "the tuples take slots in the order in which they are first met".
use Rattle.std.specs.Prelude.{ℕ, cond, List, [], ◌∷◌, eqb}
use Rattle.lists.specs.Same.{same_list}
use Rattle.lists.specs.Fold.{fold}
use Rattle.field.specs.Word.{add_m}
use Rattle.logup.specs.Ledger.{Entry}

-- a tuple, and the sum of its counts modulo p
pub record Slot : Type 0 where
  pub tuple : List ℕ
  pub net : ℕ

-- an entry is added to its tuple's slot, or makes one after the others; a net that returns to 0 keeps its slot
unfoldable pub add_nonzero : ℕ → List Slot → Entry → List Slot
add_nonzero p [] e = record { tuple = e.tuple; net = e.count } ∷ []
add_nonzero p (s ∷ ss) e =
    cond (same_list s.tuple e.tuple) (record { tuple = s.tuple; net = add_m p s.net e.count } ∷ ss) (s ∷ add_nonzero p ss e)

-- "An entry whose count is 0 is skipped."
unfoldable pub add : ℕ → List Slot → Entry → List Slot
add p ss e = cond (eqb e.count 0) ss (add_nonzero p ss e)

-- the slots of a group's entries
unfoldable pub slots : ℕ → List Entry → List Slot
slots p es = fold (add p) [] es
