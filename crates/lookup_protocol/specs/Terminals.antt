-- Terminals (`verify_terminal_sum`). SPECIFICATION, section 7.3. A terminal is five words: a mark, 0 where it is absent, and the four words
-- of its element, which count only where it is present.
use Rattle.std.specs.Prelude.{ℕ, zero, suc, ◌+◌, ◌*◌, ◌/◌, ◌%◌, Bool, cond, not, ◌&&◌, ◌||◌, List, [], ◌∷◌, eqb, leb, ltb, length}
use Rattle.std.proofs.Math.Option.{Option, none}
use Rattle.lists.specs.Count.{every}
use Rattle.field.specs.Element.{zero4, add4, is_zero}
use Rattle.field.specs.Known.{prime_of}
use Rattle.expression.specs.Choices.{known, limits_of}
use Rattle.expression.specs.Words.{word}
use Rattle.expression.specs.Refusal.{unless}
use Rattle.expression.specs.declared.choices.Choices.{Choices}
use Rattle.expression.specs.declared.sizes.Limits.{Limits}
use Rattle.expression.specs.declared.refusal.Refusal.{Refusal}
use Rattle.expression.specs.declared.refusal.Refusal.TheVariants.{SizeAtOdds, WordTooLarge, TerminalsNotZero}

-- the words of a terminal
abbrev pub terminal_words : ℕ
terminal_words = 5

abbrev pub terminal_count : List ℕ → ℕ
terminal_count ts = length ts / terminal_words

unfoldable pub present : List ℕ → ℕ → Bool
present ts i = not (eqb (word ts (terminal_words * i)) 0)

unfoldable pub terminal : List ℕ → ℕ → List ℕ
terminal ts i = word ts (terminal_words * i + 1) ∷ word ts (terminal_words * i + 2) ∷ word ts (terminal_words * i + 3) ∷ word ts (terminal_words * i + 4) ∷ []

-- refusal 2, SPECIFICATION, section 10.4: "the words of present terminals"
unfoldable pub terminal_below : ℕ → List ℕ → ℕ → Bool
terminal_below p ts i =
    not (present ts i)
    || (ltb (word ts (terminal_words * i + 1)) p && ltb (word ts (terminal_words * i + 2)) p && ltb (word ts (terminal_words * i + 3)) p && ltb (word ts (terminal_words * i + 4)) p)

-- "Absent ones are skipped."
unfoldable pub with_terminal : ℕ → List ℕ → List ℕ → ℕ → List ℕ
with_terminal p sum ts i = cond (present ts i) (add4 p sum (terminal ts i)) sum

unfoldable pub terminal_sum : ℕ → List ℕ → ℕ → List ℕ
terminal_sum p ts zero = zero4
terminal_sum p ts (suc n) = with_terminal p (terminal_sum p ts n) ts n

-- a terminal for each table
unfoldable pub terminals_refusal : Limits → ℕ → List ℕ → Option Refusal
terminals_refusal m p ts =
    unless (eqb (length ts % terminal_words) 0 && leb (terminal_count ts) m.tables) SizeAtOdds
    (unless (every (terminal_below p ts) (terminal_count ts)) WordTooLarge
    (unless (is_zero (terminal_sum p ts (terminal_count ts))) TerminalsNotZero none))

-- at the choices of a call: refusal 1 where one of them is unknown
unfoldable pub terminals_at : Choices → List ℕ → Option Refusal
terminals_at c ts = unless (known c) SizeAtOdds (terminals_refusal (limits_of c.profile) (prime_of c.field) ts)
