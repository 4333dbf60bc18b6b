-- The turns of the terminals' sum, and what the test of their words says.
use Rattle.std.specs.Prelude.{◌≡◌, refl, Bool, true, false, not, ◌||◌, List, [], ◌∷◌, ℕ, ◌+◌, ◌*◌, ◌<◌, ◌≤◌, ltb}
use Rattle.std.proofs.Common.{sym, ap, ◌∙◌, zero-le, arith, add-one, ltb-true}
use Rattle.lists.specs.laws.Tests.{passed}
use Rattle.field.specs.Element.{Word4, zero4}
use Rattle.field.specs.inner.Requires.{KnownPrime}
use Rattle.expression.specs.Words.{word}
use Rattle.lookup_protocol.specs.Terminals.{terminal_words, present, terminal, terminal_below, with_terminal, terminal_sum}

or_right : (a b : Bool) → a ≡ true → (not a || b) ≡ true → b ≡ true
or_right true b e h = h
or_right false b e h = cc

pub terminal-word : {p : ℕ} {a : Bool} {t : List ℕ} (ts : List ℕ) (i : ℕ) → a ≡ present ts i → a ≡ true → terminal_below p ts i ≡ true → t ≡ terminal ts i → Word4 p t
unfolding terminal terminal_below
terminal-word {p} {a} {t} ts i e h b q =
    let k =
    passed (ltb (word ts (terminal_words * i + 1)) p) (ltb (word ts (terminal_words * i + 2)) p ∷ ltb (word ts (terminal_words * i + 3)) p ∷ ltb (word ts (terminal_words * i + 4)) p ∷ [])
    (or_right (present ts i) _ (sym e ∙ h) b) in
    rw q (record { w0 = ltb-true _ _ k.0; w1 = ltb-true _ _ k.1.0; w2 = ltb-true _ _ k.1.1.0; w3 = ltb-true _ _ k.1.1.1.0 })

-- s is the sum of the first i of n terminals
pub record Adding (p : ℕ) (ts : List ℕ) (n i : ℕ) (s : List ℕ) : Type 0 where
  pub within : i ≤ n
  pub word4 : Word4 p s
  pub is : s ≡ terminal_sum p ts i

pub begins : {p : ℕ} {ts : List ℕ} {n : ℕ} → KnownPrime p → Adding p ts n 0 zero4
unfolding terminal_sum
begins {p} m =
    let pos : 0 < p = omega (arith, m.big) in record { within = zero-le; word4 = record { w0 = pos; w1 = pos; w2 = pos; w3 = pos }; is = refl }

pub turn : {p : ℕ} {ts : List ℕ} {n i : ℕ} {s r : List ℕ} → Adding p ts n i s → i < n → Word4 p r × (r ≡ with_terminal p s ts i) → Adding p ts n (i + 1) r
unfolding terminal_sum
turn {p} {ts} {n} {i} {s} {r} a h (w, e) =
    record { within = omega arith; word4 = w; is = rw (add-one i) (e ∙ ap (λ (z : List ℕ). with_terminal p z ts i) a.is) }

pub ends : {p : ℕ} {ts : List ℕ} {n i : ℕ} {s : List ℕ} → Adding p ts n i s → n ≤ i → s ≡ terminal_sum p ts n
ends {p} {ts} {n} {i} a h = let e : i ≡ n = omega (arith, a.within) in a.is ∙ ap (terminal_sum p ts) e
