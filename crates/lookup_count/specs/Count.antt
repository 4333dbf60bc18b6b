-- Counts (`count.rs`): a node, and a bound on its magnitude. SPECIFICATION, section 6.4. The table is the first `used` nodes of a lent
-- list; the new node is node `used`.
use Rattle.std.specs.Prelude.{ℕ, suc, ◌+◌, ◌*◌, ◌/◌, ◌%◌, Bool, true, false, cond, ◌&&◌, List, [], ◌∷◌, ◌++◌, ltb, ℤ, pos, negsuc, length, take, drop, Err, Ok, Result}
use Rattle.std.proofs.Math.Option.{Option, none, some}
use Rattle.field.specs.Word.{neg_m}
use Rattle.field.specs.Known.{prime_of}
use Rattle.expression.specs.Choices.{known, limits_of}
use Rattle.expression.specs.Node.{node_words}
use Rattle.expression.specs.Refusal.{Numbers, numbers, unless}
use Rattle.expression.specs.declared.choices.Choices.{Choices}
use Rattle.expression.specs.declared.sizes.Limits.{Limits}
use Rattle.expression.specs.declared.refusal.Refusal.{Refusal}
use Rattle.expression.specs.declared.refusal.Refusal.TheVariants.{SizeAtOdds, NodeInvalid}
use Rattle.lookup_count.specs.declared.count.Count.{Count}

-- the kinds of the nodes that are added
abbrev pub constant_kind : ℕ
constant_kind = 0

abbrev pub negation_kind : ℕ
negation_kind = 12

-- the sign and the magnitude of a number
abbrev pub negative : ℤ → Bool
negative (pos n) = false
negative (negsuc n) = true

abbrev pub magnitude : ℤ → ℕ
magnitude (pos n) = n
magnitude (negsuc n) = suc n

-- the word of a number, modulo p
abbrev pub residue : ℕ → Bool → ℕ → ℕ
residue p minus m = cond minus (neg_m p m) (m % p)

-- refusal 1: a table that is full, or has no room for one node more
unfoldable pub count_refusal : Limits → List ℕ → ℕ → Option Refusal
count_refusal m nodes used = unless (ltb used m.nodes && ltb used (length nodes / node_words)) SizeAtOdds none

-- refusal 3: the node that is negated is absent
unfoldable pub negation_refusal : Limits → List ℕ → ℕ → ℕ → Option Refusal
negation_refusal m nodes used node = unless (ltb used m.nodes && ltb used (length nodes / node_words)) SizeAtOdds (unless (ltb node used) NodeInvalid none)

abbrev pub count_of : ℕ → ℕ → Count
count_of node weight = record { node = node; weight = weight }

-- a count of the new node, unless refused
abbrev pub counted : Option Refusal → ℕ → ℕ → Result Count Refusal
counted none used weight = Ok (count_of used weight)
counted (some f) used weight = Err f

-- the lent list afterwards: the new node's three words are written, and no other
abbrev pub nodes_after : Option Refusal → List ℕ → ℕ → ℕ → ℕ → List ℕ
nodes_after none nodes used kind a = take (node_words * used) nodes ++ ((kind ∷ a ∷ 0 ∷ []) ++ drop (node_words * used + node_words) nodes)
nodes_after (some f) nodes used kind a = nodes

-- the answer, and the lent list afterwards
pub record Outcome : Type 0 where
  pub answer : Result Count Refusal
  pub nodes : List ℕ

-- a new node of this kind and first operand, and its count
abbrev pub outcome : Option Refusal → List ℕ → ℕ → ℕ → ℕ → ℕ → Outcome
outcome refusal nodes used kind a weight = record { answer = counted refusal used weight; nodes = nodes_after refusal nodes used kind a }

-- the count of a number: a constant
unfoldable pub from_i32 : Limits → ℕ → List ℕ → ℕ → ℤ → Outcome
from_i32 m p nodes used x = outcome (count_refusal m nodes used) nodes used constant_kind (residue p (negative x) (magnitude x)) (magnitude x)

-- the count with the other sign
unfoldable pub negated : Limits → List ℕ → ℕ → Count → Outcome
negated m nodes used c = outcome (negation_refusal m nodes used c.node) nodes used negation_kind c.node c.weight

-- at the choices of a call: refusal 1 where one of them is unknown
abbrev pub unless_known : Choices → List ℕ → Outcome → Outcome
unless_known c nodes o = cond (known c) o (record { answer = Err SizeAtOdds; nodes = nodes })

unfoldable pub from_i32_at : Choices → List ℕ → ℕ → ℤ → Outcome
from_i32_at c nodes used x = unless_known c nodes (from_i32 (limits_of c.profile) (prime_of c.field) nodes used x)

unfoldable pub negated_at : Choices → List ℕ → ℕ → Count → Outcome
negated_at c nodes used count = unless_known c nodes (negated (limits_of c.profile) nodes used count)

-- SPECIFICATION, sections 1.4 and 6.4: "An answer is a number and three 64-bit details", a count beside it, its node and its weight, both 0 where
-- it is refused, and the lent list afterwards
pub record CountNumbers : Type 0 where
  pub answer : Numbers
  pub count : Count
  pub nodes : List ℕ

-- for each case of the code's enum
abbrev pub refusal_of : Result Count Refusal → Option Refusal
refusal_of (Ok c) = none
refusal_of (Err f) = some f

abbrev pub added_of : Result Count Refusal → Count
added_of (Ok c) = c
added_of (Err f) = count_of 0 0

unfoldable pub in_numbers : Outcome → CountNumbers
in_numbers o = record { answer = numbers (refusal_of o.answer); count = added_of o.answer; nodes = o.nodes }
