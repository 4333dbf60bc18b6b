-- The choices of a call, by number: the field in which it computes, the profile whose limits it keeps, and for generation and constraints the
-- tuple rule. SPECIFICATION, section 1.5: "An unknown field, profile or rule is refusal 1, before anything else is read."
use Rattle.std.specs.Prelude.{ℕ, Bool, cond, ◌&&◌, ◌||◌, eqb}
use Rattle.field.specs.Known.{known_field}
use Rattle.expression.specs.Limits.{cabinet, gateway}
use Rattle.expression.specs.declared.choices.Choices.{Choices}
use Rattle.expression.specs.declared.sizes.Limits.{Limits}

abbrev pub choices_of : ℕ → ℕ → Choices
choices_of field profile = record { field = field; profile = profile }

-- profile 1 is the cabinet, profile 2 the gateway
abbrev pub known_profile : ℕ → Bool
known_profile profile = eqb profile 1 || eqb profile 2

unfoldable pub known : Choices → Bool
known c = known_field c.field && known_profile c.profile

-- the tuple rules of SPECIFICATION, section 4.2
unfoldable pub known_rule : ℕ → Bool
known_rule rule = eqb rule 1 || eqb rule 2

-- the limits of a known profile; a call that names another is refused before they are read
unfoldable pub limits_of : ℕ → Limits
limits_of profile = cond (eqb profile 2) gateway cabinet
