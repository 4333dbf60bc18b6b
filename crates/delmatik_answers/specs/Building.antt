-- How many interactions of each kind building takes.
use Rattle.std.specs.Prelude.{ℕ}
use Rattle.lookup_builder.specs.declared.answer.Kinds.{Kinds}

abbrev pub kinds_of : ℕ → ℕ → ℕ → Kinds
kinds_of locals globals exclusives = record { locals = locals; globals = globals; exclusives = exclusives }
