-- The number and the details of generation's answer are those of what it refuses.
use Rattle.std.specs.Prelude.{◌≡◌, refl, Result, Ok, Err, Some, None}
use Rattle.std.specs.Prelude as Std
use Rattle.expression.specs.Refusal.{answer_number, answer_details}
use Rattle.expression.specs.declared.refusal.Refusal.{Refusal}
use Rattle.lookup.specs.declared.types.LookupTerminal.{LookupTerminal}
use Rattle.logup.specs.Generation.{answer_of}
use Rattle.delmatik_answers.specs.Refused.{refused}
use Rattle.delmatik_answers.specs.Generation.{generation_number, generation_details}

pub number_is : (g : Result (Std.Option LookupTerminal) Refusal) → answer_number (refused g) ≡ generation_number (answer_of g)
number_is (Ok (Some t)) = refl
number_is (Ok None) = refl
number_is (Err f) = refl

pub details_are : (g : Result (Std.Option LookupTerminal) Refusal) → answer_details (refused g) ≡ generation_details (answer_of g)
details_are (Ok (Some t)) = refl
details_are (Ok None) = refl
details_are (Err f) = refl
