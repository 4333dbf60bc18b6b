-- The theorem is met at every entry point: calls at the gateway's limits of lookups and words, which it answers by another number than 1, through the
-- theorem itself. That one lookup or one word more is refused in the gateway alone is computed beside the numbers.
use Rattle.std.specs.Prelude.{ℕ, ◌≡◌, ◌≢◌, List}
use Rattle.std.proofs.Common.{sym, ap, ◌∙◌, arith}
use Rattle.expression.specs.Choices.{choices_of}
use Rattle.expression.specs.Words.{word}
use Rattle.theorems_profiles.proofs.laws.Profiles.{gateway_in_cabinet}
use Rattle.theorems_profiles.proofs.laws.Calls as calls
use Rattle.theorems_profiles.proofs.laws.TableExamples as tables
use Rattle.theorems_profiles.proofs.laws.LookupExamples as lookups
use Rattle.theorems_profiles.proofs.laws.SmallExamples as small
use Rattle.theorems_profiles.proofs.laws.BalanceExamples as balances

-- another number than 1 at this place of the list
not_1 : {ns : List ℕ} (expected : List ℕ) (i : ℕ) → ns ≡ expected → word expected i ≢ 1 → word ns i ≢ 1
not_1 expected i e h q = h (ap (λ (ns : List ℕ). word ns i) (sym e) ∙ q)

-- the entry points that take a rule, with n lookups of w words
pub record MetUnder (rule field n w : ℕ) : Type 0 where
  pub generation : calls.generated n w rule (choices_of field 2) ≡ calls.generated n w rule (choices_of field 1)
  pub constraints : calls.tested n w rule field (choices_of field 2) ≡ calls.tested n w rule field (choices_of field 1)
  pub generation_on_bytes : calls.generated_bytes n w rule (choices_of field 2) ≡ calls.generated_bytes n w rule (choices_of field 1)

under : (rule field n w : ℕ) → tables.numbers rule field n w (choices_of field 2) ≡ tables.answers → MetUnder rule field n w
under rule field n w within =
    let all = gateway_in_cabinet in
    record {
      generation = all.on_words.generation rule _ _ _ field (not_1 tables.answers 0 within (λ e. omega arith));
      constraints = all.on_words.constraints rule _ _ _ _ _ field (not_1 tables.answers 1 within (λ e. omega arith));
      generation_on_bytes = all.generation_on_bytes rule _ _ _ _ _ _ field (not_1 tables.answers 2 within (λ e. omega arith));
    }

pub record Met (field : ℕ) : Type 0 where
  pub rule_1 : MetUnder 1 field 8 4
  pub rule_2 : MetUnder 2 field 1 2
  pub degree : calls.degree_of_first 8 4 (choices_of field 2) ≡ calls.degree_of_first 8 4 (choices_of field 1)
  pub packing : calls.packed 8 4 (choices_of field 2) ≡ calls.packed 8 4 (choices_of field 1)
  pub building : calls.built 8 4 (choices_of field 2) ≡ calls.built 8 4 (choices_of field 1)
  pub widths : calls.widest 8 4 (choices_of field 2) ≡ calls.widest 8 4 (choices_of field 1)
  pub height_bound : calls.bounded 8 4 (choices_of field 2) ≡ calls.bounded 8 4 (choices_of field 1)
  pub terminals : calls.summed 8 4 (choices_of field 2) ≡ calls.summed 8 4 (choices_of field 1)
  pub prefixes : calls.prefixed 8 4 (choices_of field 2) ≡ calls.prefixed 8 4 (choices_of field 1)
  pub from_i32 : calls.counted 8 4 (choices_of field 2) ≡ calls.counted 8 4 (choices_of field 1)
  pub negated : calls.turned 8 4 (choices_of field 2) ≡ calls.turned 8 4 (choices_of field 1)
  pub balance : calls.balanced 8 4 (choices_of field 2) ≡ calls.balanced 8 4 (choices_of field 1)
  pub packing_on_bytes : calls.packed_bytes 8 4 (choices_of field 2) ≡ calls.packed_bytes 8 4 (choices_of field 1)
  pub balance_on_bytes : calls.balanced_bytes 8 4 (choices_of field 2) ≡ calls.balanced_bytes 8 4 (choices_of field 1)

in_cabinet : (field : ℕ) → tables.Computed field → lookups.Computed field → small.Computed field → balances.Computed field → Met field
in_cabinet field t l s b =
    let all = gateway_in_cabinet in
    let on_words = all.on_words in
    record {
      rule_1 = under 1 field 8 4 t.within;
      rule_2 = under 2 field 1 2 t.rule_2;
      degree = on_words.degree _ _ _ _ _ field (not_1 lookups.answers 0 l.within (λ e. omega arith));
      packing = on_words.packing _ _ _ _ _ field (not_1 lookups.answers 1 l.within (λ e. omega arith));
      building = on_words.building _ _ _ _ _ field (not_1 lookups.answers 2 l.within (λ e. omega arith));
      widths = on_words.widths _ field (not_1 lookups.answers 3 l.within (λ e. omega arith));
      height_bound = on_words.height_bound _ _ _ field (not_1 small.answers 0 s.within (λ e. omega arith));
      terminals = on_words.terminals _ field (not_1 small.answers 1 s.within (λ e. omega arith));
      prefixes = on_words.prefixes _ _ _ _ _ field (not_1 small.answers 2 s.within (λ e. omega arith));
      from_i32 = on_words.from_i32 _ _ _ field (not_1 small.answers 3 s.within (λ e. omega arith));
      negated = on_words.negated _ _ _ field (not_1 small.answers 4 s.within (λ e. omega arith));
      balance = on_words.balance _ _ field (not_1 balances.answers 0 b.within (λ e. omega arith));
      packing_on_bytes = all.packing_on_bytes _ _ _ _ _ _ _ _ field (not_1 lookups.answers 4 l.within (λ e. omega arith));
      balance_on_bytes = all.balance_on_bytes _ _ _ _ field (not_1 balances.answers 1 b.within (λ e. omega arith));
    }

pub met : Met 1 × Met 2
met = (
  in_cabinet 1 (tables.computed).0 (lookups.computed).0 (small.computed).0 (balances.computed).0,
  in_cabinet 2 (tables.computed).1 (lookups.computed).1 (small.computed).1 (balances.computed).1,
)
