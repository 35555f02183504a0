-- A text that is UTF-8 is read, and another is no quantity.
use Rattle.std.proofs.Common.{refl, inl, inr}
use Rattle.std.specs.Str.{is_utf8}
use Rattle.std.proofs.lemmas.Bool.{cases_Bool}
use Rattle.std.proofs.lemmas.Str.{IsUtf8-from_is_utf8, is_utf8-from_IsUtf8}
use Rattle.machine_words.specs.Units.{quantity}
use Rattle.machine_words.proofs.units.quantity.Goals as goal

pub returns-in-Err-clause-value : goal.returns-in-Err-clause-value
unfolding quantity
returns-in-Err-clause-value c =
    elim (cases_Bool (is_utf8 c.args.word.now)) [
      | inl utf8 ↦ absurd (c.in-Err.ensures.cases.0 (IsUtf8-from_is_utf8 c.args.word.now utf8))
      | inr other ↦ rw other refl
    ]

pub returns-in-Ok-clause-value : goal.returns-in-Ok-clause-value
unfolding quantity
returns-in-Ok-clause-value c =
    let utf8 = c.in-Ok.ensures.cases in
    rw (is_utf8-from_IsUtf8 c.args.word.now utf8.1, ← utf8.0) c.decimal_units.ensures.value
