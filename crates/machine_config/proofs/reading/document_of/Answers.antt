-- A text is no document where its bytes are no UTF-8 or spell none.
use Rattle.std.proofs.Common.{◌≡◌, true, false, sym, refl, inl, inr, ◌∙◌}
use Rattle.std.specs.Str.{is_utf8}
use Rattle.std.proofs.lemmas.Bool.{cases_Bool}
use Rattle.std.proofs.lemmas.Str.{IsUtf8-from_is_utf8, is_utf8-from_IsUtf8}
use Rattle.toml.specs.Errors.{IsMemory}
use Rattle.machine_config.specs.Reading.{document_of}
use Rattle.machine_config.proofs.reading.document_of.Goals as goal

pub returns-in-Ok : goal.returns-in-Ok
unfolding document_of
returns-in-Ok c =
    let h = c.in-Ok.ensures.ok in
    rw (is_utf8-from_IsUtf8 c.args.text.now h.0, h.1) refl

pub returns-else-is_memory : goal.returns-else-is_memory
unfolding document_of
returns-else-is_memory c =
    let other : IsMemory c.in-Err.error → ⊥ = λ m. let t = c.is_memory.ensures.1 m in let f : true ≡ false = sym t ∙ c.if-is_memory.false in absurd (cc) in
    elim (cases_Bool (is_utf8 c.args.text.now)) [
      | inl utf8 ↦ rw (c.told_at.ensures, utf8, c.in-Err.ensures.refused other (IsUtf8-from_is_utf8 c.args.text.now utf8)) refl
      | inr not ↦ rw (c.told_at.ensures, not) refl
    ]
