-- Which bytes stand where in a text. IEC 61131-3.
use Rattle.std.specs.Prelude.{ℕ, Bool, not, ◌||◌, ◌==◌}
pub use Rattle.plc_types.specs.Names.{is_letter, is_digit, is_name_byte}
pub use Rattle.line_text.specs.Lines.{is_end}
pub use Rattle.line_text.specs.Words.{is_blank}
use Rattle.iec_tokens.specs.declared.byte.Run.{Run}
use Rattle.iec_tokens.specs.declared.byte.Run.TheVariants as run

-- a letter or a `_`
abbrev pub begins_word : ℕ → Bool
begins_word b = is_letter b || (b == 95)

-- a blank or a line's end
abbrev pub is_gap : ℕ → Bool
is_gap b = is_blank b || is_end b

-- the bytes that stand in each run
abbrev pub stands_in : Run → ℕ → Bool
stands_in run.Word b = is_name_byte b
stands_in run.Line b = not (is_end b)
