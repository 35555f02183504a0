-- Which bytes stand where in a text. This project's profile.
use Rattle.std.specs.Prelude.{ℕ, Bool, ◌||◌, nat_le}
pub use Rattle.plc_types.specs.Names.{is_letter, is_digit, is_name_byte}
pub use Rattle.line_text.specs.Lines.{is_end}
pub use Rattle.line_text.specs.Words.{is_blank}
use Rattle.st_tokens.specs.declared.byte.Run.{Run}
use Rattle.st_tokens.specs.declared.byte.Run.TheVariants as run

-- a blank or a line's end
abbrev pub is_gap : ℕ → Bool
is_gap b = is_blank b || is_end b

-- a byte of ASCII
abbrev pub is_ascii : ℕ → Bool
is_ascii b = nat_le b 127

-- the bytes that stand in each run
abbrev pub stands_in : Run → ℕ → Bool
stands_in run.Word b = is_name_byte b
stands_in run.Digits b = is_digit b
stands_in run.Ascii b = is_ascii b
