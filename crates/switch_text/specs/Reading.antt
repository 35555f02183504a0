-- What the lines of a switch file and its text mean. This project's profile.
use Rattle.std.specs.Prelude.{◌≡◌, ℕ, Option, ◌==◌, Bool, true, false, not, ◌&&◌, ◌||◌, if◌then◌else◌, codes, nat_lt, Result, Ok, Err, List, [], ◌∷◌, ◌++◌, length}
use Rattle.std.specs.List.{list_any}
use Rattle.std.specs.Option.{ok_or}
use Rattle.std.specs.Str.{bytes_eq}
use Rattle.plc_types.specs.Names.{is_name}
use Rattle.switch_text.specs.Switches.{is_switch}
use Rattle.switch_text.specs.declared.switch.Switch.{Switch}
use Rattle.line_text.specs.Reading.{◌>>=◌, Meaning, reading_of}
use Rattle.line_text.specs.Rules.{broken_unless}
use Rattle.line_text.specs.Texts.{says}
use Rattle.machine_words.specs.Names.{axis_at}
use Rattle.machine_words.specs.Rules.{refused_by}
use Rattle.motion_history.specs.Setup.{Setup}
use Rattle.motion_history.specs.declared.refused.TextFault.{TextFault}
use Rattle.motion_history.specs.declared.refused.TextFault.TheVariants.{Refused, OutOfMemory}
use Rattle.motion_history.specs.declared.refused.TextRefused.{TextRefused}
use Rattle.switch_text.specs.Places.{places_of}
use Rattle.switch_text.specs.SoFar.{SoFar}
use Rattle.switch_text.specs.declared.reader.Places.{Places}

-- a switch file before its first line, for this machine
unfoldable pub opening : Setup → SoFar
opening s = record { setup = s; begun = false; switches = [] }

-- `motion-switches 1`
unfoldable pub is_version : List (List ℕ) → Bool
is_version (word ∷ number ∷ []) = says word (codes "motion-switches") && says number (codes "1")
is_version _ = false

-- the first line gives the version (K2)
unfoldable pub version_meaning : SoFar → List (List ℕ) → Result SoFar ℕ
version_meaning s words = do
  _ ← broken_unless (is_version words) 2
  Ok (record s { begun = true })

-- whether one of the switches has this name
unfoldable pub is_used : List Switch → List ℕ → Bool
is_used ss name = list_any (λ (s : Switch). bytes_eq s.name name) ss

-- a name, which no switch has yet (K4)
unfoldable pub free_name : SoFar → List ℕ → Result (List ℕ) ℕ
free_name s name = if not (is_name name) || is_used s.switches name then Err 4 else Ok name

-- the switch of this name on an axis, whose places are in their ranges (K6)
unfoldable pub switched : List ℕ → ℕ → Places → Result Switch ℕ
switched name axis p = do
  let s : Switch = record { name = name; axis = axis; on = p.on; off = p.off; hyst = p.hyst }
  _ ← broken_unless (is_switch s) 6
  Ok s

-- the switch of a free name on an axis of the machine (K4), whose places are numbers (K5)
unfoldable pub switch_at : SoFar → List ℕ → List ℕ → Option Places → Result Switch ℕ
switch_at s new of_axis numbers = do
  name ← free_name s new
  axis ← ok_or (axis_at s.setup of_axis) 4
  places ← ok_or numbers 5
  switched name axis places

-- `switch NAME AXIS ON OFF HYST` (K3)
unfoldable pub switch_meaning : SoFar → List (List ℕ) → Result Switch ℕ
switch_meaning s (first ∷ name ∷ axis ∷ on ∷ off ∷ hyst ∷ []) =
    if says first (codes "switch") then switch_at s name axis (places_of on off hyst) else Err 3
switch_meaning s _ = Err 3

-- a line after the first adds a switch; there are 64 at most (K7)
unfoldable pub later_meaning : SoFar → List (List ℕ) → Result SoFar ℕ
later_meaning s words = do
  switch ← switch_meaning s words
  _ ← broken_unless (nat_lt (length s.switches) 64) 7
  Ok (record s { switches = s.switches ++ switch ∷ [] })

-- what a line means where a switch file stands
unfoldable pub meaning : Meaning SoFar
meaning s words = if s.begun then later_meaning s words else version_meaning s words

-- the switches at the end of the text, of which there is one at least (K7)
unfoldable pub ending : SoFar → Result (List Switch) ℕ
ending s = if length s.switches == 0 then Err 7 else Ok s.switches

-- a rule of a switch file is reported by the letter K
abbrev pub letter : ℕ
letter = 75

-- the switches that a text is for this machine, or the first line that breaks a rule and the first
-- rule that it breaks; a byte that no line may have breaks K1
unfoldable pub switches_of : Setup → List ℕ → Result (List Switch) TextRefused
switches_of s text = refused_by letter (reading_of meaning ending (opening s) text)

-- the answer is this reading: the switches, or the refusal; or memory ran out
abbrev pub ReadsBy : Result (List Switch) TextRefused → Result (List Switch) TextFault → Type 0
ReadsBy reading (Ok switches) = reading ≡ Ok switches
ReadsBy reading (Err (Refused r)) = reading ≡ Err r
ReadsBy reading (Err OutOfMemory) = Unit {0}
