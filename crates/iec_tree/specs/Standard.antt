-- The standard function blocks. IEC 61131-3.
use Rattle.std.specs.Prelude.{ℕ, codes, Option, List}
use Rattle.std.specs.List.{find}
use Rattle.std.specs.Str.{str_eq_ignore_ascii_case}
use Rattle.iec_tree.specs.declared.standard.Standard.{Standard}
use Rattle.iec_tree.specs.declared.standard.Standard.TheVariants as standard
use Rattle.iec_tree.specs.declared.standard.TheConstants.{STANDARD}

-- how each is written in capitals
unfoldable pub standard_text : Standard → List ℕ
standard_text standard.Ton = codes "TON"
standard_text standard.Tof = codes "TOF"
standard_text standard.Tp = codes "TP"
standard_text standard.RTrig = codes "R_TRIG"
standard_text standard.FTrig = codes "F_TRIG"
standard_text standard.Ctu = codes "CTU"
standard_text standard.Sr = codes "SR"
standard_text standard.Rs = codes "RS"

-- the one of this name, in any case of letters
unfoldable pub standard_named : List ℕ → Option Standard
standard_named name = find (λ s. str_eq_ignore_ascii_case (standard_text s) name) STANDARD
