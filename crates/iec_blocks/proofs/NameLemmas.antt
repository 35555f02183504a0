-- Each name of an input or output is read as that one.
-- for: names_are_read_back
use Rattle.std.proofs.Common.{refl}
use Rattle.iec_tree.specs.declared.standard.Standard.{Standard}
use Rattle.iec_tree.specs.declared.standard.Standard.TheVariants.{Ton, Tof, Tp, RTrig, FTrig, Ctu, Sr, Rs}
use Rattle.iec_blocks.specs.Inputs.{inputs_of, outputs_of, input_named, output_named}
use Rattle.iec_blocks.specs.Laws.{AreReadBack}

pub read_back : (s : Standard) → AreReadBack s
unfolding inputs_of outputs_of input_named output_named
read_back Ton = record { inputs = (refl, (refl, tt)); outputs = (refl, (refl, tt)) }
read_back Tof = record { inputs = (refl, (refl, tt)); outputs = (refl, (refl, tt)) }
read_back Tp = record { inputs = (refl, (refl, tt)); outputs = (refl, (refl, tt)) }
read_back RTrig = record { inputs = (refl, tt); outputs = (refl, tt) }
read_back FTrig = record { inputs = (refl, tt); outputs = (refl, tt) }
read_back Ctu = record { inputs = (refl, (refl, (refl, (refl, tt)))); outputs = (refl, (refl, tt)) }
read_back Sr = record { inputs = (refl, (refl, (refl, (refl, tt)))); outputs = (refl, tt) }
read_back Rs = record { inputs = (refl, (refl, (refl, (refl, tt)))); outputs = (refl, tt) }
