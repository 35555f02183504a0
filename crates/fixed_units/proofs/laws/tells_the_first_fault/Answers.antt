use Rattle.fixed_units.proofs.Spelled.{reading_of-not_number, reading_of-too_fine, reading_of-too_large}
use Rattle.fixed_units.proofs.laws.tells_the_first_fault.Goals as goal

pub returns : goal.returns
returns c = record { not_number = reading_of-not_number; too_fine = reading_of-too_fine; too_large = reading_of-too_large }
