-- A drive that is read is one.
-- for: crates above
use Rattle.std.proofs.Common.{◌≡◌, ℤ, Ok, List, length, refl, subst}
use Rattle.std.specs.Prelude.{nat_le}
use Rattle.std.proofs.lemmas.Bool.{leb-true}
use Rattle.line_text.specs.Reading.{each_of}
use Rattle.line_text.specs.Rules.{broken_unless, in_range}
use Rattle.motion_history.specs.Drives.{IsDrive, rise_above}
use Rattle.motion_history.specs.declared.drives.DriveDef.{DriveDef}
use Rattle.machine_words.specs.Drives.{drive_in}
use Rattle.machine_words.specs.declared.rule.ItemRules.{ItemRules}
use Rattle.line_text.proofs.Results.{bind_ok, holds, in_range-within, ok_is}

-- a drive in its ranges
pub drive_in-is : (rules : ItemRules) (lag : ℤ) (faults : List ℤ) (d : DriveDef) → drive_in rules lag faults ≡ Ok d → IsDrive d
unfolding drive_in
drive_in-is rules lag faults d h =
    let few = bind_ok (in_range 0 64 rules.wrong lag) _ d h in
    let steps = bind_ok (each_of (in_range 1 4294967295 rules.wrong) faults) _ d few.2 in
    let rising = bind_ok (broken_unless (rise_above 0 steps.0) rules.wrong) _ d steps.2 in
    let room = bind_ok (broken_unless (nat_le (length steps.0) 1000) rules.too_many) _ d rising.2 in
    let t : DriveDef = record { lag = few.0; faults = steps.0 } in
    subst (λ q. IsDrive q) (ok_is (Ok t) t d refl room.2) (record {
      lag = (in_range-within 0 64 rules.wrong lag few.0 few.1).below;
      few = leb-true _ _ (holds (nat_le (length steps.0) 1000) rules.too_many room.0 room.1);
      rising = holds (rise_above 0 steps.0) rules.wrong rising.0 rising.1;
    })
