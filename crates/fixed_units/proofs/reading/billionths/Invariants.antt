use Rattle.std.proofs.Common.{◌≡◌, ◌<◌, ◌^◌, take}
use Rattle.std.specs.Str.Parse.{digits_value}
use Rattle.fixed_units.proofs.reading.billionths.Given as goal

-- the digits so far, and how large their number can be
abbrev pub invariant-loop-digit : goal.invariant-loop-digit
invariant-loop-digit l = record {
  value : l.digits ≡ digits_value 10 (take l.digit-index l.digit-items);
  bound : l.digits < 10 ^ l.digit-index;
}
