-- Types widen in order.
use Rattle.iec_values.proofs.Orders.{common, itself, least, none, onward}
use Rattle.iec_values.proofs.laws.types_widen_in_order.Goals as goal

pub returns : goal.returns
returns c = record {
  itself = itself;
  onward = onward;
  common = common;
  least = least;
  none = none;
}
