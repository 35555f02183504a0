-- Numbers wrap, divide, end and round as their words say.
use Rattle.iec_tree.specs.declared.elementary.Elementary.TheVariants.{Lreal}
use Rattle.iec_values.proofs.Bounds.{nearest-held, nearest-near, nearest-stays}
use Rattle.iec_values.proofs.Division.{halves_away, quotient_zero, remainder_zero, toward_zero, within_half}
use Rattle.iec_values.proofs.Exact.{product-exact, quotient-exact}
use Rattle.iec_values.proofs.Wrapping.{differs-dint, differs-int, holds-dint, holds-int, stays-dint, stays-int}
use Rattle.iec_values.proofs.laws.numbers_are_exact.Goals as goal

pub returns : goal.returns
returns c = record {
  int = holds-int;
  int_differs = differs-int;
  dint = holds-dint;
  dint_differs = differs-dint;
  int_stays = stays-int;
  dint_stays = stays-dint;
  divided = toward_zero;
  quotient_by_zero = quotient_zero;
  remainder_by_zero = remainder_zero;
  ended = nearest-held;
  near = nearest-near;
  stays = nearest-stays;
  half = within_half;
  halves = halves_away;
  lreal_sum = λ a b h. nearest-stays Lreal _ h;
  lreal_difference = λ a b h. nearest-stays Lreal _ h;
  lreal_product = product-exact;
  lreal_quotient = quotient-exact;
}
