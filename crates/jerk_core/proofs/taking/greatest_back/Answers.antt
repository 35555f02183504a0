-- Standing leaves a kept motion, and every speed that does is within the top.
use Rattle.std.proofs.Common.{◌≡◌, ℕ, ◌+◌, ◌≤◌, min, arith}
use Rattle.motion_numbers.specs.Run.{reach_of}
use Rattle.jerk_core.proofs.Nearest.{standing_left, left_within}
use Rattle.jerk_core.proofs.taking.greatest_back.Goals as goal

-- what is within all three bounds is within their least
within_top : (x a r bend most f m top : ℕ) → x ≤ min a r → x ≤ bend → x ≤ most → f ≡ min a r → m ≡ min f bend → top ≡ min m most → x ≤ top
within_top x a r bend most f m top h p q e i o = omega arith

pub greatest_left-requires-clause-left : goal.greatest_left-requires-clause-left
greatest_left-requires-clause-left g c = standing_left c.args.rates.now c.args.motion.now.behind c.requires.rates

pub returns-clause-greatest : goal.returns-clause-greatest
returns-clause-greatest g c = λ x left bends within.
    c.greatest_left.ensures.greatest x left
    (within_top x c.args.rates.now.a (reach_of c.args.rates.now.v c.args.rates.now.j) (c.args.motion.now.last + c.args.rates.now.j) c.args.most
    c.greatest_fall-fastest.result c.min.result c.min-top.result
    (left_within c.args.rates.now c.args.motion.now.behind x c.requires.rates left) bends within
    c.greatest_fall-fastest.ensures.value c.min.ensures c.min-top.ensures)
