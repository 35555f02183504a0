-- A change is kept by an axis that rests, that has the longest way, and that rounds.
use Rattle.std.proofs.Common.{arith}
use Rattle.linear_path.proofs.ShareLaws.{rate_of_rest, rate_of_longest, rate_of_change, change_at_rest}
use Rattle.linear_path.proofs.limits.greatest_change.Goals as goal

pub returns-then-way-eq0 : goal.returns-then-way-eq0
returns-then-way-eq0 c =
    rate_of_rest _ (λ b. change_at_rest c.args.way c.args.length c.args.most b (omega arith))

pub returns-then-way-length : goal.returns-then-way-length
returns-then-way-length c =
    rate_of_longest c.args.way c.args.length c.args.most (λ e. omega arith)
    (omega arith) c.requires.rate

pub returns : goal.returns
returns c =
    rate_of_change c.args.way c.args.length c.args.most c.greatest_rate.result (λ e. omega arith)
    (λ e. omega arith) c.requires.some c.requires.room c.greatest_rate.ensures.value
