-- The table's value.
use Rattle.std.proofs.Common.{◌≤◌, subst, sym, arith}
use Rattle.trace_columns.proofs.HexLaws.{digit_most, digit_value}
use Rattle.trace_columns.proofs.word.hex_digit_of.Goals as goal

pub returns-clause-value : goal.returns-clause-value
returns-clause-value c = digit_value c.args.digit (omega arith)

pub returns-clause-most : goal.returns-clause-most
returns-clause-most c = subst (λ n. n ≤ 65536) (sym (digit_value c.args.digit (omega arith))) (digit_most c.args.digit)
