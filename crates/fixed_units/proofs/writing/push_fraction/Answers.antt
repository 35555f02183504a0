use Rattle.std.proofs.Common.{◌++◌, ap, sym, ◌∙◌, append-nil}
use Rattle.fixed_units.proofs.Written.{fraction_text-zero, fraction_text-places, pushed-point}
use Rattle.fixed_units.proofs.writing.push_fraction.Goals as goal

-- zero is written as nothing
pub returns-then-billionths-eq0 : goal.returns-then-billionths-eq0
returns-then-billionths-eq0 c =
    sym (append-nil c.args.into.now)
    ∙ ap (λ l. c.args.into.now ++ l) (sym (fraction_text-zero c.args.billionths c.if-billionths-eq0.true))

-- the point stands before the significant places
pub returns : goal.returns
returns c =
    pushed-point _ _ _ _ _ c.push.ensures c.push_last_digits.ensures c.significant_places-number.ensures.digits
    ∙ ap (λ l. c.args.into.now ++ l) (sym (fraction_text-places c.args.billionths c.if-billionths-eq0.false))
