-- The bytes are digits where the word passes both tests.
use Rattle.std.proofs.Common.{◌∙◌, ◌-◌, arith}
use Rattle.trace_columns.proofs.WordLaws.{eight_are, eight_read}
use Rattle.trace_columns.proofs.eight.eight_digits.Goals as goal

pub returns-clause-digits : goal.returns-clause-digits
returns-clause-digits c =
    let z = eight_are c.args.a c.args.b c.args.c c.args.d c.args.e c.args.f c.args.g c.args.h c.from_le_bytes-word.result (omega arith) (omega arith) (omega arith) (omega arith) (omega arith) (omega arith) (omega arith) (omega arith) c.from_le_bytes-word.ensures
    (omega (arith, c.if-word-ne-ZEROS.false)) (omega (arith, c.if-digits-ne0.false)) in
    (eight_read c.args.a c.args.b c.args.c c.args.d c.args.e c.args.f c.args.g c.args.h z.0).0

pub returns-clause-value : goal.returns-clause-value
returns-clause-value c =
    let z = eight_are c.args.a c.args.b c.args.c c.args.d c.args.e c.args.f c.args.g c.args.h c.from_le_bytes-word.result (omega arith) (omega arith) (omega arith) (omega arith) (omega arith) (omega arith) (omega arith) (omega arith) c.from_le_bytes-word.ensures
    (omega (arith, c.if-word-ne-ZEROS.false)) (omega (arith, c.if-digits-ne0.false)) in
    c.value_of.ensures (c.args.a - 48) (c.args.b - 48) (c.args.c - 48) (c.args.d - 48) (c.args.e - 48) (c.args.f - 48) (c.args.g - 48) (c.args.h - 48) (omega (arith, z.0.0.high)) (omega (arith, z.0.1.0.high)) (omega (arith, z.0.1.1.0.high)) (omega (arith, z.0.1.1.1.0.high)) (omega (arith, z.0.1.1.1.1.0.high)) (omega (arith, z.0.1.1.1.1.1.0.high)) (omega (arith, z.0.1.1.1.1.1.1.0.high)) (omega (arith, z.0.1.1.1.1.1.1.1.0.high)) z.1 ∙ (eight_read c.args.a c.args.b c.args.c c.args.d c.args.e c.args.f c.args.g c.args.h z.0).1
