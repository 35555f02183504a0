-- One row more is found so.
use Rattle.std.proofs.Common.{◌≡◌, ◌<◌, ◌∙◌, length, sym, ap, arith}
use Rattle.std.specs.Prelude.{Some, false, slice_get, true}
use Rattle.trace_text.specs.TraceState.{place_at}
use Rattle.trace_check.proofs.RowLaws.{row-more, row-there}
use Rattle.trace_check.proofs.rows.wrong_row.Goals as goal
use Rattle.std.proofs.lemmas.Option.{slice_get-get_or, slice_get_within}

pub loop-i-preserved : goal.loop-i-preserved
loop-i-preserved c =
    let i = c.loop-i.i in
    let axes : c.axes-axes.result.now ≡ c.args.trace.now.config.axes = c.loop-i.invariant.axes in
    let long : i < length c.args.found.now = c.loop-i-test.true in
    let many = c.loop-i.invariant.many in
    let each = c.requires.each in
    let long-axes : i < length c.axes-axes.result.now = rw axes (omega (arith, each)) in
    let d-at : slice_get c.args.trace.now.config.axes i ≡ Some c.index-axes-i.result =
    rw (← axes) (slice_get-get_or c.axes-axes.result.now i c.index-axes-i.result long-axes ∙ ap Some (sym c.index-axes-i.is)) in
    record {
      same = row-more _ _ _ _ _ (place_at c.args.trace.now c.args.entry) i _ _ _ _
          (c.is_found_as.ensures.0 c.if-not-is_found_as.false) c.version.ensures c.actual_of-place.ensures
          d-at (slice_get-get_or c.args.expected.now i _ (omega (arith, many))) (slice_get-get_or c.args.found.now i _ long)
          c.loop-i.invariant.same;
      many = many;
      axes = axes;
    }

pub returns-clause-all : goal.returns-clause-all
returns-clause-all c = λ n d r row p q s.
    c.loop-i.invariant.same n (let l : n < length c.args.found.now = slice_get_within c.args.found.now n row s in omega (arith, l, c.loop-i-test.false)) d r row p q s

-- were the row found so, the comparison would have said it
pub returns-then-not-is_found_as-clause-wrong : goal.returns-then-not-is_found_as-clause-wrong
returns-then-not-is_found_as-clause-wrong c = λ e at.
    let i = c.loop-i.i in
    let axes : c.axes-axes.result.now ≡ c.args.trace.now.config.axes = c.loop-i.invariant.axes in
    let long : i < length c.args.found.now = c.loop-i-test.true in
    let each = c.requires.each in
    let long-axes : i < length c.axes-axes.result.now = rw axes (omega (arith, each)) in
    let d-at : slice_get c.args.trace.now.config.axes i ≡ Some c.index-axes-i.result =
    rw (← axes) (slice_get-get_or c.axes-axes.result.now i c.index-axes-i.result long-axes ∙ ap Some (sym c.index-axes-i.is)) in
    let yes : c.is_found_as.result ≡ true =
    c.is_found_as.ensures.1 (row-there _ _ _ _ _ (place_at c.args.trace.now c.args.entry) i _ _ _ _
    c.version.ensures c.actual_of-place.ensures d-at
    (slice_get-get_or c.args.expected.now i _ (omega (arith, e, long)))
    (slice_get-get_or c.args.found.now i _ long) at) in
    let bad : true ≡ false = sym yes ∙ c.if-not-is_found_as.true in cc
