-- The bench is whole.
use Rattle.std.proofs.Common.{subst, sym}
use Rattle.bench_text.specs.SoFar.{SoFar}
use Rattle.bench_text.specs.UnderWay.{IsSoFar}
use Rattle.bench_text.proofs.Kept.{bench-whole}
use Rattle.bench_text.proofs.reading.bench_of.Goals as goal

pub invariant_of-result : goal.invariant_of-result
invariant_of-result c =
    let P : SoFar → Type 0 = λ s. IsSoFar s in
    bench-whole _ c.in-Ok.config c.of.result (subst P (sym c.reader.view_is) c.requires) c.in-Ok.ensures.ok c.in-Ok.ensures.setup c.of.ensures
