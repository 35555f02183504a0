-- One entry more.
use Rattle.std.proofs.Common.{◌≡◌, ℕ, ◌<◌, length, true, false, arith}
use Rattle.load_job.specs.Lines.{shows_done}
use Rattle.load_job.proofs.TallyLaws.{at-most-one, count-more}
use Rattle.load_job.proofs.counts.dones.Goals as goal

pub loop-place-preserved : goal.loop-place-preserved
loop-place-preserved c =
    let few = c.loop-place.invariant.few in
    let lt = c.loop-place-test.true in
    let all = c.entries-place-end.ensures in
    let within : c.loop-place.place < length c.args.history.now.entries = omega (arith, lt, all) in
    let b = c.shows_done.result in
    let one : ℕ = c.from-count.result in
    let yet : b ≡ true → one ≡ 1 = λ h. rw h at c.from-count.ensures in
    let not : b ≡ false → one ≡ 0 = λ h. rw h at c.from-count.ensures in
    let least = at-most-one b one yet not in
    record {
      count = count-more shows_done c.args.history.now.entries c.loop-place.place _ one b within
          c.shows_done.ensures c.loop-place.invariant.count yet not;
      few = omega (arith, few, least);
    }
