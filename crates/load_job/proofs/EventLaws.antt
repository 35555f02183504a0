-- How many events the lines of a load have.
-- for: run_load
use Rattle.std.specs.Prelude.{◌≡◌, refl, ℕ, zero, suc, ◌+◌, List, [], ◌∷◌, ◌++◌, length, replicate, sum_by}
use Rattle.std.specs.List.{flat_map}
use Rattle.std.proofs.Common.{arith}
use Rattle.std.proofs.lemmas.List.{length-append, length-replicate}
use Rattle.std.proofs.lemmas.List.Sums.{sum_by-cons}
use Rattle.bench_run.specs.Enough.{HasRoom}
use Rattle.bench_run.specs.Run.{Event, a_cycle, cycles_in, events_of}
use Rattle.bench_text.specs.declared.bench.BenchLine.{BenchLine}
use Rattle.bench_text.specs.declared.bench.BenchLine.TheVariants.{Call, Cycles, End}
use Rattle.load_job.specs.Counts.{LoadsFill, cycles_of, entries_of}
use Rattle.load_job.specs.Load.{generated_bench}

line-entries : (l : BenchLine) → length (events_of l) ≡ entries_of l
unfolding events_of
line-entries (Call k i) = refl
line-entries (Cycles n) = length-replicate n a_cycle
line-entries (End t) = refl

lines-entries : (ls : List BenchLine) → length (flat_map events_of ls) ≡ sum_by entries_of ls
lines-entries [] = refl
lines-entries (l ∷ ls) =
    let one = line-entries l in
    let more = lines-entries ls in
    let both = length-append (events_of l) (flat_map events_of ls) in
    let sum = sum_by-cons entries_of l ls in
    omega (arith, one, more, both, sum)

cycles-append : (es more : List Event) → cycles_in (es ++ more) ≡ cycles_in es + cycles_in more
cycles-append [] more = omega arith
cycles-append (e ∷ es) more = let h = cycles-append es more in omega (arith, h)

cycles-replicate : (n : ℕ) → cycles_in (replicate n a_cycle) ≡ n
cycles-replicate zero = refl
cycles-replicate (suc n) = let h = cycles-replicate n in omega (arith, h)

line-cycles : (l : BenchLine) → cycles_in (events_of l) ≡ cycles_of l
unfolding events_of
line-cycles (Call k i) = refl
line-cycles (Cycles n) = cycles-replicate n
line-cycles (End t) = refl

lines-cycles : (ls : List BenchLine) → cycles_in (flat_map events_of ls) ≡ sum_by cycles_of ls
lines-cycles [] = refl
lines-cycles (l ∷ ls) =
    let one = line-cycles l in
    let more = lines-cycles ls in
    let both = cycles-append (events_of l) (flat_map events_of ls) in
    let sum = sum_by-cons cycles_of l ls in
    omega (arith, one, more, both, sum)

-- there are room and cycles enough for a load
pub has-room : LoadsFill → (seed : ℕ) → HasRoom (generated_bench seed)
has-room fill seed =
    let is = fill seed in
    let entries = is.entries in
    let cycles = is.cycles in
    let n = lines-entries (generated_bench seed).lines in
    let m = lines-cycles (generated_bench seed).lines in
    record { room = omega (arith, entries, n); cycles = omega (arith, cycles, m) }

-- a load has an event for each entry
pub all-events : LoadsFill → (seed : ℕ) →
    length (flat_map events_of (generated_bench seed).lines) ≡ (generated_bench seed).config.entries
all-events fill seed =
    let is = fill seed in
    let entries = is.entries in
    let n = lines-entries (generated_bench seed).lines in
    omega (arith, n, entries)
