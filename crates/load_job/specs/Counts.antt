-- How many entries and cycles a load makes. This project's profile.
use Rattle.std.specs.Prelude.{◌≡◌, ℕ, sum_by}
use Rattle.bench_text.specs.BenchState.{BenchState}
use Rattle.bench_text.specs.declared.bench.BenchLine.{BenchLine}
use Rattle.bench_text.specs.declared.bench.BenchLine.TheVariants.{Call, Cycles, End}
use Rattle.load_job.specs.Load.{generated_bench}

-- how many entries a line makes: each cycle is one
abbrev pub entries_of : BenchLine → ℕ
entries_of (Call k i) = 1
entries_of (Cycles n) = n
entries_of (End t) = 1

-- how many cycles a line makes
abbrev pub cycles_of : BenchLine → ℕ
cycles_of (Call k i) = 0
cycles_of (Cycles n) = n
cycles_of (End t) = 0

-- the lines of a bench make as many entries and cycles as its machine has room for
pub record FillsItsRoom (b : BenchState) : Type 0 where
  pub entries : sum_by entries_of b.lines ≡ b.config.entries
  pub cycles : sum_by cycles_of b.lines ≡ b.config.cycles

-- each generated bench fills its room: 14,001 entries and 10,000 cycles
abbrev pub LoadsFill : Type 0
LoadsFill = (seed : ℕ) → FillsItsRoom (generated_bench seed)
