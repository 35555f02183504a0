-- What is kept of the past: at opening, and where a segment is handed over.
-- for: open, hand_over, forget and others
use Rattle.std.specs.Prelude.{◌≡◌, refl, ℕ, ◌+◌, List, [], ◌∷◌, length}
use Rattle.std.proofs.Common.{◌∙◌, ap, arith, length-append, subst, sym}
use Rattle.std.proofs.lemmas.List.{length-map}
use Rattle.lasting_kernel.specs.Lasting.{HasPast, LastingState, after_hand_over, opened, whole_of}
use Rattle.motion_history.specs.Entries.{Entry, call, cycle, cycles_of, end_of}
use Rattle.motion_history.specs.Setup.{Setup}
use Rattle.motion_history.proofs.HistoryLemmas.{cycles_of-append}
use Rattle.motion_kernel.specs.Segments.{counted_on, machine_now}
use Rattle.motion_kernel.specs.Histories.{IsLegalFrom, IsPast, machine_from}
use Rattle.motion_kernel.specs.Machine.{machine_at_opening}

-- entries that are counted on are as many
counted-length : (n : ℕ) (es : List Entry) → length (counted_on n es) ≡ length es
unfolding counted_on
counted-length n es = length-map es _

-- and have as many cycles
counted-cycles : (n : ℕ) (es : List Entry) → cycles_of (counted_on n es) ≡ cycles_of es
unfolding counted_on
counted-cycles n [] = refl
counted-cycles n (call k inputs reply ∷ es) = ap (λ c. 0 + c) (counted-cycles n es)
counted-cycles n (cycle k rows grows ∷ es) = ap (λ c. 1 + c) (counted-cycles n es)
counted-cycles n (end_of task ∷ es) = ap (λ c. 0 + c) (counted-cycles n es)

-- nothing is the past of a kernel at opening
pub opened-has : (k : LastingState) (s : Setup) → k ≡ opened s → HasPast k
unfolding machine_from
opened-has k s e = subst HasPast (sym e) (record { past = record { follows = tt }; start = refl; entries = refl; cycles = refl })

-- the segment is legal from the machine to which the past leads
pub legal-behind : (k : LastingState) → HasPast k → IsLegalFrom k.kernel.config k.kernel.start k.kernel.history →
    IsLegalFrom k.kernel.config (machine_from k.kernel.config (machine_at_opening k.kernel.config) k.past) k.kernel.history
legal-behind k has = subst (λ m. IsLegalFrom k.kernel.config m k.kernel.history) has.start

-- the machine is that to which all entries lead, where segments join
pub machine-behind : (k : LastingState) → HasPast k →
    machine_from k.kernel.config (machine_at_opening k.kernel.config) (whole_of k)
    ≡ machine_from k.kernel.config (machine_from k.kernel.config (machine_at_opening k.kernel.config) k.past) k.kernel.history →
    machine_now k.kernel ≡ machine_from k.kernel.config (machine_at_opening k.kernel.config) (whole_of k)
machine-behind k has join = ap (λ m. machine_from k.kernel.config m k.kernel.history) has.start ∙ sym join

-- all entries so far are the past of a kernel that gave its segment out
pub hand-over-has : (k : LastingState) → HasPast k → IsPast k.kernel.config (whole_of k) →
    machine_now k.kernel ≡ machine_from k.kernel.config (machine_at_opening k.kernel.config) (whole_of k) → HasPast (after_hand_over k)
hand-over-has k has past machine = record {
  past = past;
  start = machine;
  entries =
      let a = has.entries in
      let b = length-append k.past (counted_on (cycles_of k.past) k.kernel.history) in
      let c = counted-length (cycles_of k.past) k.kernel.history in
      omega (arith, a, b, c);
  cycles =
      let a = has.cycles in
      let b = cycles_of-append k.past (counted_on (cycles_of k.past) k.kernel.history) in
      let c = counted-cycles (cycles_of k.past) k.kernel.history in
      omega (arith, a, b, c);
}
