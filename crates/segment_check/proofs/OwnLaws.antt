-- A kernel's own segments may begin.
-- for: segments_of_kernels_may_begin
use Rattle.std.specs.Prelude.{◌≡◌, refl, ℕ, suc, ◌+◌, ◌*◌, ◌≤◌, List, [], ◌∷◌, length}
use Rattle.std.proofs.Common.{arith, ap, sym, subst, ◌∙◌}
use Rattle.motion_history.specs.Entries.{Entry, call, cycle, cycle_count, cycles_of, end_of}
use Rattle.motion_history.specs.Setup.{IsSetup, Setup}
use Rattle.motion_kernel.specs.Histories.{IsLegalFrom, machine_from}
use Rattle.motion_kernel.specs.Machine.{Machine, machine_at_opening}
use Rattle.motion_kernel.specs.Segments.{IsEarly, after_segment, machine_now, nothing_before}
use Rattle.motion_kernel.specs.declared.segment.Before.{Before}
use Rattle.motion_kernel.specs.kept.Machine.{AreWhole}
use Rattle.motion_laws.proofs.owners.Holders.{have_blocks}
use Rattle.motion_laws.specs.Standing.{IsStanding}
use Rattle.segment_check.specs.Begun.{MayBegin}
use Rattle.segment_check.specs.Flaws.{CountsFit, IsFirstOrLater}
use Rattle.segment_check.specs.Next.{ended}
use Rattle.segment_check.specs.Own.{FirstMayBegin, IsNext, NextMayBegin}
use Rattle.segment_text.specs.TraceSegment.{header_text}
use Rattle.segment_text.specs.declared.trace_segment.TraceSegment.{TraceSegment}

-- of motion_laws' machines_can_stand
pub record MachinesCanStand : Type 0 where
  pub opened : (s : Setup) → IsSetup s → AreWhole s → IsStanding s (machine_at_opening s)
  pub segment : (s : Setup) (m : Machine) (es : List Entry) → AreWhole s → IsStanding s m →
      IsLegalFrom s m es → IsStanding s (machine_from s m es)

-- each cycle is an entry
cycles_few : (es : List Entry) → cycles_of es ≤ length es
cycles_few [] = omega arith
cycles_few (call k i reply ∷ es) = let more = cycles_few es in omega arith
cycles_few (cycle n rows groups ∷ es) = let more = cycles_few es in omega arith
cycles_few (end_of task ∷ es) = let more = cycles_few es in omega arith

-- a machine that stands may begin where the counts fit
begins : (p : TraceSegment) → CountsFit p.trace.config p.before → IsStanding p.trace.config p.machine →
    IsFirstOrLater p.trace.config p.before p.machine → MayBegin p
begins p counts standing first =
    let shown = standing.stands.commands in
    record {
      counts = counts;
      machine = standing.kept;
      owners = have_blocks p.trace.config p.machine shown.commands shown.holders;
      stands = standing.stands;
      first = first;
    }

nothing_fits : (s : Setup) → CountsFit s nothing_before
nothing_fits s = record {
  early = record { segments = omega arith; entries = omega arith; cycles = omega arith };
  entries = omega arith;
  room = omega arith;
  cycles = omega arith;
}

pub first_begins : MachinesCanStand → FirstMayBegin
first_begins laws p setup whole before machine =
    begins p (subst (CountsFit p.trace.config) (sym before) (nothing_fits p.trace.config))
    (subst (IsStanding p.trace.config) (sym machine) (laws.opened p.trace.config setup whole))
    (λ none. λ i. header_text (before i) (machine i))

-- the counts after a segment
counts_after : (s : Setup) (b : Before) (es : List Entry) → CountsFit s b → length es ≤ s.entries →
    cycles_of es ≤ s.cycles → IsEarly (record {
      segments = b.segments + 1;
      entries = b.entries + length es;
      cycles = b.cycles + cycles_of es;
    }) → CountsFit s (record {
      segments = b.segments + 1;
      entries = b.entries + length es;
      cycles = b.cycles + cycles_of es;
    })
counts_after s b es h entries cycles early =
    let few = cycles_few es in
    let one = h.entries in
    let two = h.room in
    let three = h.cycles in
    record { early = early; entries = omega arith; room = omega arith; cycles = omega arith }

pub next_begins : MachinesCanStand → NextMayBegin
next_begins laws p q es whole may n =
    let s = p.trace.config in
    let legal = n.legal in
    let counts = counts_after s p.before es may.counts legal.entries legal.cycles n.early in
    let standing = laws.segment s p.machine es whole
    (record { kept = may.machine; stands = may.stands }) legal in
    let config = sym n.config in
    begins q (subst (CountsFit q.trace.config) (sym n.before)
    (subst (λ t. CountsFit t (after_segment (ended p es))) config counts))
    (subst (IsStanding q.trace.config) (sym n.machine)
    (subst (λ t. IsStanding t (machine_now (ended p es))) config standing))
    (λ none. absurd (let later = ap (λ (b : Before). b.segments) n.before in omega arith))
