-- The header after a trace segment, and what is said of a legal one.
-- for: check_trace_segment
use Rattle.std.specs.Prelude.{◌≡◌, refl, ℕ, IfOk, Result, Ok, Err, List, [], length}
use Rattle.std.proofs.Common.{Vec, Global, ◌∙◌, subst, sym}
use Rattle.motion_kernel.specs.Segments.{SegmentedState, IsEarly, after_segment, machine_now}
use Rattle.motion_kernel.specs.Machine.{Machine}
use Rattle.motion_kernel.specs.declared.segment.Before.{Before}
use Rattle.motion_kernel.specs.kept.Machine.{AreWhole}
use Rattle.segment_check.specs.Begun.{MayBegin, begun}
use Rattle.segment_check.specs.Verified.{IsFoundLegal}
use Rattle.segment_check.specs.Next.{IsHeaderBehind, ended}
use Rattle.segment_text.specs.Held.{HasMachineBits}
use Rattle.segment_text.specs.TraceSegment.{header_text}
use Rattle.segment_text.specs.declared.trace_segment.TraceSegment.{TraceSegment}
use Rattle.trace_check.specs.Outcomes.{IsReplayedFrom}
use Rattle.trace_check.specs.declared.replaying.Replayed.{Replayed}
use Rattle.trace_check.specs.declared.replaying.Replayed.TheVariants as replay
use Rattle.trace_text.specs.TraceState.{entries_of}

-- nothing is reported where the counts have no place in a header
pub none_told : (k : SegmentedState) (b : Before) → AreWhole k.config → HasMachineBits (machine_now k) → b ≡ after_segment k → (IsEarly b → ⊥) → IsHeaderBehind k []
none_told k b whole bits is late = record {
  whole = whole;
  bits = bits;
  told = λ early. absurd (late (subst IsEarly (sym is) early));
  none = λ n. refl;
}

-- else it is the header after the segment
pub header_told : {E : Type 0} (r : Result (Vec ℕ Global) E) (k : SegmentedState) (b : Before) (m : Machine) → AreWhole k.config → HasMachineBits m → b ≡ after_segment k → IsEarly b → m ≡ machine_now k →
    IfOk r (λ v. v.items ≡ header_text b m) → IfOk r (λ v. IsHeaderBehind k v.items)
header_told (Ok v) k b m whole bits is early machine h = record {
  whole = whole;
  bits = subst HasMachineBits machine bits;
  told = λ e. h ∙ (λ i. header_text (is i) (machine i));
  none = λ late. absurd (late (subst IsEarly is early));
}
header_told (Err e) k b m whole bits is early machine h = tt

-- the kernel of a replay began where the trace segment does
pub by_replay : (p : TraceSegment) (k : SegmentedState) (r : Replayed) → k ≡ begun p → IsReplayedFrom k.start p.trace r → IsReplayedFrom p.machine p.trace r
by_replay p k r is = subst (λ (x : SegmentedState). IsReplayedFrom x.start p.trace r) is

-- a trace segment that was found legal
pub found_legal : (p : TraceSegment) (k : SegmentedState) (n : ℕ) (header : List ℕ) → MayBegin p → IsReplayedFrom p.machine p.trace (replay.Legal k) → n ≡ length (entries_of p.trace) →
    k.before ≡ p.before → IsHeaderBehind k header → IsFoundLegal p n header
found_legal p k n header may told count before behind =
    let is = told.1 in
    let same : k ≡ ended p k.history = λ i. record { config = is.config i; before = before i; start = is.start i; history = k.history } in
    record {
      count = count;
      trace_segment = record { begins = may; trace = record { history = k.history; legal = is.legal; is = is.is } };
      same = told.0;
      next = record { history = k.history; legal = is.legal; is = is.is; header_is = subst (λ (x : SegmentedState). IsHeaderBehind x header) same behind };
    }
