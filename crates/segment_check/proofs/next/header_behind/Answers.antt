-- The header after the segment, where there is one.
use Rattle.std.proofs.Common.{◌∙◌, ap, subst, sym}
use Rattle.motion_kernel.specs.Segments.{SegmentedState}
use Rattle.segment_check.specs.Next.{IsHeaderBehind}
use Rattle.segment_text.specs.Held.{HasMachineBits}
use Rattle.segment_check.proofs.Heads.{header_told, none_told}
use Rattle.segment_check.proofs.next.header_behind.Goals as goal

pub returns-then-not-is_early : goal.returns-then-not-is_early
returns-then-not-is_early c =
    let next = c.before-next.ensures ∙ ap (λ (k : SegmentedState). k.before) c.swap.ensures.kernel in
    let machine = c.start.ensures.machine ∙ ap (λ (k : SegmentedState). k.start) c.swap.ensures.kernel in
    let none = none_told c.args.kernel c.before-next.result c.history.ensures.whole (subst HasMachineBits machine c.numbers_have_bits.ensures) next
    (λ early. let failed = c.if-not-is_early.true in let yes = c.is_early.ensures.1 early in absurd (cc)) in
    subst (IsHeaderBehind c.args.kernel) (sym c.new.ensures.items) none

pub returns : goal.returns
returns c =
    let next = c.before-next.ensures ∙ ap (λ (k : SegmentedState). k.before) c.swap.ensures.kernel in
    let machine = c.start.ensures.machine ∙ ap (λ (k : SegmentedState). k.start) c.swap.ensures.kernel in
    let other = c.start-2.ensures.machine ∙ ap (λ (k : SegmentedState). k.start) c.swap.ensures.kernel in
    header_told c.header_text.result c.args.kernel c.before-next.result c.start-2.result.now c.history.ensures.whole
    (subst HasMachineBits (machine ∙ sym other) c.numbers_have_bits.ensures) next
    (c.is_early.ensures.0 c.if-not-is_early.false) other c.header_text.ensures
