-- The first flaw of a header is one, and a header without one is that of a machine that may begin.
-- for: kernel_of
use Rattle.std.specs.Prelude.{◌≡◌, IfOk, Result, Ok, Err, Option, Some, None, List, [], ◌∷◌, ◌++◌}
use Rattle.std.proofs.Common.{◌∙◌, inl, inr, subst, sym}
use Rattle.motion_history.specs.Setup.{Setup}
use Rattle.motion_kernel.specs.Machine.{Machine}
use Rattle.motion_kernel.specs.declared.segment.Before.{Before}
use Rattle.motion_kernel.specs.kept.Machine.{IsMachineKept}
use Rattle.segment_check.specs.Begun.{MayBegin}
use Rattle.segment_check.specs.Flaws.{CountsFit, IsFirst, IsFlawOf, IsFree, flaws, machine_flaws}
use Rattle.segment_check.specs.declared.flaw.Flaw.{Flaw}
use Rattle.segment_check.specs.declared.flaw.Flaw.TheVariants as flaw
use Rattle.segment_text.specs.declared.trace_segment.TraceSegment.{TraceSegment}

-- there is one first flaw
one_first : (free : Flaw → Type 0) (fs : List Flaw) (a b : Option Flaw) → IsFirst free fs a →
    IsFirst free fs b → a ≡ b
one_first free [] a b h g = h ∙ sym g
one_first free (f ∷ fs) a b (inl h) (inl g) = one_first free fs a b h.1 g.1
one_first free (f ∷ fs) a b (inl h) (inr g) = absurd (g.0 h.0)
one_first free (f ∷ fs) a b (inr h) (inl g) = absurd (h.0 g.0)
one_first free (f ∷ fs) a b (inr h) (inr g) = h.1 ∙ sym g.1

pub one_flaw : (p : TraceSegment) (f g : Flaw) → IsFlawOf p (Some f) → IsFlawOf p (Some g) → f ≡ g
one_flaw p f g h k =
    let same = one_first (IsFree p.trace.config p.before p.machine) flaws (Some f) (Some g) h k in cc

-- some flaws and then others
pub found_among : (free : Flaw → Type 0) (fs gs : List Flaw) (f : Flaw) → IsFirst free fs (Some f) →
    IsFirst free (fs ++ gs) (Some f)
found_among free [] gs f h = absurd (cc)
found_among free (x ∷ fs) gs f (inl h) = inl (h.0, found_among free fs gs f h.1)
found_among free (x ∷ fs) gs f (inr h) = inr h

pub found_after : (free : Flaw → Type 0) (fs gs : List Flaw) (found : Option Flaw) →
    IsFirst free fs None → IsFirst free gs found → IsFirst free (fs ++ gs) found
found_after free [] gs found h g = g
found_after free (x ∷ fs) gs found (inl h) g = inl (h.0, found_after free fs gs found h.1 g)
found_after free (x ∷ fs) gs found (inr h) g = absurd (let bad = h.1 in cc)

-- all are free where none is found, and one is not where it is
abbrev AllFree : (Flaw → Type 0) → List Flaw → Type 0
AllFree free [] = Unit {0}
AllFree free (f ∷ fs) = free f × AllFree free fs

all_free : (free : Flaw → Type 0) (fs : List Flaw) → IsFirst free fs None → AllFree free fs
all_free free [] h = tt
all_free free (f ∷ fs) (inl h) = (h.0, all_free free fs h.1)
all_free free (f ∷ fs) (inr h) = absurd (let bad = h.1 in cc)

not_free : (free : Flaw → Type 0) (fs : List Flaw) (f : Flaw) → IsFirst free fs (Some f) →
    AllFree free fs → ⊥
not_free free [] f h all = cc
not_free free (x ∷ fs) f (inl h) all = not_free free fs f h.1 all.1
not_free free (x ∷ fs) f (inr h) all = h.0 all.0

pub may_without : (p : TraceSegment) → IsFlawOf p None → MayBegin p
may_without p h =
    let all = all_free (IsFree p.trace.config p.before p.machine) flaws h in
    let all_states = all.1.1.1.1.1.0 in
    let states = all_states.states in
    let orders = all.1.1.1.1.1.1.0 in
    record {
      counts = all.0;
      machine = all.1.0;
      owners = all.1.1.0;
      stands = record {
        commands = all.1.1.1.0;
        kinds = all.1.1.1.1.0;
        shown = states.shown;
        objects = record {
          axes = λ n l. record {
            command = states.moves n l;
            orders = orders n l;
            steered = all_states.steered n l;
          };
          groups = λ j l. record { line = states.lines j l };
        };
      };
      first = all.1.1.1.1.1.1.1.0;
    }

pub not_with : (p : TraceSegment) (f : Flaw) → IsFlawOf p (Some f) → MayBegin p → ⊥
not_with p f h may =
    let stands = may.stands in
    let objects = stands.objects in
    not_free (IsFree p.trace.config p.before p.machine) flaws f h (
      may.counts,
      (
        may.machine,
        (
          may.owners,
          (
            stands.commands,
            (
              stands.kinds,
              (
                record {
                  states = record {
                    shown = stands.shown;
                    moves = λ n l. (objects.axes n l).command;
                    lines = λ j l. (objects.groups j l).line;
                  };
                  steered = λ n l. (objects.axes n l).steered;
                },
                (λ n l. (objects.axes n l).orders, (may.first, tt)),
              ),
            ),
          ),
        ),
      ),
    )

-- the flaws of a machine alone
pub machine_kept : (s : Setup) (b : Before) (m : Machine) →
    IsFirst (IsFree s b m) machine_flaws None → IsMachineKept s m
machine_kept s b m h = (all_free (IsFree s b m) machine_flaws h).0

-- and then whether it is the one at opening
pub opening_told : {E : Type 0} (p : TraceSegment) (r : Result (Option Flaw) E) (s : Setup)
    (m : Machine) → s ≡ p.trace.config → m ≡ p.machine → CountsFit p.trace.config p.before →
    IsFirst (IsFree p.trace.config p.before p.machine) machine_flaws None →
    IfOk r (IsFirst (IsFree s p.before m) (flaw.Opening ∷ [])) → IfOk r (IsFlawOf p)
opening_told p (Ok found) s m config machine counts none h =
    let last : IsFirst (IsFree p.trace.config p.before p.machine) (flaw.Opening ∷ []) found =
    subst (λ x. IsFirst (IsFree p.trace.config p.before x) (flaw.Opening ∷ []) found) machine
    (subst (λ t. IsFirst (IsFree t p.before m) (flaw.Opening ∷ []) found) config h) in
    inl (
      counts,
      found_after (IsFree p.trace.config p.before p.machine) machine_flaws
          (flaw.Opening ∷ []) found none last,
    )
opening_told p (Err e) s m config machine counts none h = tt
