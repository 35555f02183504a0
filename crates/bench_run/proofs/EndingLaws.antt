-- A run ends early for its cause alone.
-- for: runs_end_for_their_cause
use Rattle.std.specs.Prelude.{◌≡◌, refl, ◌↔◌, ◌≤◌, ◌<◌, ◌-◌, ◌==◌, ◌&&◌, ℕ, true, false, Bool, if◌then◌else◌, Result, Ok, Err, List, [], ◌∷◌, length}
use Rattle.std.proofs.Common.{◌∙◌, inl, inr, sym, ap, subst, arith}
use Rattle.std.proofs.lemmas.Bool.{cases_lt, eqb-false, eqb-true}
use Rattle.motion_history.specs.Entries.{Entry, cycles_of}
use Rattle.motion_history.specs.Setup.{Setup}
use Rattle.bench_run.proofs.RunLaws.{ended-stays, made-by, made_all-append}
use Rattle.bench_run.specs.Endings.{EndsAt, IsFull, IsOver}
use Rattle.bench_run.specs.Run.{Event, Run, a_call, a_cycle, an_end, cycled, happened, is_cycle, made, made_all, room_for}
use Rattle.bench_run.specs.declared.bench.RunFault.{RunFault}
use Rattle.bench_run.specs.declared.bench.RunFault.TheVariants.{CyclesOver, HistoryFull}

-- why there is no room for an event
abbrev pub Reason : Setup → RunFault → Event → List Entry → Type 0
Reason s CyclesOver e h = IsOver s e h
Reason s HistoryFull e h = IsFull s e h

-- the same of whether it is a cycle
abbrev Why : Setup → List Entry → Bool → RunFault → Type 0
Why s h c CyclesOver = (c ≡ true) × (s.cycles ≤ cycles_of h)
Why s h c HistoryFull = (s.entries ≤ length h) × (c ≡ true → cycles_of h < s.cycles)

-- a cycle is left where the difference isn't 0
pub left : (n m : ℕ) → (n - m ≡ 0 → ⊥) → m < n
left n m f = elim (cases_lt m n) [
  | inl l ↦ l
  | inr l ↦ absurd (f (omega (arith, l)))
]

-- ---- by the room for an event

-- whether there is room for an event that is a cycle or isn't, where no cycle is left or one is,
-- and where the history is full or isn't
abbrev pub room_by : Bool → Bool → Bool → Result (Unit {0}) RunFault
room_by c over full =
    if c && over then Err CyclesOver else if full then Err HistoryFull else Ok tt

why-by : (s : Setup) (h : List Entry) (c over full : Bool) →
    over ≡ (s.cycles - cycles_of h == 0) → full ≡ (s.entries - length h == 0) → (f : RunFault) →
    room_by c over full ≡ Err f → Why s h c f
why-by s h true true full a b CyclesOver e =
    let zero = eqb-true (s.cycles - cycles_of h) 0 (sym a) in (refl, omega (arith, zero))
why-by s h true true full a b HistoryFull e = absurd (cc)
why-by s h true false true a b HistoryFull e =
    let zero = eqb-true (s.entries - length h) 0 (sym b) in
    let some = eqb-false (s.cycles - cycles_of h) 0 (sym a) in
    (omega (arith, zero), λ t. left s.cycles (cycles_of h) some)
why-by s h true false true a b CyclesOver e = absurd (cc)
why-by s h true false false a b f e = absurd (cc)
why-by s h false over true a b HistoryFull e =
    let zero = eqb-true (s.entries - length h) 0 (sym b) in
    (omega (arith, zero), λ t. absurd (let bad : false ≡ true = t in cc))
why-by s h false over true a b CyclesOver e = absurd (cc)
why-by s h false over false a b f e = absurd (cc)

why : (s : Setup) (h : List Entry) (c : Bool) (f : RunFault) → room_for s h c ≡ Err f → Why s h c f
unfolding room_for
why s h c f e = why-by s h c _ _ refl refl f e

none-by : (s : Setup) (h : List Entry) (c over full : Bool) →
    over ≡ (s.cycles - cycles_of h == 0) → full ≡ (s.entries - length h == 0) → (f : RunFault) →
    Why s h c f → room_by c over full ≡ Err f
none-by s h true true full a b CyclesOver w = refl
none-by s h true false full a b CyclesOver w =
    let some = eqb-false (s.cycles - cycles_of h) 0 (sym a) in
    absurd (some (let over = w.1 in omega (arith, over)))
none-by s h false over full a b CyclesOver w = absurd (let bad : false ≡ true = w.0 in cc)
none-by s h true true full a b HistoryFull w =
    let zero = eqb-true (s.cycles - cycles_of h) 0 (sym a) in
    let left = w.1 refl in absurd (omega (arith, zero, left))
none-by s h true false true a b HistoryFull w = refl
none-by s h true false false a b HistoryFull w =
    let some = eqb-false (s.entries - length h) 0 (sym b) in
    absurd (some (let full = w.0 in omega (arith, full)))
none-by s h false over true a b HistoryFull w = refl
none-by s h false over false a b HistoryFull w =
    let some = eqb-false (s.entries - length h) 0 (sym b) in
    absurd (some (let full = w.0 in omega (arith, full)))

none : (s : Setup) (h : List Entry) (c : Bool) (f : RunFault) → Why s h c f → room_for s h c ≡ Err f
unfolding room_for
none s h c f w = none-by s h c _ _ refl refl f w

-- ---- events that end a run

reason-of : (s : Setup) (f : RunFault) (e : Event) (h : List Entry) → Why s h (is_cycle e) f →
    Reason s f e h
reason-of s CyclesOver e h w = record { cycle = w.0; none_left = w.1 }
reason-of s HistoryFull e h w = record { full = w.0; cycle_left = w.1 }

why-of : (s : Setup) (f : RunFault) (e : Event) (h : List Entry) → Reason s f e h →
    Why s h (is_cycle e) f
why-of s CyclesOver e h x = (x.cycle, x.none_left)
why-of s HistoryFull e h x = (x.full, x.cycle_left)

-- an event is made, or it ends the run
pub ending-happened : (s : Setup) (e : Event) (r : Run) → (happened s e r).ending ≡ r.ending
unfolding cycled
ending-happened s (a_call k i) r = refl
ending-happened s a_cycle r = refl
ending-happened s (an_end t) r = refl

goes-by : (s : Setup) (e : Event) (r : Run) (w : Result (Unit {0}) RunFault) → r.ending ≡ Ok tt →
    w ≡ room_for s r.history (is_cycle e) → w ≡ Ok tt → (made s e r).ending ≡ Ok tt
goes-by s e r (Ok u) o h k =
    ap (λ (x : Run). x.ending) (sym (made-by s e r (Ok u) o h)) ∙ ending-happened s e r ∙ o
goes-by s e r (Err f) o h k = absurd (cc)

ends-by : (s : Setup) (e : Event) (r : Run) (f : RunFault) → r.ending ≡ Ok tt →
    room_for s r.history (is_cycle e) ≡ Err f → (made s e r).ending ≡ Err f
ends-by s e r f o h = ap (λ (x : Run). x.ending) (sym (made-by s e r (Err f) o (sym h)))

-- one event more in front
in-front : (s : Setup) (e : Event) (es : List Event) (r : Run) (f : RunFault) →
    EndsAt s (made s e r) es (Reason s f) → EndsAt s r (e ∷ es) (Reason s f)
unfolding made_all
in-front s e es r f x = record {
  before = e ∷ x.before;
  event = x.event;
  more = x.more;
  split = ap (λ l. e ∷ l) x.split;
  made = x.made;
  reason = x.reason;
}

same-fault : (r : Result (Unit {0}) RunFault) (f g : RunFault) → r ≡ Err f → r ≡ Err g → f ≡ g
same-fault r f g a b = let same : Err f ≡ Err g = sym a ∙ b in cc

-- the first event is made, and the others end the run; or it ends it
one-ends : (s : Setup) (e : Event) (es : List Event) (r : Run) (f : RunFault) → r.ending ≡ Ok tt →
    (w : Result (Unit {0}) RunFault) → room_for s r.history (is_cycle e) ≡ w →
    ((made s e r).ending ≡ Ok tt → EndsAt s (made s e r) es (Reason s f)) →
    (made_all s es (made s e r)).ending ≡ Err f → EndsAt s r (e ∷ es) (Reason s f)
unfolding made_all
one-ends s e es r f o (Ok u) is rest h =
    in-front s e es r f (rest (goes-by s e r (Ok u) o (sym is) refl))
one-ends s e es r f o (Err g) is rest h =
    let ended = ends-by s e r g o is in
    let same : g ≡ f = same-fault (made s e r).ending g f ended
    (ap (λ (x : Run). x.ending) (sym (ended-stays s es (made s e r) g ended)) ∙ h) in
    record {
      before = [];
      event = e;
      more = es;
      split = refl;
      made = o;
      reason = reason-of s f e r.history (subst (Why s r.history (is_cycle e)) same
          (why s r.history (is_cycle e) g is));
    }

ends-at : (s : Setup) (es : List Event) (r : Run) (f : RunFault) → r.ending ≡ Ok tt →
    (made_all s es r).ending ≡ Err f → EndsAt s r es (Reason s f)
unfolding made_all
ends-at s [] r f o h = let bad : Ok tt ≡ Err f = sym o ∙ h in absurd (cc)
ends-at s (e ∷ es) r f o h =
    one-ends s e es r f o (room_for s r.history (is_cycle e)) refl
    (λ k. ends-at s es (made s e r) f k h) h

ends-behind : (s : Setup) (e : Event) (more : List Event) (r : Run) (f : RunFault) →
    r.ending ≡ Ok tt → Reason s f e r.history → (made_all s (e ∷ more) r).ending ≡ Err f
unfolding made_all
ends-behind s e more r f o x =
    let ended = ends-by s e r f o
    (none s r.history (is_cycle e) f (why-of s f e r.history x)) in
    ap (λ (y : Run). y.ending) (ended-stays s more (made s e r) f ended) ∙ ended

ends-there : (s : Setup) (es : List Event) (r : Run) (f : RunFault) →
    EndsAt s r es (Reason s f) → (made_all s es r).ending ≡ Err f
ends-there s es r f x =
    ap (λ l. (made_all s l r).ending) x.split
    ∙ ap (λ (y : Run). y.ending) (made_all-append s x.before (x.event ∷ x.more) r)
    ∙ ends-behind s x.event x.more (made_all s x.before r) f x.made x.reason

pub ends-exactly : (s : Setup) (es : List Event) (r : Run) (f : RunFault) → r.ending ≡ Ok tt →
    ((made_all s es r).ending ≡ Err f) ↔ EndsAt s r es (Reason s f)
ends-exactly s es r f o = (ends-at s es r f o, ends-there s es r f)
