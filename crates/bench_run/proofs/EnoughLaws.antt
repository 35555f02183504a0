-- Events for which there is room are made, each in an entry.
-- for: room_is_enough
use Rattle.std.specs.Prelude.{◌≡◌, refl, ℕ, suc, ◌+◌, ◌-◌, ◌≤◌, ◌<◌, ◌==◌, if◌then◌else◌, Bool, false, Result, Ok, Err, List, [], ◌∷◌, length}
use Rattle.std.proofs.Common.{◌∙◌, sym, ap, arith}
use Rattle.std.proofs.lemmas.Bool.{eqb-true, false_from_ne_true}
use Rattle.std.proofs.lemmas.List.{length_push}
use Rattle.bench_text.specs.BenchState.{BenchState}
use Rattle.motion_history.specs.Entries.{CyclesAddUp, Entry, cycles_of}
use Rattle.motion_history.specs.Setup.{Setup}
use Rattle.bench_run.proofs.RunLaws.{ended-stays, made-by}
use Rattle.bench_run.specs.Enough.{HasRoom}
use Rattle.bench_run.specs.Run.{Event, Run, a_call, a_cycle, an_end, cycled, cycles_in, events_in, happened, is_cycle, made, made_all, room_for, run_at_opening, run_of, tried}
use Rattle.bench_run.specs.declared.bench.RunFault.{RunFault}
use Rattle.bench_run.proofs.EndingLaws.{ending-happened}

length-happened : (s : Setup) (e : Event) (r : Run) →
    length (happened s e r).history ≡ length r.history + 1
unfolding cycled
length-happened s (a_call k i) r = length_push r.history _
length-happened s a_cycle r = length_push r.history _
length-happened s (an_end t) r = length_push r.history _

cycles-happened : CyclesAddUp → (s : Setup) (e : Event) (r : Run) →
    cycles_of (happened s e r).history ≡ cycles_of r.history + (if is_cycle e then 1 else 0)
unfolding cycled
cycles-happened add s (a_call k i) r = add r.history _
cycles-happened add s a_cycle r = add r.history _
cycles-happened add s (an_end t) r = add r.history _

not_none : (n m : ℕ) → m < n → (n - m == 0) ≡ false
not_none n m l = false_from_ne_true (n - m == 0) (λ h. let e = eqb-true (n - m) 0 h in omega (arith, e))

-- there is room for an event
has-room : (s : Setup) (es : List Entry) (e : Event) → length es < s.entries →
    cycles_of es + (if is_cycle e then 1 else 0) ≤ s.cycles → room_for s es (is_cycle e) ≡ Ok tt
unfolding room_for
has-room s es (a_call k i) l c = rw (not_none s.entries (length es) l) refl
has-room s es a_cycle l c =
    rw (not_none s.cycles (cycles_of es) (omega (arith, c)), not_none s.entries (length es) l) refl
has-room s es (an_end t) l c = rw (not_none s.entries (length es) l) refl

made-is : (s : Setup) (e : Event) (r : Run) → r.ending ≡ Ok tt →
    room_for s r.history (is_cycle e) ≡ Ok tt → made s e r ≡ happened s e r
made-is s e r o h = sym (made-by s e r (Ok tt) o (sym h))

all-made : CyclesAddUp → (s : Setup) (es : List Event) (r : Run) → r.ending ≡ Ok tt →
    length r.history + length es ≤ s.entries → cycles_of r.history + cycles_in es ≤ s.cycles →
    (made_all s es r).ending ≡ Ok tt
unfolding made_all
all-made add s [] r o l c = o
all-made add s (e ∷ es) r o l c =
    let n = length-happened s e r in
    let m = cycles-happened add s e r in
    let one : ℕ = if is_cycle e then 1 else 0 in
    let is = made-is s e r o (has-room s r.history e (omega (arith, l)) (omega (arith, c))) in
    ap (λ x. (made_all s es x).ending) is
    ∙ all-made add s es (happened s e r) (ending-happened s e r ∙ o) (omega (arith, l, n))
    (omega (arith, c, m))

-- where there are room and cycles enough, all events of a bench are made
pub room-is-enough : CyclesAddUp → (b : BenchState) → HasRoom b → (run_of b).ending ≡ Ok tt
unfolding run_of
room-is-enough add b is =
    let room = is.room in
    let cycles = is.cycles in
    all-made add b.config (events_in b) (run_at_opening b) refl (omega (arith, room))
    (omega (arith, cycles))

-- that a run that goes on to its end by these events has an entry for each of them
abbrev CountsEntries : Setup → List Event → Type 0
CountsEntries s es = (r : Run) → r.ending ≡ Ok tt → (made_all s es r).ending ≡ Ok tt →
    length (made_all s es r).history ≡ length r.history + length es

one-counted : (s : Setup) (e : Event) (es : List Event) → CountsEntries s es → (r : Run) →
    (w : Result (Unit {0}) RunFault) → w ≡ room_for s r.history (is_cycle e) → r.ending ≡ Ok tt →
    (made_all s es (made s e r)).ending ≡ Ok tt →
    length (made_all s es (made s e r)).history ≡ length r.history + suc (length es)
one-counted s e es more r (Ok u) h o whole =
    let is : happened s e r ≡ made s e r = made-by s e r (Ok tt) o h in
    let on : (made_all s es (happened s e r)).ending ≡ Ok tt =
    ap (λ x. (made_all s es x).ending) is ∙ whole in
    let rest = more (happened s e r) (ending-happened s e r ∙ o) on in
    let one = length-happened s e r in
    ap (λ x. length (made_all s es x).history) (sym is) ∙ rest ∙ omega (arith, one)
one-counted s e es more r (Err f) h o whole =
    let is : tried s e r (Err f) ≡ made s e r = made-by s e r (Err f) o h in
    let stays = ended-stays s es (tried s e r (Err f)) f refl in
    let bad : Ok tt ≡ Err f =
    sym whole ∙ ap (λ x. (made_all s es x).ending) (sym is) ∙ ap (λ (x : Run). x.ending) stays in
    absurd (cc)

-- a run that went on to its end has an entry for each event
whole-length : (s : Setup) (es : List Event) → CountsEntries s es
unfolding made_all
whole-length s [] r o whole = omega arith
whole-length s (e ∷ es) r o whole =
    one-counted s e es (whole-length s es) r (room_for s r.history (is_cycle e)) refl o whole

-- a bench that was run to its end has an entry for each event
pub all-counted : (b : BenchState) → (run_of b).ending ≡ Ok tt →
    length (run_of b).history ≡ length (events_in b)
unfolding run_of
all-counted b whole =
    let all = whole-length b.config (events_in b) (run_at_opening b) refl whole in
    omega (arith, all)
