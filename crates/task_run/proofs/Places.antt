-- How places go on.
-- for: open, next, answered
use Rattle.std.proofs.Common.{◌≡◌, ℕ, ◌+◌, ◌<◌, ◌≤◌, zero, suc, true, false, Option, Some, None, List, [], ◌∷◌, ◌++◌, length, refl, sym, ◌∙◌, ap, subst, append_assoc, arith}
use Rattle.std.specs.Prelude.{slice_get}
use Rattle.std.specs.List.{AllByRecursion, list_all}
use Rattle.std.proofs.lemmas.List.{append-nil, length-append, nil_from_length}
use Rattle.plc_program.specs.Programs.{IsCounted, IsTask, repeating_after}
use Rattle.plc_program.specs.declared.program.Instruction.{Instruction}
use Rattle.plc_program.specs.declared.program.Instruction.TheVariants.{Call, Wait, Repeat, Again}
use Rattle.task_run.specs.Runs.{is_call_or_none, is_settled}
use Rattle.task_run.specs.Standing.{IsInside, IsOutside, Moves, Stands, StandsBy, is_plain}
use Rattle.task_run.specs.Written.{times, written_out}
use Rattle.task_run.specs.declared.place.Repetition.{Repetition}
use Rattle.task_run.specs.declared.place.ProgramPosition.{ProgramPosition}
use Rattle.task_run.proofs.Lists.{all-at, get-behind, get-first, head-of, length-push}
use Rattle.task_run.proofs.Writing.{join, one-plain, plain-first, plain-repeats, repeat-ends, repeated, repeats-join, times-more, times-nothing}

-- ---- which line a place stands before

-- the line of a place in a repeat
pub inside-line : (lines : List Instruction) (line : ℕ) (pass : Repetition) (p t : List Instruction) (s : IsInside lines line pass p t) →
    slice_get lines line ≡ slice_get (s.still ++ (Again ∷ s.behind)) 0
inside-line lines line pass p t s =
    let tail = s.still ++ (Again ∷ s.behind) in
    rw (s.split, s.line_is) (get-behind s.front (Repeat s.count ∷ (s.run ++ tail)) (suc (length s.run)) ∙ get-first s.run tail)

pub outside-line : (lines : List Instruction) (line : ℕ) (p t : List Instruction) (s : IsOutside lines line p t) → slice_get lines line ≡ slice_get s.back 0
outside-line lines line p t s = rw (s.split, s.line_is) (get-first s.front s.back)

-- at an `again` the body was run to its end
at-again : (still behind : List Instruction) → list_all is_plain still ≡ true → slice_get (still ++ (Again ∷ behind)) 0 ≡ Some Again → still ≡ []
at-again [] behind h at = refl
at-again (Call k i ∷ still) behind h at = absurd (cc)
at-again (Wait k flag ∷ still) behind h at = absurd (cc)
at-again (Repeat count ∷ still) behind h at = absurd (cc)
at-again (Again ∷ still) behind h at = absurd (cc)

-- the lines after plain ones
pub plain-back : (run still : List Instruction) → list_all is_plain (run ++ still) ≡ true → list_all is_plain still ≡ true
plain-back [] still h = h
plain-back (Call k i ∷ run) still h = plain-back run still h
plain-back (Wait k flag ∷ run) still h = plain-back run still h
plain-back (Repeat count ∷ run) still h = absurd (cc)
plain-back (Again ∷ run) still h = absurd (cc)

-- no repeat stands in a repeat
no-repeat : (still behind : List Instruction) (count : ℕ) → list_all is_plain still ≡ true → slice_get (still ++ (Again ∷ behind)) 0 ≡ Some (Repeat count) → {A : Type 0} → A
no-repeat [] behind count h at {A} = absurd (cc)
no-repeat (Call k i ∷ still) behind count h at {A} = absurd (cc)
no-repeat (Wait k flag ∷ still) behind count h at {A} = absurd (cc)
no-repeat (Repeat n ∷ still) behind count h at {A} = absurd (cc)
no-repeat (Again ∷ still) behind count h at {A} = absurd (cc)

-- ---- into a repeat

some-less : (n : ℕ) → 1 ≤ n → (left : ℕ) × (n ≡ suc left)
some-less zero h = absurd (omega arith)
some-less (suc n) h = (n, refl)

outside-entered : (lines : List Instruction) (line count : ℕ) (p t : List Instruction) → IsTask lines → slice_get lines line ≡ Some (Repeat count) → IsOutside lines line p t →
    IsInside lines (line + 1) (record { start = line; made = 0 }) p t
outside-entered lines line count p t task at s =
    let head = head-of s.back (Repeat count) (sym (outside-line lines line p t s) ∙ at) in
    let split : lines ≡ s.front ++ (Repeat count ∷ head.tail) = s.split ∙ ap (λ ls. s.front ++ ls) head.is in
    let whole : repeating_after false (s.front ++ (Repeat count ∷ head.tail)) ≡ Some false = subst (λ ls. repeating_after false ls ≡ Some false) split task.closed in
    let ends = repeat-ends head.tail (sym (repeats-join false false s.front (Repeat count ∷ head.tail) s.closed) ∙ whole) in
    let counted = all-at IsCounted s.front head.tail (Repeat count) (subst (λ ls. AllByRecursion IsCounted ls) split task.counted) in
    let less = some-less count counted.0 in
    let is_less = less.1 in
    let line_is = s.line_is in
    let back : s.back ≡ Repeat count ∷ (ends.body ++ (Again ∷ ends.behind)) = head.is ∙ ap (λ ls. Repeat count ∷ ls) ends.is in
    record {
      front = s.front;
      count = count;
      run = [];
      still = ends.body;
      behind = ends.behind;
      left = less.0;
      split = split ∙ ap (λ ls. s.front ++ (Repeat count ∷ ls)) ends.is;
      plain = ends.plain;
      closed = s.closed;
      start_is = s.line_is;
      line_is = omega (arith, line_is);
      counted = omega (arith, is_less);
      passed_is = s.passed_is ∙ sym (append-nil (written_out s.front));
      to_come_is = s.to_come_is ∙ ap written_out back ∙ repeated count ends.body ends.behind ends.plain
          ∙ ap (λ n. times n ends.body ++ written_out ends.behind) less.1 ∙ append_assoc ends.body (times less.0 ends.body) (written_out ends.behind);
    }

entered_by : (lines : List Instruction) (line : ℕ) (o : Option Repetition) (count : ℕ) (p t : List Instruction) → IsTask lines → slice_get lines line ≡ Some (Repeat count) →
    StandsBy lines line o p t → IsInside lines (line + 1) (record { start = line; made = 0 }) p t
entered_by lines line None count p t task at s = outside-entered lines line count p t task at s
entered_by lines line (Some pass) count p t task at s =
    no-repeat s.still s.behind count (plain-back s.run s.still s.plain) (sym (inside-line lines line pass p t s) ∙ at)

-- a place before a repeat goes on to its first line
pub entered : (lines : List Instruction) (place : ProgramPosition) (count : ℕ) → IsTask lines → slice_get lines place.line ≡ Some (Repeat count) →
    Moves lines place (record { line = place.line + 1; pass = Some (record { start = place.line; made = 0 }) })
entered lines place count task at p t s = entered_by lines place.line place.pass count p t task at s

-- ---- at the end of a repeat

-- no `again` stands outside a repeat
pub no-again : (lines : List Instruction) (line : ℕ) (p t : List Instruction) → IsTask lines → slice_get lines line ≡ Some Again → IsOutside lines line p t → {A : Type 0} → A
no-again lines line p t task at s {A} =
    let head = head-of s.back Again (sym (outside-line lines line p t s) ∙ at) in
    let split : lines ≡ s.front ++ (Again ∷ head.tail) = s.split ∙ ap (λ ls. s.front ++ ls) head.is in
    let whole : repeating_after false (s.front ++ (Again ∷ head.tail)) ≡ Some false = subst (λ ls. repeating_after false ls ≡ Some false) split task.closed in
    let e : None ≡ Some false = sym (repeats-join false false s.front (Again ∷ head.tail) s.closed) ∙ whole in
    absurd (cc)

nothing : written_out [] ≡ []
unfolding written_out
nothing = refl

-- a repeat whose lines are not run again: it has none, or they were run as often as they are
inside-left : (lines : List Instruction) (line : ℕ) (pass : Repetition) (p t : List Instruction) (s : IsInside lines line pass p t) → slice_get lines line ≡ Some Again →
    (times s.left s.run ≡ []) → (times s.count s.run ≡ times pass.made s.run ++ s.run) → IsOutside lines (line + 1) p t
inside-left lines line pass p t s at none all =
    let ended : s.still ≡ [] = at-again s.still s.behind (plain-back s.run s.still s.plain) (sym (inside-line lines line pass p t s) ∙ at) in
    let body : s.run ++ s.still ≡ s.run = ap (λ ls. s.run ++ ls) ended ∙ append-nil s.run in
    let plain : list_all is_plain s.run ≡ true = subst (λ ls. list_all is_plain ls ≡ true) body s.plain in
    let front = s.front ++ (Repeat s.count ∷ (s.run ++ (Again ∷ []))) in
    let split : lines ≡ front ++ s.behind =
    s.split ∙ ap (λ ls. s.front ++ (Repeat s.count ∷ (s.run ++ (ls ++ (Again ∷ s.behind))))) ended
    ∙ ap (λ ls. s.front ++ (Repeat s.count ∷ ls)) (sym (append_assoc s.run (Again ∷ []) s.behind))
    ∙ sym (append_assoc s.front (Repeat s.count ∷ (s.run ++ (Again ∷ []))) s.behind) in
    let long = length-append s.front (Repeat s.count ∷ (s.run ++ (Again ∷ []))) in
    let longer = length-push s.run Again in
    let line_is = s.line_is in
    let closed : repeating_after false front ≡ Some false =
    repeats-join false false s.front (Repeat s.count ∷ (s.run ++ (Again ∷ []))) s.closed ∙ plain-repeats true s.run (Again ∷ []) plain in
    let written : written_out front ≡ written_out s.front ++ (times s.count s.run ++ written_out []) =
    join s.front (Repeat s.count ∷ (s.run ++ (Again ∷ []))) s.closed ∙ ap (λ ls. written_out s.front ++ ls) (repeated s.count s.run [] plain) in
    let bare : times s.count s.run ++ written_out [] ≡ times pass.made s.run ++ s.run = ap (λ ls. times s.count s.run ++ ls) nothing ∙ append-nil (times s.count s.run) ∙ all in
    record {
      front = front;
      back = s.behind;
      split = split;
      line_is = omega (arith, line_is, long, longer);
      closed = closed;
      passed_is = s.passed_is ∙ ap (λ ls. written_out s.front ++ (times pass.made ls ++ s.run)) body ∙ sym (written ∙ ap (λ ls. written_out s.front ++ ls) bare);
      to_come_is = s.to_come_is ∙ ap (λ ls. ls ++ (times s.left (s.run ++ s.still) ++ written_out s.behind)) ended
          ∙ ap (λ ls. times s.left ls ++ written_out s.behind) body ∙ ap (λ ls. ls ++ written_out s.behind) none;
    }

-- its lines are none
pub left-empty : (lines : List Instruction) (line : ℕ) (pass : Repetition) → slice_get lines line ≡ Some Again → line ≡ pass.start + 1 → (p t : List Instruction) →
    IsInside lines line pass p t → IsOutside lines (line + 1) p t
left-empty lines line pass at first p t s =
    let start = s.start_is in
    let line_is = s.line_is in
    let few : length s.run ≡ 0 = omega (arith, start, line_is, first) in
    let none : s.run ≡ [] = nil_from_length s.run few in
    inside-left lines line pass p t s at (rw none (times-nothing s.left)) (rw none (times-nothing s.count ∙ sym (ap (λ ls. ls ++ []) (times-nothing pass.made))))

-- they were run as often as they are
pub left-counted : (lines : List Instruction) (line : ℕ) (pass : Repetition) (count : ℕ) → slice_get lines line ≡ Some Again → count ≤ pass.made + 1 →
    ((n : ℕ) → slice_get lines pass.start ≡ Some (Repeat n) → count ≡ n) → (p t : List Instruction) → IsInside lines line pass p t → IsOutside lines (line + 1) p t
left-counted lines line pass count at few is p t s =
    let here : slice_get lines pass.start ≡ Some (Repeat s.count) = rw (s.split, s.start_is) (get-first s.front _) in
    let same = is s.count here in
    let counted = s.counted in
    let none : s.left ≡ 0 = omega (arith, same, counted, few) in
    let all : s.count ≡ suc pass.made = omega (arith, counted, none) in
    inside-left lines line pass p t s at (rw none refl) (rw all (sym (times-more pass.made s.run)))

-- its lines are run once more
pub run-again : (lines : List Instruction) (line : ℕ) (pass : Repetition) (count : ℕ) → slice_get lines line ≡ Some Again → pass.made + 1 < count →
    ((n : ℕ) → slice_get lines pass.start ≡ Some (Repeat n) → count ≡ n) → (p t : List Instruction) → IsInside lines line pass p t →
    IsInside lines (pass.start + 1) (record { start = pass.start; made = pass.made + 1 }) p t
run-again lines line pass count at more is p t s =
    let here : slice_get lines pass.start ≡ Some (Repeat s.count) = rw (s.split, s.start_is) (get-first s.front _) in
    let same = is s.count here in
    let counted = s.counted in
    let some : 1 ≤ s.left = omega (arith, same, counted, more) in
    let less = some-less s.left some in
    let one = less.1 in
    let start = s.start_is in
    let ended : s.still ≡ [] = at-again s.still s.behind (plain-back s.run s.still s.plain) (sym (inside-line lines line pass p t s) ∙ at) in
    let body : s.run ++ s.still ≡ s.run = ap (λ ls. s.run ++ ls) ended ∙ append-nil s.run in
    let next : pass.made + 1 ≡ suc pass.made = omega arith in
    let again : times pass.made (s.run ++ s.still) ++ s.run ≡ times (pass.made + 1) s.run ++ [] =
    ap (λ ls. times pass.made ls ++ s.run) body ∙ times-more pass.made s.run ∙ ap (λ n. times n s.run) (sym next) ∙ sym (append-nil (times (pass.made + 1) s.run)) in
    record {
      front = s.front;
      count = s.count;
      run = [];
      still = s.run;
      behind = s.behind;
      left = less.0;
      split = s.split ∙ ap (λ ls. s.front ++ (Repeat s.count ∷ (s.run ++ (ls ++ (Again ∷ s.behind))))) ended;
      plain = subst (λ ls. list_all is_plain ls ≡ true) body s.plain;
      closed = s.closed;
      start_is = s.start_is;
      line_is = omega (arith, start);
      counted = omega (arith, counted, one);
      passed_is = s.passed_is ∙ ap (λ ls. written_out s.front ++ ls) again;
      to_come_is = s.to_come_is ∙ ap (λ ls. ls ++ (times s.left (s.run ++ s.still) ++ written_out s.behind)) ended
          ∙ ap (λ ls. times s.left ls ++ written_out s.behind) body ∙ ap (λ n. times n s.run ++ written_out s.behind) one
          ∙ append_assoc s.run (times less.0 s.run) (written_out s.behind);
    }

-- ---- after a line that makes calls

plain-one : (l : Instruction) → is_plain l ≡ true → repeating_after false (l ∷ []) ≡ Some false
plain-one (Call k i) h = refl
plain-one (Wait k flag) h = refl
plain-one (Repeat count) h = absurd (cc)
plain-one Again h = absurd (cc)

-- a line that makes calls is the first of those to come
record IsFirst (back : List Instruction) (l : Instruction) (t : List Instruction) : Type 0 where
  tail : List Instruction
  is : back ≡ l ∷ tail
  plain : is_plain l ≡ true
  others : t ≡ written_out tail

first-of : (back : List Instruction) (l : Instruction) (t : List Instruction) → is_call_or_none (slice_get back 0) ≡ true → l ∷ t ≡ written_out back → IsFirst back l t
unfolding written_out
first-of [] l t settled h = absurd (cc)
first-of (x ∷ xs) l t settled h =
    let e : l ∷ t ≡ x ∷ written_out xs = h ∙ plain-first x xs settled in
    let same : l ≡ x = cc in
    record {
      tail = xs;
      is = ap (λ y. y ∷ xs) (sym same);
      plain = subst (λ y. is_plain y ≡ true) (sym same) settled;
      others = cc;
    }

outside-moved : (lines : List Instruction) (line : ℕ) (p t : List Instruction) (l : Instruction) → is_settled lines line ≡ true → IsOutside lines line p (l ∷ t) →
    IsOutside lines (line + 1) (p ++ l ∷ []) t
outside-moved lines line p t l settled s =
    let here = subst (λ o. is_call_or_none o ≡ true) (outside-line lines line p (l ∷ t) s) settled in
    let f = first-of s.back l t here s.to_come_is in
    let longer = length-push s.front l in
    let line_is = s.line_is in
    record {
      front = s.front ++ l ∷ [];
      back = f.tail;
      split = s.split ∙ ap (λ ls. s.front ++ ls) f.is ∙ sym (append_assoc s.front (l ∷ []) f.tail);
      line_is = omega (arith, line_is, longer);
      closed = repeats-join false false s.front (l ∷ []) s.closed ∙ plain-one l f.plain;
      passed_is = ap (λ ls. ls ++ l ∷ []) s.passed_is ∙ sym (join s.front (l ∷ []) s.closed ∙ ap (λ ls. written_out s.front ++ ls) (one-plain l f.plain));
      to_come_is = f.others;
    }

-- a line of a body that is to come
record IsNext (still : List Instruction) (l : Instruction) (t rest : List Instruction) : Type 0 where
  tail : List Instruction
  is : still ≡ l ∷ tail
  others : t ≡ tail ++ rest

next-of : (still behind rest : List Instruction) (l : Instruction) (t : List Instruction) → is_call_or_none (slice_get (still ++ (Again ∷ behind)) 0) ≡ true →
    l ∷ t ≡ still ++ rest → IsNext still l t rest
next-of [] behind rest l t settled h = absurd (cc)
next-of (x ∷ xs) behind rest l t settled h =
    let e : l ∷ t ≡ x ∷ (xs ++ rest) = h in
    let same : l ≡ x = cc in
    record { tail = xs; is = ap (λ y. y ∷ xs) (sym same); others = cc }

inside-moved : (lines : List Instruction) (line : ℕ) (pass : Repetition) (p t : List Instruction) (l : Instruction) → is_settled lines line ≡ true → IsInside lines line pass p (l ∷ t) →
    IsInside lines (line + 1) pass (p ++ l ∷ []) t
inside-moved lines line pass p t l settled s =
    let here = subst (λ o. is_call_or_none o ≡ true) (inside-line lines line pass p (l ∷ t) s) settled in
    let f = next-of s.still s.behind (times s.left (s.run ++ s.still) ++ written_out s.behind) l t here s.to_come_is in
    let body : s.run ++ s.still ≡ (s.run ++ l ∷ []) ++ f.tail = ap (λ ls. s.run ++ ls) f.is ∙ sym (append_assoc s.run (l ∷ []) f.tail) in
    let longer = length-push s.run l in
    let line_is = s.line_is in
    let split : s.run ++ (s.still ++ (Again ∷ s.behind)) ≡ (s.run ++ l ∷ []) ++ (f.tail ++ (Again ∷ s.behind)) =
    ap (λ ls. s.run ++ (ls ++ (Again ∷ s.behind))) f.is ∙ sym (append_assoc s.run (l ∷ []) (f.tail ++ (Again ∷ s.behind))) in
    let passed : (written_out s.front ++ (times pass.made (s.run ++ s.still) ++ s.run)) ++ l ∷ [] ≡
    written_out s.front ++ (times pass.made ((s.run ++ l ∷ []) ++ f.tail) ++ (s.run ++ l ∷ [])) =
    append_assoc (written_out s.front) (times pass.made (s.run ++ s.still) ++ s.run) (l ∷ [])
    ∙ ap (λ ls. written_out s.front ++ ls) (append_assoc (times pass.made (s.run ++ s.still)) s.run (l ∷ []))
    ∙ ap (λ ls. written_out s.front ++ (times pass.made ls ++ (s.run ++ l ∷ []))) body in
    record {
      front = s.front;
      count = s.count;
      run = s.run ++ l ∷ [];
      still = f.tail;
      behind = s.behind;
      left = s.left;
      split = s.split ∙ ap (λ ls. s.front ++ (Repeat s.count ∷ ls)) split;
      plain = subst (λ ls. list_all is_plain ls ≡ true) body s.plain;
      closed = s.closed;
      start_is = s.start_is;
      line_is = omega (arith, line_is, longer);
      counted = s.counted;
      passed_is = ap (λ ls. ls ++ l ∷ []) s.passed_is ∙ passed;
      to_come_is = f.others ∙ ap (λ ls. f.tail ++ (times s.left ls ++ written_out s.behind)) body;
    }

moved_by : (lines : List Instruction) (line : ℕ) (o : Option Repetition) → is_settled lines line ≡ true → (p t : List Instruction) (l : Instruction) →
    StandsBy lines line o p (l ∷ t) → StandsBy lines (line + 1) o (p ++ l ∷ []) t
moved_by lines line None settled p t l s = outside-moved lines line p t l settled s
moved_by lines line (Some pass) settled p t l s = inside-moved lines line pass p t l settled s

-- after a line that makes calls it is passed
pub moved : (lines : List Instruction) (place : ProgramPosition) → is_settled lines place.line ≡ true → (p t : List Instruction) (l : Instruction) →
    Stands lines place p (l ∷ t) → Stands lines (record { line = place.line + 1; pass = place.pass }) (p ++ l ∷ []) t
moved lines place settled p t l s = moved_by lines place.line place.pass settled p t l s

-- ---- what is to come

-- before a line that makes calls it is the first to come
pub record IsBefore (to_come : List Instruction) (l : Instruction) : Type 0 where
  pub others : List Instruction
  pub is : to_come ≡ l ∷ others

inside-before : (still behind : List Instruction) (l : Instruction) → slice_get (still ++ (Again ∷ behind)) 0 ≡ Some l → is_plain l ≡ true → (t rest : List Instruction) → t ≡ still ++ rest → IsBefore t l
inside-before [] behind l at plain t rest is = let e : Again ≡ l = cc in let f : is_plain Again ≡ true = subst (λ y. is_plain y ≡ true) (sym e) plain in absurd (cc)
inside-before (x ∷ still) behind l at plain t rest is = let e : x ≡ l = cc in record { others = still ++ rest; is = is ∙ ap (λ y. y ∷ (still ++ rest)) e }

nothing-left : (back : List Instruction) → slice_get back 0 ≡ None → written_out back ≡ []
nothing-left [] at = nothing
nothing-left (x ∷ back) at = absurd (cc)

inside-ended : (still behind : List Instruction) → slice_get (still ++ (Again ∷ behind)) 0 ≡ None → {A : Type 0} → A
inside-ended [] behind at {A} = absurd (cc)
inside-ended (x ∷ still) behind at {A} = absurd (cc)

before_by : (lines : List Instruction) (line : ℕ) (o : Option Repetition) (l : Instruction) → slice_get lines line ≡ Some l → is_plain l ≡ true → (p t : List Instruction) →
    StandsBy lines line o p t → IsBefore t l
before_by lines line None l at plain p t s =
    let h = head-of s.back l (sym (outside-line lines line p t s) ∙ at) in
    record { others = written_out h.tail; is = s.to_come_is ∙ ap written_out h.is ∙ plain-first l h.tail plain }
before_by lines line (Some pass) l at plain p t s =
    inside-before s.still s.behind l (sym (inside-line lines line pass p t s) ∙ at) plain t (times s.left (s.run ++ s.still) ++ written_out s.behind) s.to_come_is

pub before : (lines : List Instruction) (place : ProgramPosition) (l : Instruction) → slice_get lines place.line ≡ Some l → is_plain l ≡ true → (p t : List Instruction) →
    Stands lines place p t → IsBefore t l
before lines place l at plain p t s = before_by lines place.line place.pass l at plain p t s

ended_by : (lines : List Instruction) (line : ℕ) (o : Option Repetition) → slice_get lines line ≡ None → (p t : List Instruction) → StandsBy lines line o p t → t ≡ []
ended_by lines line None at p t s = s.to_come_is ∙ nothing-left s.back (sym (outside-line lines line p t s) ∙ at)
ended_by lines line (Some pass) at p t s = inside-ended s.still s.behind (sym (inside-line lines line pass p t s) ∙ at)

-- after the last line nothing is to come
pub ended : (lines : List Instruction) (place : ProgramPosition) → slice_get lines place.line ≡ None → (p t : List Instruction) → Stands lines place p t → t ≡ []
ended lines place at p t s = ended_by lines place.line place.pass at p t s

-- ---- the first place

-- at the first line nothing is passed, and all is to come
pub at-first : (lines : List Instruction) → IsOutside lines 0 [] (written_out lines)
at-first lines = record {
  front = [];
  back = lines;
  split = refl;
  line_is = refl;
  closed = refl;
  passed_is = sym nothing;
  to_come_is = refl;
}

-- ---- the first line of a body

run-head : (run tail : List Instruction) → list_all is_plain run ≡ true → (length run ≡ 0 → ⊥) → is_call_or_none (slice_get (run ++ tail) 0) ≡ true
run-head [] tail h some = absurd (some refl)
run-head (Call k i ∷ run) tail h some = refl
run-head (Wait k flag ∷ run) tail h some = refl
run-head (Repeat count ∷ run) tail h some = absurd (cc)
run-head (Again ∷ run) tail h some = absurd (cc)

plain-front : (run still : List Instruction) → list_all is_plain (run ++ still) ≡ true → list_all is_plain run ≡ true
plain-front [] still h = refl
plain-front (Call k i ∷ run) still h = plain-front run still h
plain-front (Wait k flag ∷ run) still h = plain-front run still h
plain-front (Repeat count ∷ run) still h = absurd (cc)
plain-front (Again ∷ run) still h = absurd (cc)

-- it makes calls, where the body has a line before its `again`
pub first-settled : (lines : List Instruction) (line : ℕ) (pass : Repetition) → (line ≡ pass.start + 1 → ⊥) → (p t : List Instruction) → IsInside lines line pass p t →
    is_settled lines (pass.start + 1) ≡ true
first-settled lines line pass other p t s =
    let tail = s.still ++ (Again ∷ s.behind) in
    let here : slice_get lines (pass.start + 1) ≡ slice_get (s.run ++ tail) 0 = rw (s.split, s.start_is) (get-behind s.front (Repeat s.count ∷ (s.run ++ tail)) 1) in
    let start = s.start_is in
    let line_is = s.line_is in
    let some : length s.run ≡ 0 → ⊥ = λ none. other (omega (arith, start, line_is, none)) in
    subst (λ o. is_call_or_none o ≡ true) (sym here) (run-head s.run tail (plain-front s.run s.still s.plain) some)
