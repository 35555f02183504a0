-- What a task makes in its own turn: whole scans, or one that the end of the run cuts off.
-- for: tasks_make_their_scans
use Rattle.std.specs.Prelude.{◌≡◌, refl, ℕ, ℤ, zero, suc, ◌+◌, ◌-◌, ◌<◌, ◌≤◌, ◌⊎◌, Bool, true, false, not, if◌then◌else◌, Ok, Err, List, [], ◌∷◌, ◌++◌, length, slice_get}
use Rattle.std.proofs.Common.{◌∙◌, inl, inr, sym, ap, subst, arith}
use Rattle.std.proofs.lemmas.Bool.{cases_Bool}
use Rattle.std.proofs.lemmas.List.{append-nil, append_assoc, length-append, length_push}
use Rattle.bench_run.proofs.RunLaws.{made-ended}
use Rattle.bench_run.specs.Run.{Event, Run, a_call, an_end, happened, made}
use Rattle.bench_run.specs.declared.bench.RunFault.{RunFault}
use Rattle.plc_types.specs.declared.outputs.Outputs.{Outputs}
use Rattle.motion_history.specs.Entries.{Entry, call, end_of}
use Rattle.st_exec.specs.Laws.{AsksInOrder, asks_of}
use Rattle.st_exec.specs.Scan.{Asked, Course, HasAll, Over, Waits, Missing, Stand, scan_of}
use Rattle.st_tree.specs.declared.program.Task.{Task}
use Rattle.st_rounds.proofs.Kept.{scan-stays, turn-stays}
use Rattle.st_rounds.proofs.MadeLaws.{ends, goes, goes-or-ends}
use Rattle.st_rounds.proofs.OwnEntries.{call-own, end-own, entries-first, entries-more, none-replied, own-more}
use Rattle.st_rounds.proofs.ScanLaws.{item-behind, waiting-is-call}
use Rattle.st_rounds.specs.Cell.{Cell, TaskStand}
use Rattle.st_rounds.specs.Ready.{MakesCalls}
use Rattle.st_rounds.specs.Rounds.{Turn, called, is_last, made_by, reply_behind, scan_on, scanned, turn, with_call}
use Rattle.st_rounds.specs.TaskScans.{AreScans, IsMadeBy, end_if, entries_of, own_entries}

-- ---- what holds of a task

-- the task has made whole scans, and stands after them
pub record IsWhole (c : Cell) (n : ℕ) (t : Task) (r : Run) (d : TaskStand) : Type 0 where
  pub scans : List (List Outputs)
  pub are : AreScans c n t scans (own_entries c.setup n r.history) d

-- the run has ended
pub record HasEnded (c : Cell) (n : ℕ) (t : Task) (r : Run) : Type 0 where
  pub fault : RunFault
  pub ended : r.ending ≡ Err fault
  pub made : IsMadeBy c n t (own_entries c.setup n r.history)

-- the run goes on, and the task stands after whole scans; or it has ended
abbrev pub IsUp : Cell → ℕ → Task → Run → TaskStand → Type 0
IsUp c n t r d = ((r.ending ≡ Ok tt) × IsWhole c n t r d) ⊎ HasEnded c n t r

abbrev pub whole-made : (c : Cell) (n : ℕ) (t : Task) (r : Run) (d : TaskStand) → IsWhole c n t r d →
    IsMadeBy c n t (own_entries c.setup n r.history)
whole-made c n t r d w = record {
  scans = w.scans;
  whole = own_entries c.setup n r.history;
  stand = d;
  are = w.are;
  part = [];
  none = λ l. refl;
  entries = sym (ap (λ es. own_entries c.setup n r.history ++ es) (none-replied _)
      ∙ append-nil (own_entries c.setup n r.history));
}

-- an event that adds no entry of the task
pub other-event : (c : Cell) (n : ℕ) (t : Task) (e : Event) (r : Run) (d : TaskStand) →
    own_entries c.setup n (happened c.setup e r).history ≡ own_entries c.setup n r.history →
    IsUp c n t r d → IsUp c n t (made c.setup e r) d
other-event c n t e r d same (inr h) =
    inr (subst (HasEnded c n t) (sym (made-ended c.setup e r h.fault h.ended)) h)
other-event c n t e r d same (inl (ok, w)) = elim (goes-or-ends (made c.setup e r).ending) [
  | inl on ↦
      let is = (goes c.setup e r ok on).is in
      let own = ap (λ (x : Run). own_entries c.setup n x.history) is ∙ same in
      inl (
        on,
        record {
          scans = w.scans;
          are = subst (λ es. AreScans c n t w.scans es d) (sym own) w.are;
        },
      )
  | inr (f, ended) ↦ inr (record {
    fault = f;
    ended = ended;
    made = subst (λ h. IsMadeBy c n t (own_entries c.setup n h))
        (sym (ends c.setup e r f ok ended)) (whole-made c n t r d w);
  })
]

-- ---- a scan

-- a scan of the task is under way: its calls so far got these replies, one each
pub record InScan (c : Cell) (n : ℕ) (t : Task) (d : TaskStand) (got : List Outputs) (r : Run)
    : Type 0 where
  pub ok : r.ending ≡ Ok tt
  pub lives : d.lives ≡ true
  pub scans : List (List Outputs)
  pub whole : List Entry
  pub are : AreScans c n t scans whole d
  pub many : length got ≤
      length (asks_of (scan_of c.cycle_us t.body.items d.vars d.last got))
  pub entries : own_entries c.setup n r.history ≡ whole ++
      entries_of (asks_of (scan_of c.cycle_us t.body.items d.vars d.last got)) got

-- the run ended in the scan, without an entry more
cut-off : (c : Cell) (n : ℕ) (t : Task) (d : TaskStand) (got : List Outputs) (r r2 : Run)
    (f : RunFault) → InScan c n t d got r → r2.ending ≡ Err f → r2.history ≡ r.history →
    HasEnded c n t r2
cut-off c n t d got r r2 f is ended same = record {
  fault = f;
  ended = ended;
  made = record {
    scans = is.scans;
    whole = is.whole;
    stand = d;
    are = is.are;
    part = got;
    none = λ l. absurd (let bad : true ≡ false = sym is.lives ∙ l in cc);
    entries = ap (own_entries c.setup n) same ∙ is.entries;
  };
}

-- ---- the end of a scan

-- where a scan leaves a task
abbrev after : Task → Stand → TaskStand
after t left = record { vars = left.vars; last = left.last; lives = not (is_last t left) }

-- a scan that is over, with the task's end or not, is a whole one more
one-whole : (c : Cell) (n : ℕ) (t : Task) (d : TaskStand) (got : List Outputs) (r r2 : Run)
    (left : Stand) (last : Bool) → InScan c n t d got r →
    scan_of c.cycle_us t.body.items d.vars d.last got ≡ Over left →
    length left.calls ≡ length got → is_last t left ≡ last →
    own_entries c.setup n r2.history ≡ own_entries c.setup n r.history ++ end_if last n →
    IsWhole c n t r2 (after t left)
one-whole c n t d got r r2 left last is over each e own =
    let es = entries_of left.calls got in
    let so_far : own_entries c.setup n r.history ≡ is.whole ++ es =
    is.entries ∙ ap (λ x. is.whole ++ entries_of (asks_of x) got) over in
    record {
      scans = got ∷ is.scans;
      are = (
        is.whole,
        d,
        es ++ end_if (is_last t left) n,
        is.are,
        record {
          lives = is.lives;
          left = left;
          over = over;
          each = each;
          stand = refl;
          entries = refl;
        },
        own ∙ ap (λ x. x ++ end_if last n) so_far
            ∙ append_assoc is.whole es (end_if last n)
            ∙ ap (λ b. is.whole ++ (es ++ end_if b n)) (sym e),
      );
    }

-- the scan wasn't the last: nothing comes after it
goes-on-over : (c : Cell) (n : ℕ) (t : Task) (d : TaskStand) (got : List Outputs) (r : Run)
    (left : Stand) → InScan c n t d got r →
    scan_of c.cycle_us t.body.items d.vars d.last got ≡ Over left →
    length left.calls ≡ length got → is_last t left ≡ false → IsUp c n t r (after t left)
goes-on-over c n t d got r left is over each e =
    inl (
      is.ok,
      one-whole c n t d got r r left false is over each e
          (sym (append-nil (own_entries c.setup n r.history))),
    )

-- it was the last: the task's end comes after it, if there is room for it
ends-over : (c : Cell) (n : ℕ) (t : Task) (d : TaskStand) (got : List Outputs) (r : Run)
    (left : Stand) → InScan c n t d got r →
    scan_of c.cycle_us t.body.items d.vars d.last got ≡ Over left →
    length left.calls ≡ length got → is_last t left ≡ true →
    IsUp c n t (made c.setup (an_end n) r) (after t left)
ends-over c n t d got r left is over each e =
    elim (goes-or-ends (made c.setup (an_end n) r).ending) [
      | inl on ↦
          let made-is = (goes c.setup (an_end n) r is.ok on).is in
          inl (
            on,
            one-whole c n t d got r (made c.setup (an_end n) r) left true is over each e
                (ap (λ (x : Run). own_entries c.setup n x.history) made-is
                ∙ own-more c.setup n r.history (end_of n) (end-own c.setup n)),
          )
      | inr (f, ended) ↦
          inr (cut-off c n t d got r (made c.setup (an_end n) r) f is ended
          (ends c.setup (an_end n) r f is.ok ended))
    ]

over-up : (c : Cell) (n : ℕ) (t : Task) (d : TaskStand) (got : List Outputs) (r : Run)
    (left : Stand) → AsksInOrder c.cycle_us t.body.items → InScan c n t d got r →
    scan_of c.cycle_us t.body.items d.vars d.last got ≡ Over left →
    IsUp c n t (scanned c n t left r).run (scanned c n t left r).stand
over-up c n t d got r left order is over = elim (cases_Bool (is_last t left)) [
  | inl last ↦ subst (λ b. IsUp c n t (if b then made c.setup (an_end n) r else r) (after t left))
      (sym last) (ends-over c n t d got r left is over each last)
  | inr goes-on ↦ subst
      (λ b. IsUp c n t (if b then made c.setup (an_end n) r else r) (after t left)) (sym goes-on)
      (goes-on-over c n t d got r left is over each goes-on)
]
  where
    each : length left.calls ≡ length got
    each =
        let sum = order.over d.vars d.last got left over in
        let many : length got ≤ length left.calls =
        subst (λ x. length got ≤ length (asks_of x)) over is.many in
        omega (arith, sum, many)

-- ---- a call of a scan

-- the last of some calls, and those before it
pub record IsBehind (calls : List Asked) (k : ℕ) : Type 0 where
  pub before : List Asked
  pub last : Asked
  pub is : calls ≡ before ++ last ∷ []
  pub many : length before ≡ k

last-of : (calls : List Asked) (k : ℕ) → length calls ≡ k + 1 → IsBehind calls k
last-of [] k e = absurd (omega (arith, e))
last-of (a ∷ []) k e = record { before = []; last = a; is = refl; many = omega (arith, e) }
last-of (a ∷ b ∷ calls) zero e = absurd (omega (arith, e))
last-of (a ∷ b ∷ calls) (suc k) e =
    let rest = last-of (b ∷ calls) k (omega (arith, e)) in
    let many = rest.many in
    record {
      before = a ∷ rest.before;
      last = rest.last;
      is = ap (λ l. a ∷ l) rest.is;
      many = omega (arith, many);
    }

-- after a call that was made the scan goes on with its reply
called-in : (c : Cell) (n : ℕ) (t : Task) (d : TaskStand) (got : List Outputs) (r : Run)
    (before : List Asked) (a : Asked) → AsksInOrder c.cycle_us t.body.items →
    MakesCalls c.setup c.cycle_us n t → InScan c n t d got r →
    scan_of c.cycle_us t.body.items d.vars d.last got ≡ Waits (before ++ a ∷ []) →
    length before ≡ length got → (with_call c.setup a r).ending ≡ Ok tt →
    InScan c n t d (got ++ reply_behind c.setup r a ∷ []) (with_call c.setup a r)
called-in c n t d got r before a order makes is waits many on =
    let o = reply_behind c.setup r a in
    let one = call a.instance a.inputs o in
    let made-is = (goes c.setup (a_call a.instance a.inputs) r is.ok on).is in
    let own-call = waiting-is-call c.setup c.cycle_us n t d.vars d.last got before a makes waits in
    let first = order.first d.vars d.last got (o ∷ []) in
    let all : asks_of (scan_of c.cycle_us t.body.items d.vars d.last (got ++ o ∷ [])) ≡
    (before ++ a ∷ []) ++ first.others =
    first.is ∙ ap (λ x. asks_of x ++ first.others) waits in
    let so_far : own_entries c.setup n r.history ≡ is.whole ++ entries_of before got =
    is.entries ∙ ap (λ x. is.whole ++ entries_of (asks_of x) got) waits
    ∙ ap (λ es. is.whole ++ es) (entries-first before (a ∷ []) got many) in
    record {
      ok = on;
      lives = is.lives;
      scans = is.scans;
      whole = is.whole;
      are = is.are;
      many =
          let count = ap (λ l. length l) all
          ∙ length-append (before ++ a ∷ []) first.others in
          let mine = length-append before (a ∷ []) in
          let replies = length-append got (o ∷ []) in
          omega (arith, count, mine, replies, many);
      entries = ap (λ (x : Run). own_entries c.setup n x.history) made-is
          ∙ own-more c.setup n r.history one (call-own c.setup n a o own-call)
          ∙ ap (λ es. es ++ one ∷ []) so_far
          ∙ append_assoc is.whole (entries_of before got) (one ∷ [])
          ∙ ap (λ es. is.whole ++ es)
          (sym (entries-more before first.others a got o many)
          ∙ sym (ap (λ l. entries_of l (got ++ o ∷ [])) all));
    }

-- there is room for fewer entries more
fewer-left : (c : Cell) (a : Asked) (r : Run) (steps : ℕ) → r.ending ≡ Ok tt →
    (with_call c.setup a r).ending ≡ Ok tt → c.setup.entries - length r.history < suc steps →
    c.setup.entries - length (with_call c.setup a r).history < steps
fewer-left c a r steps ok on enough =
    let went = goes c.setup (a_call a.instance a.inputs) r ok on in
    let room = went.room in
    let more = ap (λ (x : Run). length x.history) went.is ∙ length_push r.history _ in
    omega (arith, room, more, enough)

-- ---- the whole turn

-- what a scan makes, from where it is under way
abbrev GoesUp : ℕ → Cell → ℕ → Task → TaskStand → Type 0
GoesUp steps c n t d = (got : List Outputs) (r : Run) → InScan c n t d got r →
    c.setup.entries - length r.history < steps →
    IsUp c n t (scan_on steps c n t d got r).run (scan_on steps c n t d got r).stand

waits-up : (steps : ℕ) (c : Cell) (n : ℕ) (t : Task) (d : TaskStand) (got : List Outputs)
    (r : Run) (calls : List Asked) → AsksInOrder c.cycle_us t.body.items →
    MakesCalls c.setup c.cycle_us n t → GoesUp steps c n t d → InScan c n t d got r →
    scan_of c.cycle_us t.body.items d.vars d.last got ≡ Waits calls →
    c.setup.entries - length r.history < suc steps →
    IsUp c n t (called c (scan_on steps c n t d) d got r (slice_get calls (length got))).run
    (called c (scan_on steps c n t d) d got r (slice_get calls (length got))).stand
waits-up steps c n t d got r calls order makes up is waits enough =
    subst (λ (x : Turn). IsUp c n t x.run x.stand) (sym asked) (by (goes-or-ends next.ending))
  where
    behind : IsBehind calls (length got)
    behind = last-of calls (length got) (order.waits d.vars d.last got calls waits)

    waits-last : scan_of c.cycle_us t.body.items d.vars d.last got ≡
        Waits (behind.before ++ behind.last ∷ [])
    waits-last = waits ∙ ap Waits behind.is

    next : Run
    next = with_call c.setup behind.last r

    asked : called c (scan_on steps c n t d) d got r (slice_get calls (length got)) ≡
        scan_on steps c n t d (got ++ reply_behind c.setup r behind.last ∷ []) next
    asked = ap (called c (scan_on steps c n t d) d got r)
        (ap (λ l. slice_get l (length got)) behind.is
        ∙ ap (slice_get (behind.before ++ behind.last ∷ [])) (sym behind.many)
        ∙ item-behind behind.before behind.last)

    by : (next.ending ≡ Ok tt) ⊎ ((f : RunFault) × (next.ending ≡ Err f)) →
        IsUp c n t
        (scan_on steps c n t d (got ++ reply_behind c.setup r behind.last ∷ []) next).run
        (scan_on steps c n t d (got ++ reply_behind c.setup r behind.last ∷ []) next).stand
    by (inl on) =
        up _ next
        (called-in c n t d got r behind.before behind.last order makes is waits-last behind.many on)
        (fewer-left c behind.last r steps is.ok on enough)
    by (inr (f, ended)) =
        inr (subst (HasEnded c n t) (sym (scan-stays steps c n t d _ next f ended))
        (cut-off c n t d got r next f is ended
        (ends c.setup (a_call behind.last.instance behind.last.inputs) r f is.ok ended)))

course-up : (steps : ℕ) (c : Cell) (n : ℕ) (t : Task) (d : TaskStand) (got : List Outputs)
    (r : Run) (course : Course) → AsksInOrder c.cycle_us t.body.items → HasAll course →
    MakesCalls c.setup c.cycle_us n t → GoesUp steps c n t d → InScan c n t d got r →
    scan_of c.cycle_us t.body.items d.vars d.last got ≡ course →
    c.setup.entries - length r.history < suc steps →
    IsUp c n t (made_by c n t (scan_on steps c n t d) d got r course).run
    (made_by c n t (scan_on steps c n t d) d got r course).stand
course-up steps c n t d got r (Over left) order all makes up is e enough =
    over-up c n t d got r left order is e
course-up steps c n t d got r (Waits calls) order all makes up is e enough =
    waits-up steps c n t d got r calls order makes up is e enough
course-up steps c n t d got r Missing order all makes up is e enough = absurd all

-- no operand is missing in the scans of a tree
abbrev pub MissesNone : ℕ → Task → Type 0
MissesNone us t = (vars : List ℤ) (last got : List Outputs) →
    HasAll (scan_of us t.body.items vars last got)

scan-up : (steps : ℕ) (c : Cell) (n : ℕ) (t : Task) (d : TaskStand) →
    AsksInOrder c.cycle_us t.body.items → MissesNone c.cycle_us t →
    MakesCalls c.setup c.cycle_us n t → GoesUp steps c n t d
unfolding scan_on
scan-up zero c n t d order all makes got r is enough = absurd (omega (arith, enough))
scan-up (suc steps) c n t d order all makes got r is enough =
    course-up steps c n t d got r (scan_of c.cycle_us t.body.items d.vars d.last got) order
    (all d.vars d.last got) makes (scan-up steps c n t d order all makes) is refl enough

turned-up : (c : Cell) (n : ℕ) (t : Task) (r : Run) (d : TaskStand) (b : Bool) (x : Turn) →
    (b ≡ true → IsUp c n t x.run x.stand) → IsUp c n t r d →
    IsUp c n t (if b then x else record { run = r; stand = d }).run
    (if b then x else record { run = r; stand = d }).stand
turned-up c n t r d true x up is = up refl
turned-up c n t r d false x up is = is

-- the task's own turn
pub own-turn : (c : Cell) (n : ℕ) (t : Task) (d : TaskStand) (r : Run) →
    AsksInOrder c.cycle_us t.body.items → MissesNone c.cycle_us t →
    MakesCalls c.setup c.cycle_us n t → IsUp c n t r d →
    IsUp c n t (turn c n t d r).run (turn c n t d r).stand
unfolding turn
own-turn c n t d r order all makes (inr h) =
    inr (subst (HasEnded c n t) (sym (turn-stays c n t d r h.fault h.ended)) h)
own-turn c n t d r order all makes (inl (ok, w)) =
    turned-up c n t r d d.lives _ (λ lives. scan-up (c.setup.entries + 1) c n t d order all makes []
    r (record {
      ok = ok;
      lives = lives;
      scans = w.scans;
      whole = own_entries c.setup n r.history;
      are = w.are;
      many = omega arith;
      entries = sym (ap (λ es. own_entries c.setup n r.history ++ es) (none-replied _)
          ∙ append-nil (own_entries c.setup n r.history));
    }) (omega arith)) (inl (ok, w))
