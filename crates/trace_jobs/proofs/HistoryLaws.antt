-- The history of a trace is the one that the machine makes of its events.
-- for: check_text, check_trace, migrate_text and others
use Rattle.std.specs.Prelude.{◌≡◌, refl, ℕ, ◌+◌, List, [], ◌∷◌, ◌++◌, map}
use Rattle.std.proofs.Common.{◌∙◌, sym, ap, subst, arith}
use Rattle.std.proofs.lemmas.List.{append_assoc, append-nil}
use Rattle.plc_types.specs.declared.axis.AxisRow.{AxisRow}
use Rattle.plc_types.specs.declared.drive.DriveIn.{DriveIn}
use Rattle.plc_types.specs.declared.group.GroupRow.{GroupRow}
use Rattle.motion_history.specs.Entries.{Entry, call, cycle, cycle_count, cycles_of, end_of}
use Rattle.motion_history.specs.Setup.{Setup}
use Rattle.motion_history.specs.declared.refused.TraceVersion.{TraceVersion}
use Rattle.motion_kernel.specs.cycles.Cycles.{cycled}
use Rattle.motion_kernel.specs.Histories.{Follows, IsLegal, after, inputs_of, machine_after, replay}
use Rattle.motion_kernel.specs.Machine.{Machine, machine_at_opening}
use Rattle.trace_check.specs.Legal.{IsTraceOf}
use Rattle.trace_check.specs.Replays.{cycle_made, made_after}
use Rattle.trace_text.specs.RowRanges.{found_row}
use Rattle.trace_text.specs.TraceState.{TraceState, entry_of}
use Rattle.trace_text.specs.Writable.{found_entry}
use Rattle.trace_jobs.specs.Plans.{history_from, history_of}
use Rattle.trace_check.proofs.LegalLaws.{same-inputs}

-- a machine after one entry more
machine_more : (s : Setup) (m : Machine) (es : List Entry) (e : Entry) →
    replay s m (es ++ e ∷ []) ≡ after s (replay s m es) e
machine_more s m [] e = refl
machine_more s m (x ∷ xs) e = machine_more s (after s m x) xs e

cycles_more : (es : List Entry) (e : Entry) → cycles_of (es ++ e ∷ []) ≡ cycles_of es + cycle_count e
cycles_more [] (call k i o) = refl
cycles_more [] (cycle n rows grows) = refl
cycles_more [] (end_of task) = refl
cycles_more (call k i o ∷ es) e = let more = cycles_more es e in omega (arith, more)
cycles_more (cycle n rows grows ∷ es) e = let more = cycles_more es e in omega (arith, more)
cycles_more (end_of task ∷ es) e = let more = cycles_more es e in omega (arith, more)

-- an entry as it is found in a trace
abbrev found_in : TraceVersion → Setup → Entry → Entry
found_in v s e = entry_of (found_entry v s e)

-- the machine makes each entry of a history of what is found of it
made_again : (v : TraceVersion) (s : Setup) (made : List Entry) (e : Entry) (more : List Entry) →
    Follows s (cycles_of made) (machine_after s made) (e ∷ more) →
    made_after s made (found_in v s e) ≡ e
made_again v s made (call k i o) more f = ap (call k i) (sym f.0.1)
made_again v s made (cycle n rows grows) more f =
    let is = f.0.1 in
    let number : cycles_of made + 1 ≡ n = sym f.0.0 in
    made_cycle s made (inputs_of (map found_row rows)) n rows grows (same-inputs rows) number
    (sym is.axes) (sym is.groups)
  where
    made_cycle : (s : Setup) (made : List Entry) (ins : List DriveIn) (n : ℕ)
        (rows : List AxisRow) (grows : List GroupRow) → ins ≡ inputs_of rows →
        cycles_of made + 1 ≡ n → (cycled s (machine_after s made) (inputs_of rows)).axes ≡ rows →
        (cycled s (machine_after s made) (inputs_of rows)).groups ≡ grows →
        cycle_made s made ins ≡ cycle n rows grows
    made_cycle s made ins n rows grows i c a g =
        ap (cycle_made s made) i ∙ (λ j. cycle (c j) (a j) (g j))
made_again v s made (end_of task) more f = refl

follows_on : (s : Setup) (made : List Entry) (e : Entry) (more : List Entry) →
    Follows s (cycles_of made) (machine_after s made) (e ∷ more) →
    Follows s (cycles_of (made ++ e ∷ [])) (machine_after s (made ++ e ∷ [])) more
unfolding machine_after
follows_on s made e more f =
    let m : replay s (machine_at_opening s) (made ++ e ∷ []) ≡
    after s (replay s (machine_at_opening s) made) e =
    machine_more s (machine_at_opening s) made e in
    let c = cycles_more made e in
    subst (λ x. Follows s x (replay s (machine_at_opening s) (made ++ e ∷ [])) more) (sym c)
    (subst (λ x. Follows s (cycles_of made + cycle_count e) x more) (sym m) f.1)

made_of_found : (v : TraceVersion) (s : Setup) (made es : List Entry) →
    Follows s (cycles_of made) (machine_after s made) es →
    history_from s made (map entry_of (map (found_entry v s) es)) ≡ made ++ es
made_of_found v s made [] f = sym (append-nil made)
made_of_found v s made (e ∷ es) f =
    let again = made_again v s made e es f in
    ap (λ x. history_from s (made ++ x ∷ []) (map entry_of (map (found_entry v s) es))) again
    ∙ made_of_found v s (made ++ e ∷ []) es (follows_on s made e es f)
    ∙ append_assoc made (e ∷ []) es

pub history_is : (t : TraceState) (es : List Entry) → IsLegal t.config es → IsTraceOf t es →
    es ≡ history_of t
unfolding history_of machine_after
history_is t es legal is =
    sym (ap (λ x. history_from t.config [] (map entry_of x)) is.found
    ∙ made_of_found t.version t.config [] es legal.follows)
