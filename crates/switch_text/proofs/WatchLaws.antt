-- Switches go on by one cycle more.
-- for: write_edges
use Rattle.std.proofs.Common.{◌≡◌, ℕ, zero, suc, Some, List, [], ◌∷◌, ◌++◌, take, refl, ap, sym, ◌∙◌}
use Rattle.std.specs.Prelude.{slice_get}
use Rattle.plc_types.specs.declared.axis.AxisRow.{AxisRow}
use Rattle.switch_text.specs.Columns.{column, on_at, setpoint_of}
use Rattle.switch_text.specs.Edges.{edge_by, edge_of}
use Rattle.switch_text.specs.Laws.{WatchesGoOn}
use Rattle.switch_text.specs.Switches.{is_on, is_on_after}
use Rattle.switch_text.specs.Watches.{edge_after, watch_after, watch_at, watch_of}
use Rattle.switch_text.specs.declared.switch.Switch.{Switch}
use Rattle.switch_text.specs.declared.watch.Watch.{Watch}
use Rattle.switch_text.proofs.OnLaws.{on-one-more}

-- the column of one cycle more
column-one-more : (axis k : ℕ) (cycles : List (List AxisRow)) (rows : List AxisRow) →
    slice_get cycles k ≡ Some rows →
    take (suc k) (column axis cycles) ≡ take k (column axis cycles) ++ setpoint_of axis rows ∷ []
column-one-more axis k [] rows h = absurd (cc)
column-one-more axis zero (c ∷ cs) rows h =
    let same : c ≡ rows = cc in ap (λ r. setpoint_of axis r ∷ []) same
column-one-more axis (suc k) (c ∷ cs) rows h =
    ap (λ ps. setpoint_of axis c ∷ ps) (column-one-more axis k cs rows h)

-- whether a switch is on at the next cycle, by whether it was
pub on-next : (cycles : List (List AxisRow)) (k : ℕ) (rows : List AxisRow) (s : Switch) →
    slice_get cycles k ≡ Some rows →
    is_on_after s (on_at s cycles k) (setpoint_of s.axis rows) ≡ on_at s cycles (suc k)
unfolding on_at
on-next cycles k rows s h =
    sym (on-one-more s (take k (column s.axis cycles)) (setpoint_of s.axis rows))
    ∙ ap (is_on s) (sym (column-one-more s.axis k cycles rows h))

first : (cycles : List (List AxisRow)) (s : Switch) → watch_at cycles zero s ≡ watch_of s
unfolding watch_at on_at
first cycles s = refl

next : (cycles : List (List AxisRow)) (k : ℕ) (rows : List AxisRow) (s : Switch) →
    slice_get cycles k ≡ Some rows →
    watch_after rows (watch_at cycles k s) ≡ watch_at cycles (suc k) s
unfolding watch_at watch_after
next cycles k rows s h =
    ap (λ o. let w : Watch = record { switch = s; on = o } in w) (on-next cycles k rows s h)

edges : (cycles : List (List AxisRow)) (k : ℕ) (rows : List AxisRow) (s : Switch) →
    slice_get cycles k ≡ Some rows →
    edge_after (suc k) rows (watch_at cycles k s) ≡ edge_of cycles k s
unfolding watch_at watch_after edge_after edge_of
edges cycles k rows s h =
    ap (λ o. edge_by s.name (suc k) (on_at s cycles k) o) (on-next cycles k rows s h)

pub watches-go-on : WatchesGoOn
watches-go-on = record { first = first; next = next; edges = edges }
