-- Groups: what is written of one is read as it, and what is read is spelled so.
-- for: headers_are_read_back, records_are_read_back
use Rattle.std.specs.Prelude.{◌≡◌, refl, ℕ, Some, List, ◌∷◌, ◌++◌, drop}
use Rattle.std.proofs.Common.{◌∙◌, ap, subst}
use Rattle.motion_history.specs.declared.config.GroupDef.{GroupDef}
use Rattle.motion_kernel.specs.Machine.{PlacedGroup}
use Rattle.segment_text.specs.Held.{IsGroupOf}
use Rattle.segment_text.specs.Records.{group_fields, path_fields}
use Rattle.segment_text.specs.WantedFields.{active_fields}
use Rattle.segment_text.specs.reading.Columns.{owner_of, reset_of, word_of}
use Rattle.segment_text.specs.reading.Commands.{active_of}
use Rattle.segment_text.specs.reading.Groups.{group_of, path_of}
use Rattle.segment_text.proofs.back.Columns.{group_state-only, owner-back, owner-only, reset-back, reset-only, unsigned-only, word-back}
use Rattle.segment_text.proofs.back.Commands.{active-back, active-only}
use Rattle.segment_text.proofs.back.Paths.{path-back, path-only}
use Rattle.trace_columns.specs.Columns.{group_state_of}
use Rattle.trace_columns.proofs.BackLaws.{groups-back}
use Rattle.trace_text.proofs.read.ColumnRanges.{opt-both}

pub group-back : (d : GroupDef) (n : ℕ) (g : PlacedGroup) → IsGroupOf d g → group_of d (drop 2 (group_fields n g)) ≡ Some g
unfolding group_of group_fields
group-back d n g is =
    rw (
      groups-back g.group.state,
      word-back g.group.error is.bits.error,
      reset-back g.group.reset is.bits.reset,
      owner-back g.group.hold is.bits.hold,
      path-back g.path is.bits.path g.group.active,
      active-back g.group.active is.bits.active,
      ← is.axes,
    ) refl

-- the fields after the number of a group are read as it alone
pub record IsGroupRead (d : GroupDef) (all : List (List ℕ)) (g : PlacedGroup) : Type 0 where
  pub spelled : (n : ℕ) → drop 2 (group_fields n g) ≡ all
  pub is : IsGroupOf d g

pub group-only : (d : GroupDef) (all : List (List ℕ)) (g : PlacedGroup) → group_of d all ≡ Some g → IsGroupRead d all g
unfolding group_of group_fields
group-only d (state ∷ error ∷ reset ∷ hold ∷ behind) g h =
    let s = opt-both (group_state_of state) _ g h in
    let e = opt-both (word_of error) _ g s.2 in
    let r = opt-both (reset_of reset) _ g e.2 in
    let o = opt-both (owner_of hold) _ g r.2 in
    let p = opt-both (path_of behind) _ g o.2 in
    let w = opt-both (active_of p.0.1) _ g p.2 in
    let e' = unsigned-only 65535 error e.0 e.1 in
    let r' = reset-only reset r.0 r.1 in
    let o' = owner-only hold o.0 o.1 in
    let p' = path-only behind p.0 p.1 in
    let w' = active-only p.0.1 w.0 w.1 in
    let same : record {
      group = record { axes = d.count; state = s.0; error = e.0; active = w.0; reset = r.0; hold = o.0 };
      path = p.0.0;
    } ≡ g = cc w.2 in
    let tail : path_fields p.0.0 ++ active_fields w.0 ≡ behind = ap (λ t. path_fields p.0.0 ++ t) w'.spelled ∙ p'.spelled in
    subst (IsGroupRead d (state ∷ error ∷ reset ∷ hold ∷ behind)) same (record {
      spelled = λ n. rw (group_state-only state s.0 s.1, e'.spelled, r'.spelled, o'.spelled, tail) refl;
      is = record {
        axes = refl;
        bits = record { error = e'.is; active = w'.is; reset = r'.is; hold = o'.is; path = p'.is };
      };
    })
group-only d _ g h = absurd (cc h)
