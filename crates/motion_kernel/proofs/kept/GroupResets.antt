-- A machine stays kept by pending GroupResets.
-- for: machines_stay_kept
use Rattle.std.specs.Prelude.{◌≡◌, refl, ℕ, zero, suc, ◌<◌, ◌≤◌, Bool, true, false, not, ◌&&◌, Option, Some, None, is_some, List, length, map, if◌then◌else◌}
use Rattle.std.proofs.Common.{arith, ap, sym, ◌∙◌, inl, inr}
use Rattle.std.proofs.lemmas.Bool.{cases_Bool}
use Rattle.plc_types.specs.declared.axis_state.AxisState.{AxisState}
use Rattle.group_core.specs.Cycles.{reset_where}
use Rattle.group_core.specs.GroupKept.{is_within}
use Rattle.group_core.specs.Refusals.{states_in}
use Rattle.group_core.specs.States.{is_error_stop}
use Rattle.group_core.specs.blocks.Reset.{after_reset, may_reset, reset_by, reset_from}
use Rattle.group_core.specs.declared.group.Group.{Group}
use Rattle.buffer_modes.specs.declared.reset.PendingReset.{PendingReset}
use Rattle.group_core.specs.declared.look.GroupLook.{GroupLook}
use Rattle.plc_types.specs.declared.group.GroupState.{GroupState}
use Rattle.plc_types.specs.declared.group.GroupState.TheVariants as state
use Rattle.motion_history.specs.Setup.{Setup}
use Rattle.motion_kernel.specs.cycles.GroupResets.{after_group_reset, core_after_reset, groups_reset}
use Rattle.motion_kernel.specs.looks.GroupLooks.{group_look}
use Rattle.motion_kernel.specs.Machine.{Machine, axis_core_at, group_core_at}
use Rattle.motion_kernel.specs.kept.Machine.{IsMachineKept, limits_of}
use Rattle.motion_kernel.specs.members.Members.{member_at, members_at}
use Rattle.motion_kernel.proofs.GroupParts.{none_where}
use Rattle.motion_kernel.proofs.kept.AxisCycles.{CycleLaws}
use Rattle.motion_kernel.proofs.kept.Events.{group_event_kept}
use Rattle.motion_kernel.proofs.kept.AxesUnled.{led_standing}
use Rattle.motion_kernel.proofs.kept.Standstill.{none_moved}
use Rattle.motion_kernel.proofs.kept.Ready.{few_members, member_kept}

-- a GroupReset brings a group alive that is on no path
comes_alive : (s : GroupState) (moved on_path : Bool) → is_within s ≡ false → is_within (reset_from moved s) ≡ true →
    not (is_error_stop s && on_path) ≡ true → on_path ≡ false
comes_alive state.GroupErrorStop moved false out within may = refl
comes_alive state.GroupErrorStop moved true out within may = absurd (cc)
comes_alive state.GroupDisabled false on_path out within may = absurd (cc)
comes_alive state.GroupDisabled true on_path out within may = absurd (cc)
comes_alive state.GroupStandby moved on_path out within may = absurd (cc)
comes_alive state.GroupMoving moved on_path out within may = absurd (cc)
comes_alive state.GroupHoming moved on_path out within may = absurd (cc)
comes_alive state.GroupStopping moved on_path out within may = absurd (cc)

reset_clears : (r : Option PendingReset) (axes : List AxisState) (on_path : Bool) (g : Group) → is_within g.state ≡ false →
    is_within (reset_by r axes on_path g).state ≡ true → on_path ≡ false
reset_clears None axes on_path g out within = absurd (cc)
reset_clears (Some r) axes on_path g out within = elim (cases_Bool (may_reset on_path g)) [
  | inl may ↦ comes_alive g.state _ on_path out (sym (ap (λ b. is_within (if b then after_reset axes g else g).state) may) ∙ within) may
  | inr waits ↦ absurd (let x : is_within g.state ≡ true = sym (ap (λ b. is_within (if b then after_reset axes g else g).state) waits) ∙ within in cc)
]

off_path : (members : GroupLook) (on_path : Bool) (g : Group) → is_within g.state ≡ false → is_within (reset_where members on_path g).state ≡ true → on_path ≡ false
unfolding reset_where
off_path members on_path g out within = reset_clears g.reset (states_in members) on_path g out within

-- a machine is kept by a pending GroupReset
pub reset_kept : CycleLaws → (s : Setup) (m : Machine) (j : ℕ) → IsMachineKept s m → j < length m.groups → IsMachineKept s (after_group_reset s j m)
reset_kept laws s m j h l =
    let look = group_look s m j 0 in
    let c = group_core_at m j in
    let d = core_after_reset s j m in
    let g = h.groups j l in
    group_event_kept s m j d h l (laws.groups.reset look (map (limits_of s) (members_at s j)) c g.core) (laws.counts.reset look (is_some c.path) c.group)
    (λ place b.
    let a = member_kept s m j place h l b in
    let core = axis_core_at m (member_at (members_at s j) place) in
    record {
      on = λ e. let o = a.placed.on e in record { path = o.path; on = o.on; stands = o.stands };
      led = λ e. elim (cases_Bool (is_within c.group.state)) [
        | inl within ↦ let x = a.placed.led within in record { idle = x.idle; alone = x.alone; state = x.state }
        | inr out ↦ elim (laws.alive.reset look (is_some c.path) c.group e) [
          | inl within ↦ absurd (cc)
          | inr none ↦ led_standing d core a.kept (none_moved s m j 0 place (few_members s m j h l) b none)
              (none_where c.path (off_path look (is_some c.path) c.group out e))
        ]
      ];
    })

-- and by those of its groups, one after another
pub resets_kept : CycleLaws → (s : Setup) (m : Machine) (n : ℕ) → IsMachineKept s m → n ≤ length s.groups → IsMachineKept s (groups_reset s n m).machine
unfolding groups_reset
resets_kept laws s m zero h l = h
resets_kept laws s m (suc n) h l =
    let so_far = resets_kept laws s m n h (omega arith) in
    let groups = so_far.sized.groups in
    reset_kept laws s (groups_reset s n m).machine n so_far (omega arith)
