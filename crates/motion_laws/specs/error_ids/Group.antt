-- By which ErrorID a command of a group is refused (PLCopen Motion Control Part 4, ErrorID; the
-- numbers are this project's profile).
use Rattle.std.specs.Prelude.{◌≡◌, ◌≢◌, ◌⊎◌, ℕ, ◌<◌, ◌==◌, ℤ, pos, Bool, false, None, List, [], ◌∷◌}
use Rattle.axis_core.specs.Ranges.{IsBetween}
use Rattle.plc_types.specs.declared.axis_state.AxisState.{AxisState}
use Rattle.plc_types.specs.declared.axis_state.AxisState.TheVariants as axis
use Rattle.plc_types.specs.declared.kind.BlockKind.{BlockKind}
use Rattle.plc_types.specs.declared.kind.BlockKind.TheVariants as kind
use Rattle.plc_types.specs.declared.kind.BufferMode.TheVariants.{Aborting, Buffered}
use Rattle.group_core.specs.Refusals.{Asked, limits_in, states_in}
use Rattle.axis_state.specs.GroupDiagram.{IsFrom}
use Rattle.axis_state.specs.declared.group_diagram.GroupEvent.TheVariants as event
use Rattle.plc_types.specs.declared.group.GroupState.{GroupState}
use Rattle.plc_types.specs.declared.group.GroupState.TheVariants as state
use Rattle.linear_path.specs.Line.{coordinate_of}
use Rattle.linear_path.specs.Path.{limits_at}
use Rattle.motion_laws.specs.error_ids.First.{Row}

-- the ErrorIDs against which a kind is tested, in their order
abbrev pub tested : BlockKind → List ℕ
tested kind.GroupEnable = 1 ∷ 2 ∷ 3 ∷ 4 ∷ 12 ∷ 16 ∷ []
tested kind.GroupDisable = 16 ∷ []
tested kind.GroupStop = 8 ∷ 9 ∷ 16 ∷ []
tested kind.GroupHalt = 8 ∷ 9 ∷ 16 ∷ []
tested kind.MoveLinearAbsolute = 6 ∷ 7 ∷ 8 ∷ 9 ∷ 10 ∷ 11 ∷ 16 ∷ 17 ∷ []
tested kind.MoveCircularAbsolute = 6 ∷ 7 ∷ 8 ∷ 9 ∷ 10 ∷ 11 ∷ 16 ∷ 17 ∷ 18 ∷ []
tested k = []

-- one of some axes is in a state
abbrev pub OneIs : AxisState → List AxisState → Type 0
OneIs s [] = ⊥
OneIs s (t ∷ ts) = (t ≡ s) ⊎ OneIs s ts

-- one of some axes is in another state
abbrev pub OneIsNot : AxisState → List AxisState → Type 0
OneIsNot s [] = ⊥
OneIsNot s (t ∷ ts) = (t ≢ s) ⊎ OneIsNot s ts

-- the target of an axis lies outside its limits. MC_MoveLinearAbsolute
pub record HasBadTarget (q : Asked) : Type 0 where
  pub place : ℕ
  pub there : place < q.members.count
  pub outside :
      let limits = limits_at (limits_in q.members) place in
      IsBetween limits.lo (coordinate_of q.wanted.targets place) limits.hi → ⊥

-- a command that does not abort finds one active, and eight that wait. BufferMode
pub record FindsNoPlace (q : Asked) : Type 0 where
  pub waits : q.wanted.mode ≢ Aborting
  pub behind : q.group.active ≢ None
  pub full : q.waiting ≡ 8

-- a kind may come in a state: the diagram leads from there by its event, for GroupDisable in
-- GroupErrorStop only while the path does not move. The last is this project's profile
abbrev pub MayCome : BlockKind → GroupState → Bool → Type 0
MayCome kind.GroupEnable s moves = IsFrom s event.Enable
MayCome kind.GroupDisable s moves =
    IsFrom s event.Disable × (s ≡ state.GroupErrorStop → moves ≡ false)
MayCome kind.GroupStop s moves = IsFrom s event.StopAdmitted
MayCome kind.GroupHalt s moves = IsFrom s event.MoveAdmitted
MayCome kind.MoveLinearAbsolute s moves = IsFrom s event.MoveAdmitted
MayCome kind.MoveCircularAbsolute s moves = IsFrom s event.MoveAdmitted
MayCome k s moves = ⊥

-- a rate lies from 1 to 10^10
abbrev pub IsRate : ℤ → Type 0
IsRate rate = IsBetween (pos 1) rate (pos 10000000000)

-- the condition of an ErrorID
abbrev pub Condition : Asked → ℕ → Type 0
Condition q id =
    Row (id == 1) (OneIs axis.Disabled (states_in q.members))
    (Row (id == 2) (OneIs axis.ErrorStop (states_in q.members))
    (Row (id == 3) (OneIs axis.Stopping (states_in q.members))
    (Row (id == 4) (OneIs axis.Homing (states_in q.members))
    (Row (id == 6) (IsRate q.wanted.rates.v → ⊥)
    (Row (id == 7) (IsRate q.wanted.rates.a → ⊥)
    (Row (id == 8) (IsRate q.wanted.rates.d → ⊥)
    (Row (id == 9) (q.jerk ≢ pos 0)
    (Row (id == 10) (HasBadTarget q)
    (Row (id == 11) (FindsNoPlace q)
    (Row (id == 12) (OneIsNot axis.Standstill (states_in q.members))
    (Row (id == 16) (MayCome q.wanted.kind q.group.state q.moves → ⊥)
    (Row (id == 17) ((q.wanted.mode ≢ Aborting) × (q.wanted.mode ≢ Buffered))
    (Row (id == 18) (Unit {0})
    ⊥)))))))))))))
