-- The axes of groups. This project's profile.
use Rattle.std.specs.Prelude.{◌≡◌, ℕ, ◌-◌, ◌<◌, ◌≤◌, List, ◌++◌, drop, length, nat_eq, replicate, take}
use Rattle.std.specs.List.{AllByRecursion, IsDistinct, flat_map}
use Rattle.motion_history.specs.declared.sizes.TheConstants.{MOST_MEMBERS}
use Rattle.motion_history.specs.declared.config.GroupDef.{GroupDef}

-- the numbers of a group's axes, in their order. PLCopen Motion Control Part 4
abbrev pub members_of : GroupDef → List ℕ
members_of d = take d.count d.axes

-- the group of these axes: 0 stands after them
abbrev pub group_of : List ℕ → List ℕ → GroupDef
group_of name axes =
    let behind = replicate (MOST_MEMBERS - length axes) 0 in
    record { name = name; count = length axes; axes = axes ++ behind }

-- a group has 2 to 6 axes that are there, and 0 stands after them
pub record IsGroup (axes : ℕ) (d : GroupDef) : Type 0 where
  pub some : 2 ≤ d.count
  pub few : d.count ≤ MOST_MEMBERS
  pub there : AllByRecursion (λ axis. axis < axes) (members_of d)
  pub behind : drop d.count d.axes ≡ replicate (MOST_MEMBERS - d.count) 0

-- no axis is in two groups, or twice in one
abbrev pub AreApart : List GroupDef → Type 0
AreApart groups = IsDistinct nat_eq (flat_map members_of groups)
