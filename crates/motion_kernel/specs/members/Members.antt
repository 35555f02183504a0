-- In which group an axis is, and which axes a group has (this project's profile).
use Rattle.std.specs.Prelude.{ℕ, ◌+◌, Option, Some, None, nat_eq, List, [], ◌∷◌, slice_get, slice_index_or}
use Rattle.std.specs.List.{position}
use Rattle.motion_history.specs.Members.{members_of}
use Rattle.motion_history.specs.Setup.{Setup}
use Rattle.motion_history.specs.declared.config.GroupDef.{GroupDef}
use Rattle.motion_kernel.specs.declared.memberships.Membership.{Membership}

-- the axes of a group of a configuration
abbrev pub members_in : Option GroupDef → List ℕ
members_in None = []
members_in (Some d) = members_of d

abbrev pub members_at : Setup → ℕ → List ℕ
members_at s j = members_in (slice_get s.groups j)

-- the number of an axis in a group's order
abbrev pub member_at : List ℕ → ℕ → ℕ
member_at members place = slice_index_or members place 0

-- where an axis stands in the first group that has it: in this one, else in one of those after it
abbrev pub place_or : ℕ → Option ℕ → Option Membership → Option Membership
place_or group None behind = behind
place_or group (Some place) behind = Some (record { group = group; place = place })

unfoldable pub membership_from : ℕ → ℕ → List GroupDef → Option Membership
membership_from axis group [] = None
membership_from axis group (d ∷ ds) =
    place_or group (position (nat_eq axis) (members_of d)) (membership_from axis (group + 1) ds)

-- where an axis stands in its group, if it is in one
abbrev pub membership_of : Setup → ℕ → Option Membership
membership_of s axis = membership_from axis 0 s.groups
