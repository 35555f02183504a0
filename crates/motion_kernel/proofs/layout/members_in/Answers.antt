-- The members of a configuration's group are axes that are there.
use Rattle.std.proofs.Common.{◌≡◌, ◌∙◌, ap, sym}
use Rattle.std.specs.Prelude.{length, slice_index_or}
use Rattle.motion_history.specs.Members.{IsGroup}
use Rattle.motion_kernel.proofs.members.Members.{few_members, is_group, members_are_axes, members_there}
use Rattle.motion_kernel.proofs.layout.members_in.Goals as goal

found : (c : goal.After-members) → slice_index_or c.args.config.now.groups c.args.group c.index-groups-group.result ≡ c.index-groups-group.result
found c = sym (c.index-groups-group.is ∙ ap (λ gs. slice_index_or gs c.args.group c.index-groups-group.result) c.groups.ensures)

grouped : (c : goal.After-members) → IsGroup (length c.args.config.now.axes) c.index-groups-group.result
grouped c = is_group c.args.config.now c.args.group c.index-groups-group.result (c.configurations_are_sound.ensures c.args.config.now c.requires.setup) c.requires.there (found c)

pub returns-clause-members : goal.returns-clause-members
returns-clause-members c = c.members.ensures ∙ members_there c.args.config.now c.args.group c.index-groups-group.result c.requires.there (found c)

pub returns-clause-few : goal.returns-clause-few
returns-clause-few c = rw c.members.ensures (few_members _ _ (grouped c))

pub returns-clause-there : goal.returns-clause-there
returns-clause-there c = rw c.members.ensures (λ place l. members_are_axes _ _ place (grouped c) l)
