-- A group whose GroupReset may be done is kept.
use Rattle.std.specs.Prelude.{◌≡◌, [], is_some, Bool}
use Rattle.std.proofs.Common.{◌∙◌, ap, sym, subst}
use Rattle.group_core.specs.Cycles.{reset_where}
use Rattle.group_core.specs.GroupKept.{IsGroupKept}
use Rattle.group_core.specs.declared.group.Group.{Group}
use Rattle.group_core.specs.declared.group.GroupOnPath.{GroupOnPath}
use Rattle.group_core.proofs.KeptOthers.{reset-kept}
use Rattle.group_core.proofs.one_group.GroupCore.reset_cycle.Goals as goal

pub returns-clause-kept : goal.returns-clause-kept
returns-clause-kept g c = λ limits p ws on kept.
    (let same : c.self.inside.on.group ≡ c.args.self.now.group = ap (λ (v : GroupOnPath _). v.group) c.self.view_is in
    let track : is_some c.self.inside.on.track ≡ is_some c.args.self.now.track = ap (λ (v : GroupOnPath _). is_some v.track) c.self.view_is in
    subst (λ (n : Group). IsGroupKept limits n p ws)
    (sym (c.reset.ensures.group
    ∙ ap (λ (b : Bool). reset_where c.args.members.now b c.self.inside.on.group) (c.is_some-on_path.ensures ∙ track ∙ sym on)
    ∙ ap (λ (n : Group). reset_where c.args.members.now (is_some p) n) same))
    (reset-kept c.args.members.now limits (record { group = c.args.self.now.group; path = p; waiting = ws; notes = [] }) kept))
