-- A group that loses an owner is kept.
use Rattle.std.specs.Prelude.{◌≡◌, [], map}
use Rattle.std.proofs.Common.{◌∙◌, ap, sym, subst}
use Rattle.command_pool.specs.Waiting as waiting
use Rattle.group_core.specs.Calls.{group_without}
use Rattle.group_core.specs.GroupKept.{IsGroupKept}
use Rattle.group_core.specs.declared.group.Group.{Group}
use Rattle.group_core.specs.declared.group.GroupOnPath.{GroupOnPath}
use Rattle.group_core.proofs.KeptOthers.{disowned-kept}
use Rattle.group_core.proofs.one_group.GroupCore.detach.Goals as goal

pub returns-clause-kept : goal.returns-clause-kept
returns-clause-kept g c = λ limits p ws kept.
    (let same : c.self.inside.on.group ≡ c.args.self.now.group = ap (λ (v : GroupOnPath _). v.group) c.self.view_is in
    subst (λ (n : Group). IsGroupKept limits n p (map (waiting.detached c.args.owner) ws)) (sym (c.detach.ensures ∙ ap (group_without c.args.owner) same))
    (disowned-kept c.args.owner limits (record { group = c.args.self.now.group; path = p; waiting = ws; notes = [] }) kept))
