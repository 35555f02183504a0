-- A group one of whose members has no power is kept.
use Rattle.std.specs.Prelude.{◌≡◌}
use Rattle.std.proofs.Common.{◌∙◌, ap, sym, subst}
use Rattle.group_core.specs.Calls.{powered_off}
use Rattle.group_core.specs.Cores.{Core, core_in}
use Rattle.group_core.specs.GroupKept.{IsCoreKept}
use Rattle.group_core.specs.declared.group.Group.{Group}
use Rattle.group_core.specs.declared.group.GroupOnPath.{GroupOnPath}
use Rattle.group_core.proofs.KeptCalls.{powered-kept}
use Rattle.group_core.proofs.one_group.GroupCore.power_off.Goals as goal

pub returns-clause-kept : goal.returns-clause-kept
returns-clause-kept g c = λ limits p kept.
    (let same : c.self.inside.on.group ≡ c.args.self.now.group = ap (λ (v : GroupOnPath _). v.group) c.self.view_is in
    let before : Core = core_in c.args.self.now.group p c.args.pool.now c.args.list c.args.notes.now in
    let made = c.power_off.ensures.after p ∙ ap (λ (n : Group). powered_off (core_in n p c.args.pool.now c.args.list c.args.notes.now)) same in
    subst (IsCoreKept limits) (sym made) (powered-kept limits before kept))
