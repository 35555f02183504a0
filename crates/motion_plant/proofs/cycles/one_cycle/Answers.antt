-- A step of the loop, by what the turns came to.
use Rattle.std.proofs.Common.{◌≡◌, length, ap, ◌∙◌, sym, subst}
use Rattle.kernel_turn.specs.PermitState.{PermitState}
use Rattle.motion_plant.specs.Cycling.{EndsBy, MadeCycle}
use Rattle.motion_plant.specs.Lines.{with_answer}
use Rattle.motion_plant.specs.Makers.{IsUpTo, Owns}
use Rattle.motion_history.specs.Setup.{Setup}
use Rattle.motion_plant.specs.declared.cycles.Ending.TheVariants as endings
use Rattle.motion_plant.proofs.Zips.{zip_length}
use Rattle.motion_plant.proofs.CycleSteps.{cycled_made, cycled_none}
use Rattle.motion_plant.proofs.InStep.{grown_in, next_each, taken_each}
use Rattle.motion_plant.proofs.cycles.one_cycle.Goals as goal

pub push_all-requires-clause-width : goal.push_all-requires-clause-width
push_all-requires-clause-width g c =
    let old = c.args.lines.now.items in
    let k = c.requires.cycling.2 in
    let axes = ap (λ (p : PermitState). length p.config.axes) k.fixed in
    let w : length old ≡ length c.args.permit.now.config.axes = k.width ∙ sym axes in
    let t = ap length c.take_all.ensures.taken ∙ zip_length with_answer old c.take_all.new.ins
    (c.take_all.ensures.width ∙ c.as_mut_slice-ins.ensures.len ∙ c.requires.width.0 ∙ sym w) in
    c.cycle_until.ensures.width ∙ c.as_mut_slice-outs.ensures.len ∙ c.requires.width.1 ∙ sym w ∙ sym t

pub push_all-requires-clause-next : goal.push_all-requires-clause-next
push_all-requires-clause-next g c =
    let old = c.args.lines.now.items in
    let k = c.requires.cycling.2 in
    let axes = ap (λ (p : PermitState). length p.config.axes) k.fixed in
    let lx = c.take_all.ensures.width ∙ c.as_mut_slice-ins.ensures.len ∙ c.requires.width.0 ∙ axes ∙ sym k.width in
    next_each _ c.take_all.new.lines.items _ c.take_all.new.ins c.take_all.new.lines.items
    c.args.room.now.made
    (grown_in _ _ c.take_all.new.ins old c.take_all.new.lines.items k.stand k.cycles lx
    c.take_all.ensures.taken)
    (taken_each _ c.take_all.new.ins old c.take_all.new.lines.items k.stand
    c.take_all.ensures.taken) k.count

pub returns-in-Made-clause-cycled : goal.returns-in-Made-clause-cycled
returns-in-Made-clause-cycled g c = λ first ls k.
    let axes = ap (λ (p : PermitState). length p.config.axes) k.fixed in
    let config = ap (λ (p : PermitState). p.config) k.fixed in
    let w = axes ∙ sym k.width in
    let ins = c.as_mut_slice-ins.ensures.len ∙ c.requires.width.0 in
    cycled_made first ls c.args.lines.now.items c.take_all.new.lines.items c.args.room.now.made
    c.args.permit.now c.cycle_until.new.permit c.take_all.new.ins k
    (c.take_all.ensures.width ∙ ins ∙ w) c.take_all.ensures.taken
    c.cycle_until.ensures.fixed
    c.push_all.new.lines.items c.cycle_until.new.outs c.in-Made.live (c.cycle_until.ensures.width ∙
    c.as_mut_slice-outs.ensures.len ∙ c.requires.width.1 ∙ w) c.push_all.ensures.pushed
    (subst (λ (s : Setup). Owns (IsUpTo s 0) c.cycle_until.new.permit.own c.cycle_until.new.permit.seen)
    config c.cycle_until.ensures.owns)
    (subst (λ (s : Setup). MadeCycle s c.take_all.new.ins c.cycle_until.new.outs c.in-Made.live
    c.args.permit.now c.cycle_until.new.permit) config c.in-Made.ensures.step)

pub returns-in-Over-clause-cycled : goal.returns-in-Over-clause-cycled
returns-in-Over-clause-cycled g c = λ first ls k.
    let axes = ap (λ (p : PermitState). length p.config.axes) k.fixed in
    let config = ap (λ (p : PermitState). p.config) k.fixed in
    let w = axes ∙ sym k.width in
    let ins = c.as_mut_slice-ins.ensures.len ∙ c.requires.width.0 in
    cycled_none first ls c.args.lines.now.items c.take_all.new.lines.items c.args.room.now.made
    c.args.permit.now c.cycle_until.new.permit c.take_all.new.ins k
    (c.take_all.ensures.width ∙ ins ∙ w) c.take_all.ensures.taken
    c.cycle_until.ensures.fixed endings.Over
    (subst (λ (s : Setup). Owns (IsUpTo s 0) c.cycle_until.new.permit.own c.cycle_until.new.permit.seen)
    config c.cycle_until.ensures.owns)
    c.in-Over.ensures.step.0.made
    (subst (λ (s : Setup). EndsBy s c.cycle_until.new.permit endings.Over) config
    c.in-Over.ensures.step.1)

pub returns-in-Full-clause-cycled : goal.returns-in-Full-clause-cycled
returns-in-Full-clause-cycled g c = λ first ls k.
    let axes = ap (λ (p : PermitState). length p.config.axes) k.fixed in
    let config = ap (λ (p : PermitState). p.config) k.fixed in
    let w = axes ∙ sym k.width in
    let ins = c.as_mut_slice-ins.ensures.len ∙ c.requires.width.0 in
    cycled_none first ls c.args.lines.now.items c.take_all.new.lines.items c.args.room.now.made
    c.args.permit.now c.cycle_until.new.permit c.take_all.new.ins k
    (c.take_all.ensures.width ∙ ins ∙ w) c.take_all.ensures.taken
    c.cycle_until.ensures.fixed endings.Full
    (subst (λ (s : Setup). Owns (IsUpTo s 0) c.cycle_until.new.permit.own c.cycle_until.new.permit.seen)
    config c.cycle_until.ensures.owns)
    c.in-Full.ensures.step.0.made
    (subst (λ (s : Setup). EndsBy s c.cycle_until.new.permit endings.Full) config
    c.in-Full.ensures.step.1)
