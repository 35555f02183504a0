-- The fields after a step are those of its definition.
use Rattle.std.specs.Prelude.{◌≡◌, ℤ, [], ◌∷◌, ◌++◌, ◌&&◌, pos, if◌then◌else◌}
use Rattle.std.specs.Ordering.{int_eq}
use Rattle.std.proofs.Common.{rules, ap, ◌∙◌, w8, w32, FitsSigned, to_z-of_z}
use Rattle.circular_buffer.specs.Buffer.{Buffer, buffer, keep_last}
use Rattle.drive_sim.specs.Faults.{has_step}
use Rattle.drive_sim.specs.Steps.{is_enabled, followed}
use Rattle.drive_sim.specs.Inside.{sim_of}
use Rattle.drive_sim.proofs.StepLemmas.{stepped}
use Rattle.drive_sim.proofs.drive.Drive.step.Goals as goal

pub returns-clause-after : goal.returns-clause-after
returns-clause-after c =
    let mode : FitsSigned w8 c.args.out.now.mode = search rules in
    let target : FitsSigned w32 c.args.out.now.target = search rules in
    let actual : FitsSigned w32 c.self.inside.actual = search rules in
    let result : FitsSigned w32 c.followed-self-inside.result = search rules in
    let fault : c.has_fault-fault.result ≡ has_step c.saturating_add-self-inside.result c.self.inside.faults.items =
    c.has_fault-fault.ensures ∙ ap (λ xs. has_step c.saturating_add-self-inside.result xs) c.deref.ensures.value in
    let keeps : c.keeps_target-keeps.result ≡ (is_enabled c.self.inside.state && is_enabled c.drive_step-self-inside.result && int_eq c.args.out.now.mode (pos 8)) =
    simp to_z-of_z at c.keeps_target-keeps.ensures in
    let ring : c.followed-self-inside.new.kept ≡ buffer (if c.keeps_target-keeps.result then keep_last c.self.inside.kept.capacity (c.self.inside.kept.items ++ c.args.out.now.target ∷ []) else []) c.self.inside.kept.capacity =
    simp to_z-of_z at c.followed-self-inside.ensures.kept in
    let follows : c.followed-self-inside.result ≡ (if c.keeps_target-keeps.result
    then followed c.self.inside.kept.capacity c.self.inside.kept.items c.args.out.now.target c.self.inside.actual else c.self.inside.actual) =
    simp to_z-of_z at c.followed-self-inside.ensures.followed in
    let lag : c.followed-self-inside.new.kept.capacity ≡ c.self.inside.kept.capacity = ap (λ (b : Buffer ℤ). b.capacity) ring in
    let items = ap (λ (b : Buffer ℤ). b.items) ring in
    let all = stepped (sim_of c.self.inside) c.args.out.now c.followed-self-inside.new.kept.capacity
    c.saturating_add-self-inside.result c.has_fault-fault.result c.drive_step-self-inside.result c.keeps_target-keeps.result
    c.followed-self-inside.new.kept.items c.followed-self-inside.result
    lag c.saturating_add-self-inside.ensures fault c.drive_step-self-inside.ensures keeps items follows in
    rw (← c.self.view_is) (simp to_z-of_z all)
