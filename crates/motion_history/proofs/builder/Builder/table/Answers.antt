-- A table that is not made is refused by what is reported of it.
use Rattle.std.proofs.Common.{◌≡◌, ◌∙◌, ℕ, Err, ap, length, subst, sym}
use Rattle.motion_history.specs.Faults.{IsPointsFault}
use Rattle.motion_history.specs.Setup.{Setup}
use Rattle.motion_history.proofs.builder.Builder.table.Goals as goal

pub returns-in-Err-clause-faults : goal.returns-in-Err-clause-faults
returns-in-Err-clause-faults c =
    λ f n.
    let many : c.len.result ≡ length c.args.self.now.tables =
    c.len.ensures ∙ c.self.inside.items.tables.ok.0 ∙ ap (λ (s : Setup). length s.tables) c.self.view_is in
    let told = c.new_table.ensures.faults f n in
    let P : ℕ → Type 0 = λ k. IsPointsFault k c.args.points.now f in
    ((λ h. subst P many (told.0 (c.in-Err.is ∙ ap Err (cc)))), (λ i. let e = told.1 (subst P (sym many) i) in ap Err (cc)))
