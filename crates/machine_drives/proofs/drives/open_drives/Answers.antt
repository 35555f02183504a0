-- Each drive is opened.
use Rattle.std.proofs.Common.{◌∙◌, List, ap, arith, length, ◌++◌, ◌∷◌, []}
use Rattle.std.proofs.lemmas.List.{length-append}
use Rattle.drive_sim.specs.Sim.{DriveSim}
use Rattle.machine_drives.proofs.DriveLaws.{opened-over}
use Rattle.machine_drives.proofs.drives.open_drives.Goals as goal

pub loop-i-preserved : goal.loop-i-preserved
loop-i-preserved c =
    let items = c.in-Ok.ensures.items in
    let count = c.loop-i.invariant.count in
    let more = length-append c.loop-i.drives.items (c.in_ok-drive.drive ∷ []) in
    record {
      opened = items ∙ ap (λ x. c.loop-i.drives.items ++ x ∷ []) c.in_ok-drive.ensures
          ∙ opened-over _ _ _ c.loop-i.i _ _ c.loop-i-test.true
          (let e = c.requires.each in let t = c.loop-i-test.true in omega (arith, e, t))
          c.loop-i.invariant.opened c.index-axes-i.is c.index-defs-i.is;
      count = ap (λ (ds : List DriveSim). length ds) items ∙ omega (arith, more, count);
    }
