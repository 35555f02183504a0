-- The marks are those of the history.
use Rattle.std.proofs.Common.{◌≡◌, ◌∙◌, ap, length, take, List, ℕ}
use Rattle.std.specs.List.{filter}
use Rattle.motion_history.specs.Setup.{Setup}
use Rattle.motion_kernel.specs.KernelState.{KernelState}
use Rattle.motion_kernel.specs.Marked.{is_live}
use Rattle.motion_kernel.specs.Tasks.{live_tasks}
use Rattle.motion_kernel.proofs.Marked.{lives_counted}
use Rattle.motion_kernel.proofs.kernel.Kernel.live_tasks.Goals as goal

pub returns : goal.returns
returns c =
    let k = c.self.inside in
    let tasks : c.tasks.result.now ≡ k.segmented.config.tasks = c.tasks.ensures ∙ ap (λ (s : Setup). s.tasks) c.config.ensures in
    c.live.ensures ∙ ap (λ (ts : List (List ℕ)). length (filter is_live (take (length ts) k.tasks.marks))) tasks
    ∙ lives_counted k.segmented.config k.segmented.history k.tasks.marks c.self.invariant.tasks
    ∙ ap (λ (x : KernelState). live_tasks x.config x.history) c.self.view_is
