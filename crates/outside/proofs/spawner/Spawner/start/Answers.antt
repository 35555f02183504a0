use Rattle.std.proofs.Common.{◌<◌, length, sym, ap, ◌∙◌, subst}
use Rattle.outside.specs.Started.{Started, job_of}
use Rattle.outside.proofs.Jobs.{done_by, jobs_behind}
use Rattle.outside.proofs.spawner.Spawner.start.Goals as goal

-- the jobs before it stay at their places
pub returns-clause-others : goal.returns-clause-others
returns-clause-others g c = λ n below.
    let few = subst (λ (s : Started _). n < length s.jobs) (sym c.self.view_is) below in
    jobs_behind done_by c.push_within.new.list.items _ c.self.inside.threads.items _ c.push_within.ensures c.reserve.ensures.items n few ∙ ap (λ (s : Started _). job_of s n) c.self.view_is
