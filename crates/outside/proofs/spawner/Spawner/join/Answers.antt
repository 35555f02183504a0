use Rattle.std.proofs.Common.{None, IsSome, map, set, sym, ap, ◌∙◌, subst}
use Rattle.std.specs.Prelude.{option_map}
use Rattle.outside.specs.Started.{Started, job_of}
use Rattle.outside.proofs.Jobs.{job_at, done_by, thread_there, job_there, jobs_set, jobs_kept, if_some}
use Rattle.outside.proofs.spawner.Spawner.join.Goals as goal

-- the thread of the job stands in the list
pub take_at-requires : goal.take_at-requires
take_at-requires g c =
    let seen = subst (λ (s : Started _). IsSome (job_of s c.args.number)) (sym c.self.view_is) c.requires.started in
    record { there = thread_there done_by c.self.inside.threads.items c.args.number seen }

-- the thread that was taken out does the job of the number
pub returns-clause-works : goal.returns-clause-works
returns-clause-works g c =
    let is = ap (λ (s : Started _). job_of s c.args.number) (sym c.self.view_is) ∙ job_there done_by c.self.inside.threads.items c.args.number c.take_at.result c.take_at.ensures.was in
    if_some _ _ (λ job. g.J.Worker.works job c.join.result) is c.join.ensures

-- the other jobs are as they were
pub returns-clause-joined : goal.returns-clause-joined
returns-clause-joined g c =
    let jobs = ap (map (option_map done_by)) c.take_at.ensures.gone ∙ jobs_set done_by c.self.inside.threads.items c.args.number in
    let others = ap (λ (s : Started _). record s { jobs = set s.jobs c.args.number None }) c.self.view_is in
    ap (λ js. record { jobs = js; refused = c.self.inside.refused.items; starts = c.self.inside.starts; faults = c.self.inside.faults }) jobs ∙ others

-- and stand at their places
pub returns-clause-others : goal.returns-clause-others
returns-clause-others g c = λ n other.
    ap (λ threads. job_at done_by threads n) c.take_at.ensures.gone ∙ jobs_kept done_by c.self.inside.threads.items c.args.number n other
    ∙ ap (λ (s : Started _). job_of s n) c.self.view_is
