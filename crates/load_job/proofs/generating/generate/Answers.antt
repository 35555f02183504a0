-- The generated bench is whole.
use Rattle.load_job.proofs.LoadLaws.{generated-is}
use Rattle.load_job.proofs.generating.generate.Goals as goal

pub new-requires : goal.new-requires
new-requires c =
    generated-is c.args.seed _ _ _ c.in_ok-config.ensures.ok c.in_ok-drives.ensures c.in_ok-lines.ensures
    c.in_ok-config.ensures.setup
