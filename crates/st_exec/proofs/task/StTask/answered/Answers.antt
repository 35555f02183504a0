-- A task that has taken a reply follows its code.
use Rattle.st_exec.proofs.Replies.{reply_follows}
use Rattle.st_exec.proofs.task.StTask.answered.Goals as goal

pub returns-in-Some-clause-follows : goal.returns-in-Some-clause-follows
returns-in-Some-clause-follows c = λ code follows.
    reply_follows code c.args.self.now c.take_reply.new.self c.in-Some.instance c.args.outputs.now
    c.in-Some.is c.take_reply.ensures follows
