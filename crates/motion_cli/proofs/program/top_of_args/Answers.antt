-- What is said of the words is said of the arguments, if there was memory for their words.
use Rattle.motion_cli.proofs.AskedLaws.{said-by}
use Rattle.motion_cli.proofs.program.top_of_args.Goals as goal

pub returns-in-Ok-clause-said : goal.returns-in-Ok-clause-said
returns-in-Ok-clause-said g c = rw c.in-Ok.is
    (said-by c.words_from-words.result _ _ _ c.words_from-words.ensures
    c.top_of_words.ensures.said c.top_of_words.ensures.memory)
