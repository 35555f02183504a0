-- Each command is added in turn.
use Rattle.std.proofs.lemmas.Result.{IfOk-weaker}
use Rattle.command_words.proofs.ParseLaws.{with_command}
use Rattle.command_words.proofs.commands.with_first_commands.Goals as goal

pub returns : goal.returns
returns c =
    let one = with_command _ _ _ _ _
    c.bare_motion.ensures c.in_ok-bench.ensures c.in_ok-subcommand.ensures in
    let two = with_command _ _ _ _ _ one c.in_ok-run.ensures c.in_ok-subcommand-2.ensures in
    let three = with_command _ _ _ _ _ two c.in_ok-check.ensures c.in_ok-subcommand-3.ensures in
    let four = with_command _ _ _ _ _ three c.in_ok-load.ensures c.in_ok-subcommand-4.ensures in
    IfOk-weaker c.subcommand-5.result _ _
    (λ all adds. with_command _ _ _ _ all four c.in_ok-migrate.ensures adds) c.subcommand-5.ensures
