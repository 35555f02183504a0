-- Each command is added in turn.
use Rattle.std.proofs.lemmas.Result.{IfOk-weaker}
use Rattle.command_words.proofs.ParseLaws.{with_command}
use Rattle.command_words.proofs.commands.motion.Goals as goal

pub returns : goal.returns
returns c =
    let six = with_command _ _ _ _ _
    c.in_ok-first.ensures c.in_ok-tasks.ensures c.in_ok-subcommand.ensures in
    let seven = with_command _ _ _ _ _ six c.in_ok-switches.ensures c.in_ok-subcommand-2.ensures in
    let eight = with_command _ _ _ _ _ seven c.in_ok-standby.ensures c.in_ok-subcommand-3.ensures in
    IfOk-weaker c.subcommand-4.result _ _
    (λ all adds. with_command _ _ _ _ all eight c.in_ok-scope.ensures adds) c.subcommand-4.ensures
