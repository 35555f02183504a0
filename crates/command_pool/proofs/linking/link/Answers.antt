-- The record at the place keeps its command, and no other record changes.
use Rattle.std.proofs.Common.{arith}
use Rattle.command_pool.proofs.Records.{command_read, links_of-set, commands_of-linked}
use Rattle.command_pool.proofs.linking.link.Goals as goal

pub returns-clause-links : goal.returns-clause-links
returns-clause-links c =
    links_of-set c.args.records.now.items c.args.place (record { wanted = c.index.result.now.wanted; next = c.args.next })

pub returns-clause-commands : goal.returns-clause-commands
returns-clause-commands c =
    let rs = c.args.records.now in
    commands_of-linked rs.items c.args.place (record { wanted = c.index.result.now.wanted; next = c.args.next })
    (command_read rs.items c.args.place c.index.result.now (omega (arith, rs.ok.0)) c.index.ensures)
