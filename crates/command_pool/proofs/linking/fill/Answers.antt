-- The record at the place keeps its link, and no other record changes.
use Rattle.std.proofs.Common.{arith}
use Rattle.command_pool.proofs.Records.{link_read, links_of-filled, commands_of-set}
use Rattle.command_pool.proofs.linking.fill.Goals as goal

pub returns-clause-links : goal.returns-clause-links
returns-clause-links c =
    let rs = c.args.records.now in
    links_of-filled rs.items c.args.place (record { wanted = c.args.wanted; next = c.index.result.now.next })
    (link_read rs.items c.args.place c.index.result.now (omega (arith, rs.ok.0)) c.index.ensures)

pub returns-clause-commands : goal.returns-clause-commands
returns-clause-commands c =
    commands_of-set c.args.records.now.items c.args.place (record { wanted = c.args.wanted; next = c.index.result.now.next })
