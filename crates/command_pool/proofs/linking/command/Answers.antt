use Rattle.std.proofs.Common.{arith}
use Rattle.command_pool.proofs.Records.{command_read}
use Rattle.command_pool.proofs.linking.command.Goals as goal

pub returns : goal.returns
returns c =
    let rs = c.args.records.now in
    command_read rs.items c.args.place c.index.result.now (omega (arith, rs.ok.0)) c.index.ensures
