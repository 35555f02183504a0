-- What the map finds is the member.
use Rattle.toml.proofs.Views.{table_get}
use Rattle.machine_config.specs.Keys.{value_at}
use Rattle.machine_config.proofs.key.value_at.Goals as goal

pub returns : goal.returns
unfolding value_at
returns c =
    rw c.word_of.ensures at (table_get c.get.result c.word_of.result.now c.args.table.now.entries c.get.ensures.value)
