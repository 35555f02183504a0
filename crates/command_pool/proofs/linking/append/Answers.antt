-- An empty list begins with the record; in another the last one is linked to it.
use Rattle.std.proofs.Common.{refl}
use Rattle.std.proofs.lemmas.Bool.{eq-eqb, ne_eqb}
use Rattle.command_pool.specs.Layout.{links_with, longer}
use Rattle.command_pool.proofs.linking.append.Goals as goal

pub returns-then-queue-eq0-clause-links : goal.returns-then-queue-eq0-clause-links
unfolding links_with
returns-then-queue-eq0-clause-links c = rw (eq-eqb c.args.queue.count 0 c.if-queue-eq0.true) refl

pub returns-then-queue-eq0-clause-queue : goal.returns-then-queue-eq0-clause-queue
unfolding longer
returns-then-queue-eq0-clause-queue c = rw (eq-eqb c.args.queue.count 0 c.if-queue-eq0.true) refl

pub returns-clause-links : goal.returns-clause-links
unfolding links_with
returns-clause-links c = rw (ne_eqb c.args.queue.count 0 c.if-queue-eq0.false) c.link.ensures.links

pub returns-clause-queue : goal.returns-clause-queue
unfolding longer
returns-clause-queue c = rw (ne_eqb c.args.queue.count 0 c.if-queue-eq0.false) refl
