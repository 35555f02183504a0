-- A round after another, up to the last.
use Rattle.std.proofs.Common.{◌∙◌, sym}
use Rattle.std.proofs.lemmas.Result.{err_from_is_err_and}
use Rattle.st_rounds.proofs.RoundLaws.{cycle-stops, fewer-left, lives-of, round-ends, round-goes-on, round-stops, rounds-begin}
use Rattle.st_rounds.proofs.turns.make_rounds.Goals as goal

pub loop-players-init : goal.loop-players-init
loop-players-init c =
    rounds-begin c.args.cell.now c.args.kernel.now.kernel c.args.drives.now c.args.players.now
    c.requires.config c.requires.going c.requires.each c.requires.players

pub returns-in_err-make_turns-clause-made : goal.returns-in_err-make_turns-clause-made
returns-in_err-make_turns-clause-made c =
    let p = err_from_is_err_and c.from_residual.result c.from_residual.ensures.1 in
    rw (p.1, p.2) (round-stops c.args.cell.now c.loop-players.kernel.kernel c.make_turns.new.kernel.kernel
    c.args.kernel.now.kernel c.loop-players.drives c.args.drives.now c.loop-players.players
    c.make_turns.new.players c.args.players.now c.in_err-make_turns.field-0.0
    c.loop-players.invariant c.in_err-make_turns.ensures.made)

pub returns-then-not-any_lives-clause-made : goal.returns-then-not-any_lives-clause-made
returns-then-not-any_lives-clause-made c =
    round-ends c.args.cell.now c.loop-players.kernel.kernel c.make_turns.new.kernel.kernel c.args.kernel.now.kernel
    c.loop-players.drives c.args.drives.now c.loop-players.players c.make_turns.new.players
    c.args.players.now c.loop-players.invariant
    (record {
      config = c.make_turns.ensures.config;
      runs = c.make_turns.ensures.runs;
      each = c.make_turns.auto.players;
      playing = c.in_ok-make_turns.ensures.players;
      made = c.in_ok-make_turns.ensures.made;
    })
    (lives-of c.make_turns.new.players ∙ sym c.any_lives.ensures
    ∙ c.if-not-any_lives.true)

pub loop-players-smaller : goal.loop-players-smaller
loop-players-smaller c =
    fewer-left c.cycles_add_up.ensures.more c.args.cell.now c.loop-players.kernel.kernel
    c.make_turns.new.kernel.kernel c.make_cycle.new.kernel.kernel c.loop-players.drives c.make_cycle.new.drives
    c.loop-players.players c.make_turns.new.players
    (record {
      config = c.make_turns.ensures.config;
      runs = c.make_turns.ensures.runs;
      each = c.make_turns.auto.players;
      playing = c.in_ok-make_turns.ensures.players;
      made = c.in_ok-make_turns.ensures.made;
    })
    c.make_cycle.ensures.config c.in_ok-make_cycle.ensures.made

pub loop-players-preserved : goal.loop-players-preserved
loop-players-preserved c =
    round-goes-on c.cycles_add_up.ensures.more c.args.cell.now c.loop-players.kernel.kernel
    c.make_turns.new.kernel.kernel c.make_cycle.new.kernel.kernel c.args.kernel.now.kernel c.loop-players.drives
    c.make_cycle.new.drives c.args.drives.now c.loop-players.players c.make_turns.new.players
    c.args.players.now c.loop-players.invariant
    (record {
      config = c.make_turns.ensures.config;
      runs = c.make_turns.ensures.runs;
      each = c.make_turns.auto.players;
      playing = c.in_ok-make_turns.ensures.players;
      made = c.in_ok-make_turns.ensures.made;
    })
    (lives-of c.make_turns.new.players ∙ sym c.any_lives.ensures
    ∙ c.if-not-any_lives.false)
    c.make_cycle.ensures.config c.make_cycle.ensures.going c.in_ok-make_cycle.ensures.made

pub returns-in_err-make_cycle-clause-made : goal.returns-in_err-make_cycle-clause-made
returns-in_err-make_cycle-clause-made c =
    let p = err_from_is_err_and c.from_residual-in_err-make_cycle.result
    c.from_residual-in_err-make_cycle.ensures.1 in
    rw (p.1, p.2) (cycle-stops c.args.cell.now c.loop-players.kernel.kernel c.make_turns.new.kernel.kernel
    c.make_cycle.new.kernel.kernel c.args.kernel.now.kernel c.loop-players.drives c.make_cycle.new.drives
    c.args.drives.now c.loop-players.players c.make_turns.new.players c.args.players.now
    c.in_err-make_cycle.field-0.0 c.loop-players.invariant
    (record {
      config = c.make_turns.ensures.config;
      runs = c.make_turns.ensures.runs;
      each = c.make_turns.auto.players;
      playing = c.in_ok-make_turns.ensures.players;
      made = c.in_ok-make_turns.ensures.made;
    })
    (lives-of c.make_turns.new.players ∙ sym c.any_lives.ensures
    ∙ c.if-not-any_lives.false)
    c.in_err-make_cycle.ensures.made)
