-- The last flaw of a machine, where it has no other.
use Rattle.std.proofs.Common.{inl, inr, refl}
use Rattle.motion_laws.proofs.owners.Holders.{holders_of}
use Rattle.segment_check.proofs.starting.machine_flaw.Goals as goal

pub returns-then-not-have_all_orders : goal.returns-then-not-have_all_orders
returns-then-not-have_all_orders c = λ b.
    let owners = c.have_owners_blocks.ensures.0 c.if-not-have_owners_blocks.false in
    let shown = c.are_commands_shown.ensures.0 c.if-not-are_commands_shown.false in
    inl (
      c.is_machine_kept.ensures.0 c.if-not-is_machine_kept.false,
      inl (
        owners,
        inl (
          record {
            commands = shown.0;
            active = shown.1;
            holders = holders_of c.args.config.now c.args.start.now owners;
          },
          inl (
            c.have_kinds_of_blocks.ensures.0 c.if-not-have_kinds_of_blocks.false,
            inl (
              c.are_in_state.ensures.0 c.if-not-are_in_state.false,
              inr (
                λ h. absurd (let fails = c.if-not-have_all_orders.true in
                    let passes = c.have_all_orders.ensures.1 h in cc),
                refl,
              ),
            ),
          ),
        ),
      ),
    )
