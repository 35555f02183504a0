-- What a cycle's turn leaves.
-- for: run_plant
use Rattle.std.proofs.Common.{◌≡◌, ◌≢◌, ℕ, List, [], ◌∷◌, ◌++◌, length, sym, ap, ◌∙◌, subst, arith, ⊎_elim}
use Rattle.plc_types.specs.declared.drive.DriveIn.{DriveIn}
use Rattle.plc_types.specs.declared.drive.DriveOut.{DriveOut}
use Rattle.kernel_turn.specs.Events.{cycle_of, outputs_of}
use Rattle.motion_kernel.specs.KernelState.{with_entry}
use Rattle.kernel_turn.specs.PermitState.{PermitState}
use Rattle.kernel_turn.specs.Turns.{CycleAnswered, FullOfEither}
use Rattle.kernel_turn.specs.declared.turn.Turn.{Turn}
use Rattle.kernel_turn.specs.declared.turn.Turn.TheVariants as turns
use Rattle.motion_plant.specs.Calls.{fixed_part}
use Rattle.motion_plant.specs.Cycling.{EndsBy, MadeCycle}
use Rattle.motion_plant.specs.Driven.{cycle_with}
use Rattle.motion_plant.specs.Makers.{IsUpTo, Owns}
use Rattle.motion_history.specs.Entries.{cycles_of}
use Rattle.motion_history.specs.Setup.{Setup}
use Rattle.motion_kernel.specs.KernelState.{KernelState}
use Rattle.motion_kernel.specs.Tasks.{live_tasks, quiet_tasks}
use Rattle.motion_plant.specs.declared.cycles.Ending.TheVariants as endings
use Rattle.motion_plant.proofs.TurnLaws.{LeavesAll, left_twice, none_made, one_made}

module _ (first old new : PermitState) (ins : List DriveIn) (before outs : List DriveOut)
    (left : LeavesAll first old) (o : Owns (IsUpTo first.config 0) old.own old.seen) (turn : Turn ℕ)
    (answered : CycleAnswered ins before outs old new turn) where
  config_is : old.config ≡ first.config
  config_is = ap (λ (p : PermitState). p.config) left.fixed

  pub cycle_none : (quiet cycles : ℕ) → turn ≡ turns.Early quiet cycles →
      Owns (IsUpTo first.config 0) new.own new.seen × LeavesAll first new × (outs ≡ before)
  cycle_none quiet cycles e =
      let a = subst (CycleAnswered ins before outs old new) e answered in
      let r = none_made (IsUpTo first.config 0) old new a.0 a.1 o a.2.found a.2.makes.0.kernel
      a.2.permit in
      (r.0, left_twice first old new left r.1, a.3.0)

  -- no cycle is left
  pub cycle_over : (entries cycles most : ℕ) → turn ≡ turns.Full entries cycles →
      most ≡ first.config.cycles → cycles ≡ most → Owns (IsUpTo first.config 0) new.own new.seen ×
      LeavesAll first new × (outs ≡ before) × EndsBy first.config new endings.Over
  cycle_over entries cycles most e is same =
      let a = subst (CycleAnswered ins before outs old new) e answered in
      let r = none_made (IsUpTo first.config 0) old new a.0 a.1 o a.2.found a.2.makes.0.kernel
      a.2.permit in
      let k = a.2.makes.0.cycles_is in
      let s : cycles_of new.seen ≡ cycles_of a.0.history = ap (λ (p : PermitState). cycles_of p.seen)
      a.2.permit ∙ ap (λ (z : KernelState). cycles_of z.history) a.2.makes.0.kernel in
      (r.0, left_twice first old new left r.1, a.3.0, omega arith)

  -- there is no room
  pub cycle_full : (entries cycles most : ℕ) → turn ≡ turns.Full entries cycles →
      most ≡ first.config.cycles → cycles ≢ most → FullOfEither new turn →
      Owns (IsUpTo first.config 0) new.own new.seen × LeavesAll first new × (outs ≡ before) ×
      EndsBy first.config new endings.Full
  cycle_full entries cycles most e is differ full =
      let a = subst (CycleAnswered ins before outs old new) e answered in
      let f = subst (FullOfEither new) e full in
      let r = none_made (IsUpTo first.config 0) old new a.0 a.1 o a.2.found a.2.makes.0.kernel
      a.2.permit in
      let l = left_twice first old new left r.1 in
      let c : new.config ≡ first.config = ap (λ (p : PermitState). p.config) l.fixed in
      let s : length new.seen ≡ length a.0.history =
      ap (λ (p : PermitState). length p.seen) a.2.permit ∙
      ap (λ (z : KernelState). length z.history) a.2.makes.0.kernel in
      let en = ap (λ (z : Setup). z.entries) c in
      let cy = ap (λ (z : Setup). z.cycles) c in
      let n = a.2.makes.1 in (
        r.0,
        l,
        a.3.0,
        λ met. ⊎_elim (λ x. omega arith) (λ y. absurd (differ (y ∙ cy ∙ sym is)))
            (f met),
      )

  pub cycle_made : (ticket cycles live : ℕ) → turn ≡ turns.Made ticket cycles live →
      Owns (IsUpTo first.config 0) new.own new.seen × (fixed_part new ≡ fixed_part first) ×
      MadeCycle first.config ins outs live first new
  cycle_made ticket cycles live e =
      let a = subst (CycleAnswered ins before outs old new) e answered in
      let f = a.0 in
      let m = a.2.makes in
      let told = a.3 in
      let config : f.config ≡ first.config = a.2.found.config ∙ config_is in
      let same : cycle_of f ins ≡ cycle_with first.config f.history ins =
      ap (λ (s : Setup). cycle_with s f.history ins) config in
      let kernel = m.kernel ∙ ap (with_entry f) same in
      let r = one_made (IsUpTo first.config 0) old new f a.1 o a.2.found
      (cycle_with first.config f.history ins) ticket (omega arith) kernel m.ticket_is a.2.permit
      in
      let x = left.longer in
      let y = r.1.first in
      let z = r.1.longer in
      let few = m.few in
      let cy = ap (λ (s : Setup). s.cycles) config in
      let seen : new.seen ≡ f.history ++ cycle_with first.config f.history ins ∷ [] =
      ap (λ (p : PermitState). p.seen) a.2.permit ∙ ap (λ (k : KernelState). k.history) kernel in
      let last : new.seen ≡ a.1.history = ap (λ (p : PermitState). p.seen) a.2.permit in
      let count = m.cycles_is ∙ ap cycles_of (sym last) in
      let g_config : a.1.config ≡ first.config = ap (λ (k : KernelState). k.config) m.kernel ∙
      config in (
        r.0,
        r.1.fixed ∙ left.fixed,
        record {
          before = f.history;
          made = r.1.made ∙ ap (λ ls. ls ++ record {
            before = f.history;
            entry =
                cycle_with first.config f.history ins;
          } ∷ []) left.made;
          quiet = ap (λ (s : Setup). quiet_tasks s f.history) (sym config) ∙ told.0;
          outs_are = told.2 ∙ ap (λ (s : Setup). outputs_of (record f { config = s }) ins) config;
          more = omega arith;
          few = omega arith;
          seen = seen;
          live_is = told.3 ∙ (λ j. live_tasks (g_config j) (sym last j));
        },
      )
