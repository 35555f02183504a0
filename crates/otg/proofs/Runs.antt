-- A run of steps of a move: each is the move's own, so that the run is done when the move arrives.
-- for: moves_are_done, halts_are_done, velocities_are_done
use Rattle.std.proofs.Common.{inl, inr, ◌≡◌, ◌⊎◌, ℕ, ◌+◌, ◌-◌, ◌≤◌, zero, suc, ℤ, pos, neg_ℤ, ◌+ℤ◌, ◌-ℤ◌, ◌≤ℤ◌, unsigned_abs, arith, refl, ◌∙◌}
use Rattle.std.proofs.lemmas.Int.{ints, by_lt_z}
use Rattle.motion_numbers.specs.Run.{cut_at_zero}
use Rattle.motion_numbers.proofs.Runs.{cut_is}
use Rattle.jerk_core.specs.declared.limits.JerkLimits.{JerkLimits}
use Rattle.jerk_core.specs.declared.rates.JerkRates.{JerkRates}
use Rattle.jerk_core.specs.Braking.{braked_of}
use Rattle.jerk_core.specs.Rates.{AreJerkRates, IsKeptBy, IsSafeBy}
use Rattle.jerk_core.specs.Admissible.{IsSafeByJerk, IsTakenByJerk, rates_of}
use Rattle.jerk_core.specs.Taken.IsSafeFrom.{goes_on}
use Rattle.jerk_core.proofs.Brakes.{braked_zero}
use Rattle.jerk_core.proofs.KeptMotions.{braked_safe, standing_kept}
use Rattle.jerk_core.proofs.Sides.{safe_of_from_down}
use Rattle.jerk_plan.specs.Wanted.{IsMoveSpeed, IsSpeedOfMove, IsArrived, IsArrivedWithin, slowed_of, move_cycles_of}
use Rattle.jerk_plan.specs.Wanted.IsSpeedOfMove.{moves, slows}
use Rattle.jerk_plan.specs.Directed.{IsMoveStep}
use Rattle.jerk_plan.specs.Directed.IsMoveStep.{up, down}
use Rattle.jerk_plan.specs.Directed.IsMoveStep.{slows as halts}
use Rattle.jerk_plan.proofs.Headings.{down_of}
use Rattle.jerk_plan.proofs.Arrivals.{arrives_from_rest}
use Rattle.otg.specs.declared.generator.Otg.{Otg}
use Rattle.otg.specs.Open.{IsStepTaken, IsWantedStep, limits_of, rates_of_command, shifted_of}
use Rattle.otg.specs.Open.IsWantedStep.{by_move, by_velocity, by_halt}
use Rattle.otg.specs.Own.{Rises, HasTargetAbove, IsOwnMove}
use Rattle.otg.specs.Runs.{IsRun, IsDone, IsMoveFromRest, IsUnderWay, FallsToTarget, way_left_of, last_of, speed_of}
use Rattle.otg.proofs.Opens.{jerk_limits_of}
use Rattle.otg.proofs.OwnMoves.{motion_down, counts_down, more_kept, more_safe, own_up}

-- the speed of a move whose step leads up
record IsUpBy (rates : JerkRates) (way w v : ℕ) (step : ℤ) : Type 0 where
  speed : ℕ
  is : step ≡ pos speed
  move : IsMoveSpeed rates way w v speed

-- or down
record IsDownBy (rates : JerkRates) (way w v : ℕ) (step : ℤ) : Type 0 where
  speed : ℕ
  is : step ≡ neg_ℤ (pos speed)
  move : IsMoveSpeed rates way w v speed

-- a halt at rest stands
pub slowed_none : (rates : JerkRates) (w : ℕ) → slowed_of rates w 0 ≡ 0
unfolding slowed_of
slowed_none rates w = let none : braked_of rates.d rates.j w 0 ≡ 0 = braked_zero rates.d rates.j w in omega arith

-- the speed of a kept motion's move
kept_speed : (rates : JerkRates) (way w v x : ℕ) → IsKeptBy rates way w v → IsSpeedOfMove rates way w v x → IsMoveSpeed rates way w v x
kept_speed rates way w v x kept (moves also move) = move
kept_speed rates way w v x kept (slows not_kept is) = absurd (not_kept kept)

-- at the target a move's speed is none
none_at_target : (rates : JerkRates) (way w v x : ℕ) → way ≡ 0 → v ≡ 0 → IsSpeedOfMove rates way w v x → x ≡ 0
none_at_target rates way w v x there still (moves kept move) = let within : x ≤ way = move.safe.after.within in omega arith
none_at_target rates way w v x there still (slows not_kept is) = rw still at is ∙ slowed_none rates w

stands_at_target : (rates : JerkRates) (way w v : ℕ) → AreJerkRates rates → way ≡ 0 → v ≡ 0 → IsKeptBy rates way w v → IsMoveSpeed rates way w v 0
stands_at_target rates way w v ok there still kept =
    let none : braked_of rates.d rates.j w v ≡ 0 = rw still (braked_zero rates.d rates.j w) in
    let safe : IsSafeBy rates way w v (braked_of rates.d rates.j w v) =
    braked_safe rates.v rates.a rates.d rates.j way w v (omega (arith, ok.d_least)) (omega (arith, ok.j_least)) kept in
    record {
      safe = rw none at safe;
      greatest = λ y other. let within : y ≤ way = other.after.within in omega arith;
    }

-- the step of a move up is its speed
move_up : (rates : JerkRates) (distance last speed step : ℤ) → pos 0 ≤ℤ distance → pos 0 ≤ℤ last → pos 0 ≤ℤ speed →
    IsKeptBy rates (unsigned_abs distance) (unsigned_abs last) (unsigned_abs speed) → IsMoveStep rates distance last speed step →
    IsUpBy rates (unsigned_abs distance) (unsigned_abs last) (unsigned_abs speed) step
move_up rates distance last speed step toward rising forward kept (up x heads is wants) =
    let cut : cut_at_zero last ≡ unsigned_abs last = omega (arith, ints, cut_is last) in
    record { speed = x; is = is; move = kept_speed rates _ _ _ x kept (rw cut at wants) }
move_up rates distance last speed step toward rising forward kept (down x heads is wants) = absurd (omega (arith, ints, heads.some_down))
move_up rates distance last speed step toward rising forward kept (halts not_up not_down halt) = absurd (not_up (record { wanted_up = toward; speed_up = forward }))

-- and that of a move down too
move_down : (rates : JerkRates) (distance last speed step : ℤ) → AreJerkRates rates → distance ≤ℤ pos 0 → last ≤ℤ pos 0 → speed ≤ℤ pos 0 →
    IsKeptBy rates (unsigned_abs distance) (unsigned_abs last) (unsigned_abs speed) → IsMoveStep rates distance last speed step →
    IsDownBy rates (unsigned_abs distance) (unsigned_abs last) (unsigned_abs speed) step
move_down rates distance last speed step ok toward falling backward kept (up x heads is wants) =
    let none : x ≡ 0 = none_at_target rates _ _ _ x (omega (arith, ints, heads.wanted_up)) (omega (arith, ints, heads.speed_up)) wants in
    record {
      speed = 0;
      is = omega (arith, ints);
      move = stands_at_target rates _ _ _ ok (omega (arith, ints, heads.wanted_up)) (omega (arith, ints, heads.speed_up)) kept;
    }
move_down rates distance last speed step ok toward falling backward kept (down x heads is wants) =
    let cut : cut_at_zero (neg_ℤ last) ≡ unsigned_abs last = omega (arith, ints, cut_is (neg_ℤ last)) in
    record { speed = x; is = is; move = kept_speed rates _ _ _ x kept (rw cut at wants) }
move_down rates distance last speed step ok toward falling backward kept (halts not_up not_down halt) = absurd (not_down (down_of distance speed not_up toward backward))

-- a wanted step that is safe is the one taken
pub wanted_taken : (limits : JerkLimits) (first before now wanted step : ℤ) → IsSafeByJerk limits first before now (now +ℤ wanted) →
    IsTakenByJerk limits first before now wanted step → step ≡ wanted
wanted_taken limits first before now wanted step safe taken =
    let near : unsigned_abs (step -ℤ wanted) ≤ unsigned_abs (wanted -ℤ wanted) = taken.nearest wanted safe in
    omega (arith, ints)

-- the same setpoint is safe
pub safe_at : (limits : JerkLimits) (first before now next same : ℤ) → same ≡ next → IsSafeByJerk limits first before now next → IsSafeByJerk limits first before now same
safe_at limits first before now next same is safe = rw is safe

-- a move's speed up is safe by the limits
safe_up : (otg : Otg) (x : ℕ) → IsOwnMove otg → Rises otg → HasTargetAbove otg → IsKeptBy (rates_of_command otg) (way_left_of otg) (last_of otg) (speed_of otg) →
    IsMoveSpeed (rates_of_command otg) (way_left_of otg) (last_of otg) (speed_of otg) x →
    IsSafeByJerk (limits_of otg) otg.first otg.before otg.current (otg.current +ℤ pos x)
safe_up otg x own rises target kept move =
    (own_up otg x own rises target (record { kept = kept; speed = move })).taken.taken.safe

-- and so is one down
safe_down : (otg : Otg) (x : ℕ) → IsOwnMove otg → FallsToTarget otg → IsKeptBy (rates_of_command otg) (way_left_of otg) (last_of otg) (speed_of otg) →
    IsMoveSpeed (rates_of_command otg) (way_left_of otg) (last_of otg) (speed_of otg) x →
    IsSafeByJerk (limits_of otg) otg.first otg.before otg.current (otg.current +ℤ neg_ℤ (pos x))
unfolding motion_down
safe_down otg x own falls kept move =
    let toward : otg.target ≤ℤ otg.current = falls.toward in
    let within : otg.lo ≤ℤ otg.target = falls.within in
    let above : otg.lo ≤ℤ otg.current = omega (arith, ints) in
    let less : unsigned_abs (otg.target -ℤ otg.current) ≤ unsigned_abs (otg.current -ℤ otg.lo) = omega (arith, ints) in
    safe_at (limits_of otg) otg.first otg.before otg.current (otg.current -ℤ pos x) (otg.current +ℤ neg_ℤ (pos x)) (omega (arith, ints))
    (safe_of_from_down (limits_of otg) otg.first otg.before otg.current (pos x) (motion_down (limits_of otg) otg.first otg.before otg.current) (jerk_limits_of otg own.limits)
    (counts_down (limits_of otg) otg.first otg.before otg.current falls.first falls.second above falls.below)
    (more_kept (rates_of_command otg) (rates_of (limits_of otg)) _ _ _ _ own.command.rates own.rates less kept)
    (goes_on x refl (more_safe (rates_of_command otg) (rates_of (limits_of otg)) _ _ _ _ x own.command.rates own.rates less move.safe)))

-- the step of a move is that of its command
move_wanted : (otg : Otg) (step : ℤ) → otg.kind ≡ 1 → IsWantedStep otg step →
    IsMoveStep (rates_of_command otg) (otg.target -ℤ otg.current) (otg.before -ℤ otg.first) (otg.current -ℤ otg.before) step
move_wanted otg step kind (by_move is wants) = wants
move_wanted otg step kind (by_velocity is wants) = absurd (omega arith)
move_wanted otg step kind (by_halt not_move not_velocity wants) = absurd (not_move kind)

-- what a step of a move under way leaves
record IsFurther (otg next : Otg) : Type 0 where
  speed : ℕ
  move : IsMoveSpeed (rates_of_command otg) (way_left_of otg) (last_of otg) (speed_of otg) speed
  rates : rates_of_command next ≡ rates_of_command otg
  way : way_left_of next ≡ way_left_of otg - speed
  last : last_of next ≡ speed_of otg
  now : speed_of next ≡ speed
  under_way : IsUnderWay next

-- an own move is one after a step
own_after : (otg : Otg) (c : ℤ) → IsOwnMove otg → IsOwnMove (shifted_of otg c)
own_after otg c own = record {
  limits = record { places = own.limits.places; slow = own.limits.slow; gains = own.limits.gains; sharp = own.limits.sharp };
  command = record { rates = own.command.rates; target = own.command.target };
  kind = own.kind;
  rates = own.rates;
}

-- the motion of equal numbers
pub kept_at : (rates : JerkRates) (l w v l1 w1 v1 : ℕ) → l1 ≡ l → w1 ≡ w → v1 ≡ v → IsKeptBy rates l w v → IsKeptBy rates l1 w1 v1
kept_at rates l w v l1 w1 v1 p q r kept = rw (p, q, r) kept

further_up : (otg : Otg) (c : ℤ) (x : ℕ) → IsOwnMove otg → Rises otg → HasTargetAbove otg → c ≡ (otg.current +ℤ pos x) →
    IsMoveSpeed (rates_of_command otg) (way_left_of otg) (last_of otg) (speed_of otg) x → IsFurther otg (shifted_of otg c)
further_up otg c x own rises target is move =
    let second : otg.before ≤ℤ otg.current = rises.second in
    let toward : otg.current ≤ℤ otg.target = target.toward in
    let above : otg.lo ≤ℤ otg.current = target.above in
    let within : x ≤ unsigned_abs (otg.target -ℤ otg.current) = move.safe.after.within in
    let way : unsigned_abs (otg.target -ℤ c) ≡ unsigned_abs (otg.target -ℤ otg.current) - x = omega (arith, ints) in
    let now : unsigned_abs (c -ℤ otg.current) ≡ x = omega (arith, ints) in
    record {
      speed = x;
      move = move;
      rates = refl;
      way = way;
      last = refl;
      now = now;
      under_way = record {
        own = own_after otg c own;
        heads = inl (record { first = second; second = omega (arith, ints) }, record { toward = omega (arith, ints); within = target.within; above = omega (arith, ints) });
        kept = kept_at (rates_of_command otg) _ _ _ _ _ _ way refl now move.safe.after.kept;
      };
    }

further_down : (otg : Otg) (c : ℤ) (x : ℕ) → IsOwnMove otg → FallsToTarget otg → c ≡ (otg.current +ℤ neg_ℤ (pos x)) →
    IsMoveSpeed (rates_of_command otg) (way_left_of otg) (last_of otg) (speed_of otg) x → IsFurther otg (shifted_of otg c)
further_down otg c x own falls is move =
    let second : otg.current ≤ℤ otg.before = falls.second in
    let toward : otg.target ≤ℤ otg.current = falls.toward in
    let below : otg.current ≤ℤ otg.hi = falls.below in
    let within : x ≤ unsigned_abs (otg.target -ℤ otg.current) = move.safe.after.within in
    let way : unsigned_abs (otg.target -ℤ c) ≡ unsigned_abs (otg.target -ℤ otg.current) - x = omega (arith, ints) in
    let now : unsigned_abs (c -ℤ otg.current) ≡ x = omega (arith, ints) in
    record {
      speed = x;
      move = move;
      rates = refl;
      way = way;
      last = refl;
      now = now;
      under_way = record {
        own = own_after otg c own;
        heads = inr (record { first = second; second = omega (arith, ints); toward = omega (arith, ints); within = falls.within; below = omega (arith, ints) });
        kept = kept_at (rates_of_command otg) _ _ _ _ _ _ way refl now move.safe.after.kept;
      };
    }

-- a step of a move under way goes by its speed
further : (otg next : Otg) (c : ℤ) → IsUnderWay otg → IsStepTaken otg (c -ℤ otg.current) → next ≡ shifted_of otg c → IsFurther otg next
further otg next c way step is = rw is (by_heads way.heads)
  where
    wants : IsMoveStep (rates_of_command otg) (otg.target -ℤ otg.current) (otg.before -ℤ otg.first) (otg.current -ℤ otg.before) step.wanted
    wants = move_wanted otg step.wanted way.own.kind step.wants

    by_heads : (Rises otg × HasTargetAbove otg) ⊎ FallsToTarget otg → IsFurther otg (shifted_of otg c)
    by_heads (inl rising) =
        let first : otg.first ≤ℤ otg.before = rising.0.first in
        let second : otg.before ≤ℤ otg.current = rising.0.second in
        let toward : otg.current ≤ℤ otg.target = rising.1.toward in
        let goes : IsUpBy (rates_of_command otg) (way_left_of otg) (last_of otg) (speed_of otg) step.wanted =
        move_up (rates_of_command otg) (otg.target -ℤ otg.current) (otg.before -ℤ otg.first) (otg.current -ℤ otg.before) step.wanted
        (omega (arith, ints)) (omega (arith, ints)) (omega (arith, ints)) way.kept wants in
        let safe = safe_up otg goes.speed way.own rising.0 rising.1 way.kept goes.move in
        let same : (c -ℤ otg.current) ≡ step.wanted =
        wanted_taken (limits_of otg) otg.first otg.before otg.current step.wanted (c -ℤ otg.current) (rw goes.is safe) step.taken in
        further_up otg c goes.speed way.own rising.0 rising.1 (omega (arith, ints, goes.is)) goes.move
    by_heads (inr falling) =
        let first : otg.before ≤ℤ otg.first = falling.first in
        let second : otg.current ≤ℤ otg.before = falling.second in
        let toward : otg.target ≤ℤ otg.current = falling.toward in
        let goes : IsDownBy (rates_of_command otg) (way_left_of otg) (last_of otg) (speed_of otg) step.wanted =
        move_down (rates_of_command otg) (otg.target -ℤ otg.current) (otg.before -ℤ otg.first) (otg.current -ℤ otg.before) step.wanted way.own.command.rates
        (omega (arith, ints)) (omega (arith, ints)) (omega (arith, ints)) way.kept wants in
        let safe = safe_down otg goes.speed way.own falling way.kept goes.move in
        let same : (c -ℤ otg.current) ≡ step.wanted =
        wanted_taken (limits_of otg) otg.first otg.before otg.current step.wanted (c -ℤ otg.current) (rw goes.is safe) step.taken in
        further_down otg c goes.speed way.own falling (omega (arith, ints, goes.is)) goes.move

-- one that has arrived is done
arrived_done : (otg : Otg) → IsArrived (way_left_of otg) (last_of otg) (speed_of otg) → IsDone otg
arrived_done otg arrived =
    let way : unsigned_abs (otg.target -ℤ otg.current) ≡ 0 = arrived.there in
    let last : unsigned_abs (otg.before -ℤ otg.first) ≡ 0 = arrived.last in
    let speed : unsigned_abs (otg.current -ℤ otg.before) ≡ 0 = arrived.speed in
    record { first = omega (arith, ints); before = omega (arith, ints); current = omega (arith, ints) }

-- and stays so
stays_arrived : (otg next : Otg) → IsArrived (way_left_of otg) (last_of otg) (speed_of otg) → IsFurther otg next → IsArrived (way_left_of next) (last_of next) (speed_of next)
stays_arrived otg next arrived on =
    let within : on.speed ≤ way_left_of otg = on.move.safe.after.within in
    record {
      there = omega (arith, on.way, arrived.there);
      last = omega (arith, on.last, arrived.speed);
      speed = omega (arith, on.now, arrived.there);
    }

-- the step of a run
step_of : (run : ℕ → Otg) (i : ℕ) → IsRun run → IsUnderWay (run i) → IsFurther (run i) (run (suc i))
step_of run i steps way = further (run i) (run (suc i)) (run (suc i)).current way (steps i).taken (steps i).same

-- so a run ends where it has arrived
run_stays : (k : ℕ) (run : ℕ → Otg) (i : ℕ) → IsRun run → IsUnderWay (run i) → IsArrived (way_left_of (run i)) (last_of (run i)) (speed_of (run i)) → IsDone (run (k + i))
run_stays zero run i steps way arrived = let same : zero + i ≡ i = omega arith in rw same (arrived_done (run i) arrived)
run_stays (suc k) run i steps way arrived =
    let on : IsFurther (run i) (run (suc i)) = step_of run i steps way in
    let same : suc k + i ≡ k + suc i = omega arith in
    rw same (run_stays k run (suc i) steps on.under_way (stays_arrived (run i) (run (suc i)) arrived on))

-- the arrival of equal numbers
arrives_at : (m : ℕ) (own rates : JerkRates) (l w v l1 w1 v1 : ℕ) → own ≡ rates → l1 ≡ l → w1 ≡ w → v1 ≡ v → IsArrivedWithin m rates l w v → IsArrivedWithin m own l1 w1 v1
arrives_at m own rates l w v l1 w1 v1 same p q r arrives = rw (same, p, q, r) arrives

run_arrives : (m k : ℕ) (run : ℕ → Otg) (i : ℕ) → IsRun run → IsUnderWay (run i) →
    IsArrivedWithin m (rates_of_command (run i)) (way_left_of (run i)) (last_of (run i)) (speed_of (run i)) → m ≤ k → IsDone (run (k + i))
run_arrives zero k run i steps way arrived enough = run_stays k run i steps way arrived
run_arrives (suc m) zero run i steps way arrives enough = absurd (omega arith)
run_arrives (suc m) (suc k) run i steps way (inl arrived) enough = run_stays (suc k) run i steps way arrived
run_arrives (suc m) (suc k) run i steps way (inr later) enough =
    let on : IsFurther (run i) (run (suc i)) = step_of run i steps way in
    let same : suc k + i ≡ k + suc i = omega arith in
    rw same (run_arrives m k run (suc i) steps on.under_way
    (arrives_at m (rates_of_command (run (suc i))) (rates_of_command (run i)) _ _ _ _ _ _ on.rates on.way on.last on.now (later on.speed on.move)) (omega arith))

-- a run of a move under way is done once the move has arrived
pub done_under_way : (run : ℕ → Otg) (m n : ℕ) → IsRun run → IsUnderWay (run zero) →
    IsArrivedWithin m (rates_of_command (run zero)) (way_left_of (run zero)) (last_of (run zero)) (speed_of (run zero)) → m ≤ n → IsDone (run n)
done_under_way run m n steps way arrives enough =
    let same : n + zero ≡ n = omega arith in
    rw same at (run_arrives m n run zero steps way arrives enough)

-- a move from rest is under way
rest_under_way : (otg : Otg) → IsMoveFromRest otg → IsUnderWay otg
rest_under_way otg rest =
    let first : otg.first ≡ otg.current = rest.first in
    let before : otg.before ≡ otg.current = rest.before in
    let above : otg.lo ≤ℤ otg.current = rest.opened.kept.above in
    let below : otg.current ≤ℤ otg.hi = rest.opened.kept.below in
    let least : otg.lo ≤ℤ otg.target = rest.above in
    let most : otg.target ≤ℤ otg.hi = rest.below in
    let ok : AreJerkRates (rates_of_command otg) = rest.opened.command.rates in
    record {
      own = record { limits = rest.opened.limits; command = rest.opened.command; kind = rest.kind; rates = rest.rates };
      heads = by_lt_z otg.target otg.current
          (λ less. inr (record { first = omega (arith, ints); second = omega (arith, ints); toward = omega (arith, ints); within = least; below = below }))
          (λ more. inl (record { first = omega (arith, ints); second = omega (arith, ints) }, record { toward = omega (arith, ints); within = most; above = above }));
      kept = kept_at (rates_of_command otg) (way_left_of otg) 0 0 _ _ _ refl (omega (arith, ints)) (omega (arith, ints))
          (standing_kept otg.v otg.a otg.d otg.j (way_left_of otg) (omega (arith, ok.d_least)) (omega (arith, ok.j_least)));
    }

-- so it is done within its cycles
pub done_from_rest : (run : ℕ → Otg) (n : ℕ) → IsRun run → IsMoveFromRest (run zero) →
    move_cycles_of (rates_of_command (run zero)) (way_left_of (run zero)) ≤ n → IsDone (run n)
done_from_rest run n steps rest enough =
    done_under_way run (move_cycles_of (rates_of_command (run zero)) (way_left_of (run zero))) n steps (rest_under_way (run zero) rest)
    (arrives_at _ _ _ _ _ _ _ _ _ refl refl (rest_last (run zero) rest) (rest_speed (run zero) rest)
    (arrives_from_rest (rates_of_command (run zero)) (way_left_of (run zero)) rest.opened.command.rates)) enough
  where
    rest_last : (otg : Otg) → IsMoveFromRest otg → last_of otg ≡ 0
    rest_last otg rest = omega (arith, ints, rest.first, rest.before)

    rest_speed : (otg : Otg) → IsMoveFromRest otg → speed_of otg ≡ 0
    rest_speed otg rest = omega (arith, ints, rest.before)
