-- A step that is not positive has no way, and a positive one is its size.
use Rattle.std.proofs.Common.{◌≡◌, ℕ, pos, arith, refl, to_z, ◌∙◌, ap}
use Rattle.std.proofs.lemmas.Int.{ints, clamps}
use Rattle.std.specs.Int.{w128}
use Rattle.motion_numbers.specs.Run.{run_of}
use Rattle.motion_numbers.proofs.Runs.{cut_is}
use Rattle.motion_numbers.proofs.ramp.run_sum.Goals as goal

-- a way by another name of its step and its fall
same_way : (r u v d e : ℕ) → r ≡ run_of u d → u ≡ v → d ≡ e → r ≡ run_of v e
same_way r u v d e way step fall = cc

pub returns-clause-value : goal.returns-clause-value
returns-clause-value c =
    let wide : to_z w128 c.ramp_sum.result ≡ pos c.ramp_sum.result = omega (arith, ints) in
    wide ∙ ap pos (same_way _ _ _ _ _ c.ramp_sum.ensures.value (omega (arith, ints, clamps, cut_is)) (omega (arith, ints)))

pub returns-clause-ahead : goal.returns-clause-ahead
returns-clause-ahead c = λ forward.
    returns-clause-value c ∙ ap pos (same_way _ _ _ _ _ refl (omega (arith, ints, cut_is)) refl)
