-- What a comparison of limits gives.
use Rattle.std.proofs.Common.{◌≡◌, true, refl, sym, ◌∙◌, int_eq}
use Rattle.std.specs.Prelude.{◌&&◌}
use Rattle.std.proofs.lemmas.Bool.Decides.{Decides-int_eq}
use Rattle.std.proofs.lemmas.Bool.{and_parts}
use Rattle.plc_types.specs.declared.limits.Limits.{Limits}
use Rattle.kernel_invariants.proofs.limits.are_same.Goals as goal

same : (a b : Limits) → (int_eq a.lo b.lo && (int_eq a.hi b.hi && (int_eq a.vmax b.vmax && (int_eq a.amax b.amax && int_eq a.dmax b.dmax)))) ≡ true → a ≡ b
same a b h =
    let p = and_parts _ _ h in
    let q = and_parts _ _ p.1 in
    let r = and_parts _ _ q.1 in
    let s = and_parts _ _ r.1 in
    let lo = (Decides-int_eq a.lo b.lo).0 p.0 in
    let hi = (Decides-int_eq a.hi b.hi).0 q.0 in
    let vmax = (Decides-int_eq a.vmax b.vmax).0 r.0 in
    let amax = (Decides-int_eq a.amax b.amax).0 s.0 in
    let dmax = (Decides-int_eq a.dmax b.dmax).0 s.1 in
    λ i. record { lo = lo i; hi = hi i; vmax = vmax i; amax = amax i; dmax = dmax i }

alike : (a : Limits) → (int_eq a.lo a.lo && (int_eq a.hi a.hi && (int_eq a.vmax a.vmax && (int_eq a.amax a.amax && int_eq a.dmax a.dmax)))) ≡ true
alike a =
    let lo = (Decides-int_eq a.lo a.lo).1 refl in
    let hi = (Decides-int_eq a.hi a.hi).1 refl in
    let vmax = (Decides-int_eq a.vmax a.vmax).1 refl in
    let amax = (Decides-int_eq a.amax a.amax).1 refl in
    let dmax = (Decides-int_eq a.dmax a.dmax).1 refl in
    rw (lo, hi, vmax, amax, dmax) refl

pub returns : goal.returns
returns c = (
  λ yes. same c.args.limits.now c.args.others.now (sym c.eq.ensures ∙ yes),
  λ e. c.eq.ensures ∙ rw (← e) (alike c.args.limits.now),
)
