-- What computes to true at each type of the list holds of every type.
-- for: types_widen_in_order, results_are_of_their_types
use Rattle.std.proofs.Common.{◌≡◌, refl, Bool, true, false, ◌&&◌}
use Rattle.std.specs.List.{list_all}
use Rattle.iec_tree.specs.declared.elementary.Elementary.{Elementary}
use Rattle.iec_tree.specs.declared.elementary.Elementary.TheVariants.{Bool as BOOL, Int, Dint, Lreal, Time}
use Rattle.iec_tree.specs.declared.elementary.TheConstants.{ELEMENTARY}

pub first : (a b : Bool) → (a && b) ≡ true → a ≡ true
first true b h = refl
first false b h = h

pub rest : (a b : Bool) → (a && b) ≡ true → b ≡ true
rest true b h = h
rest false b h = absurd (cc)

pub every-type : (p : Elementary → Bool) → list_all p ELEMENTARY ≡ true → (t : Elementary) → p t ≡ true
every-type p h BOOL = first (p BOOL) _ h
every-type p h Int = first (p Int) _ (rest (p BOOL) _ h)
every-type p h Dint = first (p Dint) _ (rest (p Int) _ (rest (p BOOL) _ h))
every-type p h Lreal = first (p Lreal) _ (rest (p Dint) _ (rest (p Int) _ (rest (p BOOL) _ h)))
every-type p h Time = first (p Time) _ (rest (p Lreal) _ (rest (p Dint) _ (rest (p Int) _ (rest (p BOOL) _ h))))
