-- What is reported of rows is that of two parts of them, put together.
-- for: scope
use Rattle.std.proofs.Common.{◌≡◌, cond, ℤ, ◌+◌, Option, Some, None, List, [], ◌∷◌, ◌++◌, length, refl, ap, sym, ◌∙◌, arith, length-append, unsigned_abs, ◌-ℤ◌}
use Rattle.std.specs.Int.{int_min, int_max}
use Rattle.std.specs.Ordering.{int_eq}
use Rattle.std.proofs.lemmas.List.{append-nil, map-append}
use Rattle.std.proofs.lemmas.List.Elements.{filter-append}
use Rattle.std.proofs.lemmas.List.Sums.{sum_by-append}
use Rattle.std.proofs.lemmas.Grind.{common_steps}
use Rattle.plc_types.specs.declared.axis.AxisRow.{AxisRow}
use Rattle.scope_report.specs.Merging.{between, first_of, first_there, last_from, last_of, merged, part_of}
use Rattle.scope_report.specs.Setpoints.{driven_of, greatest_of, least_of, neighbours_of, pairs_from, pick_of, picked, setpoints_of, still_of, travel_of}

-- a choice that is associative
abbrev pub IsAssociative : (ℤ → ℤ → ℤ) → Type 0
IsAssociative f = (x y z : ℤ) → f (f x y) z ≡ f x (f y z)

picked-assoc : (f : ℤ → ℤ → ℤ) → IsAssociative f → (a b c : Option ℤ) →
    picked f (picked f a b) c ≡ picked f a (picked f b c)
picked-assoc f law None b c = refl
picked-assoc f law (Some a) None c = refl
picked-assoc f law (Some a) (Some b) None = refl
picked-assoc f law (Some a) (Some b) (Some c) = ap Some (law a b c)

pick-append : (f : ℤ → ℤ → ℤ) → IsAssociative f → (xs ys : List ℤ) →
    pick_of f (xs ++ ys) ≡ picked f (pick_of f xs) (pick_of f ys)
pick-append f law [] ys = refl
pick-append f law (x ∷ xs) ys =
    ap (picked f (Some x)) (pick-append f law xs ys)
    ∙ sym (picked-assoc f law (Some x) (pick_of f xs) (pick_of f ys))

first-append : (xs ys : List ℤ) → first_of (xs ++ ys) ≡ first_there (first_of xs) (first_of ys)
first-append [] ys = refl
first-append (x ∷ xs) ys = refl

last_from-append : (x : ℤ) (xs : List ℤ) (y : ℤ) (ys : List ℤ) →
    last_from x (xs ++ y ∷ ys) ≡ last_from y ys
last_from-append x [] y ys = refl
last_from-append x (z ∷ zs) y ys = last_from-append z zs y ys

last-append : (xs ys : List ℤ) → last_of (xs ++ ys) ≡ first_there (last_of ys) (last_of xs)
last-append [] [] = refl
last-append [] (y ∷ ys) = refl
last-append (x ∷ xs) [] = ap (λ l. Some (last_from x l)) (append-nil xs)
last-append (x ∷ xs) (y ∷ ys) = ap Some (last_from-append x xs y ys)

pairs-append : (x : ℤ) (xs : List ℤ) (y : ℤ) (ys : List ℤ) →
    pairs_from x (xs ++ y ∷ ys) ≡ pairs_from x xs ++ ((last_from x xs, y) ∷ pairs_from y ys)
pairs-append x [] y ys = refl
pairs-append x (z ∷ zs) y ys = ap (λ l. (x, z) ∷ l) (pairs-append z zs y ys)

-- the neighbours in two lists are those in each, and the pair between them
neighbours-append : (xs ys : List ℤ) → neighbours_of (xs ++ ys) ≡
    neighbours_of xs ++ (between (last_of xs) (first_of ys) ++ neighbours_of ys)
neighbours-append [] ys = refl
neighbours-append (x ∷ xs) [] =
    ap (pairs_from x) (append-nil xs) ∙ sym (append-nil (pairs_from x xs))
neighbours-append (x ∷ xs) (y ∷ ys) = pairs-append x xs y ys

min-assoc : IsAssociative int_min
min-assoc x y z = grind (arith, common_steps)

max-assoc : IsAssociative int_max
max-assoc x y z = grind (arith, common_steps)

setpoints-append : (xs ys : List AxisRow) →
    setpoints_of (xs ++ ys) ≡ setpoints_of xs ++ setpoints_of ys
setpoints-append xs ys = map-append (λ (r : AxisRow). r.setpoint) xs ys

driven-append : (xs ys : List AxisRow) → driven_of (xs ++ ys) ≡ driven_of xs ++ driven_of ys
driven-append xs ys = filter-append (λ (r : AxisRow). r.driven) xs ys

still-append : (xs ys : List ℤ) → still_of (neighbours_of (xs ++ ys)) ≡
    still_of (neighbours_of xs) + still_of (between (last_of xs) (first_of ys)) +
    still_of (neighbours_of ys)
still-append xs ys =
    let f = λ (p : ℤ × ℤ). cond (int_eq p.0 p.1) 1 0 in
    let middle = between (last_of xs) (first_of ys) in
    ap still_of (neighbours-append xs ys)
    ∙ sum_by-append f (neighbours_of xs) (middle ++ neighbours_of ys)
    ∙ ap (λ n. still_of (neighbours_of xs) + n) (sum_by-append f middle (neighbours_of ys))
    ∙ omega arith

travel-append : (xs ys : List ℤ) → travel_of (neighbours_of (xs ++ ys)) ≡
    travel_of (neighbours_of xs) + travel_of (between (last_of xs) (first_of ys)) +
    travel_of (neighbours_of ys)
travel-append xs ys =
    let f = λ (p : ℤ × ℤ). unsigned_abs (p.1 -ℤ p.0) in
    let middle = between (last_of xs) (first_of ys) in
    ap travel_of (neighbours-append xs ys)
    ∙ sum_by-append f (neighbours_of xs) (middle ++ neighbours_of ys)
    ∙ ap (λ n. travel_of (neighbours_of xs) + n) (sum_by-append f middle (neighbours_of ys))
    ∙ omega arith

-- what is reported of rows is what is reported of each of two parts of them, one after the other
pub part-append : (xs ys : List AxisRow) → part_of (xs ++ ys) ≡ merged (part_of xs) (part_of ys)
part-append xs ys =
    let n = setpoints-append xs ys in
    let d = driven-append xs ys in
    let e = ap setpoints_of d ∙ setpoints-append (driven_of xs) (driven_of ys) in
    let u = setpoints_of (driven_of xs) in
    let v = setpoints_of (driven_of ys) in
    λ i. record {
      rows = length-append xs ys i;
      driven = (ap length d ∙ length-append (driven_of xs) (driven_of ys)) i;
      least = (ap least_of e ∙ pick-append int_min min-assoc u v) i;
      greatest = (ap greatest_of e ∙ pick-append int_max max-assoc u v) i;
      still = (ap (λ l. still_of (neighbours_of l)) n
          ∙ still-append (setpoints_of xs) (setpoints_of ys)) i;
      travel = (ap (λ l. travel_of (neighbours_of l)) n
          ∙ travel-append (setpoints_of xs) (setpoints_of ys)) i;
      first = (ap first_of n ∙ first-append (setpoints_of xs) (setpoints_of ys)) i;
      last = (ap last_of n ∙ last-append (setpoints_of xs) (setpoints_of ys)) i;
    }
