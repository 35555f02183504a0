-- The names that are declared together stay while they are defined.
-- for: note
use Rattle.std.proofs.Common.{◌≡◌, ◌∷◌, ◌∙◌, ◌<◌, ◌+◌, ℕ, ℤ, suc, Bool, true, false, if◌then◌else◌, List, drop, get_or, drop-cons, length, ap, sym, refl, arith}
use Rattle.iec_declared.specs.Declarations.{all_defined, defined, defined_now, with_block, with_name}
use Rattle.iec_declared.specs.Stand.{Declared, lost_unless, stopped_unless}
use Rattle.iec_declared.specs.declared.known.Shape.{Shape}
use Rattle.iec_declared.specs.declared.known.Shape.TheVariants as shape
use Rattle.iec_declared.specs.declared.known.Used.{Used}
use Rattle.iec_names.specs.declared.sort.Sort.{Sort}

lost : (holds : Bool) (line : ℕ) (d : Declared) → (lost_unless holds line d).together ≡ d.together
unfolding lost_unless
lost true line d = refl
lost false line d = refl

stopped : (holds : Bool) (line rule : ℕ) (d : Declared) → (stopped_unless holds line rule d).together ≡ d.together
unfolding stopped_unless
stopped true line rule d = refl
stopped false line rule d = refl

named : (name : List ℕ) (s : Sort) (d : Declared) → (with_name name s d).together ≡ d.together
unfolding with_name
named name s d = refl

block : (s : Shape) (u : Used) (d : Declared) → (with_block s u d).together ≡ d.together
block (shape.Motion m) u d = lost _ _ _
block (shape.Variable t) u d = refl
block (shape.Standard b) u d = refl

now : (z : ℤ) (d : Declared) (u : Used) → (defined_now z d u).together ≡ d.together
unfolding defined_now
now z d u = block _ _ _ ∙ named _ _ _ ∙ stopped _ _ _ _

pick : (b : Bool) (a e : Declared) (t : List Used) → a.together ≡ t → e.together ≡ t → (if b then a else e).together ≡ t
pick true a e t h k = h
pick false a e t h k = k

pub together_kept : (z : ℤ) (d : Declared) (u : Used) → (defined z d u).together ≡ d.together
unfolding defined
together_kept z d u = pick d.stopped d (defined_now z d u) d.together refl (now z d u)

-- the names from a place on lead where they lead behind it, once its name is defined
pub one_more : (all here : List Used) (n : ℕ) (u : Used) (z : ℤ) (d : Declared) → here ≡ all → n < length here → u ≡ get_or here n u →
    all_defined (drop (n + 1) all) z (defined z d u) ≡ all_defined (drop n all) z d
one_more all here n u z d same within item =
    let first : drop n here ≡ u ∷ drop (suc n) here = drop-cons here n u within ∙ ap (λ v. v ∷ drop (suc n) here) (sym item) in
    let one : suc n ≡ n + 1 = omega arith in
    let next : drop n all ≡ u ∷ drop (n + 1) all =
    ap (drop n) (sym same) ∙ first ∙ ap (λ k. u ∷ drop k here) one ∙ ap (λ l. u ∷ drop (n + 1) l) same in
    sym (ap (λ l. all_defined l z d) next)
