-- What each note does with the parts that are read: where no rule is broken they lead where the
-- table says.
-- for: crates above
use Rattle.std.proofs.Common.{◌≡◌, ◌≤◌, ℕ, ◌+◌, Bool, true, false, Option, Some, None, [], ◌∷◌, ◌++◌, length, refl, sym, subst, ap, ◌∙◌, arith}
use Rattle.std.specs.Option.{option_and_then}
use Rattle.motion_history.specs.Setup.{Setup}
use Rattle.st_check.specs.Checked.{Checked, broken, broken_unless, lost_unless, mistyped_unless, with_part}
use Rattle.st_tree.specs.Parts.{Parts}
use Rattle.st_tree.specs.Places.{Outside, Place, after, blocks_in, lead, names_in}
use Rattle.st_tree.specs.declared.part.Part.{Part}
use Rattle.st_tree.specs.declared.part.Part.TheVariants as part

-- what is read leads to a place, with as many names as it wants; and blocks are counted
pub record Shaped (place : Place) (c : Checked) : Type 0 where
  pub led : lead after Outside c.parts ≡ Some place
  pub named : length c.names ≡ names_in c.parts
  pub few : blocks_in c.parts ≤ c.blocks_before
  pub before : c.blocks_before ≤ length c.setup.blocks

-- what is known changes, but neither what is read nor the machine
pub record Quiet (c d : Checked) : Type 0 where
  pub fault : d.fault ≡ None → c.fault ≡ None
  pub parts : d.parts ≡ c.parts
  pub names : d.names ≡ c.names
  pub before : d.blocks_before ≡ c.blocks_before
  pub setup : d.setup ≡ c.setup

-- where no rule is broken, what is read leads on, and the machine keeps its axes
pub record Tells (leads : Place → Option Place) (c d : Checked) : Type 0 where
  pub fault : d.fault ≡ None → c.fault ≡ None
  pub axes : d.setup.axes ≡ c.setup.axes
  pub shaped : d.fault ≡ None → (from to : Place) → leads from ≡ Some to → Shaped from c → Shaped to d

-- ---- lists of parts

pub names_behind : (ps qs : Parts) → names_in (ps ++ qs) ≡ names_in ps + names_in qs
names_behind [] qs = omega arith
names_behind (part.Task ∷ ps) qs = let h : names_in (ps ++ qs) ≡ names_in ps + names_in qs = names_behind ps qs in omega (arith, h)
names_behind (part.Declared s ∷ ps) qs = let h : names_in (ps ++ qs) ≡ names_in ps + names_in qs = names_behind ps qs in omega (arith, h)
names_behind (_ ∷ ps) qs = names_behind ps qs

pub blocks_behind : (ps qs : Parts) → blocks_in (ps ++ qs) ≡ blocks_in ps + blocks_in qs
blocks_behind [] qs = omega arith
blocks_behind (part.Body n ∷ ps) qs = let h : blocks_in (ps ++ qs) ≡ blocks_in ps + blocks_in qs = blocks_behind ps qs in omega (arith, h)
blocks_behind (_ ∷ ps) qs = blocks_behind ps qs

lead_then : {X : Type 0} (step : Part → X → Option X) (o : Option X) (ps : Parts) (p : Part) →
    ((x : X) → lead step x (ps ++ p ∷ []) ≡ option_and_then (step p) (lead step x ps)) →
    option_and_then (λ y. lead step y (ps ++ p ∷ [])) o ≡ option_and_then (step p) (option_and_then (λ y. lead step y ps) o)
lead_then step None ps p h = refl
lead_then step (Some x) ps p h = h x

lead_one : {X : Type 0} (step : Part → X → Option X) (o : Option X) → option_and_then (λ y. lead step y []) o ≡ o
lead_one step None = refl
lead_one step (Some x) = refl

pub lead_more : {X : Type 0} (step : Part → X → Option X) (x : X) (ps : Parts) (p : Part) → lead step x (ps ++ p ∷ []) ≡ option_and_then (step p) (lead step x ps)
lead_more step x [] p = lead_one step (step p x)
lead_more step x (q ∷ ps) p = lead_then step (step q x) ps p (λ y. lead_more step y ps p)

-- ---- steps

pub quiet_told : (c d : Checked) → Quiet c d → Tells (λ p. Some p) c d
quiet_told c d q = record {
  fault = q.fault;
  axes = ap (λ (s : Setup). s.axes) q.setup;
  shaped = λ h from to is s. record {
    led = ap (lead after Outside) q.parts ∙ s.led ∙ is;
    named = ap length q.names ∙ s.named ∙ sym (ap names_in q.parts);
    few = subst (λ n. blocks_in d.parts ≤ n) (sym q.before) (subst (λ ps. blocks_in ps ≤ c.blocks_before) (sym q.parts) s.few);
    before = subst (λ n. n ≤ length d.setup.blocks) (sym q.before) (subst (λ (u : Setup). c.blocks_before ≤ length u.blocks) (sym q.setup) s.before);
  };
}

pub quiet_on : (c d e : Checked) → Quiet c d → Quiet d e → Quiet c e
quiet_on c d e p q = record {
  fault = λ h. p.fault (q.fault h);
  parts = q.parts ∙ p.parts;
  names = q.names ∙ p.names;
  before = q.before ∙ p.before;
  setup = q.setup ∙ p.setup;
}

shaped_on : (l m : Place → Option Place) (c d e : Checked) → Tells l c d → Tells m d e → e.fault ≡ None → (from to : Place) → (o : Option Place) → l from ≡ o →
    option_and_then m o ≡ Some to → Shaped from c → Shaped to e
shaped_on l m c d e p q h from to None at is s = absurd (cc)
shaped_on l m c d e p q h from to (Some x) at is s = q.shaped h x to is (p.shaped (q.fault h) from x at s)

pub told_on : (l m : Place → Option Place) (c d e : Checked) → Tells l c d → Tells m d e → Tells (λ p. option_and_then m (l p)) c e
told_on l m c d e p q = record {
  fault = λ h. p.fault (q.fault h);
  axes = q.axes ∙ p.axes;
  shaped = λ h from to is s. shaped_on l m c d e p q h from to (l from) refl is s;
}

-- a part more, which declares nothing
pub part_told : (p : Part) (c d : Checked) → names_in (p ∷ []) ≡ 0 → blocks_in (p ∷ []) ≡ 0 → (d.fault ≡ None → c.fault ≡ None) →
    d.parts ≡ c.parts ++ p ∷ [] → d.names ≡ c.names → d.blocks_before ≡ c.blocks_before → d.setup ≡ c.setup → Tells (after p) c d
part_told p c d no_name no_block fault parts names before setup = record {
  fault = fault;
  axes = ap (λ (s : Setup). s.axes) setup;
  shaped = λ h from to is s.
      let same : length d.names ≡ length c.names = ap length names in
      let more : names_in d.parts ≡ names_in c.parts + names_in (p ∷ []) = ap names_in parts ∙ names_behind c.parts (p ∷ []) in
      let blocks : blocks_in d.parts ≡ blocks_in c.parts + blocks_in (p ∷ []) = ap blocks_in parts ∙ blocks_behind c.parts (p ∷ []) in
      let room : length d.setup.blocks ≡ length c.setup.blocks = ap (λ (u : Setup). length u.blocks) setup in
      record {
        led = ap (lead after Outside) parts ∙ lead_more after Outside c.parts p ∙ ap (option_and_then (after p)) s.led ∙ is;
        named = omega (arith, same, more, no_name, s.named);
        few = omega (arith, blocks, no_block, before, s.few);
        before = omega (arith, before, room, s.before);
      };
}

-- and one after what is quiet
pub then_part : (p : Part) (c d : Checked) → names_in (p ∷ []) ≡ 0 → blocks_in (p ∷ []) ≡ 0 → Quiet c d → Tells (after p) c (with_part p d)
then_part p c d no_name no_block q =
    part_told p c (with_part p d) no_name no_block q.fault (ap (λ ps. ps ++ p ∷ []) q.parts) q.names q.before q.setup

-- a fault that is certain
pub told_broken : (l : Place → Option Place) (c d : Checked) → (d.fault ≡ None → ⊥) → d.setup ≡ c.setup → Tells l c d
told_broken l c d is setup = record {
  fault = λ h. absurd (is h);
  axes = ap (λ (s : Setup). s.axes) setup;
  shaped = λ h from to e s. absurd (is h);
}

-- ---- what is quiet

pub broken_is : (holds : Bool) (line rule : ℕ) (c : Checked) → Quiet c (broken_unless holds line rule c)
unfolding broken_unless
broken_is true line rule c = record { fault = λ h. h; parts = refl; names = refl; before = refl; setup = refl }
broken_is false line rule c = record { fault = λ h. absurd (cc); parts = refl; names = refl; before = refl; setup = refl }

pub lost_is : (holds : Bool) (line : ℕ) (c : Checked) → Quiet c (lost_unless holds line c)
unfolding lost_unless
lost_is true line c = record { fault = λ h. h; parts = refl; names = refl; before = refl; setup = refl }
lost_is false line c = record { fault = λ h. absurd (cc); parts = refl; names = refl; before = refl; setup = refl }

pub mistyped_is : (holds : Bool) (c : Checked) → Quiet c (mistyped_unless holds c)
unfolding mistyped_unless
mistyped_is true c = record { fault = λ h. h; parts = refl; names = refl; before = refl; setup = refl }
mistyped_is false c = record { fault = λ h. h; parts = refl; names = refl; before = refl; setup = refl }

pub lost_false : (line : ℕ) (c : Checked) → (lost_unless false line c).fault ≡ None → ⊥
unfolding lost_unless
lost_false line c h = cc

pub broken_false : (line rule : ℕ) (c : Checked) → (broken line rule c).fault ≡ None → ⊥
broken_false line rule c h = cc
