-- What holds by a test on which two things depend.
-- for: owners_have_blocks, machines_stay_kept, call and others
use Rattle.std.specs.Prelude.{◌≡◌, refl, Bool, true, false, if◌then◌else◌}

-- the same test decides both
pub both : {X Y : Type 0} (P : X → Y → Type 0) (b : Bool) (f g : X) (x y : Y) → (b ≡ true → P f x) →
    (b ≡ false → P g y) → P (if b then f else g) (if b then x else y)
both P true f g x y h k = h refl
both P false f g x y h k = k refl

-- a test decides one alone
pub one : {X : Type 0} (P : X → Type 0) (b : Bool) (f g : X) → (b ≡ true → P f) → (b ≡ false → P g) →
    P (if b then f else g)
one P true f g h k = h refl
one P false f g h k = k refl
