-- The test of a name, kind by kind.
use Rattle.std.specs.Prelude.{◌≡◌, refl, ℕ, ◌||◌, Bool, true, false, List, [], ◌∷◌, map}
use Rattle.std.specs.List.{list_any}
use Rattle.std.specs.Str.{bytes_eq}
use Rattle.std.proofs.Common.{◌∙◌, ap}
use Rattle.std.proofs.lemmas.List.Folds.{list_any-append}
use Rattle.plc_types.specs.declared.axis.AxisDef.{AxisDef}
use Rattle.motion_history.specs.declared.config.BlockDef.{BlockDef}
use Rattle.motion_history.specs.declared.config.GroupDef.{GroupDef}
use Rattle.motion_history.specs.Faults.{is_used}
use Rattle.motion_history.specs.Setup.{Setup}

any-map : {X : Type 0} (name_in : X → List ℕ) (name : List ℕ) (xs : List X) →
    list_any (λ n. bytes_eq n name) (map name_in xs) ≡ list_any (λ x. bytes_eq (name_in x) name) xs
any-map name_in name [] = refl
any-map name_in name (x ∷ xs) = ap (λ b. bytes_eq (name_in x) name || b) (any-map name_in name xs)

parts : (a b c d a' b' c' d' : Bool) → a ≡ a' → b ≡ b' → c ≡ c' → d ≡ d' → (a || (b || (c || d))) ≡ ((a' || b') || (c' || d'))
parts true b c d a' b' c' d' p q r s = rw (← p) refl
parts false true c d a' b' c' d' p q r s = rw (← p, ← q) refl
parts false false c d a' b' c' d' p q r s = rw (← p, ← q, ← r, ← s) refl

-- an item has a name where an axis, a group, a task or a block has it
pub is_used_parts : (s : Setup) (name : List ℕ) → is_used s name ≡
    ((list_any (λ d. bytes_eq d.name name) s.axes || list_any (λ d. bytes_eq d.name name) s.groups) ||
    (list_any (λ n. bytes_eq n name) s.tasks || list_any (λ d. bytes_eq d.name name) s.blocks))
unfolding is_used
is_used_parts s name =
    list_any-append _ (map (λ (d : AxisDef). d.name) s.axes) _ ∙
    ap (λ b. list_any (λ n. bytes_eq n name) (map (λ (d : AxisDef). d.name) s.axes) || b)
    (list_any-append _ (map (λ (d : GroupDef). d.name) s.groups) _ ∙
    ap (λ b. list_any (λ n. bytes_eq n name) (map (λ (d : GroupDef). d.name) s.groups) || b) (list_any-append _ s.tasks _)) ∙
    parts _ _ _ _ _ _ _ _ (any-map (λ (d : AxisDef). d.name) name s.axes) (any-map (λ (d : GroupDef). d.name) name s.groups) refl
    (any-map (λ (d : BlockDef). d.name) name s.blocks)
