-- Types widen in order.
-- for: types_widen_in_order
use Rattle.std.proofs.Common.{◌≡◌, refl, ap, ◌∙◌, Bool, true, false, not, ◌&&◌, cond, Option, Some, None, [], ◌∷◌}
use Rattle.std.specs.List.{list_all}
use Rattle.iec_tree.specs.declared.elementary.Elementary.{Elementary}
use Rattle.iec_tree.specs.declared.elementary.Elementary.TheVariants.{Bool as BOOL}
use Rattle.iec_tree.specs.declared.elementary.TheConstants.{ELEMENTARY}
use Rattle.iec_values.specs.Types.{common_of, widens}
use Rattle.iec_values.proofs.EveryType.{every-type, first, rest}

-- every type passes a test
abbrev pub each : (Elementary → Bool) → Bool
each p = list_all p ELEMENTARY

-- one test passes where another does
abbrev pub implies : Bool → Bool → Bool
implies p q = cond p q true

used : (p q : Bool) → implies p q ≡ true → p ≡ true → q ≡ true
used true q h e = h
used false q h e = absurd (cc)

-- a type is the one that is there
abbrev pub is_type : Option Elementary → Elementary → Bool
is_type None c = false
is_type (Some t) c = widens t c && widens c t

abbrev pub is_none : Option Elementary → Bool
is_none None = true
is_none (Some t) = false

pub itself : (a : Elementary) → widens a a ≡ true
itself BOOL = refl
itself _ = refl

is_type-itself : (c : Elementary) → is_type (Some c) c ≡ true
is_type-itself BOOL = refl
is_type-itself _ = refl

abbrev pub onward_test : Elementary → Elementary → Elementary → Bool
onward_test a b c = implies (widens a b) (implies (widens b c) (widens a c))

pub onward : (a b c : Elementary) → widens a b ≡ true → widens b c ≡ true → widens a c ≡ true
onward a b c h k =
    let at_a = every-type (λ a. each (λ b. each (onward_test a b))) refl a in
    let at_b = every-type (λ b. each (onward_test a b)) at_a b in
    used (widens b c) (widens a c) (used (widens a b) (implies (widens b c) (widens a c)) (every-type (onward_test a b) at_b c) h) k

abbrev pub common_test : Elementary → Elementary → Elementary → Bool
common_test a b c = implies (is_type (common_of (a ∷ b ∷ [])) c) (widens a c && widens b c)

all_common : each (λ a. each (λ b. each (common_test a b))) ≡ true
unfolding common_of
all_common = refl

named : (a b c : Elementary) → common_of (a ∷ b ∷ []) ≡ Some c → is_type (common_of (a ∷ b ∷ [])) c ≡ true
named a b c e = ap (λ m. is_type m c) e ∙ is_type-itself c

both : (a b c : Elementary) → common_of (a ∷ b ∷ []) ≡ Some c → (widens a c && widens b c) ≡ true
both a b c e = used (is_type (common_of (a ∷ b ∷ [])) c) (widens a c && widens b c) (every-type (common_test a b) (every-type (λ b. each (common_test a b)) (every-type (λ a. each (λ b. each (common_test a b))) all_common a) b) c) (named a b c e)

pub common : (a b c : Elementary) → common_of (a ∷ b ∷ []) ≡ Some c → (widens a c ≡ true) × (widens b c ≡ true)
common a b c e = (first (widens a c) _ (both a b c e), rest (widens a c) _ (both a b c e))

abbrev pub least_test : Elementary → Elementary → Elementary → Elementary → Bool
least_test a b c d = implies (is_type (common_of (a ∷ b ∷ [])) c) (implies (widens a d) (implies (widens b d) (widens c d)))

all_least : each (λ a. each (λ b. each (λ c. each (least_test a b c)))) ≡ true
unfolding common_of
all_least = refl

pub least : (a b c d : Elementary) → common_of (a ∷ b ∷ []) ≡ Some c → widens a d ≡ true → widens b d ≡ true → widens c d ≡ true
least a b c d e h k =
    let at_a = every-type (λ a. each (λ b. each (λ c. each (least_test a b c)))) all_least a in
    let at_b = every-type (λ b. each (λ c. each (least_test a b c))) at_a b in
    let at_c = every-type (λ c. each (least_test a b c)) at_b c in
    used (widens b d) (widens c d) (used (widens a d) (implies (widens b d) (widens c d))
    (used (is_type (common_of (a ∷ b ∷ [])) c) (implies (widens a d) (implies (widens b d) (widens c d)))
    (every-type (least_test a b c) at_c d) (named a b c e)) h) k

abbrev pub none_test : Elementary → Elementary → Elementary → Bool
none_test a b d = implies (is_none (common_of (a ∷ b ∷ []))) (implies (widens a d) (not (widens b d)))

all_none : each (λ a. each (λ b. each (none_test a b))) ≡ true
unfolding common_of
all_none = refl

denied : (b : Bool) → not b ≡ true → b ≡ false
denied false h = refl
denied true h = absurd (cc)

pub none : (a b d : Elementary) → common_of (a ∷ b ∷ []) ≡ None → widens a d ≡ true → widens b d ≡ false
none a b d e h =
    let at_a = every-type (λ a. each (λ b. each (none_test a b))) all_none a in
    let at_b = every-type (λ b. each (none_test a b)) at_a b in
    denied (widens b d) (used (widens a d) (not (widens b d))
    (used (is_none (common_of (a ∷ b ∷ []))) (implies (widens a d) (not (widens b d)))
    (every-type (none_test a b) at_b d) (ap is_none e)) h)
