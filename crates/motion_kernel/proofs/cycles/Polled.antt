-- The instances that find something are given all that is found.
-- for: open
use Rattle.std.specs.Prelude.{◌≡◌, refl, ℕ, zero, suc, ◌+◌, ◌<◌, Bool, true, false, if◌then◌else◌, Option, Some, None, List, [], ◌∷◌, ◌++◌, slice_get, length}
use Rattle.std.specs.List.{AllByRecursion}
use Rattle.std.proofs.Common.{arith, ap, sym, subst, ◌∙◌}
use Rattle.axis_core.specs.declared.axis.Axis.{Axis}
use Rattle.plc_types.specs.declared.kind.BlockKind.{BlockKind}
use Rattle.plc_types.specs.declared.kind.BlockKind.TheVariants as kind
use Rattle.fb_outputs.specs.InstanceState.{InstanceState}
use Rattle.motion_history.specs.Setup.{Setup}
use Rattle.motion_history.specs.declared.config.BlockDef.{BlockDef}
use Rattle.motion_kernel.specs.cycles.Showing.{found_by, instance_found, instances_found}
use Rattle.motion_kernel.specs.cycles.Polled.{polled_among, polled_of, finds, with_polled}
use Rattle.motion_kernel.specs.Machine.{PlacedGroup}

-- one block more is looked at
polled_next : (n : ℕ) (blocks : List BlockDef) → polled_among (suc n) blocks ≡ with_polled (slice_get blocks n) n (polled_among n blocks)
unfolding polled_among
polled_next n blocks = refl

pub polled_none : (blocks : List BlockDef) → polled_among 0 blocks ≡ []
unfolding polled_among
polled_none blocks = refl

pub polled_more : (n : ℕ) (blocks : List BlockDef) → polled_among (n + 1) blocks ≡ with_polled (slice_get blocks n) n (polled_among n blocks)
polled_more n blocks =
    let same : n + 1 ≡ suc n = omega arith in
    ap (λ k. polled_among k blocks) same ∙ polled_next n blocks

-- ---- they are there

more_there : (n : ℕ) (ks : List ℕ) → AllByRecursion (λ (k : ℕ). k < n) ks → AllByRecursion (λ (k : ℕ). k < suc n) ks
more_there n [] h = tt
more_there n (k ∷ ks) h = (let l = h.0 in omega arith, more_there n ks h.1)

last_there : (n : ℕ) (ks : List ℕ) → AllByRecursion (λ (k : ℕ). k < n) ks → AllByRecursion (λ (k : ℕ). k < suc n) (ks ++ n ∷ [])
last_there n [] h = (omega arith, tt)
last_there n (k ∷ ks) h = (let l = h.0 in omega arith, last_there n ks h.1)

chosen_there : (b : Bool) (n : ℕ) (ks : List ℕ) → AllByRecursion (λ (k : ℕ). k < n) ks →
    AllByRecursion (λ (k : ℕ). k < suc n) (if b then ks ++ n ∷ [] else ks)
chosen_there true n ks h = last_there n ks h
chosen_there false n ks h = more_there n ks h

polled_there : (o : Option BlockDef) (n : ℕ) (ks : List ℕ) → AllByRecursion (λ (k : ℕ). k < n) ks →
    AllByRecursion (λ (k : ℕ). k < suc n) (with_polled o n ks)
polled_there None n ks h = more_there n ks h
polled_there (Some b) n ks h = chosen_there (finds b.kind) n ks h

among_there : (n : ℕ) (blocks : List BlockDef) → AllByRecursion (λ (k : ℕ). k < n) (polled_among n blocks)
unfolding polled_among
among_there zero blocks = tt
among_there (suc n) blocks = polled_there (slice_get blocks n) n (polled_among n blocks) (among_there n blocks)

-- each of them is one of the configuration's instances
pub all_polled_there : (s : Setup) (found : List ℕ) → found ≡ polled_of s → AllByRecursion (λ (k : ℕ). k < length s.blocks) found
all_polled_there s found e =
    let P : List ℕ → Type 0 = AllByRecursion (λ (k : ℕ). k < length s.blocks) in
    subst P (sym e) (among_there (length s.blocks) s.blocks)

-- ---- what they are given

-- the instances after some of them were given what they found, one after another
unfoldable pub told_by : List ℕ → List BlockDef → List Axis → List PlacedGroup → List InstanceState → List InstanceState
told_by [] blocks axes groups instances = instances
told_by (k ∷ ks) blocks axes groups instances =
    told_by ks blocks axes groups (instance_found (slice_get blocks k) axes groups k instances)

pub told_none : (blocks : List BlockDef) (axes : List Axis) (groups : List PlacedGroup) (is : List InstanceState) → told_by [] blocks axes groups is ≡ is
unfolding told_by
told_none blocks axes groups is = refl

-- one more is reported
pub told_more : (ks : List ℕ) (k : ℕ) (blocks : List BlockDef) (axes : List Axis) (groups : List PlacedGroup) (is : List InstanceState) →
    told_by (ks ++ k ∷ []) blocks axes groups is ≡ instance_found (slice_get blocks k) axes groups k (told_by ks blocks axes groups is)
unfolding told_by
told_more [] k blocks axes groups is = refl
told_more (x ∷ ks) k blocks axes groups is = told_more ks k blocks axes groups (instance_found (slice_get blocks x) axes groups x is)

-- an instance of a block of another kind finds nothing
finds_nothing : (k : BlockKind) (axes : List Axis) (groups : List PlacedGroup) (n at : ℕ) → finds k ≡ false → found_by k axes groups n at ≡ None
finds_nothing kind.GroupStop axes groups n at h = cc
finds_nothing _ axes groups n at h = cc

chosen : (b : Bool) (d : BlockDef) (ks : List ℕ) (k : ℕ) (blocks : List BlockDef) (axes : List Axis) (groups : List PlacedGroup)
    (is : List InstanceState) → finds d.kind ≡ b → slice_get blocks k ≡ Some d →
    instance_found (Some d) axes groups k (told_by ks blocks axes groups is) ≡ told_by (if b then ks ++ k ∷ [] else ks) blocks axes groups is
chosen true d ks k blocks axes groups is h at =
    sym (told_more ks k blocks axes groups is ∙ ap (λ o. instance_found o axes groups k (told_by ks blocks axes groups is)) at)
chosen false d ks k blocks axes groups is h at = rw (finds_nothing d.kind axes groups k d.object h) refl

one_more : (o : Option BlockDef) (ks : List ℕ) (k : ℕ) (blocks : List BlockDef) (axes : List Axis) (groups : List PlacedGroup)
    (is : List InstanceState) → slice_get blocks k ≡ o →
    instance_found o axes groups k (told_by ks blocks axes groups is) ≡ told_by (with_polled o k ks) blocks axes groups is
one_more None ks k blocks axes groups is at = refl
one_more (Some d) ks k blocks axes groups is at = chosen (finds d.kind) d ks k blocks axes groups is refl at

-- those that find something are given all that the instances find
told_among : (n : ℕ) (blocks : List BlockDef) (axes : List Axis) (groups : List PlacedGroup) (is : List InstanceState) →
    instances_found n blocks axes groups is ≡ told_by (polled_among n blocks) blocks axes groups is
unfolding instances_found polled_among
told_among zero blocks axes groups is = sym (told_none blocks axes groups is)
told_among (suc n) blocks axes groups is =
    ap (instance_found (slice_get blocks n) axes groups n) (told_among n blocks axes groups is)
    ∙ one_more (slice_get blocks n) (polled_among n blocks) n blocks axes groups is refl

pub told_all : (s : Setup) (found : List ℕ) (axes : List Axis) (groups : List PlacedGroup) (is : List InstanceState) → found ≡ polled_of s →
    told_by found s.blocks axes groups is ≡ instances_found (length s.blocks) s.blocks axes groups is
told_all s found axes groups is e =
    ap (λ ks. told_by ks s.blocks axes groups is) e ∙ sym (told_among (length s.blocks) s.blocks axes groups is)
