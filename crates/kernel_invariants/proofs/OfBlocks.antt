-- Commands that are of the kinds of their instances' blocks, part by part.
-- for: have_kinds_of_blocks
use Rattle.std.specs.Prelude.{◌≡◌, ◌↔◌, refl, ℕ, zero, suc, ◌<◌, Bool, IsTrue, IfSome, Option, Some, None, List, [], ◌∷◌, length}
use Rattle.std.specs.List.{AllByRecursion}
use Rattle.std.proofs.Common.{subst, sym}
use Rattle.command_core.specs.CommandState.{CommandState}
use Rattle.command_pool.specs.declared.wanted.Wanted.{Wanted}
use Rattle.kernel_invariants.specs.OfBlocks.{AreOfBlocks, HasParts}
use Rattle.motion_history.specs.Setup.{Setup}
use Rattle.motion_kernel.specs.Machine.{Machine}
use Rattle.motion_kernel.specs.owners.Blocks.{command_state_at}
use Rattle.motion_kernel.specs.owners.Kinds.{AreOfTheirBlocks, IsOfAReset, IsOfItsBlock}
use Rattle.motion_kernel.specs.owners.Objects.{a_group, an_axis, IsThere, Object}

all_by : (s : Setup) (ws : List Wanted) → AreOfBlocks s ws → AllByRecursion (IsOfItsBlock s) ws
all_by s [] h = tt
all_by s (w ∷ ws) h = (h 0 w refl, all_by s ws (λ n v at. h (suc n) v at))

each_by : (s : Setup) (ws : List Wanted) → AllByRecursion (IsOfItsBlock s) ws → AreOfBlocks s ws
each_by s [] h n w at = absurd (cc)
each_by s (v ∷ ws) h zero w at = let same : v ≡ w = cc in subst (IsOfItsBlock s) same h.0
each_by s (v ∷ ws) h (suc n) w at = each_by s ws h.1 n w at

some_by : (s : Setup) (o : Option Wanted) → IfSome o (IsOfItsBlock s) →
    (w : Wanted) → o ≡ Some w → IsOfItsBlock s w
some_by s None h w e = absurd (cc)
some_by s (Some v) h w e = let same : v ≡ w = cc in subst (IsOfItsBlock s) same h

one_by : (s : Setup) (o : Option Wanted) → ((w : Wanted) → o ≡ Some w → IsOfItsBlock s w) →
    IfSome o (IsOfItsBlock s)
one_by s None h = tt
one_by s (Some v) h = h v refl

-- a test of the parts is one of the commands
pub by_parts : (s : Setup) (c : CommandState) (active : Option Wanted) (reset : Option ℕ)
    (ws : List Wanted) (t : Bool) → active ≡ c.active → reset ≡ c.reset → ws ≡ c.waiting →
    IsTrue t ↔ HasParts s active reset ws → IsTrue t ↔ AreOfTheirBlocks s c
by_parts s c active reset ws t a r q test = (
  λ e. let h = test.0 e in record {
    active = some_by s c.active (subst (λ o. IfSome o (IsOfItsBlock s)) a h.command);
    waiting = all_by s c.waiting (subst (AreOfBlocks s) q h.queue);
    reset = subst (IsOfAReset s) r h.own;
  },
  λ h. test.1 (record {
    command = subst (λ o. IfSome o (IsOfItsBlock s)) (sym a) (one_by s c.active h.active);
    own = subst (IsOfAReset s) (sym r) h.reset;
    queue = subst (AreOfBlocks s) (sym q) (each_by s c.waiting h.waiting);
  }),
)

-- those of all axes and of all groups are those of all
pub all_objects : (s : Setup) (m : Machine) →
    ((n : ℕ) → n < length m.axes → AreOfTheirBlocks s (command_state_at m (an_axis n))) →
    ((j : ℕ) → j < length m.groups → AreOfTheirBlocks s (command_state_at m (a_group j))) →
    (o : Object) → IsThere m o → AreOfTheirBlocks s (command_state_at m o)
all_objects s m axes groups (an_axis n) there = axes n there
all_objects s m axes groups (a_group j) there = groups j there
