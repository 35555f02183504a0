-- Who has commands of an axis or a group, by its commands.
-- for: have_owners_blocks
use Rattle.std.specs.Prelude.{◌≡◌, ◌↔◌, refl, ℕ, zero, suc, ◌<◌, Bool, true, false, IsTrue, Option, Some, None, List, [], ◌∷◌, slice_get}
use Rattle.std.proofs.Common.{arith, ap, sym, subst, inl, inr, ◌∙◌}
use Rattle.std.proofs.lemmas.Bool.{cases_eq}
use Rattle.buffer_modes.specs.Owners.{owner_count, owner_by, waits_of}
use Rattle.command_core.proofs.Holders.{owner_counts}
use Rattle.command_core.specs.CommandState.{CommandState}
use Rattle.command_pool.specs.declared.wanted.Wanted.{Wanted}
use Rattle.kernel_invariants.specs.Owned.{HasBlock, HaveAllBlocks, HaveBlocks, owners_of}
use Rattle.kernel_invariants.specs.declared.owners.commands.Owners.{Owners}
use Rattle.motion_history.specs.Setup.{Setup}
use Rattle.motion_kernel.specs.owners.Blocks.{HasOnly}
use Rattle.motion_kernel.specs.owners.Objects.{Object, has_commands_on}
use Rattle.motion_kernel.proofs.owners.Counts.{found_in}

-- what holds of whoever has one that waits holds of whoever has many
waits_has : (k : ℕ) (ws : List Wanted) (X : Type 0) → ((n : ℕ) (w : Wanted) → slice_get ws n ≡ Some w → w.owner ≡ Some k → X) →
    0 < waits_of k ws → X
waits_has k [] X h l = absurd (omega arith)
waits_has k (w ∷ ws) X h l = elim (cases_eq (owner_count k w.owner) 0) [
  | inl none ↦ waits_has k ws X (λ n v at is. h (suc n) v at is) (omega arith)
  | inr one ↦ h 0 w refl (found_in k w.owner (omega arith))
]

waits_there : (k : ℕ) (ws : List Wanted) (n : ℕ) (w : Wanted) → slice_get ws n ≡ Some w → w.owner ≡ Some k → 0 < waits_of k ws
waits_there k [] n w at is = absurd (cc)
waits_there k (v ∷ ws) zero w at is =
    let same : v ≡ w = cc in
    let one = owner_counts k v.owner (ap (λ (x : Wanted). x.owner) same ∙ is) in
    omega arith
waits_there k (v ∷ ws) (suc n) w at is = let more = waits_there k ws n w at is in omega arith

-- an owner that is there is an instance whose block has its commands there
block_of : (s : Setup) (o : Object) (owner : Option ℕ) (k : ℕ) → HasBlock s o owner → owner ≡ Some k → has_commands_on (slice_get s.blocks k) o ≡ true
block_of s o None k h is = absurd (cc)
block_of s o (Some j) k h is = let same : j ≡ k = cc in rw (← same) h

has_block : (s : Setup) (o : Object) (owner : Option ℕ) → ((k : ℕ) → owner ≡ Some k → has_commands_on (slice_get s.blocks k) o ≡ true) → HasBlock s o owner
has_block s o None h = tt
has_block s o (Some j) h = h j refl

abbrev IsWhole : Setup → Object → CommandState → Type 0
IsWhole s o c = (k : ℕ) → HasOnly k c (has_commands_on (slice_get s.blocks k) o ≡ true)

whole_of : (s : Setup) (o : Object) (c : CommandState) → HaveBlocks s o (owners_of c) → HaveAllBlocks s o c.waiting → IsWhole s o c
whole_of s o c own waiting k = record {
  commands = λ l. elim (cases_eq (owner_count k (owner_by c.active)) 0) [
    | inl none ↦ elim (cases_eq (owner_count k c.reset) 0) [
      | inl nothing ↦ waits_has k c.waiting _ (λ n w at is. block_of s o w.owner k (waiting n w at) is) (omega arith)
      | inr reset ↦ block_of s o c.reset k own.reset (found_in k c.reset (omega arith))
    ]
    | inr active ↦ block_of s o (owner_by c.active) k own.active (found_in k (owner_by c.active) (omega arith))
  ];
  holds = λ e. block_of s o c.hold k own.hold e;
}

own_of : (s : Setup) (o : Object) (c : CommandState) → IsWhole s o c → HaveBlocks s o (owners_of c)
own_of s o c h = record {
  active = has_block s o (owner_by c.active) (λ k e. (h k).commands (let one = owner_counts k (owner_by c.active) e in omega arith));
  reset = has_block s o c.reset (λ k e. (h k).commands (let one = owner_counts k c.reset e in omega arith));
  hold = has_block s o c.hold (λ k e. (h k).holds e);
}

waiting_of : (s : Setup) (o : Object) (c : CommandState) → IsWhole s o c → HaveAllBlocks s o c.waiting
waiting_of s o c h n w at =
    has_block s o w.owner (λ k e. (h k).commands (let some = waits_there k c.waiting n w at e in omega arith))

-- a test of the parts is one of the whole
pub whole_by_parts : (s : Setup) (o : Object) (c : CommandState) (owners : Owners) (ws : List Wanted) (b : Bool) → owners ≡ owners_of c → ws ≡ c.waiting →
    HaveBlocks s o owners → IsTrue b ↔ HaveAllBlocks s o ws → IsTrue b ↔ IsWhole s o c
whole_by_parts s o c owners ws b who which own waiting = (
  λ yes. whole_of s o c (subst (HaveBlocks s o) who own) (subst (HaveAllBlocks s o) which (waiting.0 yes)),
  λ h. waiting.1 (subst (HaveAllBlocks s o) (sym which) (waiting_of s o c h)),
)

pub not_whole : (s : Setup) (o : Object) (c : CommandState) (owners : Owners) (b : Bool) → owners ≡ owners_of c → b ≡ false →
    IsTrue b ↔ HaveBlocks s o owners → IsTrue b ↔ IsWhole s o c
not_whole s o c owners b who fails own =
    (λ yes. absurd (cc), λ h. own.1 (subst (HaveBlocks s o) (sym who) (own_of s o c h)))
