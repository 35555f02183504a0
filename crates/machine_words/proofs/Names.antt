-- What is found by its name is there.
-- for: inputs_are_fit, named_by
use Rattle.std.proofs.Common.{◌≡◌, ℕ, ◌<◌, zero, suc, Bool, true, false, Some, None, List, [], ◌∷◌, ◌++◌, length, map, refl, sym, ◌∙◌, ap, subst, arith, inl, inr}
use Rattle.std.specs.Prelude.{nat_lt, slice_index_or}
use Rattle.std.specs.List.{AllByRecursion, IsDistinct, position, position_or_len}
use Rattle.std.specs.Str.{bytes_eq}
use Rattle.std.proofs.lemmas.Bool.{cases_Bool, lt-ltb, ltb-true}
use Rattle.std.proofs.lemmas.Map.Keys.{IsDistinct-head, IsDistinct-tail}
use Rattle.std.proofs.lemmas.Slice.Eq.{bytes_eq-Decides}
use Rattle.plc_types.specs.declared.axis.AxisDef.{AxisDef}
use Rattle.motion_history.specs.Setup.{IsWithin, Setup}
use Rattle.motion_history.specs.declared.config.BlockDef.{BlockDef}
use Rattle.motion_history.specs.declared.config.GroupDef.{GroupDef}
use Rattle.machine_words.specs.Names.{axis_at, block_at, task_at}

-- what is found stands in the list
position-within : {X : Type 0} (p : X → Bool) (xs : List X) (i : ℕ) → position p xs ≡ Some i → i < length xs
position-within p xs i h =
    elim (cases_Bool (nat_lt (position_or_len p xs) (length xs))) [
      | inl yet ↦
          let e : Some (position_or_len p xs) ≡ Some i = rw yet at h in
          let is : position_or_len p xs ≡ i = cc in
          subst (λ k. k < length xs) is (ltb-true _ _ yet)
      | inr none ↦ let e : None ≡ Some i = rw none at h in absurd (cc)
    ]

-- an axis
pub axis-within : (s : Setup) (name : List ℕ) (n : ℕ) → axis_at s name ≡ Some n → n < length s.axes
unfolding axis_at
axis-within s name n h = position-within _ s.axes n h

-- a task
pub task-within : (s : Setup) (name : List ℕ) (n : ℕ) → task_at s name ≡ Some n → n < length s.tasks
unfolding task_at
task-within s name n h = position-within _ s.tasks n h

-- a block
pub block-within : (s : Setup) (name : List ℕ) (n : ℕ) → block_at s name ≡ Some n → n < length s.blocks
unfolding block_at
block-within s name n h = position-within _ s.blocks n h

-- ---- where names differ

-- what stands after others differs too
distinct-behind : {K : Type 0} (e : K → K → Bool) (xs ys : List K) → IsDistinct e (xs ++ ys) → IsDistinct e ys
distinct-behind e [] ys d = d
distinct-behind e (x ∷ xs) ys d = distinct-behind e xs ys (IsDistinct-tail e x (xs ++ ys) d)

-- a name that differs from all differs from each block's
apart-at : (name : List ℕ) (bs : List BlockDef) (i : ℕ) (b : BlockDef) → i < length bs → AllByRecursion (λ y. bytes_eq name y ≡ false) (map (λ (d : BlockDef). d.name) bs) →
    bytes_eq name (slice_index_or bs i b).name ≡ false
apart-at name [] i b l a = absurd (omega arith)
apart-at name (c ∷ cs) zero b l a = a.0
apart-at name (c ∷ cs) (suc i) b l a = apart-at name cs i b (omega arith) a.1

-- a block stands where the first of its name does
first-named : (bs : List BlockDef) (i : ℕ) (b : BlockDef) → i < length bs → IsDistinct bytes_eq (map (λ (d : BlockDef). d.name) bs) →
    position_or_len (λ (d : BlockDef). bytes_eq d.name (slice_index_or bs i b).name) bs ≡ i
first-named [] i b l d = absurd (omega arith)
first-named (c ∷ cs) zero b l d =
    let same : bytes_eq c.name c.name ≡ true = (bytes_eq-Decides c.name c.name).1 refl in
    rw same refl
first-named (c ∷ cs) (suc i) b l d =
    let apart : bytes_eq c.name (slice_index_or cs i b).name ≡ false = apart-at c.name cs i b (omega arith) (IsDistinct-head bytes_eq c.name (map (λ (d : BlockDef). d.name) cs) d) in
    let more : position_or_len (λ (d : BlockDef). bytes_eq d.name (slice_index_or cs i b).name) cs ≡ i = first-named cs i b (omega arith) (IsDistinct-tail bytes_eq c.name (map (λ (d : BlockDef). d.name) cs) d) in
    rw (apart, more) (omega arith)

-- a block of a machine is found by its name
pub block-named : (s : Setup) (i : ℕ) (b : BlockDef) (name : List ℕ) → IsWithin s → i < length s.blocks → b ≡ slice_index_or s.blocks i b → bytes_eq b.name name ≡ true →
    block_at s name ≡ Some i
unfolding block_at
block-named s i b name w l at same =
    let blocks = map (λ (d : BlockDef). d.name) s.blocks in
    let groups = map (λ (d : GroupDef). d.name) s.groups in
    let differ = distinct-behind bytes_eq s.tasks blocks (distinct-behind bytes_eq groups (s.tasks ++ blocks)
    (distinct-behind bytes_eq (map (λ (d : AxisDef). d.name) s.axes) (groups ++ (s.tasks ++ blocks)) w.names.differ)) in
    let is : (slice_index_or s.blocks i b).name ≡ name = ap (λ (d : BlockDef). d.name) (sym at) ∙ (bytes_eq-Decides b.name name).0 same in
    let first : position_or_len (λ (d : BlockDef). bytes_eq d.name name) s.blocks ≡ i =
    subst (λ n. position_or_len (λ (d : BlockDef). bytes_eq d.name n) s.blocks ≡ i) is (first-named s.blocks i b l differ) in
    let there : nat_lt i (length s.blocks) ≡ true = lt-ltb _ _ l in
    rw (first, there) refl
