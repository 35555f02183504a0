-- What a turn leaves.
-- for: run_plant
use Rattle.std.proofs.Common.{◌≡◌, ℕ, suc, ◌+◌, ◌≤◌, List, [], ◌∷◌, ◌++◌, length, Option, Some, None, refl, sym, ap, ◌∙◌, subst, arith, append-nil}
use Rattle.std.specs.Prelude.{slice_get, IsSomeAnd}
use mathlib.Core.List.{IsPrefix}
use Rattle.plc_types.specs.declared.inputs.Inputs.{Inputs}
use Rattle.plc_types.specs.declared.outputs.Outputs.{Outputs}
use Rattle.kernel_turn.specs.Events.{call_of}
use Rattle.motion_kernel.specs.KernelState.{with_entry}
use Rattle.kernel_turn.specs.PermitState.{PermitState}
use Rattle.kernel_turn.specs.Turns.{CallAnswered, EndAnswered, FullOfEntries, IsFound, TakesTurn, permit_after}
use Rattle.kernel_turn.specs.declared.turn.Turn.{Turn}
use Rattle.kernel_turn.specs.declared.turn.Turn.TheVariants as turns
use Rattle.motion_plant.specs.Calls.{IsCut, fixed_part}
use Rattle.motion_plant.specs.Makers.{IsBy, Owns, own_entries, task_of}
use Rattle.motion_plant.proofs.OwnEntries.{entries_prefix, entries_more, owns_prefix, owns_snoc}
use Rattle.motion_history.proofs.HistoryLemmas.{cycles_of-append}
use Rattle.motion_history.specs.Entries.{Entry, call, end_of, cycle_count, cycles_of}
use Rattle.motion_history.specs.Setup.{Setup}
use Rattle.motion_history.specs.declared.config.BlockDef.{BlockDef}
use Rattle.motion_kernel.specs.KernelState.{KernelState}

pub cycles_begin : (xs ys : List Entry) → IsPrefix xs ys → cycles_of xs ≤ cycles_of ys
cycles_begin xs ys p = let e = ap cycles_of p.1 in let m = cycles_of-append xs p.0 in omega arith

-- a turn that made nothing
pub record LeavesAll (old new : PermitState) : Type 0 where
  pub fixed : fixed_part new ≡ fixed_part old
  pub made : own_entries new.own new.seen ≡ own_entries old.own old.seen
  pub longer : cycles_of old.seen ≤ cycles_of new.seen

-- one that made this entry after these
pub record Adds (old new : PermitState) (before : List Entry) (e : Entry) : Type 0 where
  pub fixed : fixed_part new ≡ fixed_part old
  pub made : own_entries new.own new.seen ≡ own_entries old.own old.seen ++ record {
    before =
        before;
    entry = e;
  } ∷ []
  pub first : cycles_of old.seen ≤ cycles_of before
  pub longer : cycles_of new.seen ≡ cycles_of before + cycle_count e

module _ (P : Entry → Type 0) (old new : PermitState) (f g : KernelState)
    (o : Owns P old.own old.seen) (w : IsFound old f) where
  pub none_made : g ≡ f → new ≡ permit_after old f g [] → Owns P new.own new.seen × LeavesAll old new
  none_made same is =
      let h : f.history ≡ old.seen ++ w.begins.0 = sym w.begins.1 in
      let seen : new.seen ≡ old.seen ++ w.begins.0 = ap (λ (p : PermitState). p.seen) is ∙
      ap (λ (k : KernelState). k.history) same ∙ h in
      let own : new.own ≡ old.own = ap (λ (p : PermitState). p.own) is ∙ append-nil old.own in
      let c = cycles_of-append old.seen w.begins.0 in
      let d = ap cycles_of seen in (
        subst (λ ns. Owns P ns new.seen) (sym own) (subst (λ es. Owns P old.own es) (sym seen)
            (owns_prefix P old.own old.seen w.begins.0 o)),
        record {
          fixed = ap fixed_part is;
          made = (λ j. own_entries (own j) (seen j)) ∙ entries_prefix old.own old.seen w.begins.0
              o.below;
          longer = omega arith;
        },
      )

  pub one_made : (e : Entry) (ticket : ℕ) → P e → g ≡ with_entry f e → ticket ≡ length f.history →
      new ≡ permit_after old f g (ticket ∷ []) → Owns P new.own new.seen × Adds old new f.history e
  one_made e ticket p same is_ticket is =
      let h : f.history ≡ old.seen ++ w.begins.0 = sym w.begins.1 in
      let mid : Owns P old.own f.history = subst (λ es. Owns P old.own es) (sym h)
      (owns_prefix P old.own old.seen w.begins.0 o) in
      let seen : new.seen ≡ f.history ++ e ∷ [] = ap (λ (q : PermitState). q.seen) is ∙
      ap (λ (k : KernelState). k.history) same in
      let own : new.own ≡ old.own ++ length f.history ∷ [] = ap (λ (q : PermitState). q.own) is ∙
      ap (λ t. old.own ++ t ∷ []) is_ticket in
      let c = cycles_of-append old.seen w.begins.0 in
      let b = ap cycles_of h in
      let d = ap cycles_of seen in
      let m = cycles_of-append f.history (e ∷ []) in (
        subst (λ ns. Owns P ns new.seen) (sym own)
            (subst (λ es. Owns P (old.own ++ length f.history ∷ []) es) (sym seen)
            (owns_snoc P old.own f.history e mid p)),
        record {
          fixed = ap fixed_part is;
          made = (λ j. own_entries (own j) (seen j)) ∙ entries_more old.own f.history e ∙
              ap (λ ls. ls ++ record { before = f.history; entry = e } ∷ [])
              (ap (own_entries old.own) h ∙ entries_prefix old.own old.seen w.begins.0 o.below);
          first = omega arith;
          longer = omega arith;
        },
      )

-- a block's call is its task's
pub by_task : (s : Setup) (t k : ℕ) (i : Inputs) (r : Outputs) → IsSomeAnd (slice_get s.blocks k)
    (λ (b : BlockDef). b.task ≡ t) → IsBy s t (call k i r)
by_task s t k i r h = go (slice_get s.blocks k) h
  where
    go : (b : Option BlockDef) → IsSomeAnd b (λ (b : BlockDef). b.task ≡ t) → task_of b ≡ suc t
    go None h = absurd (h)
    go (Some b) h = ap suc h

module _ (t : ℕ) (old new : PermitState) where
  pub call_made : (after k : ℕ) (i : Inputs) (turn : Turn Outputs) (ticket cycles : ℕ)
      (answer : Outputs) → Owns (IsBy old.config t) old.own old.seen →
      IsSomeAnd (slice_get old.config.blocks k) (λ (b : BlockDef). b.task ≡ t) →
      CallAnswered after k i old new turn → turn ≡ turns.Made ticket cycles answer →
      (before : List Entry) × Owns (IsBy old.config t) new.own new.seen × Adds old new before
      (call k i answer) × (cycles ≡ cycles_of before) × (after ≤ cycles) ×
      (cycles ≤ old.config.cycles)
  call_made after k i turn ticket cycles answer o own answered e =
      let a = subst (CallAnswered after k i old new) e answered in
      let f = a.0 in
      let m = a.2.makes in
      let told = a.3 in
      let same : call_of f k i ≡ call k i answer = ap (call k i) (sym told.1) in
      let r = one_made (IsBy old.config t) old new f a.1 o a.2.found (call k i answer) ticket
      (by_task old.config t k i answer own) (m.kernel ∙ ap (with_entry f) same) m.ticket_is
      a.2.permit in
      let c = m.cycles_is in
      let d = ap (λ (q : KernelState). cycles_of q.history) (m.kernel ∙ ap (with_entry f) same) in
      let n = cycles_of-append f.history (call k i answer ∷ []) in
      let few = m.few in
      let config = ap (λ (q : Setup). q.cycles) a.2.found.config in
      (f.history, r.0, r.1, omega arith, told.0, omega arith)

  pub call_full : (after k : ℕ) (i : Inputs) (turn : Turn Outputs) (entries cycles : ℕ) →
      Owns (IsBy old.config t) old.own old.seen → CallAnswered after k i old new turn →
      turn ≡ turns.Full entries cycles → Owns (IsBy old.config t) new.own new.seen ×
      LeavesAll old new
  call_full after k i turn entries cycles o answered e =
      let a = subst (CallAnswered after k i old new) e answered in
      none_made (IsBy old.config t) old new a.0 a.1 o a.2.found a.2.makes.0.kernel a.2.permit

  pub call_early : (after k : ℕ) (i : Inputs) (turn : Turn Outputs) (quiet cycles : ℕ) →
      Owns (IsBy old.config t) old.own old.seen → CallAnswered after k i old new turn →
      turn ≡ turns.Early quiet cycles → Owns (IsBy old.config t) new.own new.seen ×
      LeavesAll old new
  call_early after k i turn quiet cycles o answered e =
      let a = subst (CallAnswered after k i old new) e answered in
      none_made (IsBy old.config t) old new a.0 a.1 o a.2.found a.2.makes.0.kernel a.2.permit

  pub end_made : (turn : Turn (Unit {0})) (ticket cycles : ℕ) (answer : Unit {0}) →
      Owns (IsBy old.config t) old.own old.seen → EndAnswered t old new turn →
      turn ≡ turns.Made ticket cycles answer → (before : List Entry) ×
      Owns (IsBy old.config t) new.own new.seen × Adds old new before (end_of t)
  end_made turn ticket cycles answer o answered e =
      let a = subst (EndAnswered t old new) e answered in
      let m = a.2.makes in
      let r = one_made (IsBy old.config t) old new a.0 a.1 o a.2.found (end_of t) ticket refl
      m.kernel m.ticket_is a.2.permit in
      (a.0.history, r.0, r.1)

  pub end_full : (turn : Turn (Unit {0})) (entries cycles : ℕ) →
      Owns (IsBy old.config t) old.own old.seen → EndAnswered t old new turn →
      turn ≡ turns.Full entries cycles → Owns (IsBy old.config t) new.own new.seen ×
      LeavesAll old new
  end_full turn entries cycles o answered e =
      let a = subst (EndAnswered t old new) e answered in
      none_made (IsBy old.config t) old new a.0 a.1 o a.2.found a.2.makes.0.kernel a.2.permit

-- a turn that found no room
pub full_cut : {T : Type 0} (old new : PermitState) (f g : KernelState) (e : Entry) (turn : Turn T)
    (entries cycles : ℕ) → TakesTurn old new f g e turn → FullOfEntries new turn →
    turn ≡ turns.Full entries cycles → IsCut new
full_cut old new f g e turn entries cycles takes full is =
    let t = subst (TakesTurn old new f g e) is takes in
    let m = subst (FullOfEntries new) is full in
    let s : length new.seen ≡ length f.history = ap (λ (p : PermitState). length p.seen) t.permit ∙
    ap (λ (z : KernelState). length z.history) t.makes.0.kernel in
    let n = t.makes.1 in
    λ met. let x = m met in omega arith

pub left_twice : (a b c : PermitState) → LeavesAll a b → LeavesAll b c → LeavesAll a c
left_twice a b c p q = let x = p.longer in let y = q.longer in record {
  fixed = q.fixed ∙ p.fixed;
  made = q.made ∙ p.made;
  longer = omega arith;
}

-- what repeats of a call come to
pub record CallMade (first new : PermitState) (t after k : ℕ) (i : Inputs) (answer : Outputs)
    (cycles : ℕ) : Type 0 where
  pub before : List Entry
  pub owns : Owns (IsBy first.config t) new.own new.seen
  pub fixed : fixed_part new ≡ fixed_part first
  pub made : own_entries new.own new.seen ≡ own_entries first.own first.seen ++ record {
    before =
        before;
    entry = call k i answer;
  } ∷ []
  pub cycles_is : cycles ≡ cycles_of before
  pub late : after ≤ cycles
  pub behind : cycles_of first.seen ≤ cycles
  pub longer : cycles ≤ cycles_of new.seen
  pub few : cycles ≤ first.config.cycles

module _ (t : ℕ) (first old new : PermitState) (left : LeavesAll first old)
    (o : Owns (IsBy first.config t) old.own old.seen) where
  config_is : old.config ≡ first.config
  config_is = ap (λ (p : PermitState). p.config) left.fixed

  o' : Owns (IsBy old.config t) old.own old.seen
  o' = subst (λ (s : Setup). Owns (IsBy s t) old.own old.seen) (sym config_is) o

  back : Owns (IsBy old.config t) new.own new.seen → Owns (IsBy first.config t) new.own new.seen
  back b = subst (λ (s : Setup). Owns (IsBy s t) new.own new.seen) config_is b

  pub call_came : (after k : ℕ) (i : Inputs) (turn : Turn Outputs) (ticket cycles : ℕ)
      (answer : Outputs) → IsSomeAnd (slice_get first.config.blocks k) (λ (b : BlockDef). b.task ≡
      t) → CallAnswered after k i old new turn → turn ≡ turns.Made ticket cycles answer →
      CallMade first new t after k i answer cycles
  call_came after k i turn ticket cycles answer own answered e =
      let r = call_made t old new after k i turn ticket cycles answer o'
      (subst (λ (s : Setup). IsSomeAnd (slice_get s.blocks k) (λ (b : BlockDef). b.task ≡ t))
      (sym config_is) own) answered e in
      let a = r.2 in
      let x = left.longer in
      let y = a.first in
      let z = a.longer in
      let n = r.3 in
      let few = r.5 in
      let c = ap (λ (s : Setup). s.cycles) config_is in
      record {
        before = r.0;
        owns = back r.1;
        fixed = a.fixed ∙ left.fixed;
        made = a.made ∙ ap (λ ls. ls ++ record { before = r.0; entry = call k i answer } ∷ [])
            left.made;
        cycles_is = n;
        late = r.4;
        behind = omega arith;
        longer = omega arith;
        few = omega arith;
      }

  pub call_spent : (after k : ℕ) (i : Inputs) (turn : Turn Outputs) (entries cycles : ℕ) →
      CallAnswered after k i old new turn → turn ≡ turns.Full entries cycles →
      Owns (IsBy first.config t) new.own new.seen × LeavesAll first new
  call_spent after k i turn entries cycles answered e =
      let r = call_full t old new after k i turn entries cycles o' answered e in
      (back r.0, left_twice first old new left r.1)

  pub call_again : (after k : ℕ) (i : Inputs) (turn : Turn Outputs) (quiet cycles : ℕ) →
      CallAnswered after k i old new turn → turn ≡ turns.Early quiet cycles →
      Owns (IsBy first.config t) new.own new.seen × LeavesAll first new
  call_again after k i turn quiet cycles answered e =
      let r = call_early t old new after k i turn quiet cycles o' answered e in
      (back r.0, left_twice first old new left r.1)
