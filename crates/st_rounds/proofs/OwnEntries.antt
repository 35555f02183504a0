-- The entries of a task in a history, and those of its calls.
-- for: tasks_make_their_scans
use Rattle.std.specs.Prelude.{◌≡◌, refl, ℕ, zero, suc, ◌<◌, true, false, cond, Some, List, [], ◌∷◌, ◌++◌, length, slice_get}
use Rattle.std.proofs.Common.{◌∙◌, sym, ap, arith}
use Rattle.std.proofs.lemmas.Bool.{eq-eqb, ne_eqb}
use Rattle.std.proofs.lemmas.List.{append-nil}
use Rattle.std.proofs.lemmas.List.Elements.{filter-append}
use Rattle.plc_types.specs.declared.outputs.Outputs.{Outputs}
use Rattle.motion_history.specs.Entries.{Entry, call, end_of}
use Rattle.motion_history.specs.Setup.{Setup}
use Rattle.motion_history.specs.declared.config.BlockDef.{BlockDef}
use Rattle.motion_kernel.specs.Tasks.{is_block_of, is_by}
use Rattle.st_exec.specs.Laws.{IsCallOf}
use Rattle.st_exec.specs.Scan.{Asked}
use Rattle.st_rounds.specs.TaskScans.{entries_of, own_entries}

-- ---- the entries of calls

pub none-replied : (calls : List Asked) → entries_of calls [] ≡ []
none-replied [] = refl
none-replied (a ∷ calls) = refl

-- calls after those that got replies add no entry
pub entries-first : (calls others : List Asked) (got : List Outputs) → length calls ≡ length got →
    entries_of (calls ++ others) got ≡ entries_of calls got
entries-first [] others [] e = none-replied others
entries-first [] others (o ∷ got) e = absurd (omega (arith, e))
entries-first (a ∷ calls) others [] e = absurd (omega (arith, e))
entries-first (a ∷ calls) others (o ∷ got) e =
    ap (λ es. call a.instance a.inputs o ∷ es) (entries-first calls others got (omega (arith, e)))

-- a reply more is an entry more
pub entries-more : (calls others : List Asked) (a : Asked) (got : List Outputs) (o : Outputs) →
    length calls ≡ length got →
    entries_of ((calls ++ a ∷ []) ++ others) (got ++ o ∷ []) ≡
    entries_of calls got ++ call a.instance a.inputs o ∷ []
entries-more [] others a [] o e =
    ap (λ es. call a.instance a.inputs o ∷ es) (none-replied others)
entries-more [] others a (x ∷ got) o e = absurd (omega (arith, e))
entries-more (b ∷ calls) others a [] o e = absurd (omega (arith, e))
entries-more (b ∷ calls) others a (x ∷ got) o e =
    ap (λ es. call b.instance b.inputs x ∷ es)
    (entries-more calls others a got o (omega (arith, e)))

-- ---- the entries of a task

pub own-more : (s : Setup) (n : ℕ) (h : List Entry) (e : Entry) → is_by s n e ≡ true →
    own_entries s n (h ++ e ∷ []) ≡ own_entries s n h ++ e ∷ []
own-more s n h e by =
    filter-append (is_by s n) h (e ∷ [])
    ∙ ap (λ b. own_entries s n h ++ cond b (e ∷ []) []) by

pub own-other : (s : Setup) (n : ℕ) (h : List Entry) (e : Entry) → is_by s n e ≡ false →
    own_entries s n (h ++ e ∷ []) ≡ own_entries s n h
own-other s n h e by =
    filter-append (is_by s n) h (e ∷ []) ∙ ap (λ b. own_entries s n h ++ cond b (e ∷ []) []) by
    ∙ append-nil (own_entries s n h)

-- the block of a call
block-of : (bs : List BlockDef) (k : ℕ) → k < length bs → (b : BlockDef) × (slice_get bs k ≡ Some b)
block-of [] k l = absurd (omega (arith, l))
block-of (b ∷ bs) zero l = (b, refl)
block-of (b ∷ bs) (suc k) l = block-of bs k (omega (arith, l))

-- the call of a task is its own, and no other's
pub call-own : (s : Setup) (n : ℕ) (a : Asked) (o : Outputs) → IsCallOf s n a →
    is_by s n (call a.instance a.inputs o) ≡ true
call-own s n a o is =
    let b = block-of s.blocks a.instance is.is.there in
    ap (is_block_of n) b.1 ∙ eq-eqb b.0.task n (is.own b.0 b.1)

pub call-other : (s : Setup) (n m : ℕ) (a : Asked) (o : Outputs) → IsCallOf s n a → (n ≡ m → ⊥) →
    is_by s m (call a.instance a.inputs o) ≡ false
call-other s n m a o is other =
    let b = block-of s.blocks a.instance is.is.there in
    ap (is_block_of m) b.1 ∙ ne_eqb b.0.task m (λ e. other (sym (is.own b.0 b.1) ∙ e))

-- and so is its end
pub end-own : (s : Setup) (n : ℕ) → is_by s n (end_of n) ≡ true
end-own s n = eq-eqb n n refl

pub end-other : (s : Setup) (n m : ℕ) → (n ≡ m → ⊥) → is_by s m (end_of n) ≡ false
end-other s n m other = ne_eqb n m other
