-- How the path of a group changes in a call and in a cycle.
-- for: paths_change_by_commands
use Rattle.std.specs.Prelude.{◌≡◌, refl, ◌⊎◌, Bool, true, false, not, ◌&&◌, ◌||◌, ℤ, Option, Some, None, is_none, is_some, Result, Ok, if◌then◌else◌}
use Rattle.std.proofs.Common.{◌∙◌, sym, ap, inl, inr}
use Rattle.buffer_modes.specs.Queue.{is_aborting}
use Rattle.command_pool.specs.declared.ending.Refusal.{Refusal}
use Rattle.plc_types.specs.declared.kind.BlockKind.{BlockKind}
use Rattle.plc_types.specs.declared.kind.BlockKind.TheVariants as kind
use Rattle.command_pool.specs.declared.wanted.Wanted.{Wanted}
use Rattle.group_core.specs.Calls.{admitted_by, answer_by, answer_of, asked_in, braked_for, commanded, commanded_by, is_active_by, queued, waits_for_rest}
use Rattle.group_core.specs.Cores.{Core, line_begun}
use Rattle.group_core.specs.Cycles.{cycled, step_of}
use Rattle.group_core.specs.Refusals.{limits_in, refusal_of}
use Rattle.group_core.specs.Tracks.{OnPath}
use Rattle.group_core.specs.blocks.Halts.{way_here}
use Rattle.group_core.specs.declared.look.GroupLook.{GroupLook}
use Rattle.group_core.specs.declared.reason.Reason.{Reason}
use Rattle.group_core.proofs.KeptCalls.{halted-some}

-- what an active answer, a path and none say of a command
record Changes (w : Wanted) (before : Option OnPath) (active : Bool) (after : Option OnPath) : Type 0 where
  begins : active ≡ true → is_some after ≡ true
  only_begins : (q : OnPath) → after ≡ Some q → (before ≡ Some q) ⊎ (active ≡ true)
  only_leaves : (p : OnPath) → before ≡ Some p → after ≡ None → (w.kind ≡ kind.GroupDisable) × (active ≡ false)

-- the path stays by a command that is not active
same-path : (w : Wanted) (before : Option OnPath) → Changes w before false before
same-path w before = record {
  begins = λ h. absurd (cc);
  only_begins = λ q h. inl h;
  only_leaves = λ p h none. absurd (let e : Some p ≡ None = sym h ∙ none in cc);
}

-- there is a path by one that is
some-path : (w : Wanted) (before after : Option OnPath) → is_some after ≡ true → Changes w before true after
some-path w before after on = record {
  begins = λ h. on;
  only_begins = λ q h. inr refl;
  only_leaves = λ p h none. absurd (let e : true ≡ false = sym on ∙ ap is_some none in cc);
}

no-path : (w : Wanted) (before : Option OnPath) → w.kind ≡ kind.GroupDisable → Changes w before false None
no-path w before e = record {
  begins = λ h. absurd (cc);
  only_begins = λ q h. absurd (cc);
  only_leaves = λ p h none. (e, refl);
}

line-path : (members : GroupLook) (w : Wanted) (c : Core) → Changes w c.path (is_active_by kind.MoveLinearAbsolute w c) (admitted_by kind.MoveLinearAbsolute members w c).path
line-path members w c = by (waits_for_rest w c.path) refl
  where
    now : (b : Bool) → (is_aborting w.mode || is_none c.group.active) ≡ b →
        Changes w c.path b (if b then line_begun members members.setpoints w (queued w c) else queued w c).path
    now true e = some-path w c.path _ refl
    now false e = same-path w c.path

    by : (b : Bool) → waits_for_rest w c.path ≡ b →
        Changes w c.path (not b && (is_aborting w.mode || is_none c.group.active))
        (if b then braked_for w c else (if is_aborting w.mode || is_none c.group.active then line_begun members members.setpoints w (queued w c) else queued w c)).path
    by true e = same-path w c.path
    by false e = now (is_aborting w.mode || is_none c.group.active) refl

path-by : (k : BlockKind) (members : GroupLook) (w : Wanted) (c : Core) → w.kind ≡ k → Changes w c.path (is_active_by k w c) (admitted_by k members w c).path
path-by kind.GroupDisable members w c e = no-path w c.path e
path-by kind.GroupStop members w c e = some-path w c.path _ (halted-some (way_here members.count members.setpoints) (limits_in members) c.path)
path-by kind.GroupHalt members w c e = some-path w c.path _ (halted-some (way_here members.count members.setpoints) (limits_in members) c.path)
path-by kind.MoveLinearAbsolute members w c e = line-path members w c
path-by _ members w c e = same-path w c.path

-- and by the answer
record Answers (w : Wanted) (before : Option OnPath) (answer : Result Bool Refusal) (after : Option OnPath) : Type 0 where
  pub begins : answer ≡ Ok true → is_some after ≡ true
  pub only_begins : (q : OnPath) → after ≡ Some q → (before ≡ Some q) ⊎ (answer ≡ Ok true)
  pub only_leaves : (p : OnPath) → before ≡ Some p → after ≡ None → (w.kind ≡ kind.GroupDisable) × (answer ≡ Ok false)

only-active : {A : Type 0} (active : Bool) → A ⊎ (active ≡ true) → A ⊎ (let answer : Result Bool Refusal = Ok active in answer ≡ Ok true)
only-active active (inl a) = inl a
only-active active (inr e) = inr (ap (λ b. let answer : Result Bool Refusal = Ok b in answer) e)

was-active : (active : Bool) → (let answer : Result Bool Refusal = Ok active in answer ≡ Ok true) → active ≡ true
was-active active h = cc

answered : (w : Wanted) (before : Option OnPath) (active : Bool) (after : Option OnPath) → Changes w before active after → Answers w before (Ok active) after
answered w before active after c = record {
  begins = λ h. c.begins (was-active active h);
  only_begins = λ q h. only-active active (c.only_begins q h);
  only_leaves = λ p h none. (let both = c.only_leaves p h none in (both.0, ap (λ b. let answer : Result Bool Refusal = Ok b in answer) both.1));
}

path-asked : (o : Option Reason) (members : GroupLook) (w : Wanted) (c : Core) → Answers w c.path (answer_by o w c) (commanded_by o members w c).path
path-asked None members w c = answered w c.path _ _ (path-by w.kind members w c refl)
path-asked (Some r) members w c = record {
  begins = λ h. absurd (cc);
  only_begins = λ q h. inl h;
  only_leaves = λ p h none. absurd (let e : Some p ≡ None = sym h ∙ none in cc);
}

path-answers : (w : Wanted) (jerk : ℤ) (members : GroupLook) (c : Core) → Answers w c.path (answer_of w jerk members c) (commanded w jerk members c).path
unfolding answer_of commanded
path-answers w jerk members c = path-asked (refusal_of (asked_in c w jerk members)) members w c

pub active-begins : (w : Wanted) (jerk : ℤ) (members : GroupLook) (c : Core) → answer_of w jerk members c ≡ Ok true → is_some (commanded w jerk members c).path ≡ true
active-begins w jerk members c = (path-answers w jerk members c).begins

pub begins-active : (w : Wanted) (jerk : ℤ) (members : GroupLook) (c : Core) (q : OnPath) → (commanded w jerk members c).path ≡ Some q →
    (c.path ≡ Some q) ⊎ (answer_of w jerk members c ≡ Ok true)
begins-active w jerk members c = (path-answers w jerk members c).only_begins

pub leaves-disabled : (w : Wanted) (jerk : ℤ) (members : GroupLook) (c : Core) (p : OnPath) → c.path ≡ Some p → (commanded w jerk members c).path ≡ None →
    (w.kind ≡ kind.GroupDisable) × (answer_of w jerk members c ≡ Ok false)
leaves-disabled w jerk members c = (path-answers w jerk members c).only_leaves

-- and in a cycle
ends-by : (before after : Option OnPath) (p : OnPath) → before ≡ Some p → after ≡ None → (is_some before && not (is_some after)) ≡ true
ends-by (Some q) None p e f = refl
ends-by (Some q) (Some r) p e f = absurd (cc)
ends-by None after p e f = absurd (cc)

goes-by : (before after : Option OnPath) (q : OnPath) → after ≡ Some q → (is_some before && not (is_some after)) ≡ false
goes-by None after q f = refl
goes-by (Some p) (Some r) q f = refl
goes-by (Some p) None q f = absurd (cc)

pub path-ends : (members : GroupLook) (c : Core) (p : OnPath) → c.path ≡ Some p → (cycled members c).path ≡ None → (step_of members c).ends ≡ true
unfolding step_of
path-ends members c p e f = ends-by c.path (cycled members c).path p e f

pub path-goes-on : (members : GroupLook) (c : Core) (q : OnPath) → (cycled members c).path ≡ Some q → (step_of members c).ends ≡ false
unfolding step_of
path-goes-on members c q f = goes-by c.path (cycled members c).path q f
