-- How a path ends in a cycle: at rest, and where the next one begins.
-- for: members_keep_their_limits
use Rattle.std.specs.Prelude.{◌≡◌, refl, ◌⊎◌, ℕ, ◌<◌, Bool, true, false, not, ◌&&◌, ℤ, pos, Option, Some, None, is_some, List, [], ◌∷◌, ◌++◌, if◌then◌else◌}
use Rattle.std.specs.Ordering.{int_eq}
use Rattle.std.proofs.Common.{◌∙◌, sym, ap, subst, arith, inl, inr}
use Rattle.std.proofs.lemmas.Bool.{and_parts, not-true}
use Rattle.std.proofs.lemmas.Int.{ints}
use Rattle.buffer_modes.specs.Queue.{active_note}
use Rattle.command_pool.specs.declared.ending.Finish.{Finish}
use Rattle.command_pool.specs.declared.ending.Finish.TheVariants as finish
use Rattle.plc_types.specs.declared.kind.BlockKind.{BlockKind}
use Rattle.plc_types.specs.declared.kind.BlockKind.TheVariants as kind
use Rattle.command_pool.specs.declared.wanted.Wanted.{Wanted}
use Rattle.plc_types.specs.declared.group.GroupState.{GroupState}
use Rattle.plc_types.specs.declared.group.GroupState.TheVariants as state
use Rattle.linear_path.specs.Line.{coordinate_of}
use Rattle.linear_path.proofs.LineIsPath.{line_begins}
use Rattle.group_core.specs.Cores.{Core, ended, ended_by, path_settled, taken_over}
use Rattle.group_core.specs.Cycles.{advanced, advanced_with, answered, cycled, ending_of, moved, path_after, path_taken, released, step_of}
use Rattle.group_core.specs.GroupKept.{IsCoreKept, IsLook}
use Rattle.group_core.specs.Kinds.{ending_by, step_by}
use Rattle.group_core.specs.Members.{StandsOn}
use Rattle.group_core.specs.Refusals.{limits_in}
use Rattle.group_core.specs.States.{is_error_stop, is_stopping}
use Rattle.group_core.specs.Tracks.{OnPath, beginning, is_moving, moved_by, place_on, places_at}
use Rattle.buffer_modes.specs.Owners.{is_released}
use Rattle.group_core.specs.blocks.Halts.{leaves_stopping}
use Rattle.group_core.specs.blocks.Line.{line_ending, way_to}
use Rattle.group_core.specs.declared.group.Group.{Group}
use Rattle.group_core.specs.declared.group.Motion.{Motion}
use Rattle.group_core.specs.declared.look.GroupLook.{GroupLook}
use Rattle.group_core.proofs.KeptCycles.{at-rest, done-step, int-same}
use Rattle.group_core.proofs.KeptParts.{is-taken}
use Rattle.group_core.proofs.MemberLaws.{place-given, same-path, taken-path}

-- a command that is done has step 0
if-some : (b : Bool) (f : Finish) → (if b then Some finish.Done else None) ≡ Some f → b ≡ true
if-some true f h = refl
if-some false f h = absurd (cc)

pub line-done : (m : Motion) (step : ℤ) (f : Finish) → line_ending m step ≡ Some f → (m.place ≡ m.limits.hi) × (step ≡ pos 0)
line-done m step f h =
    let parts = and_parts (int_eq m.place m.limits.hi) (int_eq step (pos 0)) (if-some (int_eq m.place m.limits.hi && int_eq step (pos 0)) f h) in
    (int-same m.place m.limits.hi parts.0, int-same step (pos 0) parts.1)

ending-rests : (k : BlockKind) (m : Motion) (step : ℤ) (f : Finish) → ending_by k m step ≡ Some f → step ≡ pos 0
ending-rests kind.MoveLinearAbsolute m step f h = (line-done m step f h).1
ending-rests _ m step f h = done-step step f h

-- the path stands after this step
abbrev pub Rests : Motion → Type 0
Rests m = m.place ≡ m.previous

moved-rests : (m : Motion) (step : ℤ) → step ≡ pos 0 → Rests (moved_by step m)
moved-rests m step e = omega (arith, ints, e)

with-rests : (active : Option Wanted) (m : Motion) (f : Finish) → (advanced_with active m).ending ≡ Some f → Rests (advanced_with active m).motion
with-rests None m f h = absurd (cc)
with-rests (Some w) m f h = moved-rests m (step_by w.kind w m) (ending-rests w.kind m (step_by w.kind w m) f h)

where-rests : (stopped : Bool) (g : Group) (m : Motion) (f : Finish) → is_error_stop g.state ≡ stopped → (advanced g m).ending ≡ Some f → Rests (advanced g m).motion
unfolding advanced
where-rests true g m f e h = absurd (let none : None ≡ Some f = (rw e at h) in cc)
where-rests false g m f e h =
    let here : (advanced_with g.active m).ending ≡ Some f = rw e at h in
    rw e (with-rests g.active m f here)

pub done-rests : (g : Group) (m : Motion) (f : Finish) → (advanced g m).ending ≡ Some f → Rests (advanced g m).motion
done-rests g m f h = where-rests (is_error_stop g.state) g m f refl h

-- what is left of a path that the axes took: it goes on, or it rests and is over, or the next one
-- begins where the axes stand
record Begins (members : GroupLook) (places : List ℤ) (o : Option OnPath) : Type 0 where
  wanted : Wanted
  is : o ≡ Some (beginning (way_to members.count places wanted) (limits_in members))

abbrev Left : GroupLook → List ℤ → OnPath → Option OnPath → Type 0
Left members places q o = (o ≡ Some q) ⊎ (Rests q.motion × ((o ≡ None) ⊎ Begins members places o))

settled-left : (members : GroupLook) (places : List ℤ) (q : OnPath) (s : GroupState) (o : Option OnPath) → o ≡ Some q → Rests q.motion → Left members places q (path_settled s o)
settled-left members places q state.GroupMoving o e r = inr (r, inl refl)
settled-left members places q state.GroupDisabled o e r = inl e
settled-left members places q state.GroupStandby o e r = inl e
settled-left members places q state.GroupStopping o e r = inl e
settled-left members places q state.GroupErrorStop o e r = inl e
settled-left members places q state.GroupHoming o e r = inl e

taken-left : (members : GroupLook) (places : List ℤ) (q : OnPath) (ws : List Wanted) (c : Core) → c.path ≡ Some q → Rests q.motion →
    Left members places q (taken_over members places ws c).path
taken-left members places q [] c e r = settled-left members places q c.group.state c.path e r
taken-left members places q (w ∷ ws) c e r = inr (r, inr (record { wanted = w; is = refl }))

ended-left : (members : GroupLook) (places : List ℤ) (q : OnPath) (o : Option Finish) (c : Core) → c.path ≡ Some q → ((f : Finish) → o ≡ Some f → Rests q.motion) →
    Left members places q (ended_by members places o c).path
unfolding ended
ended-left members places q None c e r = inl e
ended-left members places q (Some f) c e r =
    taken-left members places q c.waiting (record c { group = record c.group { active = None }; notes = c.notes ++ active_note f c.group.active }) e (r f refl)

-- a path that is left where nothing moves
left-none : (members : GroupLook) (places : List ℤ) (q : OnPath) (o : Option OnPath) → is_moving o ≡ false → Left members places q o → Left members places q None
left-none members places q o h (inl e) = inr (at-rest q.motion (sym (ap is_moving e) ∙ h), inl refl)
left-none members places q o h (inr r) = inr (r.0, inl refl)

choose-left : (members : GroupLook) (places : List ℤ) (q : OnPath) (b : Bool) (o : Option OnPath) → (b ≡ true → is_moving o ≡ false) → Left members places q o →
    Left members places q (if b then None else o)
choose-left members places q true o h l = left-none members places q o (h refl) l
choose-left members places q false o h l = l

leaves-rests : (held : Bool) (g : Group) (o : Option OnPath) → leaves_stopping held g o ≡ true → is_moving o ≡ false
leaves-rests held g o h =
    let p = (and_parts ((is_stopping g.state && not (is_some g.active)) && not (is_moving o)) (is_released g.hold held) h).0 in
    not-true (is_moving o) (and_parts (is_stopping g.state && not (is_some g.active)) (not (is_moving o)) p).1

over-rests : (g : Group) (o : Option OnPath) → (is_error_stop g.state && not (is_moving o)) ≡ true → is_moving o ≡ false
over-rests g o h = not-true (is_moving o) (and_parts (is_error_stop g.state) (not (is_moving o)) h).1

-- the path that the axes take in a cycle
abbrev pub taken_on : GroupLook → Core → OnPath → OnPath
taken_on members c p = record p { motion = (advanced (answered members.error c).group p.motion).motion }

stepped-ending : (g : Group) (o : Option OnPath) (p : OnPath) (f : Finish) → o ≡ Some p → ending_of g o ≡ Some f → (advanced g p.motion).ending ≡ Some f
stepped-ending g o p f e h = sym (ap (ending_of g) e) ∙ h

cycle-left : (members : GroupLook) (c : Core) (p : OnPath) → c.path ≡ Some p →
    Left members (places_at (path_taken members c) members.setpoints) (taken_on members c p) (cycled members c).path
unfolding cycled
cycle-left members c p e =
    let read : Core = answered members.error c in
    let places = places_at (path_taken members c) members.setpoints in
    let q : OnPath = taken_on members c p in
    let on : read.path ≡ Some p = same-path members.error c ∙ e in
    let step = ended-left members places q (ending_of read.group read.path) (record read { path = path_after read.group read.path }) (taken-path members c p e)
    (λ f h. done-rests read.group p.motion f (stepped-ending read.group read.path p f on h)) in
    let m : Core = moved members read in
    let r = choose-left members places q (leaves_stopping members.stop_held m.group m.path) m.path (leaves-rests members.stop_held m.group m.path) step in
    let l : Core = released members.stop_held m in
    choose-left members places q (is_error_stop l.group.state && not (is_moving l.path)) l.path (over-rests l.group l.path) r

-- where the path is over, the place is the setpoint
rest-place : (members : GroupLook) (c : Core) (p : OnPath) → Rests (taken_on members c p).motion → (taken_on members c p).motion.place ≡ p.motion.place
rest-place members c p r =
    let t = is-taken (answered members.error c).group p.motion in
    r ∙ ap (λ (m : Motion). m.previous) t.is

over-place : (members : GroupLook) (c : Core) (p : OnPath) (places : List ℤ) (o : Option OnPath) → is_some o ≡ false → Left members places (taken_on members c p) o →
    (taken_on members c p).motion.place ≡ p.motion.place
over-place members c p places o h (inl e) = absurd (let f : true ≡ false = sym (ap is_some e) ∙ h in cc)
over-place members c p places o h (inr r) = rest-place members c p r.0

pub ends-at-rest : (members : GroupLook) (c : Core) (p : OnPath) (axis : ℕ) → IsLook c.group members → IsCoreKept (limits_in members) c → c.path ≡ Some p → axis < c.group.axes →
    (step_of members c).ends ≡ true → coordinate_of (step_of members c).places axis ≡ place_on p.way axis p.motion.place
unfolding step_of
ends-at-rest members c p axis l k e inside h =
    let parts = and_parts (is_some c.path) (not (is_some (cycled members c).path)) h in
    place-given members c p axis l k e inside
    ∙ ap (place_on p.way axis) (over-place members c p _ (cycled members c).path (not-true (is_some (cycled members c).path) parts.1) (cycle-left members c p e))

-- and where a path goes on or begins, the axis stands on it
stands-by : (members : GroupLook) (c : Core) (p : OnPath) (axis : ℕ) → IsLook c.group members → IsCoreKept (limits_in members) c → c.path ≡ Some p → axis < c.group.axes →
    (places : List ℤ) → places ≡ places_at (path_taken members c) members.setpoints → (o : Option OnPath) (q : OnPath) → o ≡ Some q → Left members places (taken_on members c p) o →
    StandsOn q axis (place_on p.way axis p.motion.place) (coordinate_of (step_of members c).places axis)
unfolding step_of
stands-by members c p axis l k e inside places is o q h (inl same) =
    let t = is-taken (answered members.error c).group p.motion in
    let one : taken_on members c p ≡ q = (let both : Some (taken_on members c p) ≡ Some q = sym same ∙ h in cc) in
    subst (λ (r : OnPath). StandsOn r axis (place_on p.way axis p.motion.place) (coordinate_of (step_of members c).places axis)) one
    (record {
      before_is = ap (place_on p.way axis) (sym (ap (λ (m : Motion). m.previous) t.is));
      now_is = place-given members c p axis l k e inside;
    })
stands-by members c p axis l k e inside places is o q h (inr (r, inl none)) = absurd (let both : None ≡ Some q = sym none ∙ h in cc)
stands-by members c p axis l k e inside places is o q h (inr (r, inr b)) =
    let start : OnPath = beginning (way_to members.count places b.wanted) (limits_in members) in
    let one : start ≡ q = (let both : Some start ≡ Some q = sym b.is ∙ h in cc) in
    let count = l.count in
    let begun : place_on start.way axis (pos 0) ≡ coordinate_of places axis = line_begins members.count places b.wanted.targets axis (omega (arith, inside, count)) in
    let now : coordinate_of (step_of members c).places axis ≡ place_on start.way axis (pos 0) = ap (λ (xs : List ℤ). coordinate_of xs axis) (sym is) ∙ sym begun in
    let before : place_on p.way axis p.motion.place ≡ coordinate_of (step_of members c).places axis =
    sym (place-given members c p axis l k e inside ∙ ap (place_on p.way axis) (rest-place members c p r)) in
    subst (λ (r : OnPath). StandsOn r axis (place_on p.way axis p.motion.place) (coordinate_of (step_of members c).places axis)) one
    (record { before_is = before ∙ now; now_is = now })

pub stands-on : (members : GroupLook) (c : Core) (p q : OnPath) (axis : ℕ) → IsLook c.group members → IsCoreKept (limits_in members) c → c.path ≡ Some p → axis < c.group.axes →
    (cycled members c).path ≡ Some q → StandsOn q axis (place_on p.way axis p.motion.place) (coordinate_of (step_of members c).places axis)
stands-on members c p q axis l k e inside h =
    stands-by members c p axis l k e inside (places_at (path_taken members c) members.setpoints) refl (cycled members c).path q h (cycle-left members c p e)
