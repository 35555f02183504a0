-- Fields without commas and line feeds: each of their bytes is from the hyphen on.
-- for: headers_are_read_back
use Rattle.std.specs.Prelude.{◌≡◌, refl, ℕ, suc, ◌+◌, ◌/◌, ◌%◌, ◌^◌, ◌<◌, ◌≤◌, ℤ, pos, negsuc, Bool, true, false, nat_le, nat_lt, Option, Some, None, IfSome, List, [], ◌∷◌, codes, decimal}
use Rattle.std.specs.Fmt.{signed_decimal}
use Rattle.std.specs.List.{AllByRecursion, list_all}
use Rattle.std.proofs.Common.{arith, inl, inr, lit≤}
use Rattle.std.proofs.lemmas.Bool.{and_parts, cases_Bool, leb-true}
use Rattle.std.proofs.lemmas.Fmt.{decimal_by_steps}
use Rattle.std.proofs.lemmas.Int.{ints}
use Rattle.axis_core.specs.declared.axis.Axis.{Axis}
use Rattle.plc_types.specs.declared.axis.AxisDef.{AxisDef}
use Rattle.plc_types.specs.declared.axis_state.AxisState.{AxisState}
use Rattle.plc_types.specs.declared.axis_state.AxisState.TheVariants as axis
use Rattle.buffer_modes.specs.declared.reset.PendingReset.{PendingReset}
use Rattle.command_pool.specs.declared.ending.Finish.TheVariants as finish
use Rattle.plc_types.specs.declared.kind.BlockKind.{BlockKind}
use Rattle.plc_types.specs.declared.kind.BlockKind.TheVariants as kind
use Rattle.plc_types.specs.declared.kind.BufferMode.{BufferMode}
use Rattle.plc_types.specs.declared.kind.BufferMode.TheVariants as mode
use Rattle.command_pool.specs.declared.wanted.Follow.{Follow}
use Rattle.command_pool.specs.declared.wanted.Follow.TheVariants as follow
use Rattle.command_pool.specs.declared.wanted.Wanted.{Wanted}
use Rattle.fb_outputs.specs.InstanceState.{InstanceState}
use Rattle.plc_types.specs.KindNames.{kind_name, mode_name}
use Rattle.fb_outputs.specs.declared.instance.Progress.{Progress}
use Rattle.fb_outputs.specs.declared.instance.Progress.TheVariants as progress
use Rattle.group_core.specs.Tracks.{OnPath}
use Rattle.plc_types.specs.declared.group.GroupState.{GroupState}
use Rattle.plc_types.specs.declared.group.GroupState.TheVariants as group
use Rattle.machine_words.proofs.Lists.{all-push}
use Rattle.motion_history.proofs.DistinctLemmas.{each-append}
use Rattle.motion_history.specs.declared.config.BlockDef.{BlockDef}
use Rattle.motion_history.specs.declared.config.GroupDef.{GroupDef}
use Rattle.motion_kernel.specs.Segments.{IsEarly}
use Rattle.motion_kernel.specs.Machine.{PlacedGroup}
use Rattle.motion_kernel.specs.declared.segment.Before.{Before}
use Rattle.segment_text.specs.Fields.{follow_fields, owner_text, progress_fields, reset_text, target_text}
use Rattle.segment_text.specs.Held.{IsAxisOf, IsFollow, IsGroupOf, IsInstanceOf, IsOnPath, IsProgress, IsWanted, IsWide, IsWord}
use Rattle.segment_text.specs.Records.{axis_fields, group_fields, instance_fields, motion_fields, path_fields, trace_segment_fields}
use Rattle.segment_text.specs.WantedFields.{active_fields, numbers_fields, wanted_fields}
use Rattle.segment_text.proofs.back.Columns.{IsPending}
use Rattle.trace_columns.specs.Fields.{axis_state_text, flag_text, group_state_text, hex_digit, hex_text}

-- a field without commas and line feeds
abbrev pub IsPlain : List ℕ → Type 0
IsPlain field = AllByRecursion (λ b. 45 ≤ b) field

-- such fields
abbrev pub ArePlain : List (List ℕ) → Type 0
ArePlain fields = AllByRecursion IsPlain fields

-- a word that is written out
is_plain : List ℕ → Bool
is_plain field = list_all (λ b. nat_le 45 b) field

plain : (field : List ℕ) → is_plain field ≡ true → IsPlain field
unfolding is_plain
plain [] h = tt
plain (b ∷ bs) h = let p = and_parts (nat_le 45 b) (list_all (λ c. nat_le 45 c) bs) h in (leb-true 45 b p.0, plain bs p.1)

-- ---- numbers and words

decimal-plain : (n : ℕ) → n < 2 ^ 64 → IsPlain (decimal n)
decimal-plain = decimal_by_steps (λ n ds. AllByRecursion (λ b. 45 ≤ b) ds)
    (λ n l. (omega arith, tt))
    (λ n ds l h. all-push (λ b. 45 ≤ b) ds (48 + n % 10) h (omega arith))

word-plain : (n : ℕ) → IsWord n → IsPlain (decimal n)
word-plain n l = decimal-plain n (omega (arith, l))

signed-plain : (z : ℤ) → IsWide z → IsPlain (signed_decimal z)
signed-plain (pos n) f = decimal-plain n (omega (arith, ints))
signed-plain (negsuc n) f = (omega arith, decimal-plain (suc n) (omega (arith, ints)))

flag-plain : (b : Bool) → IsPlain (flag_text b)
unfolding flag_text
flag-plain true = (lit≤ tt, tt)
flag-plain false = (lit≤ tt, tt)

digit-plain : (n : ℕ) → 45 ≤ hex_digit n
digit-plain n = elim (cases_Bool (nat_lt n 10)) [ inl short ↦ rw short (omega arith) | inr long ↦ rw long (omega arith) ]

hex-plain : (n : ℕ) → IsPlain (hex_text n)
unfolding hex_text
hex-plain n = (digit-plain (n / 4096), (digit-plain (n / 256 % 16), (digit-plain (n / 16 % 16), (digit-plain (n % 16), tt))))

axis_state-is : (s : AxisState) → is_plain (axis_state_text s) ≡ true
unfolding is_plain axis_state_text
axis_state-is axis.Disabled = refl
axis_state-is _ = refl

axis_state-plain : (s : AxisState) → IsPlain (axis_state_text s)
axis_state-plain s = plain (axis_state_text s) (axis_state-is s)

group_state-is : (s : GroupState) → is_plain (group_state_text s) ≡ true
unfolding is_plain group_state_text
group_state-is group.GroupDisabled = refl
group_state-is _ = refl

group_state-plain : (s : GroupState) → IsPlain (group_state_text s)
group_state-plain s = plain (group_state_text s) (group_state-is s)

kind-is : (k : BlockKind) → is_plain (kind_name k) ≡ true
unfolding is_plain kind_name
kind-is kind.Power = refl
kind-is _ = refl

kind-plain : (k : BlockKind) → IsPlain (kind_name k)
kind-plain k = plain (kind_name k) (kind-is k)

mode-is : (m : BufferMode) → is_plain (mode_name m) ≡ true
unfolding is_plain mode_name
mode-is mode.Aborting = refl
mode-is _ = refl

mode-plain : (m : BufferMode) → IsPlain (mode_name m)
mode-plain m = plain (mode_name m) (mode-is m)

owner-plain : (o : Option ℕ) → IfSome o IsWord → IsPlain (owner_text o)
unfolding owner_text
owner-plain None h = tt
owner-plain (Some n) h = word-plain n h

target-plain : (t : Option ℤ) → IfSome t IsWide → IsPlain (target_text t)
unfolding target_text
target-plain None h = tt
target-plain (Some z) h = signed-plain z h

pending-plain : (o : Option ℕ) → IfSome o IsWord → IsPlain (reset_text (Some (record { owner = o })))
unfolding reset_text
pending-plain None h = (lit≤ tt, tt)
pending-plain (Some n) h = word-plain n h

none-plain : IsPlain (reset_text None)
unfolding reset_text
none-plain = tt

reset-plain : (r : Option PendingReset) → IfSome r IsPending → IsPlain (reset_text r)
reset-plain None h = none-plain
reset-plain (Some p) h = pending-plain p.owner h

numbers-plain : (ns : List ℤ) → AllByRecursion IsWide ns → ArePlain (numbers_fields ns)
numbers-plain [] h = tt
numbers-plain (z ∷ zs) h = (signed-plain z h.0, numbers-plain zs h.1)

-- ---- commands

follow-plain : (f : Follow) → IsFollow f → ArePlain (follow_fields f)
unfolding follow_fields is_plain
follow-plain follow.None is = tt
follow-plain (follow.Gear m n d) is = (plain (codes "gear") refl, (decimal-plain m (let l = is.0 in omega (arith, l)), (signed-plain n is.1, (signed-plain d is.2, tt))))
follow-plain (follow.Cam m t) is = (plain (codes "cam") refl, (decimal-plain m (let l = is.0 in omega (arith, l)), (word-plain t is.1, tt)))

pub wanted-plain : (w : Wanted) → IsWanted w → ArePlain (wanted_fields w)
unfolding wanted_fields
wanted-plain w is = (
  kind-plain w.kind,
  (
    owner-plain w.owner is.owner,
    (
      target-plain w.target is.target,
      (
        mode-plain w.mode,
        each-append IsPlain (numbers_fields w.targets) _ (numbers-plain w.targets is.targets.wide)
            (signed-plain w.rates.v is.rates.velocity, (signed-plain w.rates.a is.rates.acceleration, (signed-plain w.rates.d is.rates.deceleration, follow-plain w.follow is.followed))),
      ),
    ),
  ),
)

active-plain : (a : Option Wanted) → IfSome a IsWanted → ArePlain (active_fields a)
unfolding active_fields
active-plain None is = tt
active-plain (Some w) is = wanted-plain w is

-- ---- records, after their kinds

pub axis-plain : (d : AxisDef) (n : ℕ) (a : Axis) → n < 2 ^ 64 → IsAxisOf d a → ArePlain (axis_fields n a)
unfolding axis_fields is_plain
axis-plain d n a l is = (plain (codes "axis") refl, (decimal-plain n l, (axis_state-plain a.state, (word-plain a.error is.bits.error, (flag-plain a.reached, (flag-plain a.power, (flag-plain a.was_off, (flag-plain a.driven, (hex-plain a.controlword, (signed-plain a.previous is.bits.previous, (signed-plain a.setpoint is.bits.setpoint, (signed-plain a.offset is.bits.offset, (reset-plain a.reset is.bits.reset, (owner-plain a.hold is.bits.hold, active-plain a.active is.bits.active))))))))))))))

path-plain : (p : Option OnPath) → IfSome p IsOnPath → ArePlain (path_fields p)
unfolding path_fields motion_fields is_plain
path-plain None is = tt
path-plain (Some p) is =
    let high = is.way.six_or_fewer in (
      plain (codes "path") refl,
      (
        decimal-plain p.way.count (omega (arith, high)),
        each-append IsPlain (numbers_fields p.way.starts) _ (numbers-plain p.way.starts is.way.starts.wide)
            (each-append IsPlain (numbers_fields p.way.targets) _ (numbers-plain p.way.targets is.way.targets.wide) (signed-plain p.motion.limits.lo is.limits.lo, (signed-plain p.motion.limits.hi is.limits.hi, (signed-plain p.motion.limits.vmax is.limits.vmax, (signed-plain p.motion.limits.amax is.limits.amax, (signed-plain p.motion.limits.dmax is.limits.dmax, (signed-plain p.motion.previous is.previous, (signed-plain p.motion.place is.place, tt)))))))),
      ),
    )

pub group-plain : (d : GroupDef) (n : ℕ) (g : PlacedGroup) → n < 2 ^ 64 → IsGroupOf d g → ArePlain (group_fields n g)
unfolding group_fields is_plain
group-plain d n g l is = (plain (codes "group") refl, (decimal-plain n l, (group_state-plain g.group.state, (word-plain g.group.error is.bits.error, (reset-plain g.group.reset is.bits.reset, (owner-plain g.group.hold is.bits.hold, each-append IsPlain (path_fields g.path) _ (path-plain g.path is.bits.path) (active-plain g.group.active is.bits.active)))))))

progress-plain : (p : Progress) → IsProgress p → ArePlain (progress_fields p)
unfolding progress_fields is_plain
progress-plain progress.Idle is = (plain (codes "idle") refl, tt)
progress-plain progress.Waiting is = (plain (codes "waiting") refl, tt)
progress-plain progress.Active is = (plain (codes "active") refl, tt)
progress-plain (progress.Ended finish.Done shown) is = (plain (codes "done") refl, (flag-plain shown, tt))
progress-plain (progress.Ended finish.Aborted shown) is = (plain (codes "aborted") refl, (flag-plain shown, tt))
progress-plain (progress.Ended (finish.Error n) shown) is = (plain (codes "error") refl, (word-plain n is, (flag-plain shown, tt)))

pub instance-plain : (d : BlockDef) (n : ℕ) (i : InstanceState) → n < 2 ^ 64 → IsInstanceOf d i → ArePlain (instance_fields n i)
unfolding instance_fields is_plain
instance-plain d n i l is =
    (plain (codes "instance") refl, (decimal-plain n l, (flag-plain i.execute, (flag-plain i.reached, progress-plain i.progress is.progress))))

pub waiting-plain : (w : Wanted) → IsWanted w → ArePlain (codes "waiting" ∷ wanted_fields w)
unfolding is_plain
waiting-plain w is = (plain (codes "waiting") refl, wanted-plain w is)

pub trace_segment-plain : (b : Before) → IsEarly b → ArePlain (trace_segment_fields b)
unfolding is_plain
trace_segment-plain b is =
    let x = is.segments in
    let y = is.entries in
    let z = is.cycles in (plain (codes "segment") refl, (plain (codes "1") refl, (decimal-plain b.segments (omega (arith, x)), (decimal-plain b.entries (omega (arith, y)), (decimal-plain b.cycles (omega (arith, z)), tt)))))
