-- A result that a reply reports comes of the entry in which its command ended so.
-- for: replies_show_commands, results_come_of_ends, results_stay_shown and others
use Rattle.std.specs.Prelude.{◌≡◌, refl, ℕ, zero, suc, Bool, true, false, ◌&&◌, not, nat_eq, if◌then◌else◌, Option, Some, None, Result, Ok, Err, List, [], ◌∷◌, ◌++◌, map}
use Rattle.std.proofs.Common.{ap, sym, subst, ◌∙◌}
use Rattle.std.proofs.lemmas.Bool.{eqb-true}
use Rattle.std.proofs.lemmas.List.{append-nil, append_assoc}
use Rattle.plc_types.specs.declared.axis.AxisDef.{AxisDef}
use Rattle.command_pool.specs.declared.ending.Finish.{Finish}
use Rattle.command_pool.specs.declared.ending.Finish.TheVariants as finish
use Rattle.command_pool.specs.declared.ending.Refusal.{Refusal}
use Rattle.plc_types.specs.declared.kind.BlockKind.{BlockKind}
use Rattle.fb_outputs.specs.InstanceState.{InstanceState}
use Rattle.fb_outputs.specs.Steps as instance
use Rattle.fb_outputs.specs.Steps.{edge_of, is_power, is_stop, nothing, outputs_by, outputs_of, result_of, shown_progress}
use Rattle.plc_types.specs.declared.inputs.Inputs.{Inputs}
use Rattle.fb_outputs.specs.declared.instance.Progress.{Progress}
use Rattle.fb_outputs.specs.declared.instance.Progress.TheVariants.{Active, Ended, Idle, Waiting}
use Rattle.plc_types.specs.declared.outputs.Outputs.{Outputs}
use Rattle.motion_history.specs.Entries.{Entry, call, cycle, end_of}
use Rattle.motion_history.specs.Setup.{Setup}
use Rattle.motion_history.specs.declared.config.BlockDef.{BlockDef}
use Rattle.motion_kernel.specs.Histories.{after, machine_after, replay}
use Rattle.motion_kernel.specs.Machine.{Machine, instance_at, instance_at_opening_of, machine_at_opening}
use Rattle.motion_kernel.specs.calls.Asking.{is_done_at_once}
use Rattle.motion_kernel.specs.calls.Calls.{with_execute}
use Rattle.motion_kernel.specs.owners.Objects.{object_of}
use Rattle.motion_laws.specs.results.Comes.{AreNoEdges, ComesOf}
use Rattle.motion_laws.specs.results.Outcomes.{IsOutcome, answer_in, begins_command, end_answered, end_by_edge, end_of_command, finish_in, progress_answered, progress_at, progress_beside, progress_by, progress_by_call, progress_by_edge, progress_in}
use Rattle.motion_laws.specs.results.Results.{Tells, is_rising, takes_away}
use Rattle.motion_kernel.proofs.Segments.{replay_append}

-- an end that a call's answer is, or that was there before the call
pub data Origin (now before : Type 0) : Type 0 where
  own : now → Origin now before
  earlier : before → Origin now before

-- a command that has ended
pub record HasEndedSo (f : Finish) (p : Progress) : Type 0 where
  pub shown : Bool
  pub is : p ≡ Ended f shown

same_end : (f g : Finish) (x y : Bool) → Ended f x ≡ Ended g y → f ≡ g
same_end f g x y e = cc

-- as it is answered
answered_end : (x : BlockKind) (answer : Result Bool Refusal) (f : Finish) → HasEndedSo f (progress_answered x answer) → end_answered x answer ≡ Some f
answered_end x (Err r) f h = ap Some (same_end (finish.Error r.number) f false h.shown h.is)
answered_end x (Ok true) f h = absurd (let e = h.is in cc)
answered_end x (Ok false) f h = by (is_done_at_once x) h.is
  where
    by : (b : Bool) → (if b then Ended finish.Done false else Waiting) ≡ Ended f h.shown → (if b then Some finish.Done else None) ≡ Some f
    by true e = ap Some (same_end finish.Done f false h.shown e)
    by false e = absurd (cc)

-- a result that was shown, or not yet
still_shown : (f : Finish) (p : Progress) → HasEndedSo f (shown_progress p) → HasEndedSo f p
still_shown f Idle h = absurd (let e = h.is in cc)
still_shown f Waiting h = absurd (let e = h.is in cc)
still_shown f Active h = absurd (let e = h.is in cc)
still_shown f (Ended g x) h = record { shown = x; is = ap (λ y. Ended y x) (same_end g f true h.shown h.is) }

without_shown : (f : Finish) (p : Progress) → HasEndedSo f (instance.without_shown p) → HasEndedSo f p
without_shown f Idle h = absurd (let e = h.is in cc)
without_shown f Waiting h = absurd (let e = h.is in cc)
without_shown f Active h = absurd (let e = h.is in cc)
without_shown f (Ended g false) h = h
without_shown f (Ended g true) h = absurd (let e = h.is in cc)

-- an own call ends the command as it is answered, or shows an earlier end
edge_end : (s : Setup) (k : ℕ) (b : BlockDef) (i : Inputs) (y : Machine) (a c : Bool) (p : Progress) (f : Finish) →
    HasEndedSo f (progress_by_edge s (edge_of a c) k b i y p) →
    Origin (end_by_edge s (edge_of a c) k b i y ≡ Some f) ((not a && c ≡ false) × HasEndedSo f p)
edge_end s k b i y false true p f h = own (answered_end b.kind (answer_in s k b i y) f h)
edge_end s k b i y true true p f h = earlier (refl, h)
edge_end s k b i y true false p f h = earlier (refl, without_shown f p h)
edge_end s k b i y false false p f h = earlier (refl, without_shown f p h)

-- any other entry ends it so, or it had ended before
beside_end : (e : Option Finish) (begins : Bool) (p : Progress) (f : Finish) → HasEndedSo f (progress_by e begins p) → Origin (e ≡ Some f) (HasEndedSo f p)
beside_end (Some g) begins p f h = own (ap Some (same_end g f false h.shown h.is))
beside_end None true p f h = absurd (let e = h.is in cc)
beside_end None false p f h = earlier h

map_origin : (now before after : Type 0) → (before → after) → Origin now before → Origin now after
map_origin now before after g (own x) = own x
map_origin now before after g (earlier x) = earlier (g x)

-- an entry ends a command so, or takes no edge of an instance whose command had ended
call_end : (s : Setup) (m : Machine) (j : ℕ) (i : Inputs) (reply : Outputs) (k : ℕ) (b : BlockDef) (f : Finish) (x : Bool) → nat_eq j k ≡ x →
    HasEndedSo f (if x then progress_by_call s k b i m else progress_beside s m (call j i reply) k (object_of b)) →
    Origin ((if x then end_by_edge s (edge_of (instance_at m.instances k).execute i.execute) k b i (with_execute k i m)
    else end_of_command s m (call j i reply) k (object_of b)) ≡ Some f)
    ((x && is_rising m j i ≡ false) × HasEndedSo f (progress_at m k))
call_end s m j i reply k b f true e h =
    map_origin _ _ _ (λ z. (subst (λ n. is_rising m n i ≡ false) (sym (eqb-true j k e)) z.0, z.1))
    (edge_end s k b i (with_execute k i m) (instance_at m.instances k).execute i.execute (progress_at m k) f (still_shown f _ h))
call_end s m j i reply k b f false e h =
    map_origin _ _ _ (λ z. (refl, z))
    (beside_end (end_of_command s m (call j i reply) k (object_of b)) (begins_command s m (call j i reply) k (object_of b)) (progress_at m k) f h)

entry_end : (s : Setup) (m : Machine) (e : Entry) (k : ℕ) (b : BlockDef) (f : Finish) → HasEndedSo f (progress_in s m e k b) →
    Origin (finish_in s m e k b ≡ Some f) ((takes_away m k e ≡ false) × HasEndedSo f (progress_at m k))
entry_end s m (call j i reply) k b f h = call_end s m j i reply k b f (nat_eq j k) refl h
entry_end s m (cycle c rows grows) k b f h =
    map_origin _ _ _ (λ z. (refl, z))
    (beside_end (end_of_command s m (cycle c rows grows) k (object_of b)) (begins_command s m (cycle c rows grows) k (object_of b)) (progress_at m k) f h)
entry_end s m (end_of task) k b f h = earlier (refl, h)

-- the machine after one entry more
pub after_more : (s : Setup) (made more : List Entry) (e : Entry) → machine_after s (made ++ e ∷ more) ≡ replay s (after s (machine_after s made) e) more
unfolding machine_after
after_more s made more e = replay_append s (machine_at_opening s) made (e ∷ more)

-- one entry more that is no edge
no_edges_more : (s : Setup) (k : ℕ) (m : Machine) (es : List Entry) (e : Entry) → AreNoEdges s k m es → takes_away (replay s m es) k e ≡ false →
    AreNoEdges s k m (es ++ e ∷ [])
no_edges_more s k m [] e none quiet = (quiet, tt)
no_edges_more s k m (x ∷ xs) e none quiet = (none.0, no_edges_more s k (after s m x) xs e none.1 quiet)

comes_later : (s : Setup) (k : ℕ) (b : BlockDef) (f : Finish) (es : List Entry) (e : Entry) → ComesOf s k b f es →
    takes_away (machine_after s es) k e ≡ false → ComesOf s k b f (es ++ e ∷ [])
comes_later s k b f es e h quiet =
    let now : machine_after s es ≡ replay s (after s (machine_after s h.made) h.entry) h.more =
    ap (machine_after s) h.split ∙ after_more s h.made h.more h.entry in
    record {
      made = h.made;
      entry = h.entry;
      more = h.more ++ e ∷ [];
      split = ap (λ xs. xs ++ e ∷ []) h.split ∙ append_assoc h.made (h.entry ∷ h.more) (e ∷ []);
      ends = h.ends;
      since = no_edges_more s k (after s (machine_after s h.made) h.entry) h.more e h.since (subst (λ m. takes_away m k e ≡ false) now quiet);
    }

-- each end of an instance comes of an entry so far
abbrev Comes : Setup → ℕ → BlockDef → List Entry → Type 0
Comes s k b es = (f : Finish) → HasEndedSo f (progress_at (machine_after s es) k) → ComesOf s k b f es

comes_by : (s : Setup) (k : ℕ) (b : BlockDef) (f : Finish) (es : List Entry) (e : Entry) → Comes s k b es →
    Origin (finish_in s (machine_after s es) e k b ≡ Some f) ((takes_away (machine_after s es) k e ≡ false) × HasEndedSo f (progress_at (machine_after s es) k)) →
    ComesOf s k b f (es ++ e ∷ [])
comes_by s k b f es e h (own ends) = record { made = es; entry = e; more = []; split = refl; ends = ends; since = tt }
comes_by s k b f es e h (earlier z) = comes_later s k b f es e (h f z.1) z.0

comes_more : (s : Setup) (k : ℕ) (b : BlockDef) (es : List Entry) (e : Entry) → Comes s k b es → IsOutcome s (machine_after s es) e k b →
    Comes s k b (es ++ e ∷ [])
comes_more s k b es e h outcome f ended =
    let is : progress_at (machine_after s (es ++ e ∷ [])) k ≡ progress_in s (machine_after s es) e k b =
    ap (λ m. progress_at m k) (after_more s es [] e) ∙ outcome in
    comes_by s k b f es e h (entry_end s (machine_after s es) e k b f (subst (HasEndedSo f) is ended))

-- where each entry makes its outcome
abbrev pub Outcomes : Setup → ℕ → BlockDef → List Entry → Type 0
Outcomes s k b es = (made more : List Entry) (e : Entry) → es ≡ made ++ e ∷ more → IsOutcome s (machine_after s made) e k b

comes_on : (s : Setup) (k : ℕ) (b : BlockDef) (all made es : List Entry) → Outcomes s k b all → all ≡ made ++ es → Comes s k b made → Comes s k b (made ++ es)
comes_on s k b all made [] outcomes is h = subst (Comes s k b) (sym (append-nil made)) h
comes_on s k b all made (e ∷ es) outcomes is h =
    let joined = append_assoc made (e ∷ []) es in
    subst (Comes s k b) joined
    (comes_on s k b all (made ++ e ∷ []) es outcomes (is ∙ sym joined) (comes_more s k b made e h (outcomes made es e is)))

-- at opening no command has ended
opens_idle : (axes : List AxisDef) (blocks : List BlockDef) (k : ℕ) → (instance_at (map (instance_at_opening_of axes) blocks) k).progress ≡ Idle
unfolding instance_at_opening_of
opens_idle axes [] k = refl
opens_idle axes (b ∷ bs) zero = refl
opens_idle axes (b ∷ bs) (suc k) = opens_idle axes bs k

pub comes_first : (s : Setup) (k : ℕ) (b : BlockDef) → Comes s k b []
unfolding machine_after
comes_first s k b f h = absurd (let e : Idle ≡ Ended f h.shown = sym (opens_idle s.axes s.blocks k) ∙ h.is in cc)

pub ends_come : (s : Setup) (k : ℕ) (b : BlockDef) (es : List Entry) → Outcomes s k b es → Comes s k b es
ends_come s k b es outcomes = comes_on s k b es [] es outcomes refl (comes_first s k b)

-- a reply that gives an end is one of a command that has ended
no_result : (f : Finish) (o : Outputs) → o.done ≡ false → o.aborted ≡ false → o.error ≡ false → Tells f o → ⊥
no_result finish.Done o d a e t = cc
no_result finish.Aborted o d a e t = cc
no_result (finish.Error n) o d a e t = let x = t.0 in cc

same_result : (f g : Finish) (holds : Bool) → Tells f (result_of holds g) → g ≡ f
same_result finish.Done finish.Done holds t = refl
same_result finish.Done finish.Aborted holds t = absurd (cc)
same_result finish.Done (finish.Error n) holds t = absurd (cc)
same_result finish.Aborted finish.Done holds t = absurd (cc)
same_result finish.Aborted finish.Aborted holds t = refl
same_result finish.Aborted (finish.Error n) holds t = absurd (cc)
same_result (finish.Error n) finish.Done holds t = absurd (let x = t.0 in cc)
same_result (finish.Error n) finish.Aborted holds t = absurd (let x = t.0 in cc)
same_result (finish.Error n) (finish.Error l) holds t = ap finish.Error t.1

ended_by_outputs : (f : Finish) (p : Progress) (stop execute reached : Bool) → Tells f (outputs_by stop execute reached p) → HasEndedSo f p
ended_by_outputs f Idle stop execute reached t = absurd (no_result f _ refl refl refl t)
ended_by_outputs f Waiting stop execute reached t = absurd (no_result f _ refl refl refl t)
ended_by_outputs f Active stop execute reached t = absurd (no_result f _ refl refl refl t)
ended_by_outputs f (Ended g x) stop execute reached t =
    record { shown = x; is = ap (λ y. Ended y x) (same_result f g (stop && execute && reached) t) }

pub told_end : (f : Finish) (v : InstanceState) → Tells f (outputs_of v) → (is_power v.kind ≡ false) × HasEndedSo f v.progress
told_end f v t = by (is_power v.kind) refl t
  where
    by : (x : Bool) → is_power v.kind ≡ x → Tells f (if x then record nothing { busy = v.execute; reached = v.execute && v.reached }
        else outputs_by (is_stop v.kind) v.execute v.reached v.progress) → (is_power v.kind ≡ false) × HasEndedSo f v.progress
    by true e u = absurd (no_result f _ refl refl refl u)
    by false e u = (e, ended_by_outputs f v.progress (is_stop v.kind) v.execute v.reached u)
