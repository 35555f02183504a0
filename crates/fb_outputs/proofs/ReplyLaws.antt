-- Each reply reports one result and one state, and an error's number.
-- for: replies_tell_one_result
use Rattle.std.proofs.Common.{◌≡◌, refl, Bool, true, false, ◌&&◌, List, [], ◌∷◌, arith}
use Rattle.std.specs.Prelude.{if◌then◌else◌}
use Rattle.std.specs.List.{AllByRecursion}
use Rattle.command_pool.specs.declared.ending.Finish.{Finish}
use Rattle.command_pool.specs.declared.ending.Finish.TheVariants as finish
use Rattle.plc_types.specs.declared.kind.BlockKind.{BlockKind}
use Rattle.fb_outputs.specs.InstanceState.{InstanceState}
use Rattle.fb_outputs.specs.declared.instance.Edge.{Edge}
use Rattle.fb_outputs.specs.declared.instance.Edge.TheVariants.{Rising, High, Falling, Low}
use Rattle.fb_outputs.specs.declared.instance.Progress.{Progress}
use Rattle.fb_outputs.specs.declared.instance.Progress.TheVariants.{Idle, Waiting, Active, Ended}
use Rattle.plc_types.specs.declared.outputs.Outputs.{Outputs}
use Rattle.fb_outputs.specs.Steps.{opened, edge_of, is_power, is_stop, shown, nothing, result_of, outputs_by, outputs_of, progress_after, without_shown, shown_progress}
use Rattle.fb_outputs.specs.Replies.{IsReply, Happening, call, start, ending, cycle, reply, happened, after_all, HasNumber, IsNumbered, is_error_number, may_hold}

-- a result
reply-result : (h r : Bool) (f : Finish) → IsReply h (result_of (h && r) f)
reply-result true true finish.Done = record { one_result = omega arith; one_state = λ e. absurd (cc); holding = λ e. refl; no_number = λ e. refl }
reply-result true false finish.Done = record { one_result = omega arith; one_state = λ e. omega arith; holding = λ e. refl; no_number = λ e. refl }
reply-result false r finish.Done = record { one_result = omega arith; one_state = λ e. omega arith; holding = λ e. absurd (cc); no_number = λ e. refl }
reply-result h r finish.Aborted = record { one_result = omega arith; one_state = λ e. omega arith; holding = λ e. absurd (cc); no_number = λ e. refl }
reply-result h r (finish.Error n) = record { one_result = omega arith; one_state = λ e. omega arith; holding = λ e. absurd (cc); no_number = λ e. absurd (cc) }

-- a block that is no Power
reply-by : (stop execute reached : Bool) (p : Progress) → IsReply (stop && execute) (outputs_by stop execute reached p)
reply-by stop execute reached Idle = record { one_result = omega arith; one_state = λ e. omega arith; holding = λ e. absurd (cc); no_number = λ e. refl }
reply-by stop execute reached Waiting = record { one_result = omega arith; one_state = λ e. omega arith; holding = λ e. absurd (cc); no_number = λ e. refl }
reply-by stop execute reached Active = record { one_result = omega arith; one_state = λ e. omega arith; holding = λ e. absurd (cc); no_number = λ e. refl }
reply-by stop execute reached (Ended f shown) = reply-result (stop && execute) reached f

-- a Power
reply-power : (holds execute reached : Bool) → IsReply holds (record nothing { busy = execute; reached = reached })
reply-power holds true reached = record { one_result = omega arith; one_state = λ e. omega arith; holding = λ e. absurd (cc); no_number = λ e. refl }
reply-power holds false reached = record { one_result = omega arith; one_state = λ e. omega arith; holding = λ e. absurd (cc); no_number = λ e. refl }

reply-choice : (power stop execute reached : Bool) (p : Progress) → IsReply (stop && execute)
    (if power then record nothing { busy = execute; reached = execute && reached } else outputs_by stop execute reached p)
reply-choice true stop execute reached p = reply-power (stop && execute) execute (execute && reached)
reply-choice false stop execute reached p = reply-by stop execute reached p

-- each reply
pub IsReply-outputs_of : (i : InstanceState) → IsReply (may_hold i) (outputs_of i)
IsReply-outputs_of i = reply-choice (is_power i.kind) (is_stop i.kind) i.execute i.reached i.progress

-- a result that is there has a number of its own where it is an error
abbrev HasResult : Progress → Type 0
HasResult Idle = Unit {0}
HasResult Waiting = Unit {0}
HasResult Active = Unit {0}
HasResult (Ended f shown) = HasNumber f

kept-shown : (p : Progress) → HasResult p → HasResult (shown_progress p)
kept-shown Idle h = tt
kept-shown Waiting h = tt
kept-shown Active h = tt
kept-shown (Ended f shown) h = h

kept-without : (p : Progress) → HasResult p → HasResult (without_shown p)
kept-without Idle h = tt
kept-without Waiting h = tt
kept-without Active h = tt
kept-without (Ended f false) h = h
kept-without (Ended f true) h = tt

kept-called : (e : Edge) (p : Progress) → HasResult p → HasResult (progress_after e p)
kept-called Rising p h = tt
kept-called High p h = h
kept-called Falling p h = kept-without p h
kept-called Low p h = kept-without p h

kept-started : (active : Bool) → HasResult (if active then Active else Waiting)
kept-started true = tt
kept-started false = tt

kept : (i : InstanceState) (h : Happening) → IsNumbered h → HasResult i.progress → HasResult (happened i h).progress
kept i (call execute) n r = kept-called (edge_of i.execute execute) i.progress r
kept i (start active) n r = kept-started active
kept i (ending f) n r = n
kept i (cycle reached) n r = r
kept i reply n r = kept-shown i.progress r

kept-all : (i : InstanceState) (hs : List Happening) → AllByRecursion IsNumbered hs → HasResult i.progress → HasResult (after_all i hs).progress
kept-all i [] n r = r
kept-all i (h ∷ hs) n r = kept-all (happened i h) hs n.1 (kept i h n.0 r)

-- an error that is shown
number-result : (holds : Bool) (f : Finish) → HasNumber f → (result_of holds f).error ≡ true → is_error_number (result_of holds f).error_id ≡ true
number-result holds finish.Done n e = absurd (cc)
number-result holds finish.Aborted n e = absurd (cc)
number-result holds (finish.Error k) n e = n

number-by : (stop execute reached : Bool) (p : Progress) → HasResult p →
    (outputs_by stop execute reached p).error ≡ true → is_error_number (outputs_by stop execute reached p).error_id ≡ true
number-by stop execute reached Idle r e = absurd (cc)
number-by stop execute reached Waiting r e = absurd (cc)
number-by stop execute reached Active r e = absurd (cc)
number-by stop execute reached (Ended f shown) r e = number-result (stop && execute && reached) f r e

number-choice : (power stop execute reached : Bool) (p : Progress) → HasResult p →
    let o : Outputs = if power then record nothing { busy = execute; reached = execute && reached } else outputs_by stop execute reached p in
    o.error ≡ true → is_error_number o.error_id ≡ true
number-choice true stop execute reached p r e = absurd (cc)
number-choice false stop execute reached p r e = number-by stop execute reached p r e

pub error-numbered : (kind : BlockKind) (hs : List Happening) → AllByRecursion IsNumbered hs →
    (outputs_of (after_all (opened kind) hs)).error ≡ true → is_error_number (outputs_of (after_all (opened kind) hs)).error_id ≡ true
error-numbered kind hs n e =
    let i = after_all (opened kind) hs in
    number-choice (is_power i.kind) (is_stop i.kind) i.execute i.reached i.progress (kept-all (opened kind) hs n tt) e
