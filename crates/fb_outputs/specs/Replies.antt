-- What each reply keeps, whatever happened to its instance (PLCopen Motion Control Part 1, general
-- rules).
use Rattle.std.specs.Prelude.{◌≡◌, ℕ, ◌≤◌, Bool, true, false, ◌&&◌, ◌||◌, nat_le, List, [], ◌∷◌, count_by}
use Rattle.command_pool.specs.declared.ending.Finish.{Finish}
use Rattle.command_pool.specs.declared.ending.Finish.TheVariants as finish
use Rattle.fb_outputs.specs.InstanceState.{InstanceState}
use Rattle.fb_outputs.specs.Steps.{is_stop, called, started, finished, with_reached, shown}
use Rattle.plc_types.specs.declared.outputs.Outputs.{Outputs}

-- at most one of some outputs is true
abbrev pub AtMostOne : List Bool → Type 0
AtMostOne outputs = count_by (λ o. o) outputs ≤ 1

-- whether it is a Stop or GroupStop whose Execute is true. PLCopen Motion Control Part 1, MC_Stop
abbrev pub may_hold : InstanceState → Bool
may_hold i = is_stop i.kind && i.execute

-- a reply reports one result and one state: a Stop alone may be active after its Done, while its
-- Execute is true. A reply without an error has the number 0. PLCopen Motion Control Part 1,
-- general rules and MC_Stop
pub record IsReply (holds : Bool) (o : Outputs) : Type 0 where
  pub one_result : AtMostOne (o.busy ∷ o.done ∷ o.aborted ∷ o.error ∷ [])
  pub one_state : (o.active && o.done) ≡ false →
      AtMostOne (o.active ∷ o.done ∷ o.aborted ∷ o.error ∷ [])
  pub holding : (o.active && o.done) ≡ true → holds ≡ true
  pub no_number : o.error ≡ false → o.error_id ≡ 0

-- whether a number is one of an error: 1 to 19 for a refused call, 101 to 106 for an axis error.
-- This project's profile
abbrev pub is_error_number : ℕ → Bool
is_error_number n = nat_le 1 n && nat_le n 19 || nat_le 101 n && nat_le n 106

-- what happens to an instance between its making and a reply
pub data Happening : Type 0 where
  call : Bool → Happening
  start : Bool → Happening
  ending : Finish → Happening
  cycle : Bool → Happening
  reply : Happening

-- the instance after it
abbrev pub happened : InstanceState → Happening → InstanceState
happened i (call execute) = called i execute
happened i (start active) = started i active
happened i (ending f) = finished i f
happened i (cycle reached) = with_reached i reached
happened i reply = shown i

-- the instance after all that happened to it, in order
abbrev pub after_all : InstanceState → List Happening → InstanceState
after_all i [] = i
after_all i (h ∷ hs) = after_all (happened i h) hs

-- an error that comes has a number of one. This project's profile
abbrev pub HasNumber : Finish → Type 0
HasNumber finish.Done = Unit {0}
HasNumber finish.Aborted = Unit {0}
HasNumber (finish.Error n) = is_error_number n ≡ true

-- where the happening is an error, it has a number of one. This project's profile
abbrev pub IsNumbered : Happening → Type 0
IsNumbered (call execute) = Unit {0}
IsNumbered (start active) = Unit {0}
IsNumbered (ending f) = HasNumber f
IsNumbered (cycle reached) = Unit {0}
IsNumbered reply = Unit {0}
