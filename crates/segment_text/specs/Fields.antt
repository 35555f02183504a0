-- How the values of a trace segment's header are spelled that no trace has. This project's profile.
use Rattle.std.specs.Prelude.{ℕ, ℤ, Option, Some, None, List, [], ◌∷◌, codes, decimal}
use Rattle.std.specs.Fmt.{signed_decimal}
use Rattle.buffer_modes.specs.declared.reset.PendingReset.{PendingReset}
use Rattle.command_pool.specs.declared.ending.Finish.TheVariants as finish
use Rattle.command_pool.specs.declared.wanted.Follow.{Follow}
use Rattle.command_pool.specs.declared.wanted.Follow.TheVariants as follow
use Rattle.fb_outputs.specs.declared.instance.Progress.{Progress}
use Rattle.fb_outputs.specs.declared.instance.Progress.TheVariants as progress
use Rattle.trace_columns.specs.Fields.{flag_text}

-- the number of an instance, or an empty field where there is none
unfoldable pub owner_text : Option ℕ → List ℕ
owner_text None = []
owner_text (Some instance) = decimal instance

-- a target, or an empty field where it isn't fixed
unfoldable pub target_text : Option ℤ → List ℕ
target_text None = []
target_text (Some target) = signed_decimal target

-- a pending reset by the instance that reports its end, or a hyphen where none does
abbrev pub pending_text : Option ℕ → List ℕ
pending_text None = codes "-"
pending_text (Some instance) = decimal instance

-- a pending reset, or an empty field where there is none
unfoldable pub reset_text : Option PendingReset → List ℕ
reset_text None = []
reset_text (Some pending) = pending_text pending.owner

-- whom a command follows, if it follows one: a gear with its master, numerator and denominator, or
-- a cam with its master and the number of its table
unfoldable pub follow_fields : Follow → List (List ℕ)
follow_fields follow.None = []
follow_fields (follow.Gear master n d) =
    codes "gear" ∷ decimal master ∷ signed_decimal n ∷ signed_decimal d ∷ []
follow_fields (follow.Cam master table) = codes "cam" ∷ decimal master ∷ decimal table ∷ []

-- how far the command of an instance is; after an end stands whether it was shown
unfoldable pub progress_fields : Progress → List (List ℕ)
progress_fields progress.Idle = codes "idle" ∷ []
progress_fields progress.Waiting = codes "waiting" ∷ []
progress_fields progress.Active = codes "active" ∷ []
progress_fields (progress.Ended finish.Done shown) = codes "done" ∷ flag_text shown ∷ []
progress_fields (progress.Ended finish.Aborted shown) = codes "aborted" ∷ flag_text shown ∷ []
progress_fields (progress.Ended (finish.Error number) shown) =
    codes "error" ∷ decimal number ∷ flag_text shown ∷ []
