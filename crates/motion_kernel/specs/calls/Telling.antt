-- What the instances of blocks are given (PLCopen Motion Control Part 1, general rules).
use Rattle.std.specs.Prelude.{ℕ, Bool, true, false, nat_eq, Option, Some, None, List, [], ◌∷◌, slice_set}
use Rattle.command_pool.specs.declared.ending.Finish.{Finish}
use Rattle.command_pool.specs.declared.notes.Note.{Note}
use Rattle.fb_outputs.specs.InstanceState.{InstanceState}
use Rattle.fb_outputs.specs.Steps as instance
use Rattle.motion_kernel.specs.Machine.{instance_at}

-- the instances of which one's command ended so
abbrev pub told_end : ℕ → Finish → List InstanceState → List InstanceState
told_end k f instances = slice_set instances k (instance.finished (instance_at instances k) f)

-- the instances after notes were reported, one after another
abbrev pub told_notes : List Note → List InstanceState → List InstanceState
told_notes [] instances = instances
told_notes (n ∷ ns) instances = told_notes ns (told_end n.owner n.finish instances)

-- the instances of which one's command is active, and has reached what it goes for or not
abbrev pub shown_at : ℕ → Bool → List InstanceState → List InstanceState
shown_at k reached instances =
    slice_set instances k
    (instance.with_reached (instance.started (instance_at instances k) true) reached)

-- the owner of an active command shows that it is active, and what that has reached as of the last
-- cycle
abbrev pub shown_active : Option ℕ → Bool → List InstanceState → List InstanceState
shown_active None reached instances = instances
shown_active (Some k) reached instances = shown_at k reached instances

-- whether an instance is the one that holds an axis or a group in stopping
abbrev pub is_holder : ℕ → Option ℕ → Bool
is_holder k None = false
is_holder k (Some owner) = nat_eq owner k

-- whether the instance that holds an axis or a group is still called with Execute true
abbrev pub is_held : List InstanceState → Option ℕ → Bool
is_held instances None = false
is_held instances (Some k) = (instance_at instances k).execute
