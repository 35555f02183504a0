-- What a kernel keeps with one more entry, and the machine that it is.
-- for: call, cycle, end
use Rattle.std.specs.Prelude.{◌≡◌, ◌∷◌, ◌++◌, []}
use Rattle.std.proofs.Common.{ap, sym, subst, ◌∙◌}
use Rattle.motion_history.specs.Entries.{Entry}
use Rattle.motion_kernel.specs.Segments.{SegmentedState, machine_now}
use Rattle.motion_kernel.specs.Histories.{machine_after, machine_from, replay}
use Rattle.motion_kernel.specs.kept.Kernel.{IsKernelKept, told_of}
use Rattle.motion_kernel.specs.KernelState.{state_of}
use Rattle.motion_kernel.specs.Machine.{machine_at_opening}
use Rattle.motion_kernel.specs.Marked.{AreMarked}
use Rattle.motion_kernel.specs.declared.kernel.Kernel.TheInside.{Inside}

-- the machine that its segment leads to is the one that its history does
pub same_machine : (k : Inside) → IsKernelKept k → machine_now k.segmented ≡ state_of (told_of k)
unfolding machine_after machine_from
same_machine k kept = ap (λ m. replay k.segmented.config m k.segmented.history) kept.opened

-- a kernel with one more entry, and the marks that its tasks then have
pub kernel_next : (k next : Inside) (e : Entry) → IsKernelKept k → next.segmented ≡ record k.segmented { history = k.segmented.history ++ e ∷ [] } →
    AreMarked k.segmented.config (k.segmented.history ++ e ∷ []) next.tasks.marks → IsKernelKept next
kernel_next k next e kept same marked = record {
  opened = ap (λ (b : SegmentedState). b.start) same ∙ kept.opened ∙ ap (λ (b : SegmentedState). machine_at_opening b.config) (sym same);
  tasks = subst (λ (b : SegmentedState). AreMarked b.config b.history next.tasks.marks) (sym same) marked;
}
