-- A kernel goes on, entry by entry.
use Rattle.std.specs.Prelude.{◌≡◌, ◌≤◌, List, [], ◌∷◌, ◌++◌, length}
use Rattle.std.proofs.Common.{◌∙◌, ap, arith}
use Rattle.motion_history.specs.Entries.{Entry}
use Rattle.motion_kernel.specs.KernelState.{KernelState}
use Rattle.kernel_uses.specs.Uses.{AddsEntry, GoesOn}

-- a kernel that is the same goes on
pub goes_as_it_is : (a b : KernelState) → b ≡ a → GoesOn a b
goes_as_it_is a b same =
    let l : length b.history ≡ length a.history = ap (λ (k : KernelState). length k.history) same in
    record {
      config = ap (λ (k : KernelState). k.config) same;
      stopped = ap (λ (k : KernelState). k.stopped) same;
      entries = omega arith;
    }

-- one entry more is no fewer
longer : (es : List Entry) (e : Entry) → length es ≤ length (es ++ e ∷ [])
longer [] e = omega arith
longer (f ∷ es) e = let h : length es ≤ length (es ++ e ∷ []) = longer es e in omega arith

-- so does one with an entry more
pub goes_by_entry : (a b : KernelState) (e : Entry) → AddsEntry a b e → GoesOn a b
goes_by_entry a b e added =
    let l : length b.history ≡ length (a.history ++ e ∷ []) =
    ap (λ (k : KernelState). length k.history) added in
    let m : length a.history ≤ length (a.history ++ e ∷ []) = longer a.history e in
    record {
      config = ap (λ (k : KernelState). k.config) added;
      stopped = ap (λ (k : KernelState). k.stopped) added;
      entries = omega arith;
    }

-- and one that goes on from one that does
pub goes_further : (a b c : KernelState) → GoesOn a b → GoesOn b c → GoesOn a c
goes_further a b c first then = record {
  config = then.config ∙ first.config;
  stopped = then.stopped ∙ first.stopped;
  entries = omega arith;
}
