-- Instances: what is written of one is read as it, and what is read is spelled so.
-- for: headers_are_read_back, records_are_read_back
use Rattle.std.specs.Prelude.{◌≡◌, refl, ℕ, Bool, Some, List, [], ◌∷◌, codes, drop}
use Rattle.std.specs.Str.{bytes_eq}
use Rattle.std.proofs.Common.{◌∙◌, ap, subst, sym}
use Rattle.command_pool.specs.declared.ending.Finish.{Finish}
use Rattle.command_pool.specs.declared.ending.Finish.TheVariants as finish
use Rattle.fb_outputs.specs.InstanceState.{InstanceState}
use Rattle.fb_outputs.specs.declared.instance.Progress.{Progress}
use Rattle.fb_outputs.specs.declared.instance.Progress.TheVariants as progress
use Rattle.line_text.specs.Numbers.{◌>>=◌}
use Rattle.line_text.specs.Texts.{says}
use Rattle.motion_history.specs.declared.config.BlockDef.{BlockDef}
use Rattle.segment_text.specs.Fields.{progress_fields}
use Rattle.segment_text.specs.Held.{IsInstanceOf, IsProgress}
use Rattle.segment_text.specs.Records.{instance_fields}
use Rattle.segment_text.specs.reading.Columns.{word_of}
use Rattle.segment_text.specs.reading.Instances.{ended_of, failed_of, finish_of, instance_of, progress_of, running_of}
use Rattle.trace_columns.proofs.NumberLaws.{same-bytes}
use Rattle.segment_text.proofs.back.Columns.{either-some, flag-only, unsigned-only, word-back}
use Rattle.segment_text.proofs.back.Commands.{IsFields}
use Rattle.trace_columns.specs.Columns.{flag_of}
use Rattle.trace_columns.specs.Fields.{flag_text}
use Rattle.trace_columns.proofs.BackLaws.{flags-back}
use Rattle.trace_text.proofs.read.ColumnRanges.{if-some, opt-both}
use Rattle.machine_words.proofs.Given.{if_some}

progress-back : (p : Progress) → IsProgress p → progress_of (progress_fields p) ≡ Some p
unfolding progress_of running_of ended_of failed_of finish_of progress_fields says
progress-back progress.Idle is = refl
progress-back progress.Waiting is = refl
progress-back progress.Active is = refl
progress-back (progress.Ended finish.Done shown) is = rw (flags-back shown) refl
progress-back (progress.Ended finish.Aborted shown) is = rw (flags-back shown) refl
progress-back (progress.Ended (finish.Error n) shown) is = rw (word-back n is, flags-back shown) refl

pub instance-back : (d : BlockDef) (n : ℕ) (i : InstanceState) → IsInstanceOf d i → instance_of d.kind (drop 2 (instance_fields n i)) ≡ Some i
unfolding instance_of instance_fields
instance-back d n i is = rw (flags-back i.execute, flags-back i.reached, progress-back i.progress is.progress, ← is.kind) refl

running-only : (word : List ℕ) (p : Progress) → running_of word ≡ Some p → IsFields progress_fields IsProgress (word ∷ []) p
unfolding running_of says progress_fields
running-only word p h =
    let P : Progress → Type 0 = λ q. IsFields progress_fields IsProgress (word ∷ []) q in
    either-some (bytes_eq word (codes "idle")) progress.Idle _ p h
    (λ e same. subst P same (record { spelled = ap (λ t. t ∷ []) (sym (same-bytes word (codes "idle") e)); is = tt }))
    (λ _ g. either-some (bytes_eq word (codes "waiting")) progress.Waiting _ p g
    (λ e same. subst P same (record { spelled = ap (λ t. t ∷ []) (sym (same-bytes word (codes "waiting") e)); is = tt }))
    (λ _ k.
    let t = if-some (bytes_eq word (codes "active")) progress.Active p k in
    subst P t.1 (record { spelled = ap (λ t. t ∷ []) (sym (same-bytes word (codes "active") t.0)); is = tt })))

-- an end without an error
record IsEnd (word : List ℕ) (f : Finish) : Type 0 where
  spelled : (b : Bool) → progress_fields (progress.Ended f b) ≡ word ∷ flag_text b ∷ []
  is : (b : Bool) → IsProgress (progress.Ended f b)

finish-only : (word : List ℕ) (f : Finish) → finish_of word ≡ Some f → IsEnd word f
unfolding finish_of says progress_fields
finish-only word f h =
    either-some (bytes_eq word (codes "done")) finish.Done _ f h
    (λ e same. subst (IsEnd word) same (record { spelled = λ b. ap (λ t. t ∷ flag_text b ∷ []) (sym (same-bytes word (codes "done") e)); is = λ b. tt }))
    (λ _ g.
    let t = if-some (bytes_eq word (codes "aborted")) finish.Aborted f g in
    subst (IsEnd word) t.1 (record { spelled = λ b. ap (λ t. t ∷ flag_text b ∷ []) (sym (same-bytes word (codes "aborted") t.0)); is = λ b. tt }))

progress-only : (all : List (List ℕ)) (p : Progress) → progress_of all ≡ Some p → IsFields progress_fields IsProgress all p
unfolding progress_of ended_of failed_of says progress_fields
progress-only (word ∷ []) p h = running-only word p h
progress-only (word ∷ shown ∷ []) p h =
    let f = opt-both (finish_of word) _ p h in
    let s = opt-both (flag_of shown) _ p f.2 in
    let same : progress.Ended f.0 s.0 ≡ p = cc s.2 in
    let e = finish-only word f.0 f.1 in
    subst (IsFields progress_fields IsProgress (word ∷ shown ∷ [])) same (record {
      spelled = e.spelled s.0 ∙ ap (λ t. word ∷ t ∷ []) (flag-only shown s.0 s.1);
      is = e.is s.0;
    })
progress-only (word ∷ number ∷ shown ∷ []) p h =
    let b = if_some (bytes_eq word (codes "error")) (word_of number >>= λ n. flag_of shown >>= λ s. Some (progress.Ended (finish.Error n) s)) p h in
    let n = opt-both (word_of number) _ p b.1 in
    let s = opt-both (flag_of shown) _ p n.2 in
    let same : progress.Ended (finish.Error n.0) s.0 ≡ p = cc s.2 in
    let k = unsigned-only 65535 number n.0 n.1 in
    subst (IsFields progress_fields IsProgress (word ∷ number ∷ shown ∷ [])) same (record {
      spelled =
          ap (λ t. codes "error" ∷ t ∷ flag_text s.0 ∷ []) k.spelled
          ∙ ap (λ t. codes "error" ∷ number ∷ t ∷ []) (flag-only shown s.0 s.1)
          ∙ ap (λ t. t ∷ number ∷ shown ∷ []) (sym (same-bytes word (codes "error") b.0));
      is = k.is;
    })
progress-only _ p h = absurd (cc h)

-- the fields after the number of a block are read as this instance alone
pub record IsInstanceRead (d : BlockDef) (all : List (List ℕ)) (i : InstanceState) : Type 0 where
  pub spelled : (n : ℕ) → drop 2 (instance_fields n i) ≡ all
  pub is : IsInstanceOf d i

pub instance-only : (d : BlockDef) (all : List (List ℕ)) (i : InstanceState) → instance_of d.kind all ≡ Some i → IsInstanceRead d all i
unfolding instance_of instance_fields
instance-only d (execute ∷ reached ∷ behind) i h =
    let e = opt-both (flag_of execute) _ i h in
    let r = opt-both (flag_of reached) _ i e.2 in
    let p = opt-both (progress_of behind) _ i r.2 in
    let same : record { kind = d.kind; execute = e.0; reached = r.0; progress = p.0 } ≡ i = cc p.2 in
    let q = progress-only behind p.0 p.1 in
    subst (IsInstanceRead d (execute ∷ reached ∷ behind)) same (record {
      spelled = λ n. rw (flag-only execute e.0 e.1, flag-only reached r.0 r.1, q.spelled) refl;
      is = record { kind = refl; progress = q.is };
    })
instance-only d _ i h = absurd (cc h)
