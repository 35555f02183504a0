-- Commands: what is written of one is read as it, and what is read is spelled so.
-- for: headers_are_read_back, records_are_read_back
use Rattle.std.specs.Prelude.{◌≡◌, refl, ℕ, ℤ, Option, Some, None, IfSome, List, [], ◌∷◌, ◌++◌, codes}
use Rattle.std.specs.Str.{bytes_eq}
use Rattle.std.proofs.Common.{◌∙◌, ap, arith, subst}
use Rattle.command_pool.specs.declared.rates.Rates.{Rates}
use Rattle.command_pool.specs.declared.wanted.Follow.{Follow}
use Rattle.command_pool.specs.declared.wanted.Follow.TheVariants as follow
use Rattle.command_pool.specs.declared.wanted.Wanted.{Wanted}
use Rattle.plc_types.specs.KindNames.{kind_named, mode_named}
use Rattle.plc_types.proofs.KindNameLaws.{kind_named-kind_name, mode_named-mode_name}
use Rattle.line_text.specs.Texts.{says}
use Rattle.segment_text.specs.Fields.{follow_fields}
use Rattle.segment_text.specs.Held.{AreRates, AreSix, IsFollow, IsWanted}
use Rattle.segment_text.specs.WantedFields.{active_fields, numbers_fields, rates_fields, wanted_fields}
use Rattle.segment_text.specs.reading.Columns.{byte_of, owner_of, target_of, word_of}
use Rattle.segment_text.specs.reading.Commands.{active_of, cam_of, follow_of, gear_of, numbers_of, rates_of, six_of, wanted_of}
use Rattle.trace_columns.proofs.NumberLaws.{same-bytes}
use Rattle.segment_text.proofs.back.Columns.{byte-back, kind-only, mode-only, owner-back, owner-only, target-back, target-only, unsigned-only, wide-only, word-back}
use Rattle.trace_columns.specs.Columns.{wide_number_of}
use Rattle.trace_columns.proofs.BackLaws.{wide-back}
use Rattle.trace_text.proofs.read.ColumnRanges.{opt-both}
use Rattle.machine_words.proofs.Given.{if_some}

-- fields are those of a value, which is held
pub record IsFields {A : Type 0} (fields : A → List (List ℕ)) (held : A → Type 0) (all : List (List ℕ)) (x : A) : Type 0 where
  pub spelled : fields x ≡ all
  pub is : held x

-- fields begin with those of a value, which is held
pub record IsFront {A : Type 0} (fields : A → List (List ℕ)) (held : A → Type 0) (all : List (List ℕ)) (r : A × List (List ℕ)) : Type 0 where
  pub spelled : fields r.0 ++ r.1 ≡ all
  pub is : held r.0

-- ---- six numbers

pub six-back : (ns : List ℤ) → AreSix ns → (behind : List (List ℕ)) → six_of (numbers_fields ns ++ behind) ≡ Some (ns, behind)
unfolding six_of numbers_of
six-back (a ∷ b ∷ c ∷ d ∷ e ∷ f ∷ []) is behind =
    let w = is.wide in
    rw (wide-back a w.0, wide-back b w.1.0, wide-back c w.1.1.0, wide-back d w.1.1.1.0, wide-back e w.1.1.1.1.0, wide-back f w.1.1.1.1.1.0) refl
six-back [] is behind = absurd (let n = is.six in omega (arith, n))
six-back (a ∷ []) is behind = absurd (let n = is.six in omega (arith, n))
six-back (a ∷ b ∷ []) is behind = absurd (let n = is.six in omega (arith, n))
six-back (a ∷ b ∷ c ∷ []) is behind = absurd (let n = is.six in omega (arith, n))
six-back (a ∷ b ∷ c ∷ d ∷ []) is behind = absurd (let n = is.six in omega (arith, n))
six-back (a ∷ b ∷ c ∷ d ∷ e ∷ []) is behind = absurd (let n = is.six in omega (arith, n))
six-back (a ∷ b ∷ c ∷ d ∷ e ∷ f ∷ g ∷ more) is behind = absurd (let n = is.six in omega (arith, n))

numbers-only : (a b c d e f : List ℕ) (ns : List ℤ) → numbers_of a b c d e f ≡ Some ns → IsFields numbers_fields AreSix (a ∷ b ∷ c ∷ d ∷ e ∷ f ∷ []) ns
unfolding numbers_of
numbers-only a b c d e f ns h =
    let u = opt-both (wide_number_of a) _ ns h in
    let v = opt-both (wide_number_of b) _ ns u.2 in
    let w = opt-both (wide_number_of c) _ ns v.2 in
    let x = opt-both (wide_number_of d) _ ns w.2 in
    let y = opt-both (wide_number_of e) _ ns x.2 in
    let z = opt-both (wide_number_of f) _ ns y.2 in
    let same : u.0 ∷ v.0 ∷ w.0 ∷ x.0 ∷ y.0 ∷ z.0 ∷ [] ≡ ns = cc z.2 in
    let p = wide-only a u.0 u.1 in
    let q = wide-only b v.0 v.1 in
    let r = wide-only c w.0 w.1 in
    let s = wide-only d x.0 x.1 in
    let t = wide-only e y.0 y.1 in
    let o = wide-only f z.0 z.1 in
    subst (IsFields numbers_fields AreSix (a ∷ b ∷ c ∷ d ∷ e ∷ f ∷ [])) same (record {
      spelled = rw (p.spelled, q.spelled, r.spelled, s.spelled, t.spelled, o.spelled) refl;
      is = record { six = refl; wide = (p.is, (q.is, (r.is, (s.is, (t.is, (o.is, tt)))))) };
    })

pub six-only : (all : List (List ℕ)) (r : List ℤ × List (List ℕ)) → six_of all ≡ Some r → IsFront numbers_fields AreSix all r
unfolding six_of
six-only (a ∷ b ∷ c ∷ d ∷ e ∷ f ∷ behind) r h =
    let n = opt-both (numbers_of a b c d e f) (λ ns. Some (ns, behind)) r h in
    let same : (n.0, behind) ≡ r = cc n.2 in
    let is = numbers-only a b c d e f n.0 n.1 in
    subst (IsFront numbers_fields AreSix (a ∷ b ∷ c ∷ d ∷ e ∷ f ∷ behind)) same (record {
      spelled = ap (λ t. t ++ behind) is.spelled;
      is = is.is;
    })
six-only _ r h = absurd (cc h)

-- ---- rates

pub rates-back : (r : Rates) → AreRates r → (behind : List (List ℕ)) → rates_of (rates_fields r ++ behind) ≡ Some (r, behind)
unfolding rates_of
rates-back r is behind = rw (wide-back r.v is.velocity, wide-back r.a is.acceleration, wide-back r.d is.deceleration) refl

pub rates-only : (all : List (List ℕ)) (r : Rates × List (List ℕ)) → rates_of all ≡ Some r → IsFront rates_fields AreRates all r
unfolding rates_of
rates-only (v ∷ a ∷ d ∷ behind) r h =
    let x = opt-both (wide_number_of v) _ r h in
    let y = opt-both (wide_number_of a) _ r x.2 in
    let z = opt-both (wide_number_of d) _ r y.2 in
    let same : (record { v = x.0; a = y.0; d = z.0 }, behind) ≡ r = cc z.2 in
    let p = wide-only v x.0 x.1 in
    let q = wide-only a y.0 y.1 in
    let s = wide-only d z.0 z.1 in
    subst (IsFront rates_fields AreRates (v ∷ a ∷ d ∷ behind)) same (record {
      spelled = rw (p.spelled, q.spelled, s.spelled) refl;
      is = record { velocity = p.is; acceleration = q.is; deceleration = s.is };
    })
rates-only _ r h = absurd (cc h)

-- ---- whom a command follows

follow-back : (f : Follow) → IsFollow f → follow_of (follow_fields f) ≡ Some f
unfolding follow_of follow_fields gear_of cam_of says
follow-back follow.None is = refl
follow-back (follow.Gear master n d) is = rw (byte-back master is.0, wide-back n is.1, wide-back d is.2) refl
follow-back (follow.Cam master table) is = rw (byte-back master is.0, word-back table is.1) refl

follow-only : (all : List (List ℕ)) (f : Follow) → follow_of all ≡ Some f → IsFields follow_fields IsFollow all f
unfolding follow_of follow_fields gear_of cam_of says
follow-only [] f h =
    let same : follow.None ≡ f = cc h in
    subst (IsFields follow_fields IsFollow []) same (record { spelled = refl; is = tt })
follow-only (word ∷ m ∷ t ∷ []) f h =
    let b = if_some (bytes_eq word (codes "cam")) (cam_of m t) f h in
    let x = opt-both (byte_of m) _ f b.1 in
    let y = opt-both (word_of t) _ f x.2 in
    let same : follow.Cam x.0 y.0 ≡ f = cc y.2 in
    let p = unsigned-only 255 m x.0 x.1 in
    let q = unsigned-only 65535 t y.0 y.1 in
    subst (IsFields follow_fields IsFollow (word ∷ m ∷ t ∷ [])) same (record {
      spelled = rw (p.spelled, q.spelled, same-bytes word (codes "cam") b.0) refl;
      is = (p.is, q.is);
    })
follow-only (word ∷ m ∷ n ∷ d ∷ []) f h =
    let b = if_some (bytes_eq word (codes "gear")) (gear_of m n d) f h in
    let x = opt-both (byte_of m) _ f b.1 in
    let y = opt-both (wide_number_of n) _ f x.2 in
    let z = opt-both (wide_number_of d) _ f y.2 in
    let same : follow.Gear x.0 y.0 z.0 ≡ f = cc z.2 in
    let p = unsigned-only 255 m x.0 x.1 in
    let q = wide-only n y.0 y.1 in
    let r = wide-only d z.0 z.1 in
    subst (IsFields follow_fields IsFollow (word ∷ m ∷ n ∷ d ∷ [])) same (record {
      spelled = rw (p.spelled, q.spelled, r.spelled, same-bytes word (codes "gear") b.0) refl;
      is = (p.is, q.is, r.is);
    })
follow-only _ f h = absurd (cc h)

-- ---- commands

pub wanted-back : (w : Wanted) → IsWanted w → wanted_of (wanted_fields w) ≡ Some w
unfolding wanted_of wanted_fields
wanted-back w is =
    rw (
      kind_named-kind_name w.kind,
      owner-back w.owner is.owner,
      target-back w.target is.target,
      mode_named-mode_name w.mode,
      six-back w.targets is.targets (rates_fields w.rates ++ follow_fields w.follow),
      rates-back w.rates is.rates (follow_fields w.follow),
      follow-back w.follow is.followed,
    ) refl

pub wanted-only : (all : List (List ℕ)) (w : Wanted) → wanted_of all ≡ Some w → IsFields wanted_fields IsWanted all w
unfolding wanted_of wanted_fields
wanted-only (kind ∷ owner ∷ target ∷ mode ∷ behind) w h =
    let k = opt-both (kind_named kind) _ w h in
    let o = opt-both (owner_of owner) _ w k.2 in
    let t = opt-both (target_of target) _ w o.2 in
    let m = opt-both (mode_named mode) _ w t.2 in
    let p = opt-both (six_of behind) _ w m.2 in
    let r = opt-both (rates_of p.0.1) _ w p.2 in
    let f = opt-both (follow_of r.0.1) _ w r.2 in
    let same : record { kind = k.0; owner = o.0; target = t.0; targets = p.0.0; rates = r.0.0; mode = m.0; follow = f.0 } ≡ w = cc f.2 in
    let o' = owner-only owner o.0 o.1 in
    let t' = target-only target t.0 t.1 in
    let p' = six-only behind p.0 p.1 in
    let r' = rates-only p.0.1 r.0 r.1 in
    let f' = follow-only r.0.1 f.0 f.1 in
    let tail : numbers_fields p.0.0 ++ (rates_fields r.0.0 ++ follow_fields f.0) ≡ behind =
    ap (λ l. numbers_fields p.0.0 ++ l) (ap (λ l. rates_fields r.0.0 ++ l) f'.spelled ∙ r'.spelled) ∙ p'.spelled in
    subst (IsFields wanted_fields IsWanted (kind ∷ owner ∷ target ∷ mode ∷ behind)) same (record {
      spelled = rw (kind-only kind k.0 k.1, o'.spelled, t'.spelled, mode-only mode m.0 m.1, tail) refl;
      is = record { owner = o'.is; target = t'.is; targets = p'.is; rates = r'.is; followed = f'.is };
    })
wanted-only _ w h = absurd (cc h)

pub active-back : (a : Option Wanted) → IfSome a IsWanted → active_of (active_fields a) ≡ Some a
unfolding active_of active_fields wanted_fields
active-back None is = refl
active-back (Some w) is = rw (wanted-back w is) refl

pub active-only : (all : List (List ℕ)) (a : Option Wanted) → active_of all ≡ Some a → IsFields active_fields (λ b. IfSome b IsWanted) all a
unfolding active_of active_fields
active-only [] a h =
    let same : None ≡ a = cc h in
    subst (IsFields active_fields (λ b. IfSome b IsWanted) []) same (record { spelled = refl; is = tt })
active-only (first ∷ fields) a h =
    let w = opt-both (wanted_of (first ∷ fields)) (λ v. Some (Some v)) a h in
    let same : Some w.0 ≡ a = cc w.2 in
    let is = wanted-only (first ∷ fields) w.0 w.1 in
    subst (IsFields active_fields (λ b. IfSome b IsWanted) (first ∷ fields)) same (record { spelled = is.spelled; is = is.is })
