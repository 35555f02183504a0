-- Paths of groups: what is written of one is read as it, and what is read is spelled so.
-- for: headers_are_read_back, records_are_read_back
use Rattle.std.specs.Prelude.{◌≡◌, refl, ℕ, ◌≤◌, ◌&&◌, ℤ, false, nat_le, Option, Some, None, IfSome, IsTrue, List, [], ◌∷◌, ◌++◌, codes, decimal}
use Rattle.std.proofs.Common.{◌∙◌, ap, append_assoc, arith, inl, inr, subst}
use Rattle.std.specs.Str.{bytes_eq}
use Rattle.plc_types.specs.declared.kind.BlockKind.{BlockKind}
use Rattle.plc_types.specs.declared.kind.BlockKind.TheVariants as kind
use Rattle.plc_types.specs.KindNames.{kind_name}
use Rattle.std.proofs.lemmas.Bool.{and_parts, cases_Bool, le-leb, leb-true}
use Rattle.command_pool.specs.declared.wanted.Wanted.{Wanted}
use Rattle.group_core.specs.Tracks.{OnPath, Way}
use Rattle.group_core.specs.declared.group.Motion.{Motion}
use Rattle.plc_types.specs.declared.limits.Limits.{Limits}
use Rattle.line_text.specs.Texts.{says}
use Rattle.segment_text.specs.Held.{AreWideLimits, IsOnPath, IsWay, IsWide}
use Rattle.segment_text.specs.Records.{limits_fields, motion_fields, path_fields, way_fields}
use Rattle.segment_text.specs.WantedFields.{active_fields, numbers_fields, wanted_fields}
use Rattle.segment_text.specs.reading.Columns.{byte_of}
use Rattle.segment_text.specs.reading.Commands.{six_of}
use Rattle.segment_text.specs.reading.Groups.{are_places, limits_of, motion_by, motion_of, on_path_of, path_of, way_by, way_of}
use Rattle.trace_columns.proofs.NumberLaws.{same-bytes}
use Rattle.segment_text.proofs.back.Columns.{byte-back, unsigned-only, wide-only}
use Rattle.segment_text.proofs.back.Commands.{IsFront, six-back, six-only}
use Rattle.trace_columns.specs.Columns.{wide_number_of}
use Rattle.trace_columns.proofs.BackLaws.{wide-back}
use Rattle.trace_text.proofs.read.ColumnRanges.{if-some, opt-both}

-- ---- how a group moves along its path

-- a motion is held
pub record IsMotion (m : Motion) : Type 0 where
  pub limits : AreWideLimits m.limits
  pub previous : IsWide m.previous
  pub place : IsWide m.place

motion-back : (m : Motion) → IsMotion m → (behind : List (List ℕ)) → motion_of (motion_fields m ++ behind) ≡ Some (m, behind)
unfolding motion_of motion_by limits_of motion_fields
motion-back m is behind =
    let l = is.limits in
    rw (
      wide-back m.limits.lo l.lo,
      wide-back m.limits.hi l.hi,
      wide-back m.limits.vmax l.vmax,
      wide-back m.limits.amax l.amax,
      wide-back m.limits.dmax l.dmax,
      wide-back m.previous is.previous,
      wide-back m.place is.place,
    ) refl

limits-only : (all : List (List ℕ)) (r : Limits × List (List ℕ)) → limits_of all ≡ Some r → IsFront limits_fields AreWideLimits all r
unfolding limits_of
limits-only (lo ∷ hi ∷ vmax ∷ amax ∷ dmax ∷ behind) r h =
    let l = opt-both (wide_number_of lo) _ r h in
    let i = opt-both (wide_number_of hi) _ r l.2 in
    let v = opt-both (wide_number_of vmax) _ r i.2 in
    let a = opt-both (wide_number_of amax) _ r v.2 in
    let d = opt-both (wide_number_of dmax) _ r a.2 in
    let same : (record { lo = l.0; hi = i.0; vmax = v.0; amax = a.0; dmax = d.0 }, behind) ≡ r = cc d.2 in
    let p = wide-only lo l.0 l.1 in
    let q = wide-only hi i.0 i.1 in
    let s = wide-only vmax v.0 v.1 in
    let t = wide-only amax a.0 a.1 in
    let u = wide-only dmax d.0 d.1 in
    subst (IsFront limits_fields AreWideLimits (lo ∷ hi ∷ vmax ∷ amax ∷ dmax ∷ behind)) same (record {
      spelled = rw (p.spelled, q.spelled, s.spelled, t.spelled, u.spelled) refl;
      is = record { lo = p.is; hi = q.is; vmax = s.is; amax = t.is; dmax = u.is };
    })
limits-only _ r h = absurd (cc h)

record IsPlaced (l : Limits) (all : List (List ℕ)) (r : Motion × List (List ℕ)) : Type 0 where
  spelled : way_fields r.0 ++ r.1 ≡ all
  same : r.0.limits ≡ l
  previous : IsWide r.0.previous
  place : IsWide r.0.place

placed-only : (l : Limits) (all : List (List ℕ)) (r : Motion × List (List ℕ)) → motion_by l all ≡ Some r → IsPlaced l all r
unfolding motion_by
placed-only l (previous ∷ place ∷ behind) r h =
    let x = opt-both (wide_number_of previous) _ r h in
    let y = opt-both (wide_number_of place) _ r x.2 in
    let same : (record { limits = l; previous = x.0; place = y.0 }, behind) ≡ r = cc y.2 in
    let p = wide-only previous x.0 x.1 in
    let q = wide-only place y.0 y.1 in
    subst (IsPlaced l (previous ∷ place ∷ behind)) same (record {
      spelled = rw (p.spelled, q.spelled) refl;
      same = refl;
      previous = p.is;
      place = q.is;
    })
placed-only l _ r h = absurd (cc h)

motion-only : (all : List (List ℕ)) (r : Motion × List (List ℕ)) → motion_of all ≡ Some r → IsFront motion_fields IsMotion all r
unfolding motion_of motion_fields
motion-only all r h =
    let l = opt-both (limits_of all) (λ l. motion_by l.0 l.1) r h in
    let p = limits-only all l.0 l.1 in
    let q = placed-only l.0.0 l.0.1 r l.2 in
    record {
      spelled = rw q.same (ap (λ t. limits_fields l.0.0 ++ t) q.spelled ∙ p.spelled);
      is = record { limits = rw q.same p.is; previous = q.previous; place = q.place };
    }

-- ---- the way of a path

way-back : (w : Way) → IsWay w → (behind : List (List ℕ)) →
    way_of (decimal w.count ∷ (numbers_fields w.starts ++ (numbers_fields w.targets ++ behind))) ≡ Some (w, behind)
unfolding way_of way_by
way-back w is behind =
    let low = is.two_or_more in
    let high = is.six_or_fewer in
    rw (
      byte-back w.count (omega (arith, high)),
      six-back w.starts is.starts (numbers_fields w.targets ++ behind),
      six-back w.targets is.targets behind,
      le-leb 2 w.count low,
      le-leb w.count 6 high,
      is.from,
      is.to,
    ) refl

-- a way is read
record IsWayRead (count : ℕ) (starts targets : List ℤ) (w : Way) : Type 0 where
  same : record { count = count; starts = starts; targets = targets } ≡ w
  low : 2 ≤ count
  high : count ≤ 6
  from : IsTrue (are_places starts)
  to : IsTrue (are_places targets)

way_by-only : (count : ℕ) (starts targets : List ℤ) (w : Way) → way_by count starts targets ≡ Some w → IsWayRead count starts targets w
unfolding way_by
way_by-only count starts targets w h =
    let t = if-some (nat_le 2 count && nat_le count 6 && are_places starts && are_places targets) (record { count = count; starts = starts; targets = targets }) w h in
    let a = and_parts (nat_le 2 count && nat_le count 6 && are_places starts) (are_places targets) t.0 in
    let b = and_parts (nat_le 2 count && nat_le count 6) (are_places starts) a.0 in
    let c = and_parts (nat_le 2 count) (nat_le count 6) b.0 in
    record { same = t.1; low = leb-true 2 count c.0; high = leb-true count 6 c.1; from = b.1; to = a.1 }

record IsWayFront (all : List (List ℕ)) (r : Way × List (List ℕ)) : Type 0 where
  spelled : decimal r.0.count ∷ (numbers_fields r.0.starts ++ (numbers_fields r.0.targets ++ r.1)) ≡ all
  is : IsWay r.0

way-only : (all : List (List ℕ)) (r : Way × List (List ℕ)) → way_of all ≡ Some r → IsWayFront all r
unfolding way_of
way-only [] r h = absurd (cc h)
way-only (count ∷ fields) r h =
    let n = opt-both (byte_of count) _ r h in
    let s = opt-both (six_of fields) _ r n.2 in
    let t = opt-both (six_of s.0.1) _ r s.2 in
    let w = opt-both (way_by n.0 s.0.0 t.0.0) _ r t.2 in
    let y = way_by-only n.0 s.0.0 t.0.0 w.0 w.1 in
    let c = unsigned-only 255 count n.0 n.1 in
    let p = six-only fields s.0 s.1 in
    let q = six-only s.0.1 t.0 t.1 in
    let same : (w.0, t.0.1) ≡ r = cc w.2 in
    let P : Way → Type 0 = λ v. IsWayFront (count ∷ fields) (v, t.0.1) in
    subst (IsWayFront (count ∷ fields)) same (subst P y.same (record {
      spelled = rw (c.spelled, q.spelled, p.spelled) refl;
      is = record { two_or_more = y.low; six_or_fewer = y.high; starts = p.is; targets = q.is; from = y.from; to = y.to };
    }))

-- ---- the path of a group

-- the active command begins with no word of a path
no-path : (k : BlockKind) → bytes_eq (kind_name k) (codes "path") ≡ false
unfolding kind_name
no-path kind.Power = refl
no-path _ = refl

on_path-back : (p : OnPath) → IsOnPath p → (behind : List (List ℕ)) → path_of (path_fields (Some p) ++ behind) ≡ Some (Some p, behind)
unfolding path_of path_fields on_path_of says
on_path-back p is behind =
    rw (
      append_assoc (numbers_fields p.way.starts) (numbers_fields p.way.targets ++ motion_fields p.motion) behind,
      append_assoc (numbers_fields p.way.targets) (motion_fields p.motion) behind,
      way-back p.way is.way (motion_fields p.motion ++ behind),
      motion-back p.motion (record { limits = is.limits; previous = is.previous; place = is.place }) behind,
    ) refl

none-back : (active : Option Wanted) → path_of (path_fields None ++ active_fields active) ≡ Some (None, active_fields active)
unfolding path_of path_fields active_fields wanted_fields says
none-back None = refl
none-back (Some w) = rw (no-path w.kind) refl

pub path-back : (p : Option OnPath) → IfSome p IsOnPath → (active : Option Wanted) → path_of (path_fields p ++ active_fields active) ≡ Some (p, active_fields active)
path-back None is active = none-back active
path-back (Some p) is active = on_path-back p is (active_fields active)

on_path-only : (first : List ℕ) (fields : List (List ℕ)) (r : Option OnPath × List (List ℕ)) → first ≡ codes "path" → on_path_of fields ≡ Some r →
    IsFront path_fields (λ p. IfSome p IsOnPath) (first ∷ fields) r
unfolding on_path_of path_fields
on_path-only first fields r word h =
    let w = opt-both (way_of fields) _ r h in
    let m = opt-both (motion_of w.0.1) _ r w.2 in
    let same : (Some (record { way = w.0.0; motion = m.0.0 }), m.0.1) ≡ r = cc m.2 in
    let p = way-only fields w.0 w.1 in
    let q = motion-only w.0.1 m.0 m.1 in
    subst (IsFront path_fields (λ p. IfSome p IsOnPath) (first ∷ fields)) same (record {
      spelled =
          rw (
            word,
            append_assoc (numbers_fields w.0.0.starts) (numbers_fields w.0.0.targets ++ motion_fields m.0.0) m.0.1,
            append_assoc (numbers_fields w.0.0.targets) (motion_fields m.0.0) m.0.1,
            q.spelled,
          ) (ap (λ t. codes "path" ∷ t) p.spelled);
      is = record { way = p.is; limits = q.is.limits; previous = q.is.previous; place = q.is.place };
    })

pub path-only : (all : List (List ℕ)) (r : Option OnPath × List (List ℕ)) → path_of all ≡ Some r → IsFront path_fields (λ p. IfSome p IsOnPath) all r
unfolding path_of path_fields says
path-only [] r h =
    let same : (None, []) ≡ r = cc h in
    subst (IsFront path_fields (λ p. IfSome p IsOnPath) []) same (record { spelled = refl; is = tt })
path-only (first ∷ fields) r h =
    elim (cases_Bool (bytes_eq first (codes "path"))) [
      | inl yet ↦
          let g : on_path_of fields ≡ Some r = rw yet at h in
          on_path-only first fields r (same-bytes first (codes "path") yet) g
      | inr other ↦
          let g : Some (None, first ∷ fields) ≡ Some r = rw other at h in
          let same : (None, first ∷ fields) ≡ r = cc g in
          subst (IsFront path_fields (λ p. IfSome p IsOnPath) (first ∷ fields)) same (record { spelled = refl; is = tt })
    ]
