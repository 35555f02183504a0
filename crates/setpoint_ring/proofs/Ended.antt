-- What goes to the drive: outputs, and the end after the last of them.
-- for: push, take
use Rattle.std.proofs.Common.{arith, ◌≡◌, ℕ, suc, ◌+◌, ◌-◌, ◌≤◌, ◌<◌, Bool, true, false, List, [], ◌∷◌, ◌++◌, length, length-append, append-nil, Option, Some, None, IfNone, refl, sym, ap, ◌∙◌, subst}
use Rattle.std.specs.Prelude.{if◌then◌else◌}
use mathlib.Core.List.{IsPrefix}
use Rattle.plc_types.specs.declared.drive.DriveOut.{DriveOut}
use Rattle.setpoint_ring.specs.declared.numbered.Numbered.{Numbered}
use Rattle.setpoint_ring.specs.declared.numbered.ToDrive.{ToDrive}
use Rattle.setpoint_ring.specs.declared.numbered.ToDrive.TheVariants.{Output, End}
use Rattle.setpoint_ring.specs.declared.outputs.Next.TheVariants as next
use Rattle.setpoint_ring.specs.Order.{EndsLast, has_end, next_of, outputs_of}

-- after outputs without an end go the others on
pub outputs_more : (xs ys : List ToDrive) → has_end xs ≡ false → outputs_of (xs ++ ys) ≡ outputs_of xs ++ outputs_of ys
outputs_more [] ys going = refl
outputs_more (Output x ∷ xs) ys going = ap (λ zs. x.item ∷ zs) (outputs_more xs ys going)
outputs_more (End ∷ xs) ys going = absurd (cc)

pub has_end_more : (xs ys : List ToDrive) → has_end xs ≡ false → has_end (xs ++ ys) ≡ has_end ys
has_end_more [] ys going = refl
has_end_more (Output x ∷ xs) ys going = has_end_more xs ys going
has_end_more (End ∷ xs) ys going = absurd (cc)

-- what is put after outputs without an end stands last
pub put_last : (xs : List ToDrive) (y : ToDrive) → has_end xs ≡ false → EndsLast (xs ++ y ∷ [])
put_last [] (Output y) going = tt
put_last [] End going = refl
put_last (Output x ∷ xs) y going = put_last xs y going
put_last (End ∷ xs) y going = absurd (cc)

pub put_outputs : (before after : List ToDrive) (x : Numbered DriveOut) → after ≡ before ++ Output x ∷ [] → has_end before ≡ false → outputs_of after ≡ outputs_of before ++ x.item ∷ []
put_outputs before after x put going = ap outputs_of put ∙ outputs_more before (Output x ∷ []) going

pub put_going : (before after : List ToDrive) (x : Numbered DriveOut) → after ≡ before ++ Output x ∷ [] → has_end before ≡ false → has_end after ≡ false
put_going before after x put going = ap has_end put ∙ has_end_more before (Output x ∷ []) going

pub put_counted : (before after : List ToDrive) (x : Numbered DriveOut) (n : ℕ) → after ≡ before ++ Output x ∷ [] → has_end before ≡ false → n ≡ length (outputs_of before) + 1 → n ≡ length (outputs_of after)
put_counted before after x n put going next =
    let grown : length (outputs_of after) ≡ length (outputs_of before ++ x.item ∷ []) = ap length (put_outputs before after x put going) in
    omega (arith, length-append (outputs_of before) (x.item ∷ []))

end_outputs : (xs : List ToDrive) → outputs_of (xs ++ End ∷ []) ≡ outputs_of xs
end_outputs [] = refl
end_outputs (Output x ∷ xs) = ap (λ ys. x.item ∷ ys) (end_outputs xs)
end_outputs (End ∷ xs) = refl

pub put_end : (before after : List ToDrive) → after ≡ before ++ End ∷ [] → outputs_of after ≡ outputs_of before
put_end before after put = ap outputs_of put ∙ end_outputs before

pub put_ended : (before after : List ToDrive) → after ≡ before ++ End ∷ [] → has_end before ≡ false → true ≡ has_end after
put_ended before after put going = sym (ap has_end put ∙ has_end_more before (End ∷ []) going)

pub put_ends : (before after : List ToDrive) (y : ToDrive) → after ≡ before ++ y ∷ [] → has_end before ≡ false → EndsLast after
put_ends before after y put going = subst EndsLast (sym put) (put_last before y going)

-- how many there are: the outputs, and the end where it is there
abbrev end_count : Bool → ℕ
end_count true = 1
end_count false = 0

counted : (xs : List ToDrive) → EndsLast xs → length xs ≡ length (outputs_of xs) + end_count (has_end xs)
counted [] last = refl
counted (Output x ∷ xs) last = let more = counted xs last in omega arith
counted (End ∷ xs) last = ap (λ (ys : List ToDrive). suc (length ys)) last

counted_going : (xs : List ToDrive) → has_end xs ≡ false → length xs ≡ length (outputs_of xs)
counted_going [] going = refl
counted_going (Output x ∷ xs) going = ap suc (counted_going xs going)
counted_going (End ∷ xs) going = absurd (cc)

-- what was taken and what waits are the outputs that were sent
pub beside_outputs : (received known sent : List ToDrive) → has_end received ≡ false → received ++ known ≡ sent → outputs_of received ++ outputs_of known ≡ outputs_of sent
beside_outputs received known sent going fifo = sym (outputs_more received known going) ∙ ap outputs_of fifo

pub beside_count : (received known sent : List ToDrive) → has_end received ≡ false → received ++ known ≡ sent → length (outputs_of sent) ≡ length (outputs_of received) + length (outputs_of known)
beside_count received known sent going fifo =
    sym (ap length (beside_outputs received known sent going fifo)) ∙ length-append (outputs_of received) (outputs_of known)

slots_by : (told : Bool) (free capacity room received known : ℕ) → capacity + received ≤ free + (received + known + end_count told) → capacity ≡ room + 1 → room ≤ (if told then free else free - 1) + known
slots_by true free capacity room received known slots room_is = omega arith
slots_by false free capacity room received known slots room_is = omega arith

-- the other slots but the one for the end are free
pub beside_slots : (received known sent : List ToDrive) (told : Bool) (free capacity room : ℕ) → has_end received ≡ false → received ++ known ≡ sent → EndsLast sent → told ≡ has_end sent →
    capacity + length received ≤ free + length sent → capacity ≡ room + 1 → room ≤ (if told then free else free - 1) + length (outputs_of known)
beside_slots received known sent told free capacity room going fifo last told_is slots room_is =
    let all = counted sent last in
    let some = counted_going received going in
    let count = beside_count received known sent going fifo in
    let same : end_count told ≡ end_count (has_end sent) = ap end_count told_is in
    slots_by told free capacity room (length (outputs_of received)) (length (outputs_of known)) (omega arith) room_is

outputs_grow : (xs zs : List ToDrive) → (qs : List DriveOut) × (outputs_of xs ++ qs ≡ outputs_of (xs ++ zs))
outputs_grow [] zs = (outputs_of zs, refl)
outputs_grow (Output x ∷ xs) zs = let r = outputs_grow xs zs in (r.0, ap (λ qs. x.item ∷ qs) r.1)
outputs_grow (End ∷ xs) zs = ([], refl)

-- outputs that are known to wait stay so
pub outputs_prefix : (known : List DriveOut) (xs ys : List ToDrive) → outputs_of xs ≡ known → IsPrefix xs ys → IsPrefix known (outputs_of ys)
outputs_prefix known xs ys e p = let r = outputs_grow xs p.0 in (r.0, ap (λ zs. zs ++ r.0) (sym e) ∙ r.1 ∙ ap outputs_of p.1)

end_grow : (xs zs : List ToDrive) → has_end xs ≡ true → has_end (xs ++ zs) ≡ true
end_grow [] zs seen = absurd (cc)
end_grow (Output x ∷ xs) zs seen = end_grow xs zs seen
end_grow (End ∷ xs) zs seen = refl

-- an end that was seen stays where it is
pub end_stays : (xs ys : List ToDrive) → IsPrefix xs ys → has_end xs ≡ true → has_end ys ≡ true
end_stays xs ys p seen = sym (ap has_end p.1) ∙ end_grow xs p.0 seen

end_first : (xs zs : List ToDrive) → has_end xs ≡ true → outputs_of xs ≡ [] → outputs_of (xs ++ zs) ≡ []
end_first [] zs seen empty = absurd (cc)
end_first (Output x ∷ xs) zs seen empty = absurd (cc)
end_first (End ∷ xs) zs seen empty = refl

-- no output comes where the end is next
pub no_more : (xs ys : List ToDrive) → IsPrefix xs ys → has_end xs ≡ true → outputs_of xs ≡ [] → outputs_of ys ≡ []
no_more xs ys p seen empty = sym (ap outputs_of p.1) ∙ end_first xs p.0 seen empty

-- where no output is next none waits
pub none_waits : (xs : List ToDrive) → (next_of xs ≡ next.Output → ⊥) → outputs_of xs ≡ []
none_waits [] other = refl
none_waits (Output x ∷ xs) other = absurd (other refl)
none_waits (End ∷ xs) other = refl

pub none_waited : (xs ys : List ToDrive) → IsPrefix xs ys → outputs_of ys ≡ [] → outputs_of xs ≡ []
none_waited [] ys p empty = refl
none_waited (Output x ∷ xs) ys p empty = let e : outputs_of (Output x ∷ (xs ++ p.0)) ≡ [] = ap outputs_of p.1 ∙ empty in absurd (cc)
none_waited (End ∷ xs) ys p empty = refl

-- an end that was seen is known
pub end_known : (xs : List ToDrive) → has_end xs ≡ true → 0 < length xs
end_known [] seen = absurd (cc)
end_known (x ∷ xs) seen = omega arith

-- an output that waits is known
pub some_known : (xs : List ToDrive) → 0 < length (outputs_of xs) → 0 < length xs
some_known [] some = some
some_known (x ∷ xs) some = omega arith

pub if_none : {A : Type 0} (o : Option A) (P : Type 0) → P → IfNone o P
if_none None P p = p
if_none (Some x) P p = tt

-- where the end was next before the ends were brought together, all that was sent was taken
pub taken_all : (taken sent : List DriveOut) (known : List ToDrive) → taken ++ outputs_of known ≡ sent → outputs_of known ≡ [] → taken ≡ sent
taken_all taken sent known all none = sym (append-nil taken) ∙ ap (λ xs. taken ++ xs) (sym none) ∙ all
