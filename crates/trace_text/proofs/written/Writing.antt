-- A text that is written piece after piece.
-- for: write_trace
use Rattle.std.specs.Prelude.{OnOk, ◌≡◌, refl, ℕ, ◌+◌, ◌*◌, ◌/◌, ◌-◌, ◌≤◌, ◌<◌, min, Option, Result, Ok, Err, List, [], ◌++◌, take, drop, length}
use Rattle.std.specs.List.{flat_map}
use Rattle.std.specs.Io.KnownBytes.{Appends}
use Rattle.std.proofs.Common.{◌∙◌, sym, ap, subst, arith, append_assoc}
use Rattle.std.proofs.Math.Seq.{take-add}
use Rattle.std.proofs.KnownBytes.{Appends-nil, Appends-trans}
use Rattle.std.proofs.lemmas.Grind.{flat_map-append}
use Rattle.std.proofs.lemmas.List.{take-append-drop}
use Rattle.outside.specs.Told.{AppendsPart}
use Rattle.trace_text.specs.declared.writing.write.TraceFault.{TraceFault}
use Rattle.trace_text.specs.declared.writing.write.TraceFault.TheVariants as fault
use Rattle.trace_text.specs.writing.Writes.{WritesPrefix, Output, Writes}

-- a piece that was taken in part
pub WritesPrefix-part : (old new : Option (List ℕ)) (piece : List ℕ) → AppendsPart old new piece → WritesPrefix old new piece
WritesPrefix-part old new piece p = record {
  written = take p.taken piece;
  left = drop p.taken piece;
  whole = sym (take-append-drop p.taken piece);
  appended = p.appended;
}

-- nothing of a text was written
pub WritesPrefix-none : (old : Option (List ℕ)) (text : List ℕ) → WritesPrefix old old text
WritesPrefix-none old text = record { written = []; left = text; whole = refl; appended = Appends-nil old }

WritesPrefix-more : (old new : Option (List ℕ)) (x y : List ℕ) → WritesPrefix old new x → WritesPrefix old new (x ++ y)
WritesPrefix-more old new x y p = record {
  written = p.written;
  left = p.left ++ y;
  whole = ap (λ t. t ++ y) p.whole ∙ append_assoc p.written p.left y;
  appended = p.appended;
}

WritesPrefix-then : (old mid new : Option (List ℕ)) (x y : List ℕ) → Appends old mid x → WritesPrefix mid new y → WritesPrefix old new (x ++ y)
WritesPrefix-then old mid new x y a p = record {
  written = x ++ p.written;
  left = p.left;
  whole = ap (λ t. x ++ t) p.whole ∙ sym (append_assoc x p.written p.left);
  appended = Appends-trans old mid new x p.written a p.appended;
}

-- a piece, and what was written after it
pub Writes-then : (old mid new : Output) (x y : List ℕ) (r : Result (Unit {0}) TraceFault) →
    Appends old.told mid.told x → mid.count ≡ old.count → Writes mid new y r → Writes old new (x ++ y) r
Writes-then old mid new x y (Ok u) a e w = (Appends-trans old.told mid.told new.told x y a w.0, w.1 ∙ e)
Writes-then old mid new x y (Err fault.WriteFault) a e w = (rw (← e) w.0, WritesPrefix-then old.told mid.told new.told x y a w.1)
Writes-then old mid new x y (Err fault.OutOfMemory) a e w = (w.0 ∙ e, WritesPrefix-then old.told mid.told new.told x y a w.1)

-- a piece that was not written whole, and nothing after it
pub Writes-stopped : (old new : Output) (x y : List ℕ) (e : TraceFault) → Writes old new x (Err e) → Writes old new (x ++ y) (Err e)
Writes-stopped old new x y fault.WriteFault w = (w.0, WritesPrefix-more old.told new.told x y w.1)
Writes-stopped old new x y fault.OutOfMemory w = (w.0, WritesPrefix-more old.told new.told x y w.1)

-- the entries up to a piece's end are those before the piece and those of it
pub take-piece : {X : Type 0} (es : List X) (n : ℕ) → n * 200 ≤ length es →
    take (min ((n + 1) * 200) (length es)) es ≡ take (min (n * 200) (length es)) es ++ take (min (length es - n * 200) 200) (drop (n * 200) es)
take-piece es n l =
    let a : min ((n + 1) * 200) (length es) ≡ n * 200 + min (length es - n * 200) 200 = omega arith in
    let b : min (n * 200) (length es) ≡ n * 200 = omega arith in
    rw (a, b) (take-add (n * 200) (min (length es - n * 200) 200) es)

three : (a b c d : List ℕ) → a ≡ b ++ c → c ≡ d → a ≡ b ++ d
three a b c d p q = p ∙ ap (λ t. b ++ t) q

-- a list's texts, from those of its first part, of the next and of the others
parts : {X : Type 0} (f : X → List ℕ) (es : List X) (k m : ℕ) →
    flat_map f es ≡ (flat_map f (take k es) ++ flat_map f (take m (drop k es))) ++ flat_map f (drop m (drop k es))
parts f es k m =
    let a : flat_map f es ≡ flat_map f (take k es) ++ flat_map f (drop k es) =
    ap (flat_map f) (sym (take-append-drop k es)) ∙ flat_map-append f (take k es) (drop k es) in
    let b : flat_map f (drop k es) ≡ flat_map f (take m (drop k es)) ++ flat_map f (drop m (drop k es)) =
    ap (flat_map f) (sym (take-append-drop m (drop k es))) ∙ flat_map-append f (take m (drop k es)) (drop m (drop k es)) in
    three _ _ _ _ a b ∙ sym (append_assoc (flat_map f (take k es)) (flat_map f (take m (drop k es))) (flat_map f (drop m (drop k es))))

-- the entries are those before a piece, those of it, and those after it
pub all-pieces : {X : Type 0} (f : X → List ℕ) (es : List X) (n : ℕ) → n * 200 ≤ length es →
    flat_map f es ≡ (flat_map f (take (min (n * 200) (length es)) es) ++ flat_map f (take (min (length es - n * 200) 200) (drop (n * 200) es))) ++
    flat_map f (drop (min (length es - n * 200) 200) (drop (n * 200) es))
all-pieces f es n l =
    let b : min (n * 200) (length es) ≡ n * 200 = omega arith in
    rw b (parts f es (n * 200) (min (length es - n * 200) 200))

-- where a piece of the entries isn't written whole, neither are the entries
pub Writes-piece_stopped : {X : Type 0} (f : X → List ℕ) (es : List X) (n count entries : ℕ) (old mid new : Output) (e : TraceFault) →
    entries ≡ length es → n < entries / 200 + 1 → count ≡ min (entries - n * 200) 200 →
    Appends old.told mid.told (flat_map f (take (min (n * 200) (length es)) es)) → mid.count ≡ old.count →
    Writes mid new (flat_map f (take count (drop (n * 200) es))) (Err e) → Writes old new (flat_map f es) (Err e)
Writes-piece_stopped f es n count entries old mid new e same l c text kept w =
    let le : n * 200 ≤ length es = omega arith in
    let m : count ≡ min (length es - n * 200) 200 = omega arith in
    let here = Writes-then old mid new _ _ (Err e) text kept w in
    let all : flat_map f es ≡ (flat_map f (take (min (n * 200) (length es)) es) ++ flat_map f (take count (drop (n * 200) es))) ++ flat_map f (drop count (drop (n * 200) es)) =
    all-pieces f es n le ∙ ap (λ k. (flat_map f (take (min (n * 200) (length es)) es) ++ flat_map f (take k (drop (n * 200) es))) ++ flat_map f (drop k (drop (n * 200) es))) (sym m) in
    let P : List ℕ → Type 0 = λ t. Writes old new t (Err e) in
    subst P (sym all) (Writes-stopped old new _ (flat_map f (drop count (drop (n * 200) es))) e here)

-- one more piece of the entries is written
pub Appends-piece : {X : Type 0} (f : X → List ℕ) (es : List X) (n count entries : ℕ) (old mid new : Option (List ℕ)) →
    entries ≡ length es → n < entries / 200 + 1 → count ≡ min (entries - n * 200) 200 →
    Appends old mid (flat_map f (take (min (n * 200) (length es)) es)) → Appends mid new (flat_map f (take count (drop (n * 200) es))) →
    Appends old new (flat_map f (take (min ((n + 1) * 200) (length es)) es))
Appends-piece f es n count entries old mid new same l c text more =
    let le : n * 200 ≤ length es = omega arith in
    let m : count ≡ min (length es - n * 200) 200 = omega arith in
    let all : flat_map f (take (min ((n + 1) * 200) (length es)) es) ≡ flat_map f (take (min (n * 200) (length es)) es) ++ flat_map f (take count (drop (n * 200) es)) =
    ap (flat_map f) (take-piece es n le) ∙ flat_map-append f (take (min (n * 200) (length es)) es) (take (min (length es - n * 200) 200) (drop (n * 200) es)) ∙
    ap (λ k. flat_map f (take (min (n * 200) (length es)) es) ++ flat_map f (take k (drop (n * 200) es))) (sym m) in
    let P : List ℕ → Type 0 = Appends old new in
    subst P (sym all) (Appends-trans old mid new _ _ text more)

-- three texts one after the other
pub trace-then : (old mid later new : Output) (x y z : List ℕ) (r : Result (Unit {0}) TraceFault) →
    Appends old.told mid.told x × (mid.count ≡ old.count) → Appends mid.told later.told y × (later.count ≡ mid.count) →
    Writes later new z r → Writes old new ((x ++ y) ++ z) r
trace-then old mid later new x y z r a b w =
    Writes-then old later new (x ++ y) z r (Appends-trans old.told mid.told later.told x y a.0 b.0) (b.1 ∙ a.1) w

-- the same text appended
pub Appends-same : {E : Type 0} (old new : Option (List ℕ)) (x y : List ℕ) (r : Result (Unit {0}) E) → x ≡ y → OnOk r (Appends old new x) → OnOk r (Appends old new y)
Appends-same old new x y r e a = rw (← e) a
