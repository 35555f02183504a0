-- Where parts lead, a part at a time, and which may follow.
-- for: program_of
use Rattle.std.proofs.Common.{◌≡◌, ◌≤◌, ℕ, ◌-◌, Bool, true, false, Option, Some, Result, Ok, Err, OnOk, List, [], ◌∷◌, drop, length, length-drop, refl, sym, subst, ap, ◌∙◌, arith}
use Rattle.std.specs.Option.{option_and_then}
use Rattle.st_tree.specs.Parts.{Parts}
use Rattle.st_tree.specs.Places.{Around, Inside, Leads, Otherwise, Outside, Passes, Place, Selected, Then, after, begins, blocks_in, branches, lead, names_in}
use Rattle.st_tree.specs.declared.part.Part.{Part}
use Rattle.st_tree.specs.declared.part.Part.TheVariants as part

-- a part is gone over
pub passes_one : (p : Part) (from to : Place) (old new : Parts) → after p from ≡ Some to → names_in (p ∷ new) ≡ names_in new →
    blocks_in (p ∷ new) ≡ blocks_in new → old ≡ p ∷ new → Passes from to old new
passes_one p from to old new step names blocks is = record {
  leads = λ h. subst (λ (o : Option Place). option_and_then (λ y. lead after y new) o ≡ Some Outside) step (subst (Leads from) is h);
  names = ap names_in is ∙ names;
  blocks = ap blocks_in is ∙ blocks;
}

-- one after another
pub passes_on : (a b c : Place) (x y z : Parts) → Passes a b x y → Passes b c y z → Passes a c x z
passes_on a b c x y z p q = record {
  leads = λ h. q.leads (p.leads h);
  names = p.names ∙ q.names;
  blocks = p.blocks ∙ q.blocks;
}

-- ---- what follows

-- statements and keys are not the last
pub some_follows : (n : ℕ) (keys : Bool) (around : List Around) (ps : Parts) → Leads (Inside n keys around) ps → 1 ≤ length ps
some_follows n keys around [] h = absurd (cc)
some_follows n keys around (p ∷ ps) h = omega arith

pub some_selected : (around : List Around) (ps : Parts) → Leads (Selected around) ps → 1 ≤ length ps
some_selected around [] h = absurd (cc)
some_selected around (p ∷ ps) h = omega arith

pub else_follows : (around : List Around) (ps : Parts) → Leads (Inside 0 false (Then ∷ around)) ps → begins ps ≡ false → ps ≡ part.Else ∷ drop 1 ps
else_follows around (part.Else ∷ ps) h e = refl
else_follows around _ h e = absurd (cc)

pub end_if_follows : (around : List Around) (ps : Parts) → Leads (Inside 0 false (Otherwise false ∷ around)) ps → begins ps ≡ false → ps ≡ part.EndIf ∷ drop 1 ps
end_if_follows around (part.EndIf ∷ ps) h e = refl
end_if_follows around _ h e = absurd (cc)

pub end_case_follows : (around : List Around) (ps : Parts) → Leads (Inside 0 false (Otherwise true ∷ around)) ps → begins ps ≡ false → ps ≡ part.EndCase ∷ drop 1 ps
end_case_follows around (part.EndCase ∷ ps) h e = refl
end_case_follows around _ h e = absurd (cc)

pub case_else_follows : (around : List Around) (ps : Parts) → Leads (Selected around) ps → branches ps ≡ false → ps ≡ part.Else ∷ drop 1 ps
case_else_follows around (part.Else ∷ ps) h e = refl
case_else_follows around _ h e = absurd (cc)

-- a task
pub task_follows : (ps : Parts) → Leads Outside ps → 1 ≤ length ps → ps ≡ part.Task ∷ drop 1 ps
task_follows (part.Task ∷ ps) h some = refl
task_follows [] h some = absurd (omega arith)
task_follows _ h some = absurd (cc)

pub task_end_follows : (ps : Parts) → Leads (Inside 0 false []) ps → begins ps ≡ false → ps ≡ part.TaskEnd ∷ drop 1 ps
task_end_follows (part.TaskEnd ∷ ps) h e = refl
task_end_follows _ h e = absurd (cc)

-- ---- equations of what follows, where a part was gone over

pub gone_over : (p : Part) (old new : Parts) → old ≡ p ∷ drop 1 old → new ≡ drop 1 old → old ≡ p ∷ new
gone_over p old new is rest = is ∙ ap (λ l. p ∷ l) (sym rest)

-- there is room where something follows
pub room_inside : (n : ℕ) (keys : Bool) (around : List Around) (i : ℕ) (l : Parts) → Leads (Inside n keys around) (drop i l) → 1 ≤ length l - i
room_inside n keys around i l h = rw length-drop at (some_follows n keys around (drop i l) h)

pub room_selected : (around : List Around) (i : ℕ) (l : Parts) → Leads (Selected around) (drop i l) → 1 ≤ length l - i
room_selected around i l h = rw length-drop at (some_selected around (drop i l) h)

-- an `IF`: its statements, `ELSE`, and the other statements
module _ (around : List Around) (d0 d1 d2 d3 d4 : Parts) (h : Leads (Inside 0 false (Then ∷ around)) d0)
    (then_ : Passes (Inside 0 false (Then ∷ around)) (Inside 0 false (Then ∷ around)) d0 d1) (ended : begins d1 ≡ false) (rest : d2 ≡ drop 1 d1) where
  pub if_else : d1 ≡ part.Else ∷ d2
  if_else = gone_over part.Else d1 d2 (else_follows around d1 (then_.leads h) ended) rest

  pub if_otherwise : Leads (Inside 0 false (Otherwise false ∷ around)) d2
  if_otherwise = subst (Leads (Inside 0 false (Then ∷ around))) if_else (then_.leads h)

  pub if_end : Passes (Inside 0 false (Otherwise false ∷ around)) (Inside 0 false (Otherwise false ∷ around)) d2 d3 → begins d3 ≡ false → d4 ≡ drop 1 d3 → d3 ≡ part.EndIf ∷ d4
  if_end otherwise ended2 rest2 = gone_over part.EndIf d3 d4 (end_if_follows around d3 (otherwise.leads if_otherwise) ended2) rest2

-- a `CASE`: its branches, `ELSE`, and the other statements
module _ (around : List Around) (d0 d1 d2 d3 d4 : Parts) (h : Leads (Selected around) d0)
    (branched : Passes (Selected around) (Selected around) d0 d1) (ended : branches d1 ≡ false) (rest : d2 ≡ drop 1 d1) where
  pub case_else : d1 ≡ part.Else ∷ d2
  case_else = gone_over part.Else d1 d2 (case_else_follows around d1 (branched.leads h) ended) rest

  pub case_otherwise : Leads (Inside 0 false (Otherwise true ∷ around)) d2
  case_otherwise = subst (Leads (Selected around)) case_else (branched.leads h)

  pub case_end : Passes (Inside 0 false (Otherwise true ∷ around)) (Inside 0 false (Otherwise true ∷ around)) d2 d3 → begins d3 ≡ false → d4 ≡ drop 1 d3 → d3 ≡ part.EndCase ∷ d4
  case_end otherwise ended2 rest2 = gone_over part.EndCase d3 d4 (end_case_follows around d3 (otherwise.leads case_otherwise) ended2) rest2

-- what is gone over before an answer
pub on_passes : {A E : Type 0} (r : Result A E) (a b c : Place) (x y z : Parts) → Passes a b x y → OnOk r (Passes b c y z) → OnOk r (Passes a c x z)
on_passes (Ok v) a b c x y z p q = passes_on a b c x y z p q
on_passes (Err e) a b c x y z p q = tt
