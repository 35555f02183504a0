-- What a job writes, and the status that it then ends with. This project's profile.
use Rattle.std.specs.Prelude.{ℕ, codes, decimal, Result, Ok, Err, List, [], ◌∷◌, ◌++◌}
use Rattle.std.specs.List.{concat}
use Rattle.motion_history.specs.declared.refused.TextRefused.{TextRefused}
use Rattle.job_ends.specs.declared.status.Status.{Status}
use Rattle.job_ends.specs.declared.status.Status.TheVariants as status

-- what is to be written, and the status where it is
pub record Plan : Type 0 where
  pub status : Status
  pub text : List ℕ

-- the file of a word can't be read
abbrev pub unread_plan : ℕ → List ℕ → Plan
unread_plan word name = record {
  status = status.ReadFault word;
  text = codes "cannot read " ++ name ++ codes "\n";
}

-- the file of a word is too long
abbrev pub too_long_plan : ℕ → List ℕ → Plan
too_long_plan word name = record {
  status = status.TooLong word;
  text = codes "too long " ++ name ++ codes "\n";
}

-- the line that says where a text is refused, and by which rule
abbrev pub refused_line : List ℕ → TextRefused → List ℕ
refused_line name r = concat
    (codes "refused " ∷ name ∷ codes " " ∷ decimal r.place ∷ codes " " ∷ (r.rule.letter ∷ []) ∷
    decimal r.rule.number ∷ codes "\n" ∷ [])

-- the text of a word's file is refused
abbrev pub refused_plan : ℕ → List ℕ → TextRefused → Plan
refused_plan word name r = record {
  status = status.TextRefused word r.place r.rule;
  text = refused_line name r;
}

-- what the text of a word's file leads to by its reading
abbrev pub plan_of_reading : {A : Type 0} → (A → Plan) → ℕ → List ℕ → Result A TextRefused → Plan
plan_of_reading plan word name (Ok x) = plan x
plan_of_reading plan word name (Err r) = refused_plan word name r
