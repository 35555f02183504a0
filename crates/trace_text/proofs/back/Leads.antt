-- Records that are read one after the other.
-- for: traces_are_read_back
use Rattle.std.specs.Prelude.{◌≡◌, refl, ℕ, ◌+◌, true, nat_le, Result, Ok, Err, List, [], ◌∷◌, ◌++◌, map}
use Rattle.std.proofs.Common.{◌∙◌, sym, subst, append_assoc}
use Rattle.std.proofs.lemmas.List.{append-nil, map-append}
use Rattle.line_text.specs.Reading.{◌>>=◌, at_line}
use Rattle.line_text.specs.declared.reader.LineRefused.{LineRefused}
use Rattle.trace_text.specs.reading.Kinds.{rank_of}
use Rattle.trace_text.specs.reading.Reading.{meaning, records_meaning}
use Rattle.trace_text.specs.Records.{padded}
use Rattle.trace_text.specs.reading.SoFar.{SoFar}
use Rattle.trace_text.specs.declared.reading.kind.Kind.{Kind}

-- records that were written lead a reader from one place to another
pub record Leads (rs : List (List (List ℕ))) (s t : SoFar) : Type 0 where
  pub reads : (n : ℕ) → records_meaning n s (map padded rs) ≡ Ok t

pub leads-none : (s : SoFar) → Leads [] s s
leads-none s = record { reads = λ n. refl }

-- a record, and those after it
pub leads-more : (r : List (List ℕ)) (rs : List (List (List ℕ))) (s t u : SoFar) → meaning s (padded r) ≡ Ok t → Leads rs t u → Leads (r ∷ rs) s u
leads-more r rs s t u e more = record { reads = λ n. rw e (more.reads (n + 1)) }

pub leads-one : (r : List (List ℕ)) (s t : SoFar) → meaning s (padded r) ≡ Ok t → Leads (r ∷ []) s t
leads-one r s t e = leads-more r [] s t t e (leads-none t)

bind-step : (m : Result SoFar ℕ) (n : ℕ) (f g : SoFar → Result SoFar LineRefused) (t u : SoFar) → ((v : SoFar) → f v ≡ Ok t → g v ≡ Ok u) →
    (at_line n m >>= f) ≡ Ok t → (at_line n m >>= g) ≡ Ok u
bind-step (Ok v) n f g t u h e = h v e
bind-step (Err rule) n f g t u h e = absurd (cc e)

then-from : (n : ℕ) (a b : List (List (List ℕ))) (s t u : SoFar) → records_meaning n s a ≡ Ok t → ((k : ℕ) → records_meaning k t b ≡ Ok u) →
    records_meaning n s (a ++ b) ≡ Ok u
then-from n [] b s t u p q = let same : s ≡ t = cc p in rw same (q n)
then-from n (r ∷ rs) b s t u p q =
    bind-step (meaning s r) (n + 1) (λ v. records_meaning (n + 1) v rs) (λ v. records_meaning (n + 1) v (rs ++ b)) t u
    (λ v e. then-from (n + 1) rs b v t u e q) p

-- records, and others after them
pub leads-then : (a b : List (List (List ℕ))) (s t u : SoFar) → Leads a s t → Leads b t u → Leads (a ++ b) s u
leads-then a b s t u p q = record {
  reads = λ n. rw (map-append padded a b) (then-from n (map padded a) (map padded b) s t u (p.reads n) q.reads);
}

-- items of a kind lead to where they all are, after an item of the kind or an earlier one
pub record LeadsItems (rs : List (List (List ℕ))) (s : SoFar) (at : Kind → SoFar) (k : Kind) : Type 0 where
  pub last : Kind
  pub rank : nat_le (rank_of last) (rank_of k) ≡ true
  pub leads : Leads rs s (at last)

pub items-lead : {X : Type 0} (fields : X → List (List ℕ)) (put : Kind → List X → SoFar) (k : Kind) (all : List X) → nat_le (rank_of k) (rank_of k) ≡ true →
    ((j : Kind) (before : List X) (x : X) (behind : List X) → all ≡ before ++ x ∷ behind → nat_le (rank_of j) (rank_of k) ≡ true →
    meaning (put j before) (padded (fields x)) ≡ Ok (put k (before ++ x ∷ []))) →
    (xs before : List X) → all ≡ before ++ xs → (j : Kind) → nat_le (rank_of j) (rank_of k) ≡ true →
    LeadsItems (map fields xs) (put j before) (λ last. put last all) k
items-lead {X} fields put k all same step [] before e j h =
    let P : List X → Type 0 = λ l. Leads [] (put j before) (put j l) in
    record { last = j; rank = h; leads = subst P (sym (e ∙ append-nil before)) (leads-none (put j before)) }
items-lead fields put k all same step (x ∷ xs) before e j h =
    let more = items-lead fields put k all same step xs (before ++ x ∷ []) (e ∙ sym (append_assoc before (x ∷ []) xs)) k same in
    record {
      last = more.last;
      rank = more.rank;
      leads = leads-more (fields x) (map fields xs) (put j before) (put k (before ++ x ∷ [])) (put more.last all) (step j before x xs e h) more.leads;
    }
