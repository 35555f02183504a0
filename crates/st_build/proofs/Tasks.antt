-- The parts of a task, one after another.
-- for: program_of
use Rattle.std.proofs.Common.{◌≡◌, ℕ, [], ◌∷◌, ◌++◌, ap, sym, ◌∙◌, append_assoc}
use Rattle.st_tree.specs.Parts.{Parts}
use Rattle.st_tree.specs.declared.part.Part.TheVariants as part

pub task_is : (declared body p0 p1 p2 p3 p4 p5 : Parts) (count n : ℕ) →
    p0 ≡ part.Task ∷ p1 → p1 ≡ declared ++ p2 → p2 ≡ part.Body count ∷ p3 → n ≡ count → p3 ≡ body ++ p4 → p4 ≡ part.TaskEnd ∷ p5 →
    p0 ≡ (part.Task ∷ (declared ++ (part.Body n ∷ (body ++ part.TaskEnd ∷ [])))) ++ p5
task_is declared body p0 p1 p2 p3 p4 p5 count n is0 is1 is2 is_n is3 is4 =
    let behind : p3 ≡ (body ++ part.TaskEnd ∷ []) ++ p5 = is3 ∙ ap (λ l. body ++ l) is4 ∙ sym (append_assoc body (part.TaskEnd ∷ []) p5) in
    let from_body : p2 ≡ (part.Body n ∷ (body ++ part.TaskEnd ∷ [])) ++ p5 =
    is2 ∙ ap (λ k. part.Body k ∷ p3) (sym is_n) ∙ ap (λ l. part.Body n ∷ l) behind in
    is0 ∙ ap (λ l. part.Task ∷ l) (is1 ∙ ap (λ l. declared ++ l) from_body ∙ sym (append_assoc declared (part.Body n ∷ (body ++ part.TaskEnd ∷ [])) p5))
