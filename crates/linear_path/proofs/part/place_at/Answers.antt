-- Forward and backward.
use Rattle.std.proofs.Common.{arith, ◌≡◌, ◌≤◌, ap, sym, ◌∙◌, ℕ, ℤ, pos, ◌+ℤ◌, ◌-ℤ◌, ◌≤ℤ◌, ◌<ℤ◌, unsigned_abs, to_z, of_z, to_z-of_z, FitsSigned, w64}
use Rattle.std.proofs.lemmas.Int.{ints}
use Rattle.linear_path.specs.Line.{part_of}
use Rattle.linear_path.proofs.LineLaws.{place_forward, place_backward}
use Rattle.linear_path.proofs.part.place_at.Goals as goal

sum_back : (start : ℤ) (gone : ℕ) → unsigned_abs start ≤ 1000000000000000 →
    gone ≤ 2000000000000000 → to_z w64 (of_z w64 (to_z w64 (of_z w64 start) +ℤ to_z w64 gone))
    ≡ start +ℤ pos gone
sum_back start gone small part = omega (arith, ints)

difference_back : (start : ℤ) (gone : ℕ) → unsigned_abs start ≤ 1000000000000000 →
    gone ≤ 2000000000000000 → to_z w64 (of_z w64 (to_z w64 (of_z w64 start) -ℤ to_z w64 gone))
    ≡ start -ℤ pos gone
difference_back start gone small part = omega (arith, ints)

-- the way, from the two numbers that fit
way_back : (way : ℕ) (start target : ℤ) → unsigned_abs start ≤ 1000000000000000 →
    unsigned_abs target ≤ 1000000000000000 →
    way ≡ unsigned_abs (to_z w64 (of_z w64 target) -ℤ to_z w64 (of_z w64 start)) →
    way ≡ unsigned_abs (target -ℤ start)
way_back way start target s_small t_small is =
    let s : FitsSigned w64 start = omega (arith, ints) in
    let t : FitsSigned w64 target = omega (arith, ints) in
    simp to_z-of_z at is

way_small : (way : ℕ) (start target : ℤ) → unsigned_abs start ≤ 1000000000000000 →
    unsigned_abs target ≤ 1000000000000000 → way ≡ unsigned_abs (target -ℤ start) →
    way ≤ 2000000000000000
way_small way start target s_small t_small is = omega (arith, ints)

pub returns-then-target-start-clause-value : goal.returns-then-target-start-clause-value
returns-then-target-start-clause-value c =
    let way : c.abs_diff.result ≡ unsigned_abs (c.args.target -ℤ c.args.start) =
    way_back c.abs_diff.result c.args.start c.args.target c.requires.start_in_range
    c.requires.target_in_range c.abs_diff.ensures in
    let small = way_small c.abs_diff.result c.args.start c.args.target c.requires.start_in_range
    c.requires.target_in_range way in
    let backward : c.args.target <ℤ c.args.start = omega (arith, ints) in
    difference_back c.args.start c.part-gone.result c.requires.start_in_range
    (omega (arith, c.part-gone.ensures.within, small))
    ∙ ap (λ n. c.args.start -ℤ pos n) (c.part-gone.ensures.value
    ∙ ap (λ w. part_of w c.args.length c.args.s) way)
    ∙ sym (place_backward c.args.start c.args.target c.args.length c.args.s backward)

pub returns-else-target-start-clause-value : goal.returns-else-target-start-clause-value
returns-else-target-start-clause-value c =
    let way : c.abs_diff.result ≡ unsigned_abs (c.args.target -ℤ c.args.start) =
    way_back c.abs_diff.result c.args.start c.args.target c.requires.start_in_range
    c.requires.target_in_range c.abs_diff.ensures in
    let small = way_small c.abs_diff.result c.args.start c.args.target c.requires.start_in_range
    c.requires.target_in_range way in
    let forward : c.args.start ≤ℤ c.args.target = omega (arith, ints) in
    sum_back c.args.start c.part-gone.result c.requires.start_in_range
    (omega (arith, c.part-gone.ensures.within, small))
    ∙ ap (λ n. c.args.start +ℤ pos n) (c.part-gone.ensures.value
    ∙ ap (λ w. part_of w c.args.length c.args.s) way)
    ∙ sym (place_forward c.args.start c.args.target c.args.length c.args.s forward)
