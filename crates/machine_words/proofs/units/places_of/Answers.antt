-- Each step reads one more.
use Rattle.std.proofs.Common.{◌≡◌, arith, of_z, to_z, w64}
use Rattle.std.proofs.lemmas.Int.{ints}
use Rattle.std.proofs.lemmas.Result.{err_from_is_err_and}
use Rattle.machine_words.specs.Units.{place_in}
use Rattle.line_text.specs.Texts.{texts}
use Rattle.line_text.proofs.Each.{read-more, read-stops, word_at}
use Rattle.machine_words.proofs.units.places_of.Goals as goal

pub returns-in_err-place : goal.returns-in_err-place
returns-in_err-place c =
    let p = err_from_is_err_and c.from_residual.result c.from_residual.ensures.1 in
    let cut = word_at c.args.words.now c.loop-word.word-index c.loop-word-test.true in
    rw (p.1, p.2) (read-stops (place_in c.args.units) (texts c.args.words.now) c.loop-word.word-index _ _ _ cut c.in_err-place.ensures.value c.loop-word.invariant)

pub loop-word-preserved : goal.loop-word-preserved
loop-word-preserved c =
    let cut = word_at c.args.words.now c.loop-word.word-index c.loop-word-test.true in
    let small = c.in_ok-place.ensures.small in
    let same : to_z w64 (of_z w64 c.in_ok-place.place) ≡ c.in_ok-place.place = omega (arith, ints, small) in
    rw (c.in-Ok.ensures.items, same) (read-more (place_in c.args.units) (texts c.args.words.now) c.loop-word.word-index _ _ _ cut c.in_ok-place.ensures.value c.loop-word.invariant)
