-- The tokens that are left lead where all led, up to the end.
use Rattle.std.proofs.Common.{◌≡◌, [], ap, sym, ◌∙◌, arith}
use Rattle.line_text.proofs.LineLaws.{is_nil}
use Rattle.st_check.specs.Reading.{run, step}
use Rattle.st_tokens.specs.Tokens.{last_line_from, tokens_from, tokens_of}
use Rattle.st_tokens.specs.declared.token.Token.TheVariants.{End}
use Rattle.st_check.proofs.Runs.{finished, on_ok_then, stopped_early}
use Rattle.st_check.proofs.walk.read_tokens.Goals as goal

pub returns-then-is_stopped : goal.returns-then-is_stopped
returns-then-is_stopped c =
    stopped_early c.loop-rest.reader c.args.reader.now (tokens_from c.loop-rest.place.line c.loop-rest.place.behind c.loop-rest.rest.now) c.args.text.now
    (sym c.is_stopped.ensures ∙ c.if-is_stopped.true) c.loop-rest.invariant.tokens

pub loop-rest-preserved : goal.loop-rest-preserved
loop-rest-preserved c =
    let p = c.in_ok-place.place in
    record {
      near = omega (arith, c.in_ok-place.ensures.near, c.loop-rest.invariant.near, c.behind_first-rest.ensures.shorter);
      last = ap (last_line_from p.line p.last) c.behind_first-rest.ensures.behind ∙ c.in_ok-place.ensures.last ∙ c.loop-rest.invariant.last;
      tokens = ap (λ t. run c.take_byte.new.reader (tokens_from p.line p.behind t)) c.behind_first-rest.ensures.behind ∙ c.in_ok-place.ensures.tokens ∙ c.loop-rest.invariant.tokens;
    }

pub returns : goal.returns
returns c =
    let none : c.loop-rest.rest.now ≡ [] = is_nil _ c.loop-rest-test.ensures in
    on_ok_then c.step.result
    (c.step.new.self ≡ step c.loop-rest.reader (record { token = End; line = c.loop-rest.place.last }))
    (c.step.new.self ≡ run c.args.reader.now (tokens_of c.args.text.now))
    (λ is. is ∙ finished c.loop-rest.reader c.args.reader.now c.loop-rest.place.line c.loop-rest.place.behind c.loop-rest.place.last
    c.loop-rest.rest.now c.args.text.now none c.loop-rest.invariant.tokens c.loop-rest.invariant.last)
    c.step.ensures
