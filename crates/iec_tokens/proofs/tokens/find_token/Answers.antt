-- The lexeme at the front is gone over.
use Rattle.std.proofs.Common.{◌≤◌, length, arith}
use Rattle.std.proofs.lemmas.Grind.{common_steps}
use Rattle.iec_tokens.proofs.Passed.{gap_passed, token_passed}
use Rattle.iec_tokens.proofs.tokens.find_token.Goals as goal

pub returns-in-Some-clause-token : goal.returns-in-Some-clause-token
returns-in-Some-clause-token c =
    let some : 1 ≤ length c.loop-rest.rest.now = grind (arith, common_steps) in
    token_passed c.loop-rest.rest.now c.length_of-count.result c.loop-rest.stand c.lexeme_at-token.result _ _ _
    c.lexeme_at-token.ensures c.in-Some.is some c.length_of-count.ensures.length c.take_token.ensures.token c.loop-rest.invariant.tokens

pub loop-rest-preserved : goal.loop-rest-preserved
loop-rest-preserved c =
    let some : 1 ≤ length c.loop-rest.rest.now = grind (arith, common_steps) in
    record {
      fits = grind (arith, common_steps);
      tokens = gap_passed c.loop-rest.rest.now c.length_of-count.result c.loop-rest.stand c.stand_after-stand.result c.lexeme_at-token.result _
          c.lexeme_at-token.ensures c.in_default.is some c.length_of-count.ensures.length c.stand_after-stand.ensures.after c.loop-rest.invariant.tokens;
    }
