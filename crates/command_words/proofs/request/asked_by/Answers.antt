-- What the parse found is what plain words ask for.
use Rattle.std.proofs.Common.{◌∙◌, ap, map}
use Rattle.std.proofs.lemmas.Result.{IfOk-weaker}
use Rattle.std.specs.Option.{option_map}
use Rattle.std.specs.String.{string_bytes}
use Rattle.command_words.specs.Requests.{told}
use Rattle.command_words.proofs.ParseLaws.{parsed, refused}
use Rattle.command_words.proofs.request.asked_by.Goals as goal

pub returns-in-Ok : goal.returns-in-Ok
returns-in-Ok c =
    c.request_found.ensures
    ∙ parsed _ (map string_bytes c.args.texts.now) c.in_ok-motion.ensures c.requires _
    c.in-Ok.ensures.kinds c.in-Ok.ensures.matches

pub returns-in-Err : goal.returns-in-Err
returns-in-Err c =
    IfOk-weaker c.refused.result _ _ (λ request is.
    ap (option_map told) is.0
    ∙ refused _ (map string_bytes c.args.texts.now) c.in_ok-motion.ensures c.requires
    c.in-Err.error c.in-Err.ensures.kinds is.1) c.refused.ensures
