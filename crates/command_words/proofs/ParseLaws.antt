-- What the clauses of `clap` say of the commands that the words are read with.
-- for: asked
use Rattle.std.proofs.Common.{◌≡◌, ◌∙◌, true, refl, ap, ap₂, sym, List, [], ◌∷◌, None, ⊎_elim}
use Rattle.std.specs.Prelude.{◌||◌}
use Rattle.clap.specs.Words.{AddsSubcommand, App, HasKind, HasMatchesOf, Text, app_of, fault_of, is_simple, is_simple_and_free, kind_of, subcommand_of, subcommand_rows_of, with_subcommand}
use Rattle.clap.specs.declared.builder.command.Command.{Command}
use Rattle.clap.specs.declared.error.Error.{Error}
use Rattle.clap.specs.declared.error.kind.ErrorKind.TheVariants.{OutOfMemory}
use Rattle.clap.specs.declared.parser.matches.ArgMatches.{ArgMatches}
use Rattle.clap.specs.Kinds.{Kinds}
use Rattle.command_words.specs.Commands.{IsCommand, motion, request_found}
use Rattle.command_words.specs.Requests.{asked_by}
use Rattle.command_words.proofs.CommandLaws.{ArePlain, found_by, motion_is_free, motion_is_simple, plain_read}

-- a command with one more of its own
pub with_command : (app own : App) (old command new : Command)
    → IsCommand app old → IsCommand own command → AddsSubcommand old command new
    → IsCommand (with_subcommand app own.top) new
with_command app own old command new before is adds = record {
  shape = adds.shape is.local ∙ ap₂ with_subcommand before.shape (ap (λ (a : App). a.top) is.shape);
  local = adds.globals ∙ ap₂ (λ a b. a || b) before.local is.local;
}

module _ (command : Command) (words : List Text) (is : IsCommand motion command)
    (plain : ArePlain words)
  where
    -- the parse is exact
    exact : is_simple_and_free (app_of command) ≡ true
    exact = ap is_simple_and_free is.shape ∙ motion_is_free

    -- a parse that succeeds has found what the words ask for
    pub parsed : (m : ArgMatches)
        → (is_simple_and_free (app_of command) ≡ true → fault_of (app_of command) words ≡ [])
        → HasMatchesOf (app_of command) words m
        → request_found (subcommand_rows_of m) ≡ asked_by words
    parsed m faultless has =
        let found = (has (ap is_simple is.shape ∙ motion_is_simple)).1 in
        ap request_found (found ∙ ap (λ app. subcommand_of app words) is.shape)
        ∙ sym (plain_read words plain
        ∙ ap (λ kinds. found_by kinds (subcommand_of motion words))
        (ap (λ app. fault_of app words) (sym is.shape) ∙ faultless exact))

    -- a parse that is refused, and not for out of memory, was given no request
    pub refused : (e : Error)
        → (is_simple_and_free (app_of command) ≡ true → HasKind (fault_of (app_of command) words) e)
        → (kind_of e ≡ OutOfMemory → ⊥) → None ≡ asked_by words
    refused e kinds remembered =
        sym (plain_read words plain
        ∙ ap (λ app. found_by (fault_of app words) (subcommand_of motion words)) (sym is.shape)
        ∙ go (fault_of (app_of command) words) (kinds exact))
      where
        go : (ks : Kinds) → HasKind ks e → found_by ks (subcommand_of motion words) ≡ None
        go [] has = absurd (⊎_elim remembered (λ none. none) has)
        go (k ∷ ks) has = refl
