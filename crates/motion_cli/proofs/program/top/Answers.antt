-- Each clause follows from how the program ended.
use Rattle.std.specs.Prelude.{◌≡◌, refl, ℕ, ◌+◌, length}
use Rattle.std.specs.Option.{option_and_then}
use Rattle.std.proofs.Common.{◌∙◌, ap, inl, inr, subst, sym}
use Rattle.std.proofs.lemmas.List.{append-nil}
use Rattle.command_words.specs.Requests.{asked_of, files_of}
use Rattle.outside.specs.Faults.{Rose}
use Rattle.trace_text.specs.writing.Writes.{Output}
use Rattle.motion_cli.proofs.AskedLaws.{request-told}
use Rattle.motion_cli.proofs.SaidLaws.{said, said-early}
use Rattle.motion_cli.specs.Ends.{EndsByRequest}
use Rattle.motion_cli.proofs.program.top.Goals as goal

pub returns-in-Ok : goal.returns-in-Ok
returns-in-Ok g c =
    let told = g.F.Files.told c.args.files.now in
    let rose = Rose (g.F.Files.count c.args.files.now) (g.F.Files.count c.serve.new.files) in
    let refused = Rose c.args.spawner.now.faults c.serve.new.spawner.faults in
    let Started : ℕ → Type 0 =
    λ n. length c.serve.new.spawner.jobs ≡ length c.args.spawner.now.jobs + n in
    let asked = asked_of c.args.words.now in
    let old : Output = record {
      count = g.K.Sink.count c.args.out.now;
      told = g.K.Sink.told c.args.out.now;
    } in
    let new : Output = record {
      count = g.K.Sink.count c.serve.new.out;
      told = g.K.Sink.told c.serve.new.out;
    } in
    let is_asked = request-told _ _ c.in-Ok.ensures in
    let by : EndsByRequest told rose refused Started asked old new c.serve.result =
    subst (λ a. EndsByRequest told rose refused Started a old new c.serve.result) is_asked
    c.serve.ensures.ends in
    record {
      ends = inl by;
      said = said c.room_leads_to_ok.ensures told rose refused Started asked
          old new c.serve.result by;
      joined = c.serve.ensures.joined;
      alone = λ none. c.serve.ensures.alone (ap (option_and_then files_of) is_asked ∙ none);
    }

pub returns-in-Err : goal.returns-in-Err
returns-in-Err g c = record {
  ends = inr (record { status = refl; output = refl });
  said = said-early _ _ _ _ (asked_of c.args.words.now) _ _ _
      (record { status = refl; output = refl });
  joined = (0, sym (append-nil c.args.spawner.now.jobs));
  alone = λ none. refl;
}
