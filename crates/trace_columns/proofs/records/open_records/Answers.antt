-- All records are left.
use Rattle.std.proofs.Common.{◌∙◌, sym, ap, inr}
use Rattle.csv.specs.Reading.{builder_config, builder_names_headers, builder_trim, strip_bom}
use Rattle.trace_columns.specs.Records.{rest_from}
use Rattle.trace_columns.proofs.RecordLaws.{records-rest}
use Rattle.trace_columns.proofs.records.open_records.Goals as goal

pub returns : goal.returns
returns c = record {
  config = c.from_reader.ensures.config ∙ ap (λ b. builder_config b) c.flexible.ensures ∙ ap (λ b. builder_config b) c.has_headers.ensures ∙ c.new.ensures.config;
  trim = c.from_reader.ensures.trim ∙ ap (λ b. builder_trim b) c.flexible.ensures ∙ ap (λ b. builder_trim b) c.has_headers.ensures ∙ c.new.ensures.trim;
  ready = inr (inr (
    c.from_reader.ensures.has_headers ∙ ap (λ b. builder_names_headers b) c.flexible.ensures ∙ ap (λ b. builder_names_headers b) c.has_headers.ensures,
    c.from_reader.ensures.headers,
  ));
  text = strip_bom c.args.text.now;
  source = c.from_reader.ensures.source;
  rest = records-rest c.args.text.now ∙ ap (λ s. rest_from s (strip_bom c.args.text.now)) (sym c.from_reader.ensures.state);
}
