use Rattle.std.proofs.Common.{◌≡◌, ◌+◌, ◌<◌, [], ◌∷◌, ◌++◌, length, take, get_or, ap, sym, ◌∙◌, arith}
use Rattle.std.proofs.lemmas.List.{take_more}
use Rattle.std.proofs.lemmas.Grind.{common_steps}
use Rattle.scope_report.specs.Reports.{block_report_of, block_reports_from}
use Rattle.scope_report.specs.Replies.{replies_of}
use Rattle.scope_report.proofs.Named.{blocks-more}
use Rattle.scope_report.proofs.naming.name_blocks.Goals as goal

pub loop-block-preserved : goal.loop-block-preserved
loop-block-preserved c es are =
    let i = c.loop-block.block in let ds = c.args.blocks.now in
    let d = c.index-blocks-block.result in
    let lt : i < length ds = c.loop-block-test.true in
    let n : i ≡ 0 + length (take i ds) = grind (arith, common_steps) in
    let before = block_reports_from 0 (take i ds) es in
    c.in-Ok.ensures.items
    ∙ ap (λ l. l ++ c.name_block.result ∷ []) (c.loop-block.invariant es are)
    ∙ ap (λ r. before ++ r ∷ []) (c.name_block.ensures (replies_of i es) (are i _ (omega (arith, lt, c.requires))))
    ∙ ap (λ k. before ++ block_report_of (get_or ds i d).name (replies_of k es) ∷ []) n
    ∙ sym (blocks-more 0 (take i ds) (get_or ds i d) es)
    ∙ ap (λ l. block_reports_from 0 l es) (sym (take_more ds i d lt))
