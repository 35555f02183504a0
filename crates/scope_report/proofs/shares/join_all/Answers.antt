-- Each share is put after those before it, and the last one ends at the end.
use Rattle.std.proofs.Common.{◌≡◌, ◌+◌, ◌<◌, length, take, ap, sym, subst, ◌∙◌, arith}
use Rattle.std.proofs.lemmas.List.{take_all}
use Rattle.trace_text.specs.TraceState.{entries_of}
use Rattle.scope_report.specs.Cuts.{between_cuts, cut_at}
use Rattle.scope_report.specs.Shares.{IsShareOf, share_of}
use Rattle.scope_report.proofs.Cutting.{cut-further, cut-last, take-further}
use Rattle.scope_report.proofs.Counted.{can-merge, can-sum, share-there, shares-few, shares-join}
use Rattle.scope_report.proofs.shares.join_all.Goals as goal

pub join-requires-clause-merge : goal.join-requires-clause-merge
join-requires-clause-merge c =
    let t = c.args.trace.now in let es = entries_of t in
    let k = c.loop-share.share-index in let w = c.args.count in
    let a = cut_at (length es) w k in let b = cut_at (length es) w (k + 1) in
    let r = c.share-item.result in
    let within : k < w = omega (arith, c.loop-share-test.true, c.requires.len) in
    let h = share-there (IsShareOf t.config (share_of t w k)) c.args.shares.now k r c.in-Ok.share
    c.share-item.is c.in-Ok.is (c.requires.each k r within) in
    can-merge (length t.config.axes) (length t.config.blocks) (take a es) (between_cuts a b es) _ _
    c.loop-share.invariant h
    (shares-few a b es (cut-further (length es) w k c.requires.some) (omega arith))

pub join-requires-clause-sum : goal.join-requires-clause-sum
join-requires-clause-sum c =
    let t = c.args.trace.now in let es = entries_of t in
    let k = c.loop-share.share-index in let w = c.args.count in
    let a = cut_at (length es) w k in let b = cut_at (length es) w (k + 1) in
    let r = c.share-item.result in
    let within : k < w = omega (arith, c.loop-share-test.true, c.requires.len) in
    let h = share-there (IsShareOf t.config (share_of t w k)) c.args.shares.now k r c.in-Ok.share
    c.share-item.is c.in-Ok.is (c.requires.each k r within) in
    can-sum (length t.config.axes) (length t.config.blocks) (take a es) (between_cuts a b es) _ _
    c.loop-share.invariant h
    (shares-few a b es (cut-further (length es) w k c.requires.some) (omega arith))

pub loop-share-preserved : goal.loop-share-preserved
loop-share-preserved c =
    let t = c.args.trace.now in let es = entries_of t in
    let k = c.loop-share.share-index in let w = c.args.count in
    let a = cut_at (length es) w k in let b = cut_at (length es) w (k + 1) in
    let r = c.share-item.result in
    let within : k < w = omega (arith, c.loop-share-test.true, c.requires.len) in
    let h = share-there (IsShareOf t.config (share_of t w k)) c.args.shares.now k r c.in-Ok.share
    c.share-item.is c.in-Ok.is (c.requires.each k r within) in
    subst (λ l. IsShareOf t.config l c.join.new.self)
    (sym (take-further a b es (cut-further (length es) w k c.requires.some)))
    (shares-join (length t.config.axes) (length t.config.blocks) (take a es) (between_cuts a b es)
    _ _ _ c.loop-share.invariant h c.join.ensures.axes c.join.ensures.blocks)

pub returns : goal.returns
returns c =
    let t = c.args.trace.now in let es = entries_of t in let w = c.args.count in
    let k : c.loop-share.share-index ≡ w =
    omega (arith, c.loop-share-test.false, c.loop-share.auto.share-index-end, c.requires.len) in
    subst (λ l. IsShareOf t.config l c.loop-share.so_far)
    (ap (λ i. take (cut_at (length es) w i) es) k
    ∙ ap (λ i. take i es) (cut-last (length es) w c.requires.some)
    ∙ take_all (length es) es (omega arith)) c.loop-share.invariant
