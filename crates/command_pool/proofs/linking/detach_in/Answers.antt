-- The place that is passed next is the first of those that are left.
use Rattle.std.proofs.Common.{◌≡◌, refl, ◌∙◌, sym, ap, ◌<◌, ◌-◌, get_or, set, length, vec_len, arith}
use Rattle.command_pool.specs.Layout.{chain, commands_of, links_of}
use Rattle.command_pool.proofs.Detached.{first_within, none_left, passes_place}
use Rattle.command_pool.proofs.linking.detach_in.Goals as goal

pub loop-passed-init : goal.loop-passed-init
unfolding chain
loop-passed-init c =
    let whole : c.args.queue.count - 0 ≡ c.args.queue.count = omega arith in
    record { links = refl; len = refl; within = rw whole c.requires.places; commands = rw whole refl }

pub index_mut-requires : goal.index_mut-requires
index_mut-requires c =
    let h = first_within (links_of c.args.records.now.items) c.loop-passed.place c.loop-passed._passed c.args.queue.count
    (vec_len c.args.records.now) c.loop-passed-test.true c.loop-passed.invariant.within in
    omega (arith, h, c.loop-passed.invariant.len)

pub next_of-place-requires : goal.next_of-place-requires
next_of-place-requires c =
    let h = first_within (links_of c.args.records.now.items) c.loop-passed.place c.loop-passed._passed c.args.queue.count
    (vec_len c.args.records.now) c.loop-passed-test.true c.loop-passed.invariant.within in
    omega (arith, h, c.loop-passed.invariant.len)

pub loop-passed-preserved : goal.loop-passed-preserved
loop-passed-preserved c =
    let links = links_of c.args.records.now.items in
    let rs = c.loop-passed.records.items in
    let below = first_within links c.loop-passed.place c.loop-passed._passed c.args.queue.count
    (vec_len c.args.records.now) c.loop-passed-test.true c.loop-passed.invariant.within in
    let there : c.loop-passed.place < length rs = omega (arith, below, c.loop-passed.invariant.len, c.loop-passed.records.ok.0) in
    let h = passes_place c.args.owner c.loop-passed.place c.loop-passed._passed c.args.queue.count (vec_len c.args.records.now) links
    rs c.index_mut.result.now c.detach_from.new.wanted c.loop-passed-test.true c.loop-passed.invariant.links there
    c.index_mut.ensures.value c.detach_from.ensures in
    let after = set rs c.loop-passed.place (record { wanted = c.detach_from.new.wanted; next = c.index_mut.result.now.next }) in
    let next : c.next_of-place.result ≡ get_or links c.loop-passed.place 0 =
    c.next_of-place.ensures ∙ ap (λ ls. get_or ls c.loop-passed.place 0) (h.links ∙ c.loop-passed.invariant.links) in
    record {
      links = h.links ∙ c.loop-passed.invariant.links;
      len = c.loop-passed.invariant.len;
      within = rw next (h.within c.loop-passed.invariant.within);
      commands = rw next (h.commands ∙ c.loop-passed.invariant.commands);
    }

pub returns-clause-links : goal.returns-clause-links
returns-clause-links c = c.loop-passed.invariant.links

pub returns-clause-commands : goal.returns-clause-commands
returns-clause-commands c =
    sym (none_left c.args.owner (links_of c.args.records.now.items) c.loop-passed.place c.loop-passed._passed c.args.queue.count
    (commands_of c.loop-passed.records.items) c.loop-passed-test.false) ∙ c.loop-passed.invariant.commands
