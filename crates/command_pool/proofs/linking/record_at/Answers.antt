-- The record that is reached is that of the place.
use Rattle.std.proofs.Common.{◌≡◌, refl, ◌∙◌, sym, ℕ, suc, ◌+◌, ◌-◌, ◌<◌, Some, List, vec_len, get_or, arith}
use Rattle.std.specs.Prelude.{slice_get}
use Rattle.command_pool.specs.Layout.{chain, links_of, places, times}
use Rattle.command_pool.proofs.Detached.{first_within}
use Rattle.command_pool.proofs.Times.{counted}
use Rattle.command_pool.proofs.linking.record_at.Goals as goal

-- the place that is looked for is among those after the first
behind : (links : List ℕ) (at passed count place : ℕ) → passed < place → passed < count →
    slice_get (places links at (count - passed)) (place - passed) ≡
    slice_get (places links (get_or links at 0) (count - (passed + 1))) (place - (passed + 1))
unfolding places
behind links at passed count place before there =
    let left : count - passed ≡ suc (count - (passed + 1)) = omega arith in
    let far : place - passed ≡ suc (place - (passed + 1)) = omega arith in
    rw (left, far) refl

-- the places after the first are records', too
later : (links : List ℕ) (at passed count most : ℕ) → passed < count →
    ((k : ℕ) → 0 < times k (places links at (count - passed)) → k < most) →
    (k : ℕ) → 0 < times k (places links (get_or links at 0) (count - (passed + 1))) → k < most
unfolding places
later links at passed count most there within k some =
    let left : count - passed ≡ suc (count - (passed + 1)) = omega arith in
    let least = (counted k at (places links (get_or links at 0) (count - (passed + 1)))).least in
    within k (rw left (omega arith))

-- the first of the places that are left
here : (links : List ℕ) (at passed count place : ℕ) → passed ≡ place → passed < count →
    slice_get (places links at (count - passed)) (place - passed) ≡ Some at
unfolding places
here links at passed count place e there =
    let left : count - passed ≡ suc (count - (passed + 1)) = omega arith in
    let none : place - passed ≡ 0 = omega arith in
    rw (left, none) refl

pub loop-passed-init : goal.loop-passed-init
unfolding chain
loop-passed-init c =
    let whole : c.args.queue.count - 0 ≡ c.args.queue.count = omega arith in
    let far : c.args.place - 0 ≡ c.args.place = omega arith in
    record { within = rw whole c.requires.places; same = rw (whole, far) refl; before = omega arith }

pub next_of-at-requires : goal.next_of-at-requires
next_of-at-requires c =
    first_within (links_of c.args.records.now.items) c.loop-passed.at c.loop-passed._passed c.args.queue.count (vec_len c.args.records.now)
    (omega (arith, c.loop-passed-test.true, c.requires.there)) c.loop-passed.invariant.within

pub loop-passed-preserved : goal.loop-passed-preserved
loop-passed-preserved c =
    let links = links_of c.args.records.now.items in
    let there : c.loop-passed._passed < c.args.queue.count = omega (arith, c.loop-passed-test.true, c.requires.there) in
    let next : c.next_of-at.result ≡ get_or links c.loop-passed.at 0 = c.next_of-at.ensures in
    record {
      within = rw next (later links c.loop-passed.at c.loop-passed._passed c.args.queue.count (vec_len c.args.records.now) there c.loop-passed.invariant.within);
      same = rw next (sym (behind links c.loop-passed.at c.loop-passed._passed c.args.queue.count c.args.place c.loop-passed-test.true there) ∙
          c.loop-passed.invariant.same);
      before = omega (arith, c.loop-passed-test.true);
    }

pub returns-clause-at : goal.returns-clause-at
returns-clause-at c =
    let e : c.loop-passed._passed ≡ c.args.place = omega (arith, c.loop-passed-test.false, c.loop-passed.invariant.before) in
    sym c.loop-passed.invariant.same ∙
    here (links_of c.args.records.now.items) c.loop-passed.at c.loop-passed._passed c.args.queue.count c.args.place e
    (omega (arith, c.requires.there))

pub returns-clause-below : goal.returns-clause-below
returns-clause-below c =
    let e : c.loop-passed._passed ≡ c.args.place = omega (arith, c.loop-passed-test.false, c.loop-passed.invariant.before) in
    first_within (links_of c.args.records.now.items) c.loop-passed.at c.loop-passed._passed c.args.queue.count (vec_len c.args.records.now)
    (omega (arith, c.requires.there)) c.loop-passed.invariant.within
