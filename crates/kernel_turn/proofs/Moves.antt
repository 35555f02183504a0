-- Each step keeps the rule.
-- for: turn_call, turn_cycle, turn_end and others
use Rattle.std.proofs.Common.{◌≡◌, ◌≢◌, ◌⊎◌, ℕ, zero, suc, ◌+◌, ◌%◌, ◌^◌, ◌<◌, ◌≤◌, List, [], ◌∷◌, ◌++◌, Bool, true, false, Option, Some, None, eqb, eq-eqb, ne_eqb, set, length, refl, sym, ap, ◌∙◌, subst, inl, inr, ⊎_elim, arith, length-append, append_assoc, append-nil, MatchBool}
use Rattle.std.specs.Prelude.{slice_index, nat_le, ◌||◌, if◌then◌else◌}
use Rattle.std.proofs.Math.Nat.{mod-add-mod}
use Rattle.std.proofs.lemmas.Bool.{leb-true, or_right}
use Rattle.std.proofs.lemmas.Bool.Decides.{leb_tells}
use mathlib.Core.Logic.{dite}
use mathlib.Core.List.{IsPrefix}
use mathlib.Core.Option.{some, none, some-injective, some-ne-none}
use native.Mathlib.Decide.{ℕ_discrete, dec_le}
use lib.ListN.{get_elem?}
use Rattle.atomic_table.specs.Table.{State, Act, Allows, Splits, Joins, Valid, carried_after, keeps, takes, gives, rest, opening, Step, step, stepped}
use Rattle.atomic_table.proofs.Lists.{at_set, at_snoc, at_longer, set_else, set_again, one_turn}
use Rattle.motion_history.specs.Setup.{Setup}
use Rattle.motion_history.specs.Entries.{Entry}
use Rattle.motion_kernel.specs.KernelState.{KernelState}
use Rattle.kernel_turn.specs.PermitView.{PermitView}
use Rattle.kernel_turn.specs.Steps.{Draws, Grows, IsWhole, Looks, Passes, Seated, Settles, Takes}
use Rattle.kernel_turn.specs.Views.{IsIdle, longer, opening_view, settled_view, spent_view, split_view, ticket_of, view_after_join, view_after_split, view_after_turn, was_stopped, with_found, with_number, word_of}
use Rattle.kernel_turn.specs.Times.{one, times, once_below}
use Rattle.kernel_turn.specs.Rule.{Invariant, Fits, Is, Counted, Home, Away, Homes, living, with_kernel, stoppers, if_hand, if_hand_is, if_found}
use Rattle.kernel_turn.proofs.Totals.{total_set, total_snoc, total_at, total_two, total_le, total_some, total_only, one_same, one_le, one_true, one_false, below_no, below_yes, below_le, times-append, hand_none, hand_some, hand_le, is_none, is_some, found_none, found_some, found_is, here}

nones : {A B : Type 0} (o : Option A) (x : A) → o ≡ None → o ≡ Some x → B
nones o x n e = absurd (cc)

off : (b : Bool) → b ≡ true → b ≡ false → ⊥
off b t f = absurd (cc)

word_some : (o : Option ℕ) (h : ℕ) → o ≡ Some h → word_of o ≡ h % 2 ^ 64
unfolding word_of
word_some o h e = ap word_of e

some_is : (f g : KernelState) → Some f ≡ Some g → f ≡ g
some_is f g e = cc

or_le : (a b : Bool) → one b ≤ one (a || b)
or_le true b = let z = one_true true refl in let y = one_le b in omega arith
or_le false b = omega arith

away : (c : Setup) (s : State (Option KernelState) PermitView) (k : Invariant c s) (id : ℕ) (v : PermitView) (f : KernelState) → get_elem? s.views id ≡ some v → v.found ≡ Some f → Away s.homes s.views
away c s k id v f at found =
    ⊎_elim
    (λ (a : Away s.homes s.views). a)
    (λ (a : Home c k.history s.homes s.views).
    let n = a.2 in
    let z = total_at (λ (u : PermitView). if_found u.found) s.views id v at in
    let y = found_some v.found f found in
    absurd (omega arith))
    k.place

prefix_more : (xs ys zs : List Entry) → IsPrefix xs ys → IsPrefix xs (ys ++ zs)
prefix_more xs ys zs pre = (pre.0 ++ zs, sym (append_assoc xs pre.0 zs) ∙ ap (λ es. es ++ zs) pre.1)

stopped_when : (stop fs gs ms : Bool) (st st' : ℕ) → one ms ≤ st → st' + one ms ≡ st + one (stop || ms) → gs ≡ (fs || stop) → (fs ≡ true → 0 < st) → gs ≡ true → 0 < st'
stopped_when true fs gs ms st st' at eq is has e = let a = one_true true refl in omega arith
stopped_when false true gs ms st st' at eq is has e = let a = has refl in let b = or_le false ms in omega arith
stopped_when false false gs ms st st' at eq is has e = absurd (off gs e is)

stopped_by : (stop fs gs ms : Bool) (st st' : ℕ) → st' + one ms ≡ st + one (stop || ms) → gs ≡ (fs || stop) → (0 < st → fs ≡ true) → 0 < st' → gs ≡ true
stopped_by true fs gs ms st st' eq is has z = is ∙ or_right fs true refl
stopped_by false fs gs ms st st' eq is has z =
    let same : st' + one ms ≡ st + one ms = eq in
    is ∙ ap (λ b. b || false) (has (omega arith))

-- where a permit has made or met a stop the kernel is stopped
stays : (made met : Bool) (st : ℕ) (stopped : Bool) → (made ≡ true → 0 < st) → (met ≡ true → 0 < st) → (0 < st → stopped ≡ true) → (made || met) ≡ true → stopped ≡ true
stays true met st stopped a b is e = is (a refl)
stays false met st stopped a b is e = is (b e)

met_when : (met fs ms stop : Bool) (st st' : ℕ) → st' + one ms ≡ st + one (stop || ms) → (met ≡ true → 0 < st) → (fs ≡ true → 0 < st) → (met || fs) ≡ true → 0 < st'
met_when true fs ms stop st st' eq a b e = let x = a refl in let y = or_le stop ms in omega arith
met_when false fs ms stop st st' eq a b e = let x = b e in let y = or_le stop ms in omega arith

ticket_times : (o : Option KernelState) (f g : KernelState) (added : List Entry) → o ≡ Some f → length added ≤ 1 → g.history ≡ f.history ++ added → (x : ℕ) → once_below x (length g.history) ≡ once_below x (length f.history) + times x (ticket_of o g)
unfolding ticket_of
ticket_times o f g added is few grown x = subst (λ p. once_below x (length g.history) ≡ once_below x (length f.history) + times x (ticket_of p g)) (sym is) (go added few grown)
  where
    go : (added : List Entry) → length added ≤ 1 → g.history ≡ f.history ++ added → once_below x (length g.history) ≡ once_below x (length f.history) + times x (ticket_of (Some f) g)
    go [] few grown =
        let l : length g.history ≡ length f.history = ap length grown ∙ (length-append f.history [] ∙ omega arith) in
        rw (eq-eqb _ _ l) (omega (arith, ap (once_below x) l))
    go (e ∷ []) few grown =
        let l : length g.history ≡ suc (length f.history) = ap length grown ∙ (length-append f.history (e ∷ []) ∙ omega arith) in
        rw (ne_eqb (length g.history) (length f.history) (λ z. omega arith)) (omega (arith, ap (once_below x) l))
    go (e ∷ e' ∷ es) few grown = absurd (omega arith)

fits_more : (c : Setup) (h : List Entry) (st st' p i : ℕ) (v : PermitView) → (0 < st → 0 < st') → (0 < st' → 0 < st) → Fits c h st p i v → Fits c h st' p i v
fits_more c h st st' p i v more less k = record {
  first = k.first;
  aside = k.aside;
  config_is = k.config_is;
  seen = k.seen;
  spent = k.spent;
  found = λ f e. let r = k.found f e in (r.0, record { config_is = r.1.config_is; history_is = r.1.history_is; stop = λ s. more (r.1.stop s); stopped = λ s. r.1.stopped (less s) });
  stop = λ e. more (k.stop e);
}

each_set : (c : Setup) (h : List Entry) (st p : ℕ) (views : List PermitView) (id : ℕ) (w : PermitView) → ((j : ℕ) (u : PermitView) → j ≢ id → get_elem? views j ≡ some u → Fits c h st p j u) → Fits c h st p id w → (j : ℕ) (u : PermitView) → get_elem? (set views id w) j ≡ some u → Fits c h st p j u
each_set c h st p views id w others mine j u e =
    ⊎_elim
    (λ (t : (j ≡ id) × (w ≡ u)). subst (λ (y : ℕ × PermitView). Fits c h st p y.0 y.1) (λ l. (sym t.0 l, t.1 l)) mine)
    (λ (t : (j ≢ id) × (get_elem? views j ≡ some u)). others j u t.0 t.1)
    (at_set views id j w u e)

place_same : (c : Setup) (h : List Entry) (homes : Homes) (views views' : List PermitView) → with_kernel views' ≡ with_kernel views → (0 < stoppers views → 0 < stoppers views') → (0 < stoppers views' → 0 < stoppers views) → Away homes views ⊎ Home c h homes views → Away homes views' ⊎ Home c h homes views'
place_same c h homes views views' same more less place =
    ⊎_elim
    (λ (a : Away homes views). inl (a.0, same ∙ a.1))
    (λ (a : Home c h homes views). inr (a.0, a.1, same ∙ a.2, record { config_is = a.3.config_is; history_is = a.3.history_is; stop = λ s. more (a.3.stop s); stopped = λ s. a.3.stopped (less s) }))
    place

counted_set : (views : List PermitView) (id : ℕ) (v w : PermitView) → get_elem? views id ≡ some v → w.live ≡ v.live → w.out ≡ v.out → Counted views → Counted (set views id w)
counted_set views id v w at live out h =
    let t = total_set (λ (u : PermitView). one u.live) views id v w at in
    let l : one w.live ≡ one v.live = ap one live in
    dite (ℕ_discrete 0 id)
    (λ e.
    let same : h.0 ≡ v = some-injective _ _ (sym h.1 ∙ subst (λ (i : ℕ). get_elem? views i ≡ some v) (sym e) at) in
    let o : h.0.out ≡ v.out = ap (λ (u : PermitView). u.out) same in
    let a = h.3 in
    let b = h.4 in
    (w, subst (λ (i : ℕ). get_elem? (set views i w) 0 ≡ some w) e (here views 0 v w (subst (λ (i : ℕ). get_elem? views i ≡ some v) (sym e) at)), live ∙ (sym (ap (λ (u : PermitView). u.live) same) ∙ h.2), omega arith, omega arith))
    (λ n. let a = h.3 in (h.0, set_else views id 0 w n ∙ h.1, h.2, omega arith, h.4))

pub draws : (c : Setup) (slots id : ℕ) (v : PermitView) → IsIdle v → Allows (Invariant c) slots id (v, []) 0 (λ n. (n + 1) % 2 ^ 64) (Draws (step slots 0 1 0 none) (v, []))
draws c slots id v idle s k long at word =
    let w = with_number v k.drawn in
    let mine = k.each id v at in
    let stops = total_set (λ (u : PermitView). one u.made_stop) s.views id v w at in
    let kernels = total_set (λ (u : PermitView). if_found u.found) s.views id v w at in
    let hand = hand_none v.hand idle.hand in
    let now = hand_some w.hand k.drawn refl in
    let waits = total_set (λ (u : PermitView). if_hand u.hand) s.views id v w at in
    let before = k.wait in
    let d : ℕ = k.drawn in
    let p : ℕ = k.passed in (
      w,
      keeps,
      tt,
      record {
        history = k.history;
        drawn = suc k.drawn;
        passed = k.passed;
        words = (λ j. set (k.words j) 0 ((slice_index (k.words j) 0 + 1) % 2 ^ 64)) ∙ ap (λ (n : ℕ). n ∷ p % 2 ^ 64 ∷ []) (mod-add-mod d (2 ^ 64) 1 ∙ ap (λ (n : ℕ). n % 2 ^ 64) (omega arith));
        wait = omega arith;
        hands = λ x.
            let t = total_set (λ (u : PermitView). if_hand_is x u.hand) s.views id v w at in
            let a = is_none x v.hand idle.hand in
            let b = is_some x w.hand d refl in
            let h = k.hands x in
            omega arith;
        tickets = λ x. let t = total_set (λ (u : PermitView). times x u.own) s.views id v w at in let h = k.tickets x in omega arith;
        each = each_set c k.history _ _ s.views id w (λ j u apart e. fits_more c k.history _ _ p j u (λ z. omega arith) (λ z. omega arith) (k.each j u e)) (record {
          first = mine.first;
          aside = mine.aside;
          config_is = mine.config_is;
          seen = mine.seen;
          spent = λ e. absurd (off v.live idle.live e);
          found = λ f e. nones v.found f idle.found e;
          stop = λ e. let z = mine.stop e in omega arith;
        });
        place = place_same c k.history s.homes s.views _ (omega arith) (λ z. omega arith) (λ z. omega arith) k.place;
        count = counted_set s.views id v w at refl refl k.count;
      },
      (k.drawn, sym (ap (λ (ws : List ℕ). slice_index ws 0) k.words), refl),
    )

pub draws_at : (c : Setup) (slots id : ℕ) (m : Seated) → IsIdle m.0 → m.1 ≡ [] → Allows (Invariant c) slots id m 0 (λ n. (n + 1) % 2 ^ 64) (Draws (step slots 0 1 0 none) m)
draws_at c slots id m idle empty = subst (λ xs. Allows (Invariant c) slots id (m.0, xs) 0 (λ n. (n + 1) % 2 ^ 64) (Draws (step slots 0 1 0 none) (m.0, xs))) (sym empty) (draws c slots id m.0 idle)

-- a hand is among the numbers drawn and not passed
hand_between : (c : Setup) (s : State (Option KernelState) PermitView) (k : Invariant c s) (id : ℕ) (v : PermitView) (h : ℕ) → get_elem? s.views id ≡ some v → v.hand ≡ Some h → (k.passed ≤ h) × (h < k.drawn)
hand_between c s k id v h at hand =
    let one_here = total_at (λ (u : PermitView). if_hand_is h u.hand) s.views id v at in
    let a = is_some h v.hand h hand in
    let b = one_same h h refl in
    let sum = k.hands h in
    let p : ℕ = k.passed in
    let d : ℕ = k.drawn in
    let most = below_le h d in
    (dite (dec_le p h) (λ z. z) (λ z. let y = below_yes h p (omega arith) in absurd (omega arith)), dite (dec_le d h) (λ z. let y = below_no h d z in absurd (omega arith)) (λ z. omega arith))

waiting_le : (c : Setup) (s : State (Option KernelState) PermitView) (k : Invariant c s) → k.drawn ≤ k.passed + 1001
waiting_le c s k =
    let n = k.count in
    let few = n.4 in
    let all = n.3 in
    let w = k.wait in
    let le = total_le (λ (u : PermitView). if_hand u.hand) (λ (u : PermitView). one u.live) s.views (λ i u e. one_hand u (k.each i u e)) in
    omega arith
  where
    one_hand : {h : List Entry} {st p i : ℕ} (u : PermitView) → Fits c h st p i u → if_hand u.hand ≤ one u.live
    one_hand u f = go u.live refl
      where
        go : (b : Bool) → u.live ≡ b → if_hand u.hand ≤ one u.live
        go true e = let a = one_true u.live e in let b = hand_le u.hand in omega arith
        go false e = let a = hand_none u.hand (f.spent e).1 in omega arith

-- no two permits have one number
alone : (c : Setup) (s : State (Option KernelState) PermitView) (k : Invariant c s) (i j : ℕ) (v u : PermitView) (h : ℕ) → i ≢ j → get_elem? s.views i ≡ some v → get_elem? s.views j ≡ some u → v.hand ≡ Some h → u.hand ≡ Some h → ⊥
alone c s k i j v u h apart at there mine theirs =
    let two = total_two (λ (x : PermitView). if_hand_is h x.hand) s.views i j v u apart at there in
    let a = is_some h v.hand h mine in
    let b = is_some h u.hand h theirs in
    let o = one_same h h refl in
    let sum = k.hands h in
    let most = below_le h k.drawn in
    absurd (omega arith)

-- the kernel is at home where no permit with the next number has it
at_home : (c : Setup) (s : State (Option KernelState) PermitView) (k : Invariant c s) (id : ℕ) (v : PermitView) → get_elem? s.views id ≡ some v → v.hand ≡ Some k.passed → v.found ≡ None → Home c k.history s.homes s.views
at_home c s k id v at hand found =
    ⊎_elim
    (λ (a : Away s.homes s.views).
    let n = a.1 in
    let r = total_some (λ (u : PermitView). if_found u.found) s.views (omega arith) in
    let f = found_is r.1.found r.3 in
    let theirs = ((k.each r.0 r.1 r.2).found f.0 f.1).0 in
    dite (ℕ_discrete id r.0)
    (λ e.
    let same : v ≡ r.1 = some-injective _ _ (sym at ∙ subst (λ (i : ℕ). get_elem? s.views i ≡ some r.1) (sym e) r.2) in
    absurd (nones v.found f.0 found (ap (λ (u : PermitView). u.found) same ∙ f.1)))
    (λ apart. absurd (alone c s k id r.0 v r.1 k.passed apart at r.2 hand theirs)))
    (λ (a : Home c k.history s.homes s.views). a)
    k.place

-- where no permit is out, the opening permit has all tickets and all stops
whole : (c : Setup) (s : State (Option KernelState) PermitView) (k : Invariant c s) (id : ℕ) (v : PermitView) (f : KernelState) → get_elem? s.views id ≡ some v → Is c k.history (stoppers s.views) f → v.opening ≡ true → v.out ≡ 0 → IsWhole v f
whole c s k id v f at is opening none_out =
    let mine = k.each id v at in
    let n = k.count in
    let same : n.0 ≡ v = some-injective _ _ (sym n.1 ∙ subst (λ (i : ℕ). get_elem? s.views i ≡ some v) (mine.first opening) at) in
    let o : n.0.out ≡ v.out = ap (λ (u : PermitView). u.out) same in
    let l : v.live ≡ true = sym (ap (λ (u : PermitView). u.live) same) ∙ n.2 in
    let one_live = one_true v.live l in
    let all = n.3 in
    let alone_live : living s.views ≡ one v.live = omega arith in
    let dead : (j : ℕ) (u : PermitView) → get_elem? s.views j ≡ some u → one u.live ≡ 0 → u.live ≡ false = λ j u e z. zero_one u.live z in record {
      tickets = λ x.
          let t = total_only (λ (u : PermitView). times x u.own) (λ (u : PermitView). one u.live) s.views id v at alone_live (λ j u e z. ap (times x) ((k.each j u e).spent (dead j u e z)).0) in
          sym t ∙ (k.tickets x ∙ ap (λ (es : List Entry). once_below x (length es)) (sym is.history_is));
      stop = λ e.
          let t = total_only (λ (u : PermitView). one u.made_stop) (λ (u : PermitView). one u.live) s.views id v at alone_live (λ j u d z. one_false u.made_stop ((k.each j u d).spent (dead j u d z)).2) in
          let some_stop = either_stop f.stopped v.met_stop (stoppers s.views) is.stop mine.stop e in
          one_is v.made_stop (omega arith);
    }
  where
    zero_one : (b : Bool) → one b ≡ 0 → b ≡ false
    zero_one true z = let y = one_true true refl in absurd (omega arith)
    zero_one false z = refl

    one_is : (b : Bool) → 0 < one b → b ≡ true
    one_is true z = refl
    one_is false z = let y = one_false false refl in absurd (omega arith)

    either_stop : (a b : Bool) (n : ℕ) → (a ≡ true → 0 < n) → (b ≡ true → 0 < n) → (a || b) ≡ true → 0 < n
    either_stop true b n x y e = x refl
    either_stop false b n x y e = y e

same_table : (s : State (Option KernelState) PermitView) (w : List ℕ) (id : ℕ) (v : PermitView) → w ≡ s.words → get_elem? s.views id ≡ some v → s ≡ record { words = w; homes = s.homes; views = set s.views id v }
same_table s w id v e at = λ j. record { words = sym e j; homes = s.homes; views = sym (set_again s.views id v at) j }

pub looks : (c : Setup) (slots id : ℕ) (v : PermitView) (h : ℕ) → v.live ≡ true → v.hand ≡ Some h → v.found ≡ None → Allows (Invariant c) slots id (v, []) 1 (λ n. n) (Looks (step slots 1 0 0 none) (v, []))
looks c slots id v h live hand found s k long at word = dite (ℕ_discrete (slice_index s.words 1) (word_of v.hand)) hit miss
  where
    words : set s.words 1 (slice_index s.words 1) ≡ s.words
    words = (λ j. set (k.words j) 1 (slice_index (k.words j) 1)) ∙ sym k.words

    Goal : Type 0
    Goal = (w : PermitView) × (a : Act (Option KernelState)) × Valid s.homes [] a × Invariant c (stepped s 1 (slice_index s.words 1) id [] w a) × Looks (step slots 1 0 0 none) (v, []) (slice_index s.words 1) (w, carried_after [] a)

    miss : slice_index s.words 1 ≢ word_of v.hand → Goal
    miss n = (v, keeps, tt, subst (Invariant c) (same_table s _ id v words at) k, ((λ e. absurd (n e)), (λ _. refl)))

    hit : slice_index s.words 1 ≡ word_of v.hand → Goal
    hit e =
        let found_word : slice_index s.words 1 ≡ k.passed % 2 ^ 64 = ap (λ (ws : List ℕ). slice_index ws 1) k.words in
        let between = hand_between c s k id v h at hand in
        let low = between.0 in
        let high = between.1 in
        let most = waiting_le c s k in
        let same : k.passed ≡ h = one_turn k.passed h (2 ^ 64) low (omega arith) (sym found_word ∙ (e ∙ word_some v.hand h hand)) in
        let place = at_home c s k id v at (hand ∙ ap Some (sym same)) found in
        let f : KernelState = place.0 in
        let w = with_found v f in
        let mine = k.each id v at in
        let stops = total_set (λ (u : PermitView). one u.made_stop) s.views id v w at in
        let kernels = total_set (λ (u : PermitView). if_found u.found) s.views id v w at in
        let was = found_none v.found found in
        let now = found_some w.found f refl in
        let waits = total_set (λ (u : PermitView). if_hand u.hand) s.views id v w at in
        let wait = k.wait in
        let zero_now = place.2 in
        let homes : set s.homes 0 none ≡ none ∷ [] = ap (λ (hs : Homes). set hs 0 none) place.1 in (
          w,
          takes 0 (Some f),
          ap (λ (hs : Homes). get_elem? hs 0) place.1,
          record {
            history = k.history;
            drawn = k.drawn;
            passed = k.passed;
            words = words ∙ k.words;
            wait = omega arith;
            hands = λ x. let t = total_set (λ (u : PermitView). if_hand_is x u.hand) s.views id v w at in let z = k.hands x in omega arith;
            tickets = λ x. let t = total_set (λ (u : PermitView). times x u.own) s.views id v w at in let z = k.tickets x in omega arith;
            each = each_set c k.history _ _ s.views id w (λ j u apart z. fits_more c k.history _ _ _ j u (λ y. omega arith) (λ y. omega arith) (k.each j u z)) (record {
              first = mine.first;
              aside = mine.aside;
              config_is = mine.config_is;
              seen = mine.seen;
              spent = mine.spent;
              found = λ g z. (hand ∙ ap Some (sym same), subst (Is c k.history _) (some_is f g z) (record { config_is = place.3.config_is; history_is = place.3.history_is; stop = λ y. let q = place.3.stop y in omega arith; stopped = λ y. place.3.stopped (omega arith) }));
              stop = λ z. let y = mine.stop z in omega arith;
            });
            place = inl (homes, omega arith);
            count = counted_set s.views id v w at refl refl k.count;
          },
          ((λ _. (f, refl, subst (IsPrefix v.seen) (sym place.3.history_is) mine.seen, place.3.config_is ∙ sym (mine.config_is live), stays (v.made_stop) v.met_stop (stoppers s.views) f.stopped (λ e. let z = total_at (λ (u : PermitView). one u.made_stop) s.views id v at in let y = one_true v.made_stop e in omega arith) mine.stop place.3.stopped, whole c s k id v f at place.3)), (λ n. absurd (n e))),
        )

pub looks_at : (c : Setup) (slots id : ℕ) (m : Seated) (h : ℕ) → m.0.live ≡ true → m.0.hand ≡ Some h → m.0.found ≡ None → m.1 ≡ [] → Allows (Invariant c) slots id m 1 (λ n. n) (Looks (step slots 1 0 0 none) m)
looks_at c slots id m h live hand found empty = subst (λ xs. Allows (Invariant c) slots id (m.0, xs) 1 (λ n. n) (Looks (step slots 1 0 0 none) (m.0, xs))) (sym empty) (looks c slots id m.0 h live hand found)

pub passes : (stop : Bool) (c : Setup) (slots id : ℕ) (v : PermitView) (f g : KernelState) → v.live ≡ true → v.found ≡ Some f → Grows stop f g → Allows (Invariant c) slots id (v, (0, Some g) ∷ []) 1 (λ n. (n + 1) % 2 ^ 64) (Passes stop (step slots 1 1 0 none) (v, (0, Some g) ∷ []))
passes stop c slots id v f g live found grows s k long at word =
    let w = view_after_turn stop v g in
    let mine = k.each id v at in
    let had = mine.found f found in
    let d : ℕ = k.drawn in
    let p : ℕ = k.passed in
    let stops = total_set (λ (u : PermitView). one u.made_stop) s.views id v w at in
    let stop_le = or_le stop v.made_stop in
    let kernels = total_set (λ (u : PermitView). if_found u.found) s.views id v w at in
    let was = found_some v.found f found in
    let now = found_none w.found refl in
    let one_kernel = total_at (λ (u : PermitView). if_found u.found) s.views id v at in
    let waits = total_set (λ (u : PermitView). if_hand u.hand) s.views id v w at in
    let hand_was = hand_some v.hand p had.0 in
    let hand_now = hand_none w.hand refl in
    let wait = k.wait in
    let place = away c s k id v f at found in
    let one_away = place.1 in
    let homes : set s.homes 0 (some (Some g)) ≡ some (Some g) ∷ [] = ap (λ (hs : Homes). set hs 0 (some (Some g))) place.0 in
    let history : g.history ≡ k.history ++ grows.added = grows.history ∙ ap (λ es. es ++ grows.added) had.1.history_is in
    let more : (xs : List Entry) → IsPrefix xs k.history → IsPrefix xs g.history = λ xs pre. subst (IsPrefix xs) (sym history) (prefix_more xs k.history grows.added pre) in
    let stays_so : 0 < stoppers (set s.views id w) → g.stopped ≡ true = stopped_by stop f.stopped g.stopped v.made_stop _ _ stops grows.stopped had.1.stopped in
    let is_stopped : g.stopped ≡ true → 0 < stoppers (set s.views id w) = λ e. stopped_when stop f.stopped g.stopped v.made_stop _ _ (total_at (λ (u : PermitView). one u.made_stop) s.views id v at) stops grows.stopped had.1.stop e in (
      w,
      gives,
      tt,
      record {
        history = g.history;
        drawn = d;
        passed = suc p;
        words = (λ j. set (k.words j) 1 ((slice_index (k.words j) 1 + 1) % 2 ^ 64)) ∙ ap (λ (n : ℕ). d % 2 ^ 64 ∷ n ∷ []) (mod-add-mod p (2 ^ 64) 1 ∙ ap (λ (n : ℕ). n % 2 ^ 64) (omega arith));
        wait = omega arith;
        hands = λ x.
            let t = total_set (λ (u : PermitView). if_hand_is x u.hand) s.views id v w at in
            let a = is_some x v.hand p had.0 in
            let b = is_none x w.hand refl in
            let z = k.hands x in
            omega arith;
        tickets = λ x.
            let t = total_set (λ (u : PermitView). times x u.own) s.views id v w at in
            let z = k.tickets x in
            let a = times-append x v.own (ticket_of v.found g) in
            let b = ticket_times v.found f g grows.added found grows.few grows.history x in
            let l : once_below x (length f.history) ≡ once_below x (length k.history) = ap (λ (es : List Entry). once_below x (length es)) had.1.history_is in
            omega arith;
        each = each_set c g.history _ _ s.views id w (λ j u apart e.
            let theirs = k.each j u e in record {
              first = theirs.first;
              aside = more u.aside theirs.aside;
              config_is = theirs.config_is;
              seen = more u.seen theirs.seen;
              spent = theirs.spent;
              found = λ x z. absurd (alone c s k id j v u p (λ y. apart (sym y)) at e had.0 (theirs.found x z).0);
              stop = λ z. let y = theirs.stop z in omega arith;
            }) (record {
              first = mine.first;
              aside = more v.aside mine.aside;
              config_is = mine.config_is;
              seen = ([], append-nil g.history);
              spent = λ e. absurd (off v.live live e);
              found = λ x e. nones None x refl e;
              stop = λ e. met_when v.met_stop f.stopped v.made_stop stop _ _ stops mine.stop had.1.stop (ap (λ o. v.met_stop || was_stopped o) (sym found) ∙ e);
            });
        place = inr (g, homes, omega arith, record { config_is = grows.config ∙ had.1.config_is; history_is = refl; stop = is_stopped; stopped = stays_so });
        count = counted_set s.views id v w at refl refl k.count;
      },
      (g, refl, refl),
    )

pub passes_at : (stop : Bool) (c : Setup) (slots id : ℕ) (m : Seated) (g : KernelState) → m.0.live ≡ true → ((f : KernelState) × (m.0.found ≡ Some f) × Grows stop f g) → m.1 ≡ (0, Some g) ∷ [] → Allows (Invariant c) slots id m 1 (λ n. (n + 1) % 2 ^ 64) (Passes stop (step slots 1 1 0 none) m)
passes_at stop c slots id m g live grows held = subst (λ xs. Allows (Invariant c) slots id (m.0, xs) 1 (λ n. (n + 1) % 2 ^ 64) (Passes stop (step slots 1 1 0 none) (m.0, xs))) (sym held) (passes stop c slots id m.0 grows.0 g live grows.1 grows.2)

pub looked : (st : Step (Option KernelState)) (m m' : Seated) (n number h : ℕ) → h % 2 ^ 64 ≡ number → m.0.hand ≡ Some h → Looks st m n m' → MatchBool (eqb n number) (Takes m m') (m' ≡ m)
looked st m m' n number h is hand l =
    let word : word_of m.0.hand ≡ number = word_some m.0.hand h hand ∙ is in
    dite (ℕ_discrete n number)
    (λ e. subst (λ b. MatchBool b (Takes m m') (m' ≡ m)) (sym (eq-eqb n number e)) (l.0 (e ∙ sym word)))
    (λ d. subst (λ b. MatchBool b (Takes m m') (m' ≡ m)) (sym (ne_eqb n number d)) (l.1 (λ e. d (e ∙ word))))

pub held_rest : (xs : List (ℕ × Option KernelState)) (x : ℕ × Option KernelState) → xs ≡ x ∷ [] → xs ≡ x ∷ rest xs
held_rest xs x e = e ∙ ap (λ ys. x ∷ ys) (sym (ap rest e))

pub whole_drawn : (v : PermitView) (n : ℕ) (f : KernelState) → IsWhole (with_number v n) f → IsWhole v f
whole_drawn v n f w = record { tickets = w.tickets; stop = w.stop }

prefix_two : (xs ys h : List Entry) → IsPrefix xs h → IsPrefix ys h → length xs ≤ length ys → IsPrefix xs ys
prefix_two [] ys h p q le = (ys, refl)
prefix_two (x ∷ xs) [] h p q le = absurd (omega arith)
prefix_two (x ∷ xs) (y ∷ ys) [] p q le = let e = p.1 in absurd (cc)
prefix_two (x ∷ xs) (y ∷ ys) (z ∷ h) p q le =
    let a = p.1 in
    let b = q.1 in
    let t : xs ++ p.0 ≡ h = cc in
    let u : ys ++ q.0 ≡ h = cc in
    let same : x ≡ y = cc in
    let r = prefix_two xs ys h (p.0, t) (q.0, u) (omega arith) in
    (r.0, λ j. same j ∷ r.1 j)

pub longer_whole : (xs ys h : List Entry) → IsPrefix xs h → IsPrefix ys h → IsPrefix xs (longer xs ys) × IsPrefix ys (longer xs ys) × IsPrefix (longer xs ys) h
unfolding longer
longer_whole xs ys h p q = go (nat_le (length xs) (length ys)) refl
  where
    le_of : nat_le (length xs) (length ys) ≡ false → length ys ≤ length xs
    le_of e = ⊎_elim (λ (t : (nat_le (length xs) (length ys) ≡ true) × (length xs ≤ length ys)). absurd (off _ t.0 e)) (λ (t : (nat_le (length xs) (length ys) ≡ false) × (length ys < length xs)). let z = t.1 in omega arith) (leb_tells (length xs) (length ys))

    go : (b : Bool) → nat_le (length xs) (length ys) ≡ b → IsPrefix xs (if b then ys else xs) × IsPrefix ys (if b then ys else xs) × IsPrefix (if b then ys else xs) h
    go true e = (prefix_two xs ys h p q (leb-true _ _ e), ([], append-nil ys), q)
    go false e = (([], append-nil xs), prefix_two ys xs h q p (le_of e), p)

pub settles : (c : Setup) (slots id : ℕ) (v : PermitView) → IsIdle v → Allows (Invariant c) slots id (v, []) 0 (λ n. n) (Settles (step slots 0 0 0 none) (v, []))
settles c slots id v idle s k long at word =
    let w = settled_view v in
    let mine = k.each id v at in
    let l = longer_whole v.seen v.aside k.history mine.seen mine.aside in
    let stops = total_set (λ (u : PermitView). one u.made_stop) s.views id v w at in
    let kernels = total_set (λ (u : PermitView). if_found u.found) s.views id v w at in
    let waits = total_set (λ (u : PermitView). if_hand u.hand) s.views id v w at in
    let before = k.wait in (
      w,
      keeps,
      tt,
      record {
        history = k.history;
        drawn = k.drawn;
        passed = k.passed;
        words = (λ j. set (k.words j) 0 (slice_index (k.words j) 0));
        wait = omega arith;
        hands = λ x. let t = total_set (λ (u : PermitView). if_hand_is x u.hand) s.views id v w at in let z = k.hands x in omega arith;
        tickets = λ x. let t = total_set (λ (u : PermitView). times x u.own) s.views id v w at in let z = k.tickets x in omega arith;
        each = each_set c k.history _ _ s.views id w (λ j u apart z. fits_more c k.history _ _ _ j u (λ y. omega arith) (λ y. omega arith) (k.each j u z)) (record {
          first = mine.first;
          aside = (k.history, refl);
          config_is = mine.config_is;
          seen = l.2;
          spent = mine.spent;
          found = λ f e. nones v.found f idle.found e;
          stop = λ e. let z = mine.stop e in omega arith;
        });
        place = place_same c k.history s.homes s.views _ (omega arith) (λ z. omega arith) (λ z. omega arith) k.place;
        count = counted_set s.views id v w at refl refl k.count;
      },
      (l.0, l.1, refl),
    )

pub settles_at : (c : Setup) (slots id : ℕ) (m : Seated) → IsIdle m.0 → m.1 ≡ [] → Allows (Invariant c) slots id m 0 (λ n. n) (Settles (step slots 0 0 0 none) m)
settles_at c slots id m idle empty = subst (λ xs. Allows (Invariant c) slots id (m.0, xs) 0 (λ n. n) (Settles (step slots 0 0 0 none) (m.0, xs))) (sym empty) (settles c slots id m.0 idle)

-- the opening permit is the one of the count
opened_at : (c : Setup) (s : State (Option KernelState) PermitView) (k : Invariant c s) (id : ℕ) (v : PermitView) → get_elem? s.views id ≡ some v → v.opening ≡ true → (id ≡ 0) × (living s.views ≡ suc v.out) × (v.out ≤ 1000)
opened_at c s k id v at opening =
    let zero_id = (k.each id v at).first opening in
    let n = k.count in
    let same : n.0 ≡ v = some-injective _ _ (sym n.1 ∙ subst (λ (i : ℕ). get_elem? s.views i ≡ some v) zero_id at) in
    let o : n.0.out ≡ v.out = ap (λ (u : PermitView). u.out) same in
    let a = n.3 in
    let b = n.4 in
    (zero_id, omega arith, omega arith)

pub splits : (c : Setup) (id : ℕ) (v : PermitView) → IsIdle v → v.opening ≡ true → v.out < 1000 → Splits (Invariant c) id v (view_after_split v) (split_view v)
splits c id v idle opening few s k at =
    let w = view_after_split v in
    let r = split_view v in
    let mine = k.each id v at in
    let o = opened_at c s k id v at opening in
    let mid = set s.views id w in
    let stops = total_set (λ (u : PermitView). one u.made_stop) s.views id v w at in
    let stops' = total_snoc (λ (u : PermitView). one u.made_stop) mid r in
    let kernels = total_set (λ (u : PermitView). if_found u.found) s.views id v w at in
    let kernels' = total_snoc (λ (u : PermitView). if_found u.found) mid r in
    let waits = total_set (λ (u : PermitView). if_hand u.hand) s.views id v w at in
    let waits' = total_snoc (λ (u : PermitView). if_hand u.hand) mid r in
    let lives = total_set (λ (u : PermitView). one u.live) s.views id v w at in
    let lives' = total_snoc (λ (u : PermitView). one u.live) mid r in
    let no_stop = one_false false refl in
    let live = one_true true refl in
    let no_kernel = found_none None refl in
    let no_hand = hand_none None refl in
    let before = k.wait in
    let all = o.1 in record {
      history = k.history;
      drawn = k.drawn;
      passed = k.passed;
      words = k.words;
      wait = omega arith;
      hands = λ x.
          let t = total_set (λ (u : PermitView). if_hand_is x u.hand) s.views id v w at in
          let t' = total_snoc (λ (u : PermitView). if_hand_is x u.hand) mid r in
          let n = is_none x None refl in
          let z = k.hands x in
          omega arith;
      tickets = λ x.
          let t = total_set (λ (u : PermitView). times x u.own) s.views id v w at in
          let t' = total_snoc (λ (u : PermitView). times x u.own) mid r in
          let z = k.tickets x in
          omega arith;
      each = λ j u e. ⊎_elim
          (λ was. each_set c k.history _ _ s.views id w (λ i y apart z. fits_more c k.history _ _ _ i y (λ q. omega arith) (λ q. omega arith) (k.each i y z)) (record {
            first = mine.first;
            aside = mine.aside;
            config_is = mine.config_is;
            seen = mine.seen;
            spent = mine.spent;
            found = λ f y. nones v.found f idle.found y;
            stop = λ y. let z = mine.stop y in omega arith;
          }) j u was)
          (λ (same : r ≡ u). subst (Fits c k.history _ _ j) same (record {
            first = λ y. absurd (off false y refl);
            aside = (k.history, refl);
            config_is = λ y. mine.config_is idle.live;
            seen = mine.seen;
            spent = λ y. absurd (off true refl y);
            found = λ f y. nones None f refl y;
            stop = λ y. absurd (off false y refl);
          }))
          (at_snoc mid r u j e);
      place = place_same c k.history s.homes s.views _ (omega arith) (λ z. omega arith) (λ z. omega arith) k.place;
      count = (w, at_longer mid (r ∷ []) 0 w (subst (λ (i : ℕ). get_elem? (set s.views id w) i ≡ some w) o.0 (here s.views id v w at)), idle.live, omega arith, omega arith);
    }

or_first : (a b : Bool) → one a ≤ one (a || b)
or_first true b = omega arith
or_first false b = let z = one_false false refl in omega arith

or_sum : (a b : Bool) → one (a || b) ≤ one a + one b
or_sum true b = omega arith
or_sum false b = omega arith

met_either : (a b : Bool) (n : ℕ) → (a ≡ true → 0 < n) → (b ≡ true → 0 < n) → (a || b) ≡ true → 0 < n
met_either true b n x y e = x refl
met_either false b n x y e = y e

pub joins : (c : Setup) (id : ℕ) (v : PermitView) (other : ℕ) (w : PermitView) → IsIdle v → v.opening ≡ true → IsIdle w → Joins (Invariant c) id v other w (view_after_join v w) spent_view
joins c id v other w idle opening widle s k at apart there =
    let u = view_after_join v w in
    let mine = k.each id v at in
    let o = opened_at c s k id v at opening in
    let mid = set s.views id u in
    let there0 : get_elem? s.views other ≡ some w = sym (set_else s.views id other u apart) ∙ there in
    let theirs = k.each other w there0 in
    let apart' : id ≢ other = λ e. apart (sym e) in
    let stops = total_set (λ (x : PermitView). one x.made_stop) s.views id v u at in
    let stops' = total_set (λ (x : PermitView). one x.made_stop) mid other w spent_view there in
    let stops2 = total_two (λ (x : PermitView). one x.made_stop) s.views id other v w apart' at there0 in
    let or1 = or_first v.made_stop w.made_stop in
    let or2 = or_le v.made_stop w.made_stop in
    let kernels = total_set (λ (x : PermitView). if_found x.found) s.views id v u at in
    let kernels' = total_set (λ (x : PermitView). if_found x.found) mid other w spent_view there in
    let waits = total_set (λ (x : PermitView). if_hand x.hand) s.views id v u at in
    let waits' = total_set (λ (x : PermitView). if_hand x.hand) mid other w spent_view there in
    let lives = total_set (λ (x : PermitView). one x.live) s.views id v u at in
    let lives' = total_set (λ (x : PermitView). one x.live) mid other w spent_view there in
    let lives2 = total_two (λ (x : PermitView). one x.live) s.views id other v w apart' at there0 in
    let live_v = one_true v.live idle.live in
    let live_w = one_true w.live widle.live in
    let no = one_false false refl in
    let no_kernel = found_none None refl in
    let w_kernel = found_none w.found widle.found in
    let no_hand = hand_none None refl in
    let w_hand = hand_none w.hand widle.hand in
    let before = k.wait in
    let all = o.1 in
    let few = o.2 in
    let or3 = or_sum v.made_stop w.made_stop in
    let more : 0 < stoppers s.views → 0 < stoppers (set mid other spent_view) = λ z. omega arith in
    let less : 0 < stoppers (set mid other spent_view) → 0 < stoppers s.views = λ z. omega arith in record {
      history = k.history;
      drawn = k.drawn;
      passed = k.passed;
      words = k.words;
      wait = omega arith;
      hands = λ x.
          let t = total_set (λ (y : PermitView). if_hand_is x y.hand) s.views id v u at in
          let t' = total_set (λ (y : PermitView). if_hand_is x y.hand) mid other w spent_view there in
          let n = is_none x None refl in
          let m = is_none x w.hand widle.hand in
          let z = k.hands x in
          omega arith;
      tickets = λ x.
          let t = total_set (λ (y : PermitView). times x y.own) s.views id v u at in
          let t' = total_set (λ (y : PermitView). times x y.own) mid other w spent_view there in
          let a = times-append x v.own w.own in
          let z = k.tickets x in
          omega arith;
      each = each_set c k.history _ _ mid other spent_view
          (λ j y _ e. each_set c k.history _ _ s.views id u (λ i x _ z. fits_more c k.history _ _ _ i x more less (k.each i x z)) (record {
            first = mine.first;
            aside = theirs.seen;
            config_is = mine.config_is;
            seen = mine.seen;
            spent = λ z. absurd (off v.live idle.live z);
            found = λ f z. nones v.found f idle.found z;
            stop = λ z. more (met_either v.met_stop w.met_stop _ mine.stop theirs.stop z);
          }) j y e)
          (record {
            first = λ y. absurd (off false y refl);
            aside = (k.history, refl);
            config_is = λ y. absurd (off false y refl);
            seen = (k.history, refl);
            spent = λ y. (refl, refl, refl);
            found = λ f y. nones None f refl y;
            stop = λ y. absurd (off false y refl);
          });
      place = place_same c k.history s.homes s.views _ (omega arith) more less k.place;
      count = (u, set_else mid other 0 spent_view (λ e. apart (sym e ∙ sym o.0)) ∙ subst (λ (i : ℕ). get_elem? (set s.views id u) i ≡ some u) o.0 (here s.views id v u at), idle.live, omega arith, omega arith);
    }

pub begins : (c : Setup) (l : KernelState) → l.config ≡ c → l.history ≡ [] → l.stopped ≡ false → Invariant c (opening (0 ∷ 0 ∷ []) (Some l ∷ []) (opening_view c))
begins c l config empty running =
    let no = one_false false refl in
    let yes' = one_true true refl in
    let no_kernel = found_none None refl in
    let no_hand = hand_none None refl in record {
      history = [];
      drawn = 0;
      passed = 0;
      words = refl;
      wait = omega arith;
      hands = λ x. let n = is_none x None refl in omega arith;
      tickets = λ x. refl;
      each = λ j u e. at_first j u e;
      place = inr (l, refl, omega arith, record { config_is = config; history_is = empty; stop = λ e. absurd (off l.stopped e running); stopped = λ z. absurd (omega arith) });
      count = (opening_view c, refl, refl, omega arith, omega arith);
    }
  where
    at_first : (j : ℕ) (u : PermitView) → get_elem? (opening_view c ∷ []) j ≡ some u → Fits c [] (stoppers (opening_view c ∷ [])) 0 j u
    at_first zero u e = subst (Fits c [] (stoppers (opening_view c ∷ [])) 0 0) (some-injective _ _ e) (record {
      first = λ y. refl;
      aside = ([], refl);
      config_is = λ y. refl;
      seen = ([], refl);
      spent = λ y. absurd (off true refl y);
      found = λ f y. nones None f refl y;
      stop = λ y. absurd (off false y refl);
    })
    at_first (suc j) u e = absurd (some-ne-none u (sym e))
