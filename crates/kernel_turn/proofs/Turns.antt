-- What a whole turn leaves.
-- for: turn_call, turn_cycle, turn_end and others
use Rattle.std.proofs.Common.{◌≡◌, ℕ, suc, ◌∷◌, [], ◌++◌, List, length, ap, ◌∙◌, sym, refl, subst, true, false, Bool, Some, None, eq-eqb, ne_eqb, length-append, append-nil, arith}
use Rattle.std.specs.Prelude.{◌||◌, ◌<◌, if◌then◌else◌}
use Rattle.std.proofs.lemmas.Bool.{false_from_ne_true}
use mathlib.Core.List.{IsPrefix}
use Rattle.atomic_table.specs.Seated.{TableId}
use Rattle.motion_history.specs.Entries.{Entry}
use Rattle.motion_history.specs.Setup.{Setup}
use Rattle.motion_kernel.specs.KernelState.{HasRoom, KernelState, room_of, with_entry}
use Rattle.kernel_turn.specs.Events.{Makes}
use Rattle.kernel_turn.specs.Inside.{state_of}
use Rattle.kernel_turn.specs.PermitState.{PermitState}
use Rattle.kernel_turn.specs.PermitView.{PermitView}
use Rattle.kernel_turn.specs.Steps.{Grows, Holds, IsWhole, Seated, StaysStopped}
use Rattle.kernel_turn.specs.Turns.{IsClosed, IsFound, IsLawful, MadeUnstopped, TakesTurn, permit_after, permit_after_stop, tickets_of}
use Rattle.kernel_turn.specs.Views.{ticket_of, view_after_turn, with_found, with_number}
use Rattle.kernel_turn.specs.declared.turn.Turn.{Turn}
use Rattle.kernel_turn.specs.declared.turn.Turn.TheVariants.{Made, Full, Early}
use Rattle.kernel_turn.proofs.Moves.{whole_drawn}

-- what a permit holds that drew a number and then found the kernel
pub holds_of : (m m1 m2 : Seated) (f : KernelState) (n : ℕ) → m1 ≡ (with_number m.0 n, []) → m2 ≡ (with_found m1.0 f, (0, None) ∷ []) → IsPrefix m1.0.seen f.history → f.config ≡ m1.0.config → StaysStopped m1.0 f → (m1.0.opening ≡ true → m1.0.out ≡ 0 → IsWhole m1.0 f) → Holds m.0 f m2
holds_of m m1 m2 f n drawn found begins config stopped whole =
    let v : m1.0 ≡ with_number m.0 n = ap (λ (x : Seated). x.0) drawn in record {
      number = n;
      me = found ∙ ap (λ (y : PermitView). (with_found y f, (0, None) ∷ [])) v;
      begins = subst (λ (y : PermitView). IsPrefix y.seen f.history) v begins;
      config = config ∙ ap (λ (y : PermitView). y.config) v;
      stopped = subst (λ (y : PermitView). StaysStopped y f) v stopped;
      whole = λ a b. whole_drawn m.0 n f (subst (λ (y : PermitView). y.opening ≡ true → y.out ≡ 0 → IsWhole y f) v whole a b);
    }

or_false : (b : Bool) → b ≡ b || false
or_false true = refl
or_false false = refl

-- a turn that leaves the kernel as it was adds none
grows_none : (f g : KernelState) → g ≡ f → Grows false f g
grows_none f g same = record {
  config = ap (λ (k : KernelState). k.config) same;
  stopped = ap (λ (k : KernelState). k.stopped) same ∙ or_false f.stopped;
  added = [];
  few = omega arith;
  history = ap (λ (k : KernelState). k.history) same ∙ sym (append-nil f.history);
}

-- a turn adds one entry at most
pub grows_of : {T : Type 0} (f g : KernelState) (e : Entry) (t : Turn T) → Makes f g e t → Grows false f g
grows_of f g e (Made ticket cycles answer) m = record {
  config = ap (λ (k : KernelState). k.config) m.kernel;
  stopped = ap (λ (k : KernelState). k.stopped) m.kernel ∙ or_false f.stopped;
  added = e ∷ [];
  few = omega arith;
  history = ap (λ (k : KernelState). k.history) m.kernel;
}
grows_of f g e (Full entries cycles) m = grows_none f g m.0.kernel
grows_of f g e (Early quiet cycles) m = grows_none f g m.0.kernel

-- the kernel that a permit holds is the one that it found
pub found_by : (v : PermitView) (f : KernelState) (m : Seated) → Holds v f m → m.0.found ≡ Some f
found_by v f m h = ap (λ (x : Seated). x.0.found) h.me

same_ticket : (f g : KernelState) → g.history ≡ f.history → ticket_of (Some f) g ≡ []
unfolding ticket_of
same_ticket f g same = rw (eq-eqb (length g.history) (length f.history) (ap length same)) refl

no_ticket : (f g : KernelState) → g ≡ f → ticket_of (Some f) g ≡ []
no_ticket f g same = same_ticket f g (ap (λ (k : KernelState). k.history) same)

one_ticket : (f g : KernelState) (e : Entry) → g ≡ with_entry f e → ticket_of (Some f) g ≡ length f.history ∷ []
unfolding ticket_of
one_ticket f g e grown =
    let l : length g.history ≡ suc (length f.history) = ap (λ (k : KernelState). length k.history) grown ∙ (length-append f.history (e ∷ []) ∙ omega arith) in
    rw (ne_eqb (length g.history) (length f.history) (λ z. omega arith)) refl

-- the tickets of a turn are those of what it added
tickets_is : {T : Type 0} (f g : KernelState) (e : Entry) (t : Turn T) → Makes f g e t → ticket_of (Some f) g ≡ tickets_of t
tickets_is f g e (Made ticket cycles answer) m = one_ticket f g e m.kernel ∙ ap (λ n. n ∷ []) (sym m.ticket_is)
tickets_is f g e (Full entries cycles) m = no_ticket f g m.0.kernel
tickets_is f g e (Early quiet cycles) m = no_ticket f g m.0.kernel

-- a permit that held the kernel as f, made this of it and gave it back as g has taken its turn
pub turn_taken : {T : Type 0} (old : PermitState) (table table' : TableId) (v : PermitView) (f g : KernelState) (e : Entry) (t : Turn T) (m m' : Seated) → state_of table v ≡ old → table' ≡ table → Holds v f m → Makes f g e t → m' ≡ (view_after_turn false m.0 g, []) → TakesTurn old (state_of table' m'.0) f g e t
turn_taken old table table' v f g e t m m' is same h makes passed = record {
  found = record {
    begins = subst (λ (p : PermitState). IsPrefix p.seen f.history) is h.begins;
    config = h.config ∙ ap (λ (p : PermitState). p.config) is;
    stopped = subst (λ (p : PermitState). p.made_stop || p.met_stop ≡ true → f.stopped ≡ true) is h.stopped;
  };
  makes = makes;
  permit = ap (λ (x : Seated). state_of table' x.0) passed ∙ ap (λ (x : Seated). state_of table' (view_after_turn false x.0 g)) h.me
      ∙ (λ j. record (state_of (same j) v) { seen = g.history; own = v.own ++ tickets_is f g e t makes j; met_stop = v.met_stop || f.stopped })
      ∙ ap (λ (p : PermitState). permit_after p f g (tickets_of t)) is;
}

-- the history that a permit has then seen is lawful
pub lawful_after : {T : Type 0} (v : PermitView) (f g : KernelState) (e : Entry) (t : Turn T) (m m' : Seated) → Holds v f m → Makes f g e t → m' ≡ (view_after_turn false m.0 g, []) → IsLawful g.config g.history → IsLawful m'.0.config m'.0.seen
lawful_after v f g e t m m' h makes passed lawful =
    let seen : m'.0.seen ≡ g.history = ap (λ (x : Seated). x.0.seen) passed in
    let config : m'.0.config ≡ g.config = ap (λ (x : Seated). x.0.config) passed ∙ ap (λ (x : Seated). x.0.config) h.me ∙ sym h.config ∙ sym (grows_of f g e t makes).config in
    subst (λ (x : Setup × List Entry). IsLawful x.0 x.1) (λ j. (sym config j, sym seen j)) lawful

or_true : (b : Bool) → true ≡ b || true
or_true true = refl
or_true false = refl

-- a stop adds no entry
pub stops_of : (f g : KernelState) → g ≡ record f { stopped = true } → Grows true f g
stops_of f g same = record {
  config = ap (λ (k : KernelState). k.config) same;
  stopped = ap (λ (k : KernelState). k.stopped) same ∙ or_true f.stopped;
  added = [];
  few = omega arith;
  history = ap (λ (k : KernelState). k.history) same ∙ sym (append-nil f.history);
}

-- the kernel that a permit finds has its configuration and begins with what it has seen
pub is_found : (old : PermitState) (table : TableId) (v : PermitView) (f : KernelState) (m : Seated) → state_of table v ≡ old → Holds v f m → IsFound old f
is_found old table v f m is h = record {
  begins = subst (λ (p : PermitState). IsPrefix p.seen f.history) is h.begins;
  config = h.config ∙ ap (λ (p : PermitState). p.config) is;
  stopped = subst (λ (p : PermitState). p.made_stop || p.met_stop ≡ true → f.stopped ≡ true) is h.stopped;
}

-- a permit that held the kernel and gave it back stopped
pub stop_taken : (old : PermitState) (table table' : TableId) (v : PermitView) (f g : KernelState) (m m' : Seated) → state_of table v ≡ old → table' ≡ table → Holds v f m → g ≡ record f { stopped = true } → m' ≡ (view_after_turn true m.0 g, []) → state_of table' m'.0 ≡ permit_after_stop old f
stop_taken old table table' v f g m m' is same h stopped passed =
    let history : g.history ≡ f.history = ap (λ (k : KernelState). k.history) stopped in
    let own : v.own ++ ticket_of (Some f) g ≡ v.own = ap (λ ts. v.own ++ ts) (same_ticket f g history) ∙ append-nil v.own in
    ap (λ (x : Seated). state_of table' x.0) passed ∙ ap (λ (x : Seated). state_of table' (view_after_turn true x.0 g)) h.me
    ∙ (λ j. record (state_of (same j) v) { seen = history j; own = own j; made_stop = true; met_stop = v.met_stop || f.stopped })
    ∙ ap (λ (p : PermitState). permit_after_stop p f) is

-- the history that a permit has seen after a stop is lawful
pub lawful_after_stop : (v : PermitView) (f g : KernelState) (m m' : Seated) → Holds v f m → g ≡ record f { stopped = true } → m' ≡ (view_after_turn true m.0 g, []) → IsLawful g.config g.history → IsLawful m'.0.config m'.0.seen
lawful_after_stop v f g m m' h stopped passed lawful =
    let seen : m'.0.seen ≡ g.history = ap (λ (x : Seated). x.0.seen) passed in
    let config : m'.0.config ≡ g.config = ap (λ (x : Seated). x.0.config) passed ∙ ap (λ (x : Seated). x.0.config) h.me ∙ sym h.config ∙ sym (stops_of f g stopped).config in
    subst (λ (x : Setup × List Entry). IsLawful x.0 x.1) (λ j. (sym config j, sym seen j)) lawful

-- a permit that holds the kernel at closing knows that it is whole
pub closed_of : (p : PermitState) (table : TableId) (v : PermitView) (f : KernelState) (m : Seated) → state_of table v ≡ p → p.opening ≡ true → p.out ≡ 0 → Holds v f m → IsClosed p f
closed_of p table v f m is opening none h = subst (λ (q : PermitState). IsClosed q f) is (closed (h.whole (ap (λ (q : PermitState). q.opening) is ∙ opening) (ap (λ (q : PermitState). q.out) is ∙ none)))
  where
    closed : IsWhole v f → IsClosed (state_of table v) f
    closed w = record {
      begins = h.begins;
      config = h.config;
      tickets = w.tickets;
      stop = w.stop;
      stopped = λ e. h.stopped (ap (λ b. b || v.met_stop) e);
    }

-- what a turn makes of a kernel it makes of an equal one
pub makes_same : {T : Type 0} (entry : KernelState → Entry) (f f' g : KernelState) (t : Turn T) → f ≡ f' → Makes f g (entry f) t → Makes f' g (entry f') t
makes_same entry f f' g t same makes = subst (λ (k : KernelState). Makes k g (entry k) t) same makes

-- a stopped kernel has no room for an entry
no_room : (k : KernelState) → k.stopped ≡ true → HasRoom k → ⊥
no_room k stopped room =
    let full : room_of k ≡ length k.history = ap (λ (b : Bool). if b then length k.history else k.config.entries) stopped in
    let some : length k.history < room_of k = room in
    absurd (omega arith)

-- a turn that makes an entry finds the kernel not stopped
pub made_unstopped : {T : Type 0} (old new : PermitState) (f g : KernelState) (e : Entry) (t : Turn T) → TakesTurn old new f g e t → MadeUnstopped old t
made_unstopped old new f g e (Made ticket cycles answer) taken = false_from_ne_true _ (λ s. no_room f (taken.found.stopped s) taken.makes.room)
made_unstopped old new f g e (Full entries cycles) taken = tt
made_unstopped old new f g e (Early quiet cycles) taken = tt
