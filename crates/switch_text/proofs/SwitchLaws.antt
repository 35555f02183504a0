-- The edges of switches are where one of them turns.
-- for: edges_are_as_said
use Rattle.std.proofs.Common.{◌≡◌, ◌⊎◌, ℕ, zero, suc, ◌<◌, Bool, true, false, List, [], ◌∷◌, length, refl, sym, ◌∙◌, arith, subst, inl, inr, slice_index_or}
use Rattle.std.proofs.lemmas.Bool.{cases_eq}
use Rattle.std.specs.Prelude.{not}
use Rattle.std.specs.List.{Contains}
use Rattle.std.specs.Option.{option_to_list}
use Rattle.std.proofs.lemmas.List.Elements.{Contains-append_cases, Contains-append_left, Contains-append_right}
use Rattle.plc_types.specs.declared.axis.AxisRow.{AxisRow}
use Rattle.switch_text.specs.Columns.{on_at}
use Rattle.switch_text.specs.Edges.{IsEdgeOf, edge_by, edge_of, edges_at, edges_to}
use Rattle.switch_text.specs.Laws.{EdgesAreAsSaid}
use Rattle.switch_text.specs.declared.edge.Edge.{Edge}
use Rattle.switch_text.specs.declared.switch.Switch.{Switch}

-- ---- lists

none-there : {X : Type 0} (x : X) → Contains [] x → ⊥
none-there x (k, lt, e) = absurd (omega (arith, lt))

the-one : {X : Type 0} (y x : X) → Contains (y ∷ []) x → y ≡ x
the-one y x (zero, lt, e) = e
the-one y x (suc k, lt, e) = absurd (omega (arith, lt))

first-there : {X : Type 0} (x : X) (xs : List X) → Contains (x ∷ xs) x
first-there x xs = (0, omega arith, refl)

later-there : {X : Type 0} (y x : X) (xs : List X) → Contains xs x → Contains (y ∷ xs) x
later-there y x xs (k, lt, e) = (suc k, omega (arith, lt), e)

-- ---- one edge

-- what an edge of a switch says
record Turns (name : List ℕ) (k : ℕ) (was is : Bool) (e : Edge) : Type 0 where
  name_is : e.name ≡ name
  cycle_is : e.cycle ≡ k
  was_not : was ≡ not e.on
  is_so : is ≡ e.on

turns-by : (name : List ℕ) (k : ℕ) (was is : Bool) (e : Edge) →
    Contains (option_to_list (edge_by name k was is)) e → Turns name k was is e
unfolding edge_by
turns-by name k false false e c = absurd (none-there e c)
turns-by name k false true e c =
    let made : Edge = record { name = name; cycle = k; on = true } in
    let same : made ≡ e = the-one made e c in
    subst (λ x. Turns name k false true x) same
    (record { name_is = refl; cycle_is = refl; was_not = refl; is_so = refl })
turns-by name k true false e c =
    let made : Edge = record { name = name; cycle = k; on = false } in
    let same : made ≡ e = the-one made e c in
    subst (λ x. Turns name k true false x) same
    (record { name_is = refl; cycle_is = refl; was_not = refl; is_so = refl })
turns-by name k true true e c = absurd (none-there e c)

edge-there : (name : List ℕ) (k : ℕ) (was is : Bool) (e : Edge) → Turns name k was is e →
    Contains (option_to_list (edge_by name k was is)) e
unfolding edge_by
edge-there name k false false e t =
    absurd (let bad : not e.on ≡ e.on = sym t.was_not ∙ t.is_so in not-itself e.on bad)
  where
    not-itself : (b : Bool) → not b ≡ b → ⊥
    not-itself true x = absurd (cc)
    not-itself false x = absurd (cc)
edge-there name k false true e t =
    let made : Edge = record { name = name; cycle = k; on = true } in
    let same : made ≡ e = λ i. record { name = sym t.name_is i; cycle = sym t.cycle_is i; on = t.is_so i } in
    subst (λ x. Contains (made ∷ []) x) same (first-there made [])
edge-there name k true false e t =
    let made : Edge = record { name = name; cycle = k; on = false } in
    let same : made ≡ e = λ i. record { name = sym t.name_is i; cycle = sym t.cycle_is i; on = t.is_so i } in
    subst (λ x. Contains (made ∷ []) x) same (first-there made [])
edge-there name k true true e t =
    absurd (let bad : not e.on ≡ e.on = sym t.was_not ∙ t.is_so in not-itself e.on bad)
  where
    not-itself : (b : Bool) → not b ≡ b → ⊥
    not-itself true x = absurd (cc)
    not-itself false x = absurd (cc)

-- ---- the edges of a cycle

record TurnsAmong (ss : List Switch) (cs : List (List AxisRow)) (k : ℕ) (e : Edge) : Type 0 where
  switch : Switch
  among : Contains ss switch
  turns : Turns switch.name (suc k) (on_at switch cs k) (on_at switch cs (suc k)) e

at-cycle : (ss : List Switch) (cs : List (List AxisRow)) (k : ℕ) (e : Edge) →
    Contains (edges_at ss cs k) e → TurnsAmong ss cs k e
unfolding edge_of
at-cycle [] cs k e c = absurd (none-there e c)
at-cycle (s ∷ ss) cs k e c =
    elim (Contains-append_cases (option_to_list (edge_of cs k s)) (edges_at ss cs k) e c) [
      | inl here ↦ record {
        switch = s;
        among = first-there s ss;
        turns = turns-by s.name (suc k) (on_at s cs k) (on_at s cs (suc k)) e here;
      }
      | inr later ↦ let t = at-cycle ss cs k e later in record {
        switch = t.switch;
        among = later-there s t.switch ss t.among;
        turns = t.turns;
      }
    ]

among-edges : (ss : List Switch) (cs : List (List AxisRow)) (k : ℕ) (e : Edge) (s : Switch)
    (n : ℕ) → n < length ss → slice_index_or ss n s ≡ s →
    Turns s.name (suc k) (on_at s cs k) (on_at s cs (suc k)) e → Contains (edges_at ss cs k) e
unfolding edge_of
among-edges [] cs k e s n lt is t = absurd (omega (arith, lt))
among-edges (q ∷ ss) cs k e s zero lt is t =
    Contains-append_left (option_to_list (edge_of cs k q)) (edges_at ss cs k) e
    (subst (λ x. Contains (option_to_list (edge_of cs k x)) e) (sym is)
    (edge-there s.name (suc k) (on_at s cs k) (on_at s cs (suc k)) e t))
among-edges (q ∷ ss) cs k e s (suc n) lt is t =
    Contains-append_right (option_to_list (edge_of cs k q)) (edges_at ss cs k) e
    (among-edges ss cs k e s n (omega (arith, lt)) is t)

-- ---- the edges up to a cycle

record TurnsBefore (ss : List Switch) (cs : List (List AxisRow)) (k : ℕ) (e : Edge) : Type 0 where
  before : ℕ
  below : before < k
  turns : TurnsAmong ss cs before e

up-to : (ss : List Switch) (cs : List (List AxisRow)) (k : ℕ) (e : Edge) →
    Contains (edges_to ss cs k) e → TurnsBefore ss cs k e
up-to ss cs zero e c = absurd (none-there e c)
up-to ss cs (suc k) e c =
    elim (Contains-append_cases (edges_to ss cs k) (edges_at ss cs k) e c) [
      | inl earlier ↦ let t = up-to ss cs k e earlier in
          record { before = t.before; below = omega (arith, t.below); turns = t.turns }
      | inr here ↦ record { before = k; below = omega arith; turns = at-cycle ss cs k e here }
    ]

edge-up-to : (ss : List Switch) (cs : List (List AxisRow)) (k n : ℕ) (e : Edge) → n < k →
    Contains (edges_at ss cs n) e → Contains (edges_to ss cs k) e
edge-up-to ss cs zero n e lt c = absurd (omega (arith, lt))
edge-up-to ss cs (suc k) n e lt c = elim (by-last n k lt) [
  | inl same ↦ Contains-append_right (edges_to ss cs k) (edges_at ss cs k) e
      (subst (λ m. Contains (edges_at ss cs m) e) same c)
  | inr less ↦ Contains-append_left (edges_to ss cs k) (edges_at ss cs k) e
      (edge-up-to ss cs k n e less c)
]
  where
    by-last : (n k : ℕ) → n < suc k → (n ≡ k) ⊎ (n < k)
    by-last n k lt = elim (cases_eq n k) [
      | inl e ↦ inl e
      | inr ne ↦ inr (omega (arith, lt, ne))
    ]

as-edge : (ss : List Switch) (cs : List (List AxisRow)) (e : Edge) →
    TurnsBefore ss cs (length cs) e → IsEdgeOf ss cs e
as-edge ss cs e t = record {
  before = t.before;
  there = t.below;
  cycle = t.turns.turns.cycle_is;
  switch = t.turns.switch;
  among = t.turns.among;
  name = t.turns.turns.name_is;
  was = t.turns.turns.was_not;
  is = t.turns.turns.is_so;
}

pub as_said : EdgesAreAsSaid
as_said ss cs e = (
  λ c. as-edge ss cs e (up-to ss cs (length cs) e c),
  λ i. edge-up-to ss cs (length cs) i.before e i.there
      (among-edges ss cs i.before e i.switch i.among.0 i.among.1 i.among.2
      (record { name_is = i.name; cycle_is = i.cycle; was_not = i.was; is_so = i.is })),
)
