-- Values in memory beside the data that they are.
-- for: read_config
use Rattle.std.proofs.Common.{◌≡◌, ℕ, ◌+◌, ◌<◌, Bool, List, [], ◌∷◌, ◌++◌, length, get_or, take, map, Option, Some, None, refl, ap, add-one}
use Rattle.std.specs.Prelude.{◌&&◌}
use Rattle.std.specs.List.{cons_option, filter_map, list_all}
use Rattle.std.proofs.Math.Seq.{take-suc}
use Rattle.std.proofs.lemmas.List.{append-nil, map-append}
use Rattle.std.proofs.lemmas.List.Elements.{filter_map-append}
use Rattle.toml.specs.Data.{Data}
use Rattle.toml.specs.View.{items_view, view}
use Rattle.toml.specs.declared.value.Value.{Value}
use Rattle.machine_config.specs.Keys.{data_in}

-- the items of an array are the data of its values
pub data_in_view : (vs : List Value) → data_in (items_view vs) ≡ map view vs
data_in_view [] = refl
data_in_view (v ∷ vs) = ap (λ ds. view v ∷ ds) (data_in_view vs)

-- a test of all values
pub list_all-view : (p : Data → Bool) (vs : List Value) → list_all (λ v. p (view v)) vs ≡ list_all p (data_in (items_view vs))
list_all-view p [] = refl
list_all-view p (v ∷ vs) = ap (λ b. p (view v) && b) (list_all-view p vs)

-- what is taken of the values' data is what is taken of the values
pub filter_map_view : {A : Type 0} (h : Data → Option A) (vs : List Value) → filter_map (λ v. h (view v)) vs ≡ filter_map h (map view vs)
filter_map_view h [] = refl
filter_map_view h (v ∷ vs) = ap (λ ys. cons_option (h (view v)) ys) (filter_map_view h vs)

taken : {A : Type 0} (h : Data → Option A) (vs : List Value) (i : ℕ) (d : Value) → i < length vs →
    filter_map h (map view (take (i + 1) vs)) ≡ filter_map h (map view (take i vs)) ++ cons_option (h (view (get_or vs i d))) []
taken h vs i d l =
    let e : take (i + 1) vs ≡ take i vs ++ get_or vs i d ∷ [] = rw (add-one i) (take-suc vs i d l) in
    rw (e, map-append view (take i vs) (get_or vs i d ∷ []), filter_map-append h (map view (take i vs)) (view (get_or vs i d) ∷ [])) refl

-- a value of which something is taken
pub picked : {A : Type 0} (h : Data → Option A) (vs : List Value) (i : ℕ) (d : Value) (y : A) → i < length vs → h (view (get_or vs i d)) ≡ Some y →
    filter_map h (map view (take (i + 1) vs)) ≡ filter_map h (map view (take i vs)) ++ y ∷ []
picked h vs i d y l e = rw (taken h vs i d l, e) refl

-- a value of which nothing is taken
pub passed : {A : Type 0} (h : Data → Option A) (vs : List Value) (i : ℕ) (d : Value) → i < length vs → h (view (get_or vs i d)) ≡ None →
    filter_map h (map view (take (i + 1) vs)) ≡ filter_map h (map view (take i vs))
passed h vs i d l e = rw (taken h vs i d l, e) (append-nil (filter_map h (map view (take i vs))))
