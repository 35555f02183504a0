-- Items that are added one after the other, as a loop does.
-- for: read_config
use Rattle.std.proofs.Common.{◌≡◌, ℕ, suc, ◌+◌, ◌<◌, List, ◌∷◌, length, get_or, drop, Result, Ok, Err, Bor, String, Global, BTreeMap, refl, sym, ap, subst, ◌∙◌, add-one}
use Rattle.std.proofs.Math.Seq.{drop-cons}
use Rattle.std.proofs.lemmas.List.{get_or-map, length-map}
use Rattle.line_text.specs.Reading.{Takes}
use Rattle.line_text.specs.declared.reader.LineFault.{LineFault}
use Rattle.line_text.specs.declared.reader.LineFault.TheVariants as line
use Rattle.motion_history.specs.declared.refused.TextRefused.{TextRefused}
use Rattle.toml.specs.Data.{Members}
use Rattle.toml.specs.View.{table_view}
use Rattle.toml.specs.declared.value.Value.{Value}
use Rattle.machine_config.specs.Reading.{TakesItems, item_meaning, items_meaning, refused_at, told_at}
use Rattle.machine_config.specs.Shown.{shown}
use Rattle.machine_config.specs.declared.item.ItemKind.{ItemKind}
use Rattle.machine_config.specs.declared.machine.Machine.{Machine}

abbrev pub Item : Type 0
Item = ItemKind × Bor (BTreeMap (String Global) Value)

-- the item that is added next
pub item_at : (items : List Item) (i : ℕ) (d : Item) → i < length items →
    drop i (shown items) ≡ ((get_or items i d).0, table_view (get_or items i d).1.now) ∷ drop (suc i) (shown items)
item_at items i d l =
    let same : length (shown items) ≡ length items = simp length-map in
    let long : i < length (shown items) = subst (λ (n : ℕ). i < n) (sym same) l in
    let show : Item → ItemKind × Members = λ e. (e.0, table_view e.1.now) in
    drop-cons (shown items) i (show d) long ∙ ap (λ y. y ∷ drop (suc i) (shown items)) (get_or-map show items i d (show d) l)

-- an item was added
pub went : (i : ℕ) (m n : Machine) (xs : List (ItemKind × Members)) (x : ItemKind × Members) (whole : Result Machine TextRefused) →
    drop i xs ≡ x ∷ drop (suc i) xs → item_meaning m x.0 x.1 ≡ Ok n → items_meaning i m (drop i xs) ≡ whole →
    items_meaning (i + 1) n (drop (i + 1) xs) ≡ whole
went i m n xs x whole cut is before =
    let one : items_meaning i m (drop i xs) ≡ items_meaning (i + 1) n (drop (suc i) xs) = rw (cut, is) refl in
    let next : i + 1 ≡ suc i = add-one i in
    ap (λ j. items_meaning (i + 1) n (drop j xs)) next ∙ sym one ∙ before

-- an item was refused, or there was no memory
pub stops : (i : ℕ) (m n : Machine) (xs : List (ItemKind × Members)) (x : ItemKind × Members) (whole : Result Machine TextRefused) (fault : LineFault) →
    drop i xs ≡ x ∷ drop (suc i) xs → Takes (item_meaning m x.0 x.1) n (Err fault) → items_meaning i m (drop i xs) ≡ whole →
    TakesItems whole n (Err (told_at (i + 1) fault))
stops i m n xs x whole (line.Rule number) cut is before =
    let one : items_meaning i m (drop i xs) ≡ Err (refused_at (i + 1) number) = rw (cut, is) refl in
    sym before ∙ one
stops i m n xs x whole line.OutOfMemory cut is before = tt
