-- Items that are kept in the front of a room, and others behind them.
-- for: read_tree
use Rattle.std.proofs.Common.{◌≡◌, ◌++◌, ◌∙◌, ◌+◌, ℕ, List, refl, ap, take, drop, length, arith, length-append}
use Rattle.std.proofs.Math.Seq.{take-append_seam}
use Rattle.std.proofs.lemmas.Slice.{take-put_mid}
use borrow.Rule.Slice.PartMut.{put_mid}

pub both_kept : {T : Type 0} (xs ys room first behind : List T) (k : ℕ) → first ≡ xs → behind ≡ ys →
    take (length xs + length ys) (put_mid (length xs) k (first ++ drop (length xs) room) behind) ≡ xs ++ ys
both_kept xs ys room first behind k ex ey =
    let kept : take (length xs) (xs ++ drop (length xs) room) ≡ xs = take-append_seam xs (drop (length xs) room) in
    rw (ex, ey) (take-put_mid (length xs) k (xs ++ drop (length xs) room) ys (length xs + length ys) refl (omega (arith, length-append xs (drop (length xs) room)))
    ∙ ap (λ t. t ++ ys) kept)
