-- Laws of a buffer that is filled from the front, a read after the other.
use Rattle.std.proofs.Common.{◌≡◌, ℕ, ◌+◌, ◌≤◌, List, ◌++◌, length, take, drop, ap, ◌∙◌, drop_at, length-take-le}
use Rattle.std.proofs.lemmas.List.{take_at}
use borrow.Rule.Slice.PartMut.{put_mid, post_of}
use lib.Seq.{take-add, take-append-le}

-- the first a elements, and behind them the first n that were put there
pub take-filled : (a k n : ℕ) (xs ys : List ℕ) → a ≤ length xs → n ≤ length ys → take (a + n) (put_mid a k xs ys) ≡ take a xs ++ take n ys
take-filled a k n xs ys within fits =
    let front = take a xs in
    let after = post_of a k xs in
    let whole = put_mid a k xs ys in
    let long = length-take-le a xs within in
    take-add a n whole ∙ ap (λ l. l ++ take n (drop a whole)) (take_at front (ys ++ after) a long)
    ∙ ap (λ l. front ++ take n l) (drop_at front (ys ++ after) a long) ∙ ap (λ l. front ++ l) (take-append-le n ys after fits)
