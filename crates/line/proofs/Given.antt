-- What was written to zeros is the line, and zeros are behind it.
use Prim.Native.Nat.{ℕ, ◌+◌}
use native.Mathlib.Omega.{arith}
use mathlib.Core.Path.{◌≡◌, ap, ◌∙◌}
use mathlib.Core.List.{List}
use lib.ListN.{length, drop, replicate, length-replicate}
use lib.Seq.{take_at, drop_at}
use Rattle.line_writer.specs.Puts.{wrote, Puts}
use Rattle.line_writer.proofs.Writing.{wrote-length}
use Rattle.line.specs.Lines.{line_room, Says}

pub line_given : (said start left : List ℕ) (q : ℕ) → start ≡ replicate line_room 0 → Puts start 0 said left q → Says said (record { bytes = left; length = q })
unfolding wrote
line_given said start left q zeros puts =
    let long : length start ≡ line_room = rw zeros (length-replicate {A = ℕ} line_room 0) in
    let behind : 0 + length said ≡ q = omega (arith, puts.after) in
    let end : length said ≡ q = omega (arith, puts.after) in
    record {
      printed = rw puts.bytes (take_at said (drop (0 + length said) start) q end);
      within = omega (arith, puts.room);
      size = rw (puts.bytes, wrote-length start 0 said puts.room) long;
      behind = rw (puts.bytes, ← zeros) (drop_at said (drop (0 + length said) start) q end ∙ ap (λ (n : ℕ). drop n start) behind);
    }
