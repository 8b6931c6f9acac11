-- A line that has room for all that is printed of it.
use Rattle.std.specs.Prelude.{◌≤◌, ◌≡◌, length}
use Rattle.line.specs.declared.Line.{Line}
use Rattle.line.specs.Lines.{line_room}

abbrev pub Printable : Line → Type 0
Printable l = (l.length ≤ line_room) × (length l.bytes ≡ line_room)
